use Rattle.std.proofs.Common.{◌≡◌, Err, option_map, ◌∷◌, length, map, sym, ap, ◌∙◌, subst, le_refl, arith}
use Rattle.std.proofs.lemmas.Slice.{between_to_end}
use Rattle.cc_count.specs.Counts.{Spends}
use Rattle.reach_lists.specs.Lists.{total}
use Rattle.term_core.specs.Prelude.{view, condition_view}
use Rattle.reach.specs.Costs.{Costs}
use Rattle.reach.specs.EntryView.{entry_view, table_view}
use Rattle.reach.specs.PathView.{path_view}
use Rattle.reach.specs.SolutionView.{solution_view, or_first}
use Rattle.reach.specs.declared.kept.KeptList.{KeptList}
use Rattle.reach.specs.Ready.{price}
use Rattle.reach.specs.Seeks.{Seeks, behind_goal, goal_finds, goal_asks}
use Rattle.reach.proofs.Paths.{same_view, same_both}
use Rattle.reach.proofs.Paying.{paying_begins, paying_goes_on}
use Rattle.general_lemmas.proofs.Places.{map-drop_read}
use Rattle.reach.proofs.Sought.{next_sought, next_price, part_price, zero_sought, condition_sought, risen_later, later_risen}
use Rattle.reach.proofs.Following.{list_part}
use Rattle.reach.proofs.Stopping.{err_part}
use Rattle.reach.proofs.sites.Search.+seek.Goals as goal

pub seek-returns-then-self-eq0-clause-found : goal.seek-returns-then-self-eq0-clause-found
seek-returns-then-self-eq0-clause-found t c =
    let split = map-drop_read condition_view c.args.conds.now 0 c.cond-item.result c.in-len1-up.len_at_least c.cond-item.is in
    zero_sought c.args.self.now (map condition_view c.args.conds.now) (condition_view c.cond-item.result) _ (path_view c.args.path.now)
    (option_map solution_view c.args.first.now) c.args.means.now.budget c.if-self-eq0.true split

pub seek-returns-clause-found : goal.seek-returns-clause-found
seek-returns-clause-found t c =
    let cs = c.args.conds.now in
    let after = c.seek_condition.new in
    let split = map-drop_read condition_view cs 0 c.cond-item.result c.in-len1-up.len_at_least c.cond-item.is in
    let same = split ∙ ap (λ z. condition_view c.cond-item.result ∷ map condition_view z) (sym (between_to_end cs 1 (length cs) (le_refl (length cs)))) in
    subst (λ z. Seeks c.args.self.now z (path_view c.args.path.now) c.args.first.now after.first c.args.means.now.budget after.means.budget c.seek_condition.result)
    (sym same) c.seek_condition.ensures.found

pub seek_condition-returns-in_err-inner-clause-found : goal.seek_condition-returns-in_err-inner-clause-found
seek_condition-returns-in_err-inner-clause-found t c =
    let deep : c.args.self.now.depth ≡ 0 → ⊥ = λ e. let some = c.requires.deep in omega (arith, e, some) in
    let start = (rw c.in-Some.is at c.in_ok-start.ensures) in
    let low = list_part c.args.self.now (condition_view c.args.goal.cond.now) (behind_goal c.args.goal) (path_view c.args.path.now) (view c.in-Some.start) deep start 0 in
    err_part _ _ _ _ _ _ _ _ _ (omega (arith, low))
    (paying_begins _ c.args.means.now.budget) c.from_residual-in_err-inner.ensures.0 c.from_residual-in_err-inner.ensures.1 c.in_err-inner.ensures.listed

pub seek_condition-returns-clause-found : goal.seek_condition-returns-clause-found
seek_condition-returns-clause-found t c =
    let deep : c.args.self.now.depth ≡ 0 → ⊥ = λ e. let some = c.requires.deep in omega (arith, e, some) in
    let start = (rw c.in-Some.is at c.in_ok-start.ensures) in
    let entries : table_view c.deref-2.result.now ≡ table_view c.in_ok-inner.inner.value.entries.items =
    ap table_view (c.deref-2.ensures.value ∙ ap (λ (k : KeptList). k.entries.items) c.deref.ensures) in
    condition_sought c.args.self.now (condition_view c.args.goal.cond.now) (behind_goal c.args.goal) (path_view c.args.path.now) (view c.in-Some.start) deep start
    (option_map solution_view c.args.first.now) (option_map solution_view c.seek_entries.new.first) (table_view c.deref-2.result.now)
    c.args.means.now.budget c.list_for.new.means.budget c.seek_entries.new.means.budget
    c.seek_entries.result (entries ∙ c.in_ok-inner.ensures.listed.0) c.in_ok-inner.ensures.listed.1 c.seek_entries.ensures.found

pub seek_condition-returns-clause-never_less : goal.seek_condition-returns-clause-never_less
seek_condition-returns-clause-never_less t c =
    later_risen c.seek_entries.result c.args.means.now.work c.list_for.new.means.work c.seek_entries.new.means.work c.in_ok-inner.ensures.never_less c.seek_entries.ensures.never_less

pub seek_entries-returns-in_err-seek_entry-clause-found : goal.seek_entries-returns-in_err-seek_entry-clause-found
seek_entries-returns-in_err-seek_entry-clause-found t c =
    let self = c.args.self.now in
    let h = goal_asks self c.args.goal in
    let s = path_view c.args.path.now in
    let same = same_view c.args.path.now c.entries.path c.entries.invariant.path in
    let u = entry_view c.w-item.result in
    let split = map-drop_read entry_view c.args.entries.now c.entries.w-index c.w-item.result c.entries-test.true c.w-item.is in
    let found =
    subst (λ z. Costs {T = Unit {0}} (λ _. Unit {0}) (total (price self) (h z u)) c.entries.means.budget c.seek_entry.new.means.budget (Err c.in_err-seek_entry.field-0.0))
    same c.in_err-seek_entry.ensures.found in
    err_part _ _ _ _ _ _ _ _ _ (part_price _ u _ split (price self) (h s)) c.entries.invariant.paying c.from_residual.ensures.0 c.from_residual.ensures.1 found

pub seek_entries-entries-preserved : goal.seek_entries-entries-preserved
seek_entries-entries-preserved t c =
    let self = c.args.self.now in
    let g = goal_finds self c.args.goal in
    let h = goal_asks self c.args.goal in
    let s = path_view c.args.path.now in
    let same = same_view c.args.path.now c.entries.path c.entries.invariant.path in
    let u = entry_view c.w-item.result in
    let split = map-drop_read entry_view c.args.entries.now c.entries.w-index c.w-item.result c.entries-test.true c.w-item.is in
    let o = option_map solution_view c.entries.first in
    let n = option_map solution_view c.seek_entry.new.first in
    let found = subst (λ z. (n ≡ or_first o (g z u)) × Spends c.entries.means.budget (total (price self) (h z u)) c.seek_entry.new.means.budget) same c.in_ok-seek_entry.ensures.found in
    record {
      found = next_sought _ u _ split (g s) o n found.0 _ c.entries.invariant.found;
      paying = paying_goes_on _ _ _ _ _ _ _ (next_price _ u _ split (price self) (h s)) c.entries.invariant.paying found.1;
      path = same_both c.args.path.now c.entries.path c.seek_entry.new.path c.entries.invariant.path c.in_ok-seek_entry.ensures.restored;
      never_less = risen_later c.args.means.now.work c.entries.means.work c.seek_entry.new.means.work c.entries.invariant.never_less c.in_ok-seek_entry.ensures.never_less;
      keeps = c.in_ok-seek_entry.ensures.keeps;
    }
