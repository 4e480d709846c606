use Rattle.std.proofs.Common.{◌≡◌, ◌↔◌, ◌<◌, ◌∙◌, ℕ, suc, List, length, get_or, ap, sym, subst, arith}
use Rattle.std.proofs.lemmas.List.{take_rest, get_or_default}
use Rattle.rewriting.specs.Lists.{IsAmong}
use Rattle.number_sets.specs.Sets.{members}
use Rattle.number_sets.specs.Relation.{row_of, members_at}
use Rattle.number_sets.specs.declared.rows.NumberRelation.{NumberRelation}
use Rattle.automaton_runs.specs.Reached.{AreRelated}
use Rattle.automaton_runs.specs.Relations.{relation_of, relations}
use Rattle.automaton_runs.proofs.Shared.{related_rest}
use Rattle.automaton_runs.proofs.sharing.put_related.Goals as goal

pub returns-in_ok-insert_all : goal.returns-in_ok-insert_all
returns-in_ok-insert_all c =
    let qs = c.args.states.now in
    let rs = relations c.args.others.now in
    let front = members c.insert_all.new.self in
    let new = members c.keep_related.new.set in
    let long : suc (length c.args.others.now) ≡ length c.args.states.now = omega (arith, c.requires) in
    let inside : 0 < length c.args.states.now = omega arith in
    let here : members c.in-Some.row.now ≡ row_of (relation_of c.args.first.now) (get_or c.args.states.now 0 0) =
    ap members_at (sym c.in-Some.is) ∙ c.row.ensures ∙ ap (λ (r : NumberRelation). row_of r (get_or c.args.states.now 0 0)) c.relation.ensures in
    related_rest (relation_of c.args.first.now) (relations c.args.others.now) c.args.states.now (length c.args.others.now) (get_or c.args.states.now 0 0) long
    (get_or_default c.args.states.now 0 0 (get_or c.args.states.now 0 0) inside) (members c.clear.new.set) (members c.in-Some.row.now) (members c.insert_all.new.self)
    (members c.keep_related.new.set) c.clear.ensures here c.in_ok-insert_all.ensures
    (subst (λ (ps : List ℕ). (k : ℕ) → IsAmong k new ↔ (IsAmong k front × AreRelated rs ps k)) (take_rest c.args.states.now 1) c.keep_related.ensures)
