-- A walk through the pruned grid: where it stands, and how it goes on.
use Rattle.std.proofs.Common.{ℕ, suc, ◌≡◌, ◌+◌, ◌⊎◌, inl, inr, List, [], ◌∷◌, ◌++◌, map, zip, length, slice_get, Some, true, false, refl, sym, ap, ap₂, ◌∙◌, subst, arith}
use Rattle.std.proofs.lemmas.List.{length-append, same_from_push}
use Rattle.std.proofs.lemmas.Option.{same_Some, slice_get_within}
use Rattle.rewriting.specs.Prelude.{IsAmong, System, Head, heads, unraveled}
use Rattle.rewriting.proofs.Lists.{among_middle}
use Rattle.certificates.specs.Certificates.{LinearEntry, linear_measure}
use Rattle.interpretations.specs.Linear.{Interpretation}
use Rattle.interpretations.specs.Judgement.{good}
use Rattle.interpretations.specs.Judged.{IsInterpretationJudged}
use Rattle.grid_search.specs.Prefix.{IsPrefix, IsAliveBefore}
use Rattle.first_found.specs.Trees.{IsBarrenBelow, IsFirstBelow, StopsBelow}
use Rattle.first_found.specs.Paths.{IsAtChild, HasWalked}
use Rattle.first_found.proofs.Paths as paths
use Rattle.measure_grid.specs.Grid.{entries_of, columns}
use Rattle.measure_grid.specs.Dead.{IsDead}
use Rattle.measure_grid.specs.Pruned.{Prefix, extensions, IsDeadPrefix, PrefixGives, start, IsPrunedFirst, IsPrunedBarren, PrunedStops}
use Rattle.measure_grid.proofs.Chosen.{AreChosen, chosen_last, chosen_next, chosen_length}
use Rattle.measure_grid.proofs.Dead.{dead_or_good}
use Rattle.measure_grid.proofs.Grid.{node}
use Rattle.measure_grid.proofs.Shape.{as_many_columns, chosen_entries, chosen_numbers}
use Rattle.grid_search.specs.Columns.{FollowsIn, IsLastOf, IsIn, AdvanceAnswers}
use Rattle.grid_search.proofs.Columns.{one_place}
use Rattle.grid_search.proofs.Extensions.{extension, column_at, column_is, head_of}
use Rattle.grid_search.specs.Walks.{StandsAt, HasComeTo, HasDoneWith, HasOneMore}

module _ (sys : System) where
  abbrev Barren : ℕ → Prefix → ℕ → Type 0
  Barren = IsBarrenBelow extensions (IsDeadPrefix sys) (PrefixGives sys)

  abbrev Walked : ℕ → ℕ → Prefix → ℕ → Type 0
  Walked = HasWalked extensions (IsDeadPrefix sys) (PrefixGives sys) (length (columns sys)) (start sys)

  abbrev IsTaken : Prefix → Type 0
  IsTaken p = AreChosen p.entries (columns sys) p.behind

  taken_further : (p q : Prefix) (before behind : List Prefix) → IsTaken p → extensions p ≡ before ++ q ∷ behind → IsTaken q
  taken_further p q before behind h e =
      let at = extension p.entries p.behind before q behind e in
      let among = subst (IsAmong at.entry) (sym at.split) (among_middle at.entry at.left at.right) in
      subst IsTaken (sym at.here)
      (chosen_last p.entries (columns sys) at.column at.further at.entry (subst (AreChosen p.entries (columns sys)) at.is_next h) among)

  taken : (k d : ℕ) (p : Prefix) (n : ℕ) → Walked k d p n → IsTaken p
  taken = paths.holds_along extensions (IsDeadPrefix sys) (PrefixGives sys) (length (columns sys)) (start sys) IsTaken refl taken_further

  pub begin : (es : Interpretation) → es ≡ [] → HasComeTo sys es 0
  begin es e = subst (λ (z : Interpretation). HasComeTo sys z 0) (sym e) (columns sys, (refl, refl, refl))

  -- what is asked of entries that are judged
  module _ (es : Interpretation) (behind : List (List LinearEntry)) (n : ℕ) (w : StandsAt sys behind es n) where
    chosen : AreChosen es (columns sys) behind
    chosen = taken (length es) (length behind) (node es behind) n w

    many : length es + length behind ≡ length (heads sys)
    many = chosen_length es (columns sys) behind chosen ∙ as_many_columns sys

    prefix_there : IsPrefix sys es
    prefix_there = record { few = (let sum = many in omega (arith, sum)); entries = chosen_entries sys es behind chosen; numbers = chosen_numbers sys es behind chosen }

  -- where the walk stands at the last of some entries
  record IsAtEntry (es : Interpretation) (e : LinearEntry) (behind : List (List LinearEntry)) (n : ℕ) : Type 0 where
    at_child : IsAtChild extensions (IsDeadPrefix sys) (Barren (length behind)) (Walked (length es) (suc (length behind))) (node (es ++ e ∷ []) behind) n
    column : List LinearEntry
    left : List LinearEntry
    right : List LinearEntry
    parent : at_child.parent ≡ node es (column ∷ behind)
    split : column ≡ left ++ e ∷ right
    others : at_child.behind ≡ map (λ e. node (es ++ e ∷ []) behind) right

  one_longer : (es : Interpretation) (e : LinearEntry) → length (es ++ e ∷ []) ≡ suc (length es)
  one_longer es e = let sum = length-append es (e ∷ []) in omega (arith, sum)

  of_child : (es : Interpretation) (e : LinearEntry) (behind : List (List LinearEntry)) (n : ℕ)
      → IsAtChild extensions (IsDeadPrefix sys) (Barren (length behind)) (Walked (length es) (suc (length behind))) (node (es ++ e ∷ []) behind) n → IsAtEntry es e behind n
  of_child es e behind n child =
      let at = extension child.parent.entries child.parent.behind child.before (node (es ++ e ∷ []) behind) child.behind child.split in
      let same = same_from_push es child.parent.entries e at.entry (ap (λ (p : Prefix). p.entries) at.here) in
      let further : behind ≡ at.further = ap (λ (p : Prefix). p.behind) at.here in
      record {
        at_child = child;
        column = at.column;
        left = at.left;
        right = at.right;
        parent = ap₂ node (sym same.0) (at.is_next ∙ ap (λ (z : List (List LinearEntry)). at.column ∷ z) (sym further));
        split = subst (λ (z : LinearEntry). at.column ≡ at.left ++ z ∷ at.right) (sym same.1) at.split;
        others =
            at.there
            ∙ (ap (λ (z : Interpretation). map (λ e. node (z ++ e ∷ []) at.further) at.right) (sym same.0)
            ∙ ap (λ (z : List (List LinearEntry)). map (λ e. node (es ++ e ∷ []) z) at.right) (sym further));
      }

  at_entry : (es : Interpretation) (e : LinearEntry) (behind : List (List LinearEntry)) (n : ℕ) → StandsAt sys behind (es ++ e ∷ []) n → IsAtEntry es e behind n
  at_entry es e behind n w = of_child es e behind n (subst (λ (k : ℕ). Walked k (length behind) (node (es ++ e ∷ []) behind) n) (one_longer es e) w)

  -- what stands behind the entry in its column is told by what is known of the entry alone
  module _ (es : Interpretation) (e : LinearEntry) (behind : List (List LinearEntry)) (n : ℕ) (at : IsAtEntry es e behind n) where
    own_column : (arity : ℕ) × (at.column ≡ entries_of (e.head, arity))
    own_column =
        let above = taken (length es) (suc (length behind)) at.at_child.parent at.at_child.paid_above at.at_child.came_to in
        let chosen : AreChosen es (columns sys) (at.column ∷ behind) = subst IsTaken at.parent above in
        let place = chosen_next es (columns sys) at.column behind chosen in
        let (head, arity, is) = column_is (zip (heads sys) (unraveled sys).arities) (length es) at.column place in
        let among = subst (IsAmong e) (sym at.split ∙ is) (among_middle e at.left at.right) in
        let same = head_of head arity e among in
        (arity, is ∙ ap (λ (h : Head). entries_of (h, arity)) same)

    right_is : (before right : List LinearEntry) (arity : ℕ) → at.column ≡ entries_of (e.head, arity) → entries_of (e.head, arity) ≡ before ++ e ∷ right → at.right ≡ right
    right_is before right arity is split = (one_place e.head arity e at.left at.right before right (sym is ∙ at.split) split).1

    is_in : (arity : ℕ) → at.column ≡ entries_of (e.head, arity) → IsIn e.head arity e
    is_in arity is = (at.left, at.right, sym is ∙ at.split)

    -- the walk goes on at the next entry
    across_to : (u : ℕ) → Barren (length behind) (node (es ++ e ∷ []) behind) u → (next : LinearEntry) → ((arity : ℕ) → IsIn e.head arity e → FollowsIn e.head arity e next)
        → HasComeTo sys (es ++ next ∷ []) (n + u)
    across_to u bare next follows =
        let (arity, is) = own_column in
        let (before, further, split) = follows arity (is_in arity is) in
        let right = right_is before (next ∷ further) arity is split in
        let others = at.others ∙ ap (map (λ e. node (es ++ e ∷ []) behind)) right in (
          behind,
          subst (λ (k : ℕ). Walked k (length behind) (node (es ++ next ∷ []) behind) (n + u)) (sym (one_longer es next))
              (paths.across extensions (IsDeadPrefix sys) (PrefixGives sys) (length (columns sys)) (start sys) (length es) (length behind) (node (es ++ e ∷ []) behind)
              (node (es ++ next ∷ []) behind) n u at.at_child bare
              (map (λ e. node (es ++ e ∷ []) behind) further) others),
        )

    -- it is done with the entries before
    up_to : (u : ℕ) → Barren (length behind) (node (es ++ e ∷ []) behind) u → ((arity : ℕ) → IsIn e.head arity e → IsLastOf e.head arity e) → HasDoneWith sys es (n + u)
    up_to u bare last =
        let (arity, is) = own_column in
        let (before, split) = last arity (is_in arity is) in
        let right = right_is before [] arity is split in
        let others = at.others ∙ ap (map (λ e. node (es ++ e ∷ []) behind)) right in
        let (m, barren, sum) =
        paths.up extensions (IsDeadPrefix sys) (PrefixGives sys) (length (columns sys)) (start sys) (length es) (length behind) (node (es ++ e ∷ []) behind) n u at.at_child bare others in
        record {
          behind = at.column ∷ behind;
          paid = at.at_child.paid_above;
          units = m;
          came_to = subst (λ (p : Prefix). Walked (length es) (suc (length behind)) p at.at_child.paid_above) at.parent at.at_child.came_to;
          barren = subst (λ (p : Prefix). Barren (suc (length behind)) p m) at.parent barren;
          sum = sym sum;
        }

    alive_before : IsDead sys es → ⊥
    alive_before = subst (λ (p : Prefix). IsDeadPrefix sys p → ⊥) at.parent at.at_child.alive

  pub go_across : (es : Interpretation) (e next : LinearEntry) (n : ℕ) → HasDoneWith sys (es ++ e ∷ []) n → AdvanceAnswers e next true → HasComeTo sys (es ++ next ∷ []) n
  go_across es e next n done follows =
      subst (HasComeTo sys (es ++ next ∷ [])) (sym done.sum) (across_to es e done.behind done.paid (at_entry es e done.behind done.paid done.came_to) done.units done.barren next follows)

  pub go_up : (es : Interpretation) (e next : LinearEntry) (n : ℕ) → HasDoneWith sys (es ++ e ∷ []) n → AdvanceAnswers e next false → HasDoneWith sys es n
  go_up es e next n done last = subst (HasDoneWith sys es) (sym done.sum) (up_to es e done.behind done.paid (at_entry es e done.behind done.paid done.came_to) done.units done.barren last)

  pub all_done : (n : ℕ) → HasDoneWith sys [] n → IsPrunedBarren sys n
  all_done n done =
      subst (IsPrunedBarren sys) (sym done.sum)
      (paths.barren_at_root extensions (IsDeadPrefix sys) (PrefixGives sys) (length (columns sys)) (start sys) (length done.behind) (node [] done.behind) done.paid done.units done.came_to done.barren)

  pub is_prefix : (es : Interpretation) (n : ℕ) → HasComeTo sys es n → IsPrefix sys es
  is_prefix es n (behind, w) = prefix_there es behind n w

  pub is_alive_before : (es : Interpretation) (n : ℕ) → HasComeTo sys es n → IsAliveBefore sys es
  is_alive_before es n (behind, w) before last e = alive_before before last behind n (at_entry before last behind n (subst (λ (z : Interpretation). StandsAt sys behind z n) e w))

  -- to the first entry of the next symbol
  pub go_down : (es after : Interpretation) (n : ℕ) → HasComeTo sys es n → (IsDead sys es → ⊥) → HasOneMore sys es after → HasComeTo sys after n
  go_down es after n (behind, w) alive more = subst (λ (z : Interpretation). HasComeTo sys z n) (sym more.last) (below behind w)
    where
      column_there : slice_get (columns sys) (length es) ≡ Some (entries_of (more.head, more.arity))
      column_there = column_at (heads sys) (unraveled sys).arities (length es) more.head more.arity more.is_head more.is_arity

      below : (behind : List (List LinearEntry)) → StandsAt sys behind es n → HasComeTo sys (es ++ more.entry ∷ []) n
      below [] w =
          let sum = many es [] n w in
          let same = as_many_columns sys in
          let within = slice_get_within (columns sys) (length es) (entries_of (more.head, more.arity)) column_there in absurd (omega (arith, sum, same, within))
      below (column ∷ further) w =
          let place = chosen_next es (columns sys) column further (chosen es (column ∷ further) n w) in
          let is : column ≡ more.entry ∷ more.is_first.0 = same_Some _ _ (sym place ∙ column_there) ∙ more.is_first.1 in
          let first = ap (map (λ e. node (es ++ e ∷ []) further)) is in (
            further,
            subst (λ (k : ℕ). Walked k (length further) (node (es ++ more.entry ∷ []) further) n) (sym (one_longer es more.entry))
                (paths.down extensions (IsDeadPrefix sys) (PrefixGives sys) (length (columns sys)) (start sys) (length es) (length further) (node es (column ∷ further))
                (node (es ++ more.entry ∷ []) further)
                (map (λ e. node (es ++ e ∷ []) further) more.is_first.0) n w alive first),
          )

  -- a dead prefix is done with for a unit
  dead_barren : (es : Interpretation) (behind : List (List LinearEntry)) → IsDead sys es → Barren (length behind) (node es behind) 1
  dead_barren es [] dead = ((λ m (is, judged). dead_or_good sys es dead judged.1), refl)
  dead_barren es (column ∷ behind) dead = inl (dead, refl)

  pub done_with_dead : (es : Interpretation) (n : ℕ) → HasComeTo sys es n → IsDead sys es → HasDoneWith sys es (n + 1)
  done_with_dead es n (behind, w) dead = record { behind = behind; paid = n; units = 1; came_to = w; barren = dead_barren es behind dead; sum = refl }

  -- where it stops for want of a unit
  stopped : (es : Interpretation) (behind : List (List LinearEntry)) → IsDead sys es ⊎ (behind ≡ []) → StopsBelow extensions (IsDeadPrefix sys) (PrefixGives sys) (length behind) (node es behind) 0
  stopped es [] h = refl
  stopped es (column ∷ behind) (inl dead) = inl (dead, refl)
  stopped es (column ∷ behind) (inr e) = absurd (cc)

  nothing_behind : (es : Interpretation) (behind : List (List LinearEntry)) (n : ℕ) → StandsAt sys behind es n → length es ≡ length (heads sys) → behind ≡ []
  nothing_behind es [] n w e = refl
  nothing_behind es (column ∷ behind) n w e = let sum = many es (column ∷ behind) n w in absurd (omega (arith, sum, e))

  pub stops_there : (es : Interpretation) (n : ℕ) → HasComeTo sys es n → IsDead sys es ⊎ (length es ≡ length (heads sys)) → PrunedStops sys n
  stops_there es n (behind, w) h =
      let sum : n + 0 ≡ n = omega arith in
      subst (PrunedStops sys) sum
      (paths.stops_at_root extensions (IsDeadPrefix sys) (PrefixGives sys) (length (columns sys)) (start sys) (length es) (length behind) (node es behind) n 0 w (stopped es behind (cases h)))
    where
      cases : IsDead sys es ⊎ (length es ≡ length (heads sys)) → IsDead sys es ⊎ (behind ≡ [])
      cases (inl dead) = inl dead
      cases (inr e) = inr (nothing_behind es behind n w e)

  -- the first good interpretation
  pub found_there : (es : Interpretation) (n : ℕ) → HasComeTo sys es n → length es ≡ length (heads sys) → IsInterpretationJudged sys es good → IsPrunedFirst sys (linear_measure es) (n + 1)
  found_there es n (behind, w) e judged =
      paths.first_at_root extensions (IsDeadPrefix sys) (PrefixGives sys) (length (columns sys)) (start sys) (linear_measure es) (length es) (length behind) (node es behind) n 1 w
      (leaf behind (nothing_behind es behind n w e))
    where
      leaf : (behind : List (List LinearEntry)) → behind ≡ [] → IsFirstBelow extensions (IsDeadPrefix sys) (PrefixGives sys) (linear_measure es) (length behind) (node es behind) 1
      leaf [] e = ((refl, judged), refl)
      leaf (column ∷ behind) e = absurd (cc)
