-- Arrivals by batches of choices, one batch more at a time, and the first failure among them.
use Rattle.std.proofs.Common.{◌≡◌, ℕ, ◌+◌, ◌<◌, ◌≤◌, ◌⊎◌, inl, inr, ⊎_elim, List, [], ◌++◌, length, get_or, true, false, Option, Some, None, slice_get, ap, sym, subst, ◌∙◌, arith}
use Rattle.std.specs.Option.{is_some}
use Rattle.std.proofs.lemmas.Bool.{cases_lt, cases_order}
use Rattle.std.proofs.lemmas.Option.{same_Some, slice_get_within, slice_get-get_or, get_or_from_slice_get}
use Rattle.rewriting.specs.Prelude.{Term, IsBefore, IsAmong}
use Rattle.rewriting.proofs.Before.{before_not_same, before_not_both}
use Rattle.automata.specs.Runs.{ReachBy, IsAccepting}
use Rattle.automata.specs.Closed.{IsChoice, Excludes}
use Rattle.number_sets.specs.Relation.{Relates}
use Rattle.number_sets.specs.declared.rows.NumberRelation.{NumberRelation}
use Rattle.automaton_runs.specs.Counted.{Indexed, Finds}
use Rattle.automaton_runs.specs.Arrivals.{IsArrivalBefore}
use Rattle.automaton_runs.specs.Choices.{Choices, Batch, choice_of, AreChoices}
use Rattle.automaton_runs.specs.Reached.{AreWhere}
use Rattle.automaton_runs.specs.declared.runs.Arrival.{Arrival}
use Rattle.rewriting.proofs.Members.{among_place, place_among}
use Rattle.automaton_runs.proofs.ChoiceLists.{before_behind, before_fronts, pair_at}
use Rattle.tree_automata.specs.Accepts.{IsOneAccepting}
use Rattle.tree_automata.specs.Batches.{HoldsIn, IsFailureIn, FailureInAnswers, LackingAtAnswers, batch_at, HoldsBelow, HoldsThroughout, IsFirstFailure, FailureAnswers}

not_before : (p q : List ℕ) → IsBefore p q → (q ≡ p) ⊎ IsBefore q p → ⊥
not_before p q h (inl e) = before_not_same p (subst (IsBefore p) e h)
not_before p q h (inr k) = before_not_both p q h k

module _ (a : Indexed) (t : Term) (P : List ℕ → ℕ → Type 0) where
  -- one batch
  module _ (b : Batch) (left : NumberRelation) (reached : AreWhere b (ReachBy (Finds a) t) left) where
    pub in_empty : ((q k : ℕ) → Relates left q k → ⊥) → HoldsIn a t P b
    in_empty none k q holds reach = absurd (none q k ((reached q k).1 (holds, reach)))

    module _ (right : NumberRelation) (kept : AreWhere b P right) where
      pub in_answers : (o : Option Arrival) → LackingAtAnswers b left right o → FailureInAnswers a t P b o
      in_answers None all = λ k q holds reach. ((kept q k).0 (all q k ((reached q k).1 (holds, reach)))).1
      in_answers (Some arrival) at =
          let q = arrival.state in
          let here = (reached arrival.state at.number).0 at.first.inside in record {
            number = at.number;
            holds = here.0;
            is = at.is;
            reached = here.1;
            fails = λ h. at.first.lacking ((kept arrival.state at.number).1 (here.0, h));
            earlier = λ k p holds reach order. ((kept p k).0 (at.first.earlier p k ((reached p k).1 (holds, reach)) order)).1;
          }

  module _ (c : Choices) (choices : AreChoices a t c) where
    -- where P holds in the batch with the next front
    module _ (n : ℕ) (first : List ℕ) (here : slice_get c.fronts n ≡ Some first) (before : HoldsBelow a t P c n) where
      same_front : (j : ℕ) (front : List ℕ) → j ≡ n → slice_get c.fronts j ≡ Some front → front ≡ first
      same_front j front same at = same_Some front first (sym at ∙ ap (slice_get c.fronts) same ∙ here)

      -- the number of a tail
      choice_is : (tail : List ℕ) (k : ℕ) → slice_get c.tails k ≡ Some tail → choice_of (batch_at c first) k ≡ first ++ tail
      choice_is tail k at = ap (λ (l : List ℕ). first ++ l) (get_or_from_slice_get c.tails k tail [] at)

      pub below_more : HoldsIn a t P (batch_at c first) → HoldsBelow a t P c (n + 1)
      below_more holds j q front tail low at i reach =
          ⊎_elim (λ (l : j < n). before j q front tail l at i reach)
          (λ (l : n ≤ j).
          let same : front ≡ first = same_front j front (omega arith) at in
          let k = among_place tail c.tails i in
          let is : choice_of (batch_at c first) k.0 ≡ front ++ tail = choice_is tail k.0 k.1 ∙ ap (λ (l : List ℕ). l ++ tail) (sym same) in
          subst (λ (l : List ℕ). P l q) is (holds k.0 q (slice_get_within c.tails k.0 tail k.1) (subst (λ (l : List ℕ). ReachBy (Finds a) t l q) (sym is) reach)))
          (cases_lt j n)

      -- where it does not, the first failure in the batch is the first of all
      module _ (cs : List ℕ) (q : ℕ) (failure : IsFailureIn a t P (batch_at c first) cs q) where
        own : List ℕ
        own = get_or c.tails failure.number []

        own_at : slice_get c.tails failure.number ≡ Some own
        unfolding own
        own_at = slice_get-get_or c.tails failure.number [] failure.holds

        is_own : cs ≡ first ++ own
        unfolding own
        is_own = failure.is

        earlier_behind : (ds tail : List ℕ) (p k : ℕ) → ds ≡ first ++ tail → slice_get c.tails k ≡ Some tail → ReachBy (Finds a) t ds p → IsArrivalBefore (ds, p) (cs, q)
            → (k ≡ failure.number) ⊎ ((k < failure.number) ⊎ (failure.number < k)) → P ds p
        earlier_behind ds tail p k is at reach before order = by order before
          where
            choice : choice_of (batch_at c first) k ≡ ds
            choice = choice_is tail k at ∙ sym is

            earlier : (k < failure.number) ⊎ ((k ≡ failure.number) × (p < q)) → P ds p
            earlier order = subst (λ (l : List ℕ). P l p) choice (failure.earlier k p (slice_get_within c.tails k tail at) (subst (λ (l : List ℕ). ReachBy (Finds a) t l p) (sym choice) reach) order)

            same : k ≡ failure.number → ds ≡ cs
            same e = sym choice ∙ ap (choice_of (batch_at c first)) e ∙ sym failure.is

            by : (k ≡ failure.number) ⊎ ((k < failure.number) ⊎ (failure.number < k)) → IsArrivalBefore (ds, p) (cs, q) → P ds p
            by (inl e) (inl less) = absurd (not_before ds cs less (inl (sym (same e))))
            by (inl e) (inr (f, less)) = earlier (inr (e, less))
            by (inr (inl l)) before = earlier (inl l)
            by (inr (inr l)) before =
                let later : IsBefore cs ds = subst (λ (l : List ℕ). IsBefore l ds) (sym is_own)
                (subst (IsBefore (first ++ own)) (sym is) (before_behind first own tail (pair_at IsBefore c.tails failure.number k own tail choices.tails_ordered l own_at at)))
                in
                absurd (not_before cs ds later (⊎_elim (λ (less : IsBefore ds cs). inr less) (λ x. inl x.0) before))

        earlier_at : (ds front tail : List ℕ) (p j : ℕ) → ds ≡ front ++ tail → slice_get c.fronts j ≡ Some front → IsAmong tail c.tails → ReachBy (Finds a) t ds p
            → IsArrivalBefore (ds, p) (cs, q) → (j ≡ n) ⊎ ((j < n) ⊎ (n < j)) → P ds p
        earlier_at ds front tail p j is at i reach less (inl e) =
            let k = among_place tail c.tails i in
            earlier_behind ds tail p k.0 (is ∙ ap (λ (l : List ℕ). l ++ tail) (same_front j front e at)) k.1 reach less (cases_order k.0 failure.number)
        earlier_at ds front tail p j is at i reach less (inr (inl l)) = subst (λ (l : List ℕ). P l p) (sym is) (before j p front tail l at i (subst (λ (l : List ℕ). ReachBy (Finds a) t l p) is reach))
        earlier_at ds front tail p j is at i reach less (inr (inr l)) =
            let one = choices.long first (place_among c.fronts n first here) in
            let two = choices.long front (place_among c.fronts j front at) in
            let long : length first ≡ length front = omega arith in
            let later : IsBefore cs ds =
            subst (λ (l : List ℕ). IsBefore l ds) (sym is_own)
            (subst (IsBefore (first ++ own)) (sym is) (before_fronts first front own tail long (pair_at IsBefore c.fronts n j first front choices.fronts_ordered l here at))) in
            absurd (not_before cs ds later (⊎_elim (λ (k : IsBefore ds cs). inr k) (λ x. inl x.0) less))

        first_failure : IsFirstFailure a t P cs q
        first_failure = record {
          choice = subst (IsChoice a.automaton.states t) (sym is_own) (choices.choices first own (place_among c.fronts n first here) (place_among c.tails failure.number own own_at));
          reached = subst (λ (l : List ℕ). ReachBy (Finds a) t l q) (sym failure.is) failure.reached;
          fails = λ h. failure.fails (subst (λ (l : List ℕ). P l q) failure.is h);
          earlier = λ ds p choice reach less.
              let (front, tail, i, k, is) = choices.complete ds p choice reach in
              let j = among_place front c.fronts i in
              earlier_at ds front tail p j.0 is j.1 k reach less (cases_order j.0 n);
        }

      pub open_here : (o : Option Arrival) → true ≡ is_some o → FailureInAnswers a t P (batch_at c first) o → FailureAnswers a t P o
      open_here None e h = absurd (cc)
      open_here (Some arrival) e h = first_failure arrival.choice.items arrival.state h

      pub below_past : (o : Option Arrival) → false ≡ is_some o → FailureInAnswers a t P (batch_at c first) o → HoldsBelow a t P c (n + 1)
      below_past None e h = below_more h
      below_past (Some arrival) e h = absurd (cc)

    -- behind all fronts
    pub throughout : (n : ℕ) → length c.fronts ≤ n → HoldsBelow a t P c n → HoldsThroughout a t P
    throughout n past before cs q choice reach =
        let (front, tail, i, k, is) = choices.complete cs q choice reach in
        let j = among_place front c.fronts i in
        let within = slice_get_within c.fronts j.0 front j.1 in
        subst (λ (l : List ℕ). P l q) (sym is) (before j.0 q front tail (omega arith) j.1 k (subst (λ (l : List ℕ). ReachBy (Finds a) t l q) is reach))

module _ (a : Indexed) (t : Term) where
  abbrev pub IsNot : List ℕ → ℕ → Type 0
  IsNot cs q = IsAccepting a.automaton q → ⊥

  -- a batch with one accepting state, and one with none
  module _ (c : Choices) (choices : AreChoices a t c) (front : List ℕ) (i : IsAmong front c.fronts) (left : NumberRelation) (reached : AreWhere (batch_at c front) (ReachBy (Finds a) t) left) where
    pub not_excluded : IsOneAccepting a.automaton left → Excludes a.symbols a.automaton t → ⊥
    not_excluded (q, k, h, accepting) ex =
        let here = (reached q k).0 h in
        let tail = get_or c.tails k [] in
        ex (choice_of (batch_at c front) k) q (choices.choices front (get_or c.tails k []) i (place_among c.tails k (get_or c.tails k []) (slice_get-get_or c.tails k [] here.0))) accepting here.1

    pub none_in : (IsOneAccepting a.automaton left → ⊥) → HoldsIn a t IsNot (batch_at c front)
    none_in never k q holds reach accepting = never (q, k, (reached q k).1 (holds, reach), accepting)

  pub excluded : HoldsThroughout a t IsNot → Excludes a.symbols a.automaton t
  excluded none cs q choice accepting reach = none cs q choice reach accepting
