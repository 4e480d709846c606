-- The arrivals by the choices of a batch, one choice more at a time, and those with the first fronts, one front more at a time.
use Rattle.std.proofs.Common.{◌≡◌, ◌↔◌, inl, inr, ⊎_elim, ℕ, ◌+◌, ◌<◌, ◌≤◌, List, [], ◌∷◌, ◌++◌, map, length, get_or, AllPairs, Some, slice_get, refl, ap, sym, subst, ◌∙◌, append_assoc, arith}
use Rattle.std.proofs.lemmas.Bool.{cases_lt}
use Rattle.std.proofs.lemmas.Option.{same_Some, slice_get_within, slice_get-get_or, get_or_from_slice_get}
use Rattle.rewriting.specs.Prelude.{Term, IsBefore, IsAmong}
use Rattle.automata.specs.Runs.{ReachBy}
use Rattle.automata.specs.Closed.{IsChoice}
use Rattle.number_sets.specs.Relation.{Relates, row_of}
use Rattle.number_sets.specs.declared.rows.NumberRelation.{NumberRelation}
use Rattle.automaton_runs.specs.Counted.{Indexed, Finds}
use Rattle.automaton_runs.specs.Reached.{AreWhere}
use Rattle.automaton_runs.specs.Arrivals.{IsArrivalBefore, AreArrivals, AreBatchArrivals, HaveBatchArrivals, IsFrontArrival, AreFrontArrivals}
use Rattle.automaton_runs.specs.Choices.{Choices, Batch, Holds, choice_of, AreChoices}
use Rattle.rewriting.proofs.Members.{among_place, place_among, among_contained, contained_among}
use Rattle.automaton_runs.proofs.ChoiceLists.{before_behind, before_fronts, pair_at}
use Rattle.rewriting.proofs.Lists.{among_left, among_right, among_either, among_map, among_of_map}
use Rattle.automaton_runs.proofs.Ordered.{IsOrdered, ordered_append, ordered_from_pairs, pairs_from_ordered}

-- a choice and a state
abbrev pub Pair : Type 0
Pair = List ℕ × ℕ

abbrev pub with_choice : List ℕ → ℕ → Pair
with_choice cs q = (cs, q)

ordered_states : (cs qs : List ℕ) → IsOrdered (λ x y. x < y) qs → IsOrdered {X = Pair} IsArrivalBefore (map (with_choice cs) qs)
ordered_states cs [] o = tt
ordered_states cs (q ∷ qs) o = (
  λ y h.
      let m = among_of_map (with_choice cs) y qs h in
      subst (λ (r : Pair). IsArrivalBefore (cs, q) r) (sym m.2) (inr (refl, o.0 m.0 m.1)),
  ordered_states cs qs o.1,
)

module _ (a : Indexed) (t : Term) where
  -- no choice yet
  pub none_of_batch : (b : Batch) → AreBatchArrivals a t b 0 []
  none_of_batch b = record { each = λ cs q h. absurd h; complete = λ k q low holds r. absurd (omega arith); sorted = λ i j d l h. absurd (omega arith) }

  module _ (b : Batch) (k : ℕ) (old : List Pair) (before : AreBatchArrivals a t b k old) where
    -- one choice more
    module _ (qs : List ℕ) (ordered : AllPairs IsBefore b.tails) (holds : Holds b k) (up : AllPairs (λ x y. x < y) qs) (reached : (q : ℕ) → IsAmong q qs ↔ ReachBy (Finds a) t (choice_of b k) q) where
      abbrev here : List Pair
      here = map (with_choice (choice_of b k)) qs

      each_more : (cs : List ℕ) (q : ℕ) → IsAmong {X = Pair} (cs, q) (old ++ here) → (j : ℕ) × (j < k + 1) × Holds b j × (cs ≡ choice_of b j) × ReachBy (Finds a) t cs q
      each_more cs q h = ⊎_elim earlier last (among_either {X = Pair} (cs, q) old here h)
        where
          earlier : IsAmong {X = Pair} (cs, q) old → (j : ℕ) × (j < k + 1) × Holds b j × (cs ≡ choice_of b j) × ReachBy (Finds a) t cs q
          earlier i = let e = before.each cs q i in let low = e.1 in (e.0, omega arith, e.2, e.3, e.4)

          last : IsAmong {X = Pair} (cs, q) here → (j : ℕ) × (j < k + 1) × Holds b j × (cs ≡ choice_of b j) × ReachBy (Finds a) t cs q
          last i =
              let m = among_of_map (with_choice (choice_of b k)) (cs, q) qs i in
              let is_choice : cs ≡ choice_of b k = ap (λ (r : Pair). r.0) m.2 in
              let is_state : q ≡ m.0 = ap (λ (r : Pair). r.1) m.2 in
              (k, omega arith, holds, is_choice, subst (λ (l : List ℕ). ReachBy (Finds a) t l q) (sym is_choice) ((reached q).0 (subst (λ (p : ℕ). IsAmong p qs) (sym is_state) m.1)))

      complete_more : (j q : ℕ) → j < k + 1 → Holds b j → ReachBy (Finds a) t (choice_of b j) q → IsAmong {X = Pair} (choice_of b j, q) (old ++ here)
      complete_more j q low inside r = ⊎_elim earlier last (cases_lt j k)
        where
          earlier : j < k → IsAmong {X = Pair} (choice_of b j, q) (old ++ here)
          earlier l = among_left {X = Pair} (choice_of b j, q) old here (before.complete j q l inside r)

          last : k ≤ j → IsAmong {X = Pair} (choice_of b j, q) (old ++ here)
          last l =
              let same : k ≡ j = omega arith in
              let there = among_map (with_choice (choice_of b k)) q qs ((reached q).1 (subst (λ (i : ℕ). ReachBy (Finds a) t (choice_of b i) q) (sym same) r)) in
              subst (λ (i : ℕ). IsAmong {X = Pair} (choice_of b i, q) (old ++ here)) same (among_right {X = Pair} (choice_of b k, q) old here there)

      choices_before : (j : ℕ) → j < k → IsBefore (choice_of b j) (choice_of b k)
      choices_before j l =
          before_behind b.front (get_or b.tails j []) (get_or b.tails k [])
          (pair_at IsBefore b.tails j k (get_or b.tails j []) (get_or b.tails k []) ordered l (slice_get-get_or b.tails j [] (let low : k < length b.tails = holds in omega arith))
          (slice_get-get_or b.tails k [] holds))

      sorted_more : AllPairs IsArrivalBefore (old ++ here)
      sorted_more =
          pairs_from_ordered {X = Pair} IsArrivalBefore (old ++ here)
          (ordered_append {X = Pair} IsArrivalBefore old here (ordered_from_pairs {X = Pair} IsArrivalBefore old before.sorted)
          (ordered_states (choice_of b k) qs (ordered_from_pairs (λ x y. x < y) qs up)) apart)
        where
          apart : (x y : Pair) → IsAmong x old → IsAmong y here → IsArrivalBefore x y
          apart x y i j =
              let e = before.each x.0 x.1 i in
              let m = among_of_map (with_choice (choice_of b k)) y qs j in
              subst (λ (r : Pair). IsArrivalBefore x r) (sym m.2) (inl (subst (λ (l : List ℕ). IsBefore l (choice_of b k)) (sym e.3) (choices_before e.0 e.1)))

      batch_more : AreBatchArrivals a t b (k + 1) (old ++ here)
      batch_more = record { each = each_more; complete = complete_more; sorted = sorted_more }

    -- one choice more, by which no state is reached
    batch_passed : ((q : ℕ) → ReachBy (Finds a) t (choice_of b k) q → ⊥) → AreBatchArrivals a t b (k + 1) old
    batch_passed none = record {
      each = λ cs q h. let e = before.each cs q h in let low = e.1 in (e.0, omega arith, e.2, e.3, e.4);
      complete = λ j q low holds r. ⊎_elim (λ (l : j < k). before.complete j q l holds r)
          (λ (l : k ≤ j). let same : j ≡ k = omega arith in absurd (none q (subst (λ (i : ℕ). ReachBy (Finds a) t (choice_of b i) q) same r))) (cases_lt j k);
      sorted = before.sorted;
    }

  -- the next choice of a batch
  module _ (b : Batch) (k : ℕ) (holds : Holds b k) (r s : NumberRelation) (where_reached : AreWhere b (ReachBy (Finds a) t) r) (turned : (p q : ℕ) → Relates s p q ↔ Relates r q p) where
    reached_here : (q : ℕ) → IsAmong q (row_of s k) ↔ ReachBy (Finds a) t (choice_of b k) q
    reached_here q = (λ i. ((where_reached q k).0 ((turned k q).0 i)).1, λ h. (turned k q).1 ((where_reached q k).1 (holds, h)))

    pub arrivals_choice : AllPairs IsBefore b.tails → (first old new : List Pair) (cs qs : List ℕ) → HaveBatchArrivals a t b k first old → AllPairs (λ x y. x < y) qs
        → qs ≡ row_of s k → cs ≡ choice_of b k → new ≡ old ++ map (with_choice cs) qs
        → HaveBatchArrivals a t b (k + 1) first new
    arrivals_choice ordered first old new cs qs (more, is, before) up row here put = (
      more ++ map (with_choice (choice_of b k)) qs,
      put ∙ ap (λ (l : List ℕ). old ++ map (with_choice l) qs) here ∙ ap (λ (l : List Pair). l ++ map (with_choice (choice_of b k)) qs) is
          ∙ append_assoc first more (map (with_choice (choice_of b k)) qs),
      batch_more b k more before qs ordered holds up (λ q. subst (λ (l : List ℕ). IsAmong q l ↔ ReachBy (Finds a) t (choice_of b k) q) (sym row) (reached_here q)),
    )

    pub arrivals_no_row : (first old : List Pair) → HaveBatchArrivals a t b k first old → row_of s k ≡ [] → HaveBatchArrivals a t b (k + 1) first old
    arrivals_no_row first old (more, is, before) none = (more, is, batch_passed b k more before (λ q h. subst (λ (l : List ℕ). IsAmong q l) none ((reached_here q).1 h)))

  module _ (c : Choices) where
    -- no front yet
    pub none_of_fronts : AreFrontArrivals a t c 0 []
    none_of_fronts = record { each = λ cs q h. absurd h; complete = λ cs q h. let low = h.low in absurd (omega arith); sorted = λ i j d l h. absurd (omega arith) }

    -- one front more
    module _ (choices : AreChoices a t c) (n : ℕ) (front : List ℕ) (at : slice_get c.fronts n ≡ Some front) (b : Batch)
        (is : b ≡ record { front = front; width = c.width; tails = c.tails }) (old more : List Pair) (before : AreFrontArrivals a t c n old)
        (here : AreBatchArrivals a t b (length b.tails) more) where
      abbrev own : Batch
      own = record { front = front; width = c.width; tails = c.tails }

      of_own : AreBatchArrivals a t own (length c.tails) more
      of_own = subst (λ (x : Batch). AreBatchArrivals a t x (length x.tails) more) is here

      of_front : (cs : List ℕ) (q : ℕ) → IsAmong {X = Pair} (cs, q) more → IsFrontArrival a t c (n + 1) cs q
      of_front cs q h =
          let e = of_own.each cs q h in
          let inside : e.0 < length c.tails = e.2 in record {
            number = n;
            front = front;
            tail = get_or c.tails e.0 [];
            low = omega arith;
            is_front = at;
            is_tail = place_among c.tails e.0 (get_or c.tails e.0 []) (slice_get-get_or c.tails e.0 [] inside);
            is = e.3;
            reached = e.4;
          }

      of_front_number : (cs : List ℕ) (q : ℕ) (h : IsAmong {X = Pair} (cs, q) more) → (of_front cs q h).number ≡ n
      unfolding of_front
      of_front_number cs q h = refl

      later : (cs : List ℕ) (q : ℕ) → IsFrontArrival a t c n cs q → IsFrontArrival a t c (n + 1) cs q
      later cs q e = let low = e.low in record { number = e.number; front = e.front; tail = e.tail; low = omega arith; is_front = e.is_front; is_tail = e.is_tail; is = e.is; reached = e.reached }

      complete_fronts : (cs : List ℕ) (q : ℕ) → IsFrontArrival a t c (n + 1) cs q → IsAmong {X = Pair} (cs, q) (old ++ more)
      complete_fronts cs q e = ⊎_elim earlier last (cases_lt e.number n)
        where
          earlier : e.number < n → IsAmong {X = Pair} (cs, q) (old ++ more)
          earlier l = among_left {X = Pair} (cs, q) old more
              (before.complete cs q record {
                number = e.number;
                front = e.front;
                tail = e.tail;
                low = l;
                is_front = e.is_front;
                is_tail = e.is_tail;
                is = e.is;
                reached = e.reached;
              })

          last : n ≤ e.number → IsAmong {X = Pair} (cs, q) (old ++ more)
          last l =
              let low = e.low in
              let same : e.number ≡ n = omega arith in
              let fronts : e.front ≡ front = same_Some e.front front (sym e.is_front ∙ ap (slice_get c.fronts) same ∙ at) in
              let k = among_place e.tail c.tails e.is_tail in
              let tail : get_or c.tails k.0 [] ≡ e.tail = get_or_from_slice_get c.tails k.0 e.tail [] k.1 in
              let choice : cs ≡ choice_of own k.0 = e.is ∙ ap (λ (l : List ℕ). l ++ e.tail) fronts ∙ ap (λ (l : List ℕ). front ++ l) (sym tail) in
              let within = slice_get_within c.tails k.0 e.tail k.1 in
              among_right {X = Pair} (cs, q) old more
              (subst (λ (l : List ℕ). IsAmong {X = Pair} (l, q) more) (sym choice) (of_own.complete k.0 q within within (subst (λ (l : List ℕ). ReachBy (Finds a) t l q) choice e.reached)))

      sorted_fronts : AllPairs IsArrivalBefore (old ++ more)
      sorted_fronts =
          pairs_from_ordered {X = Pair} IsArrivalBefore (old ++ more)
          (ordered_append {X = Pair} IsArrivalBefore old more (ordered_from_pairs {X = Pair} IsArrivalBefore old before.sorted)
          (ordered_from_pairs {X = Pair} IsArrivalBefore more of_own.sorted) apart)
        where
          apart : (x y : Pair) → IsAmong x old → IsAmong y more → IsArrivalBefore x y
          apart x y i j =
              let e = before.each x.0 x.1 i in
              let f = of_front y.0 y.1 j in
              let long : length e.front ≡ length f.front = let one = choices.long e.front (place_among c.fronts e.number e.front e.is_front) in
              let two = choices.long f.front (place_among c.fronts f.number f.front f.is_front) in omega arith in
              let first = before_fronts e.front f.front e.tail f.tail long (pair_at IsBefore c.fronts e.number f.number e.front f.front choices.fronts_ordered
              (subst (λ (m : ℕ). e.number < m) (sym (of_front_number y.0 y.1 j)) e.low) e.is_front f.is_front) in
              inl (subst (λ (l : List ℕ). IsBefore l y.0) (sym e.is) (subst (IsBefore (e.front ++ e.tail)) (sym f.is) first))

      pub fronts_more : (new : List Pair) → new ≡ old ++ more → AreFrontArrivals a t c (n + 1) new
      fronts_more new put =
          subst (AreFrontArrivals a t c (n + 1)) (sym put)
          (record {
            each = λ cs q h. ⊎_elim (λ i. later cs q (before.each cs q i)) (λ i. of_front cs q i) (among_either {X = Pair} (cs, q) old more h);
            complete = complete_fronts;
            sorted = sorted_fronts;
          })

    -- behind all fronts
    pub arrivals_end : AreChoices a t c → (n : ℕ) (rows : List Pair) → length c.fronts ≤ n → AreFrontArrivals a t c n rows → AreArrivals a t rows
    arrivals_end choices n rows past h = record {
      each = λ cs q i.
          let e = h.each cs q (among_contained {X = Pair} (cs, q) rows i) in
          (subst (IsChoice a.automaton.states t) (sym e.is) (choices.choices e.front e.tail (place_among c.fronts e.number e.front e.is_front) e.is_tail), e.reached);
      complete = λ cs q choice r.
          let (front, tail, first, last, is) = choices.complete cs q choice r in
          let j = among_place front c.fronts first in
          let within = slice_get_within c.fronts j.0 front j.1 in
          contained_among {X = Pair} (cs, q) rows (h.complete cs q record { number = j.0; front = front; tail = tail; low = omega arith; is_front = j.1; is_tail = last; is = is; reached = r });
      sorted = h.sorted;
    }
