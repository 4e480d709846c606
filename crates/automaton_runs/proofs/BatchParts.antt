-- Batches of choices: what their parts say of the choices.
use Rattle.std.proofs.Common.{◌≡◌, ◌≢◌, ◌↔◌, ◌⊎◌, inl, inr, ⊎_elim, ℕ, zero, suc, ◌+◌, ◌<◌, ◌≤◌, Bool, true, false, nat_eq, if◌then◌else◌, List, [], ◌∷◌, ◌++◌, length, get_or}
use Rattle.std.proofs.Common.{take, ltb, None, Some, slice_get, Vec, Global, refl, ap, sym, subst, ◌∙◌, arith, eq-eqb}
use Rattle.std.proofs.lemmas.Bool.{cases_lt, ne_eqb, ltb-true, ltb-false}
use Rattle.std.proofs.lemmas.List.{length-map, take_more, take_all}
use Rattle.std.proofs.lemmas.Option.{same_Some, get_or_from_slice_get, slice_get-get_or, slice_get_read, slice_get_within}
use Rattle.general_lemmas.proofs.Places.{slice_get-append_left, slice_get-append_right, slice_get-map_read, map-take_read}
use Rattle.automata.specs.Closed.{state_of}
use Rattle.rewriting.specs.Lists.{IsAmong}
use Rattle.rewriting.proofs.Lists.{among_either}
use Rattle.number_sets.specs.Relation.{Relates}
use Rattle.number_sets.specs.declared.rows.NumberRelation.{NumberRelation}
use Rattle.automaton_runs.specs.Choices.{as_lists, Batch, Holds, choice_of}
use Rattle.automaton_runs.specs.BatchView.{AreStatesAt, IsFirstPlace}
use Rattle.automaton_runs.specs.Leaves.{AreStatesIn, AreZeros}
use Rattle.rewriting.proofs.Members.{place_among}

pub each_more : {X : Type 0} (P : ℕ → X → Type 0) (xs : List X) (x : X) → ((i : ℕ) (y : X) → slice_get xs i ≡ Some y → P i y) → P (length xs) x
    → (i : ℕ) (y : X) → slice_get (xs ++ x ∷ []) i ≡ Some y → P i y
each_more P [] x each last zero y e = let same : x ≡ y = cc in subst (λ z. P 0 z) same last
each_more P [] x each last (suc i) y e = absurd (cc)
each_more P (z ∷ xs) x each last zero y e = each 0 y e
each_more P (z ∷ xs) x each last (suc i) y e = each_more (λ j. P (suc j)) xs x (λ j. each (suc j)) last i y e

-- a relation of the numbers below n to states that they are at, with one more
module _ (At : ℕ → ℕ → Type 0) (old : NumberRelation) (n : ℕ) (had : (q k : ℕ) → Relates old q k ↔ ((k < n) × At k q)) where
  pub leaf_put : (new : NumberRelation) (state : ℕ) → ((q k : ℕ) → Relates new q k ↔ (Relates old q k ⊎ ((q ≡ state) × (k ≡ n)))) → At n state → ((q : ℕ) → At n q → q ≡ state)
      → (q k : ℕ) → Relates new q k ↔ ((k < n + 1) × At k q)
  leaf_put new state made here alone q k = (λ h. there ((made q k).0 h), λ h. back h.1 h.0 (cases_lt k n))
    where
      there : Relates old q k ⊎ ((q ≡ state) × (k ≡ n)) → (k < n + 1) × At k q
      there (inl h) = let r = (had q k).0 h in let low = r.0 in (omega arith, r.1)
      there (inr (e, same)) = (omega arith, subst (λ (j : ℕ). At j q) (sym same) (subst (λ (p : ℕ). At n p) (sym e) here))

      back : At k q → k < n + 1 → (k < n) ⊎ (n ≤ k) → Relates new q k
      back h l (inl low) = (made q k).1 (inl ((had q k).1 (low, h)))
      back h l (inr high) = let same : k ≡ n = omega arith in (made q k).1 (inr (alone q (subst (λ (j : ℕ). At j q) same h), same))

  pub leaf_skip : ((q : ℕ) → At n q → ⊥) → (q k : ℕ) → Relates old q k ↔ ((k < n + 1) × At k q)
  leaf_skip none q k = (λ h. let r = (had q k).0 h in let low = r.0 in (omega arith, r.1), λ h. back h.1 h.0 (cases_lt k n))
    where
      back : At k q → k < n + 1 → (k < n) ⊎ (n ≤ k) → Relates old q k
      back h l (inl low) = (had q k).1 (low, h)
      back h l (inr high) = let same : k ≡ n = omega arith in absurd (none q (subst (λ (j : ℕ). At j q) same h))

-- the state that a list has at a place, among some lists
abbrev pub HasAt : List (List ℕ) → ℕ → ℕ → ℕ → Type 0
HasAt lists place k q = (list : List ℕ) × (slice_get lists k ≡ Some list) × (slice_get list place ≡ Some q)

pub leaf_none : (lists : List (List ℕ)) (place : ℕ) (r : NumberRelation) → ((p q : ℕ) → Relates r p q → ⊥) → (q k : ℕ) → Relates r q k ↔ ((k < 0) × HasAt lists place k q)
leaf_none lists place r none q k = (λ h. absurd (none q k h), λ (l, h). absurd (omega arith))

pub leaf_all : (lists : List (List ℕ)) (place n : ℕ) (r : NumberRelation) → length lists ≤ n → ((q k : ℕ) → Relates r q k ↔ ((k < n) × HasAt lists place k q)) → AreStatesIn lists place r
leaf_all lists place n r past had q k = (λ h. ((had q k).0 h).1, λ (list, at, is). let low = slice_get_within lists k list at in (had q k).1 (omega arith, (list, at, is)))

-- the only state there
pub one_state : (lists : List (List ℕ)) (place k state : ℕ) (list : List ℕ) → slice_get lists k ≡ Some list → slice_get list place ≡ Some state → (q : ℕ) → HasAt lists place k q → q ≡ state
one_state lists place k state list at is q (other, there, has) =
    let same : other ≡ list = same_Some other list (sym there ∙ at) in
    same_Some q state (sym has ∙ ap (λ (l : List ℕ). slice_get l place) same ∙ is)

pub no_state : (lists : List (List ℕ)) (place k : ℕ) (list : List ℕ) → slice_get lists k ≡ Some list → length list ≤ place → (q : ℕ) → HasAt lists place k q → ⊥
no_state lists place k list at past q (other, there, has) =
    let same : other ≡ list = same_Some other list (sym there ∙ at) in
    let low = slice_get_within list place q (ap (λ (l : List ℕ). slice_get l place) (sym same) ∙ has) in
    omega arith

-- a state with all numbers
pub all_with : (n state : ℕ) (none r : NumberRelation) (all : List ℕ) → ((p q : ℕ) → Relates none p q → ⊥) → ((k : ℕ) → IsAmong k all ↔ (k < n))
    → ((p q : ℕ) → Relates r p q ↔ (Relates none p q ⊎ ((p ≡ state) × IsAmong q all))) → (q k : ℕ) → Relates r q k ↔ ((k < n) × (q ≡ state))
all_with n state none r all empty is made q k = (
  λ h. ⊎_elim (λ o. absurd (empty q k o)) (λ o. ((is k).0 o.1, o.0)) ((made q k).0 h),
  λ h. (made q k).1 (inr (h.1, (is k).1 h.0)),
)

-- what `get` tells of a place
pub got : {X : Type 0} (xs : List X) (i : ℕ) (x : X) → true ≡ ltb i (length xs) → x ≡ get_or xs i x → slice_get xs i ≡ Some x
got xs i x inside is = slice_get_read xs (length xs) i x refl (ltb-true i (length xs) (sym inside)) is

pub not_got : {X : Type 0} (xs : List X) (i : ℕ) → false ≡ ltb i (length xs) → length xs ≤ i
not_got xs i outside = ltb-false i (length xs) (sym outside)

-- the list that a vector has, and the first of some lists
pub list_at : (vs : List (Vec ℕ Global)) (i : ℕ) (v : Vec ℕ Global) → i < length vs → v ≡ get_or vs i v → slice_get (as_lists vs) i ≡ Some v.items
list_at = slice_get-map_read (λ (u : Vec ℕ Global). u.items)

-- the front where a walk over the fronts stands, and where it ends
pub front_at : (fs : List (List ℕ)) (vs : List (Vec ℕ Global)) → as_lists vs ≡ fs → (i : ℕ) (v : Vec ℕ Global) → i < length vs → v ≡ get_or vs i v → slice_get fs i ≡ Some v.items
front_at fs vs are i v inside is = subst (λ (ls : List (List ℕ)). slice_get ls i ≡ Some v.items) are (list_at vs i v inside is)

pub fronts_end : (fs : List (List ℕ)) (vs : List (Vec ℕ Global)) → as_lists vs ≡ fs → (i : ℕ) → length vs ≤ i → length fs ≤ i
fronts_end fs vs are i past = let many = ap length are in let same = length-map vs (λ v. v.items) in omega (arith, many, same, past)

pub lists_more : (vs : List (Vec ℕ Global)) (i : ℕ) (v : Vec ℕ Global) → i < length vs → v ≡ get_or vs i v → as_lists (take (i + 1) vs) ≡ as_lists (take i vs) ++ v.items ∷ []
lists_more = map-take_read (λ (u : Vec ℕ Global). u.items)

-- zeros up to a place
pub zeros_more : (list : List ℕ) (i : ℕ) → i < length list → get_or list i 0 ≡ 0 → AreZeros (take i list) → AreZeros (take (i + 1) list)
zeros_more list i inside here front q h =
    ⊎_elim (λ k. front q k) (λ k. ⊎_elim (λ e. e ∙ here) (λ f. absurd f) k) (among_either q (take i list) (get_or list i 0 ∷ []) (subst (IsAmong q) (take_more list i 0 inside) h))

pub zeros_all : (list : List ℕ) (i : ℕ) → length list ≤ i → AreZeros (take i list) → AreZeros list
zeros_all list i past front = subst AreZeros (take_all i list past) front

-- the states of a batch at a place of its front
pub states_in_front : (b : Batch) (place state : ℕ) (r : NumberRelation) → slice_get b.front place ≡ Some state
    → ((q k : ℕ) → Relates r q k ↔ ((k < length b.tails) × (q ≡ state))) → AreStatesAt b place r
states_in_front b place state r at is q k =
    let here = slice_get-append_left b.front (get_or b.tails k []) place (slice_get_within b.front place state at) ∙ at in (
      λ h. let g = (is q k).0 h in (g.0, here ∙ ap Some (sym g.1)),
      λ h. (is q k).1 (h.0, same_Some q state (sym h.1 ∙ here)),
    )

-- and behind it
pub states_behind : (b : Batch) (place : ℕ) (r : NumberRelation) → AreStatesIn b.tails place r → AreStatesAt b (length b.front + place) r
states_behind b place r is q k =
    let there = slice_get-append_right b.front (get_or b.tails k []) place in (
      λ h.
          let (list, at, has) = (is q k).0 h in
          let low = slice_get_within b.tails k list at in
          (low, there ∙ ap (λ (l : List ℕ). slice_get l place) (get_or_from_slice_get b.tails k list [] at) ∙ has),
      λ (low, e). (is q k).1 (get_or b.tails k [], slice_get-get_or b.tails k [] low, sym there ∙ e),
    )

pub other_name : (x y c r : ℕ) → (y ≡ x → ⊥) → (if nat_eq x y then c else r) ≡ r
other_name x y c r ne = rw (ne_eqb x y (λ e. ne (sym e))) refl

same_name : (x y c r : ℕ) → y ≡ x → (if nat_eq x y then c else r) ≡ c
same_name x y c r e = rw (eq-eqb x y (sym e)) refl

-- the state of a name is that at its first place, or 0
pub found_state : (names cs : List ℕ) (x i : ℕ) → i < length cs → i < length names → get_or names i 0 ≡ x → ((k : ℕ) → k < i → get_or names k 0 ≢ x)
    → slice_get cs i ≡ Some (state_of names cs x)
found_state [] cs x i long h e before = absurd (omega arith)
found_state (y ∷ ys) [] x i long h e before = absurd (omega arith)
found_state (y ∷ ys) (c ∷ cs) x zero long h e before = ap Some (sym (same_name x y c (state_of ys cs x) e))
found_state (y ∷ ys) (c ∷ cs) x (suc i) long h e before =
    found_state ys cs x i (omega arith) (omega arith) e (λ k l. before (suc k) (omega arith)) ∙ ap Some (sym (other_name x y c (state_of ys cs x) (before 0 (omega arith))))

pub absent_state : (names cs : List ℕ) (x : ℕ) → ((k : ℕ) → k < length names → get_or names k 0 ≢ x) → state_of names cs x ≡ 0
absent_state [] cs x none = refl
absent_state (y ∷ ys) [] x none = refl
absent_state (y ∷ ys) (c ∷ cs) x none =
    other_name x y c (state_of ys cs x) (none 0 (omega arith)) ∙ absent_state ys cs x (λ k h. none (suc k) (omega arith))

-- the states of a variable
pub states_found : (b : Batch) (names : List ℕ) (x place : ℕ) (r : NumberRelation) → IsFirstPlace names x (Some place) → ((k : ℕ) → Holds b k → place < length (choice_of b k))
    → AreStatesAt b place r → (q k : ℕ) → Relates r q k ↔ (Holds b k × (q ≡ state_of names (choice_of b k) x))
states_found b names x place r first within is q k = (
  λ h.
      let g = (is q k).0 h in
      let here = found_state names (choice_of b k) x place (within k g.0) first.0 first.1 first.2 in
      (g.0, same_Some q (state_of names (choice_of b k) x) (sym g.1 ∙ here)),
  λ (holds, e). let here = found_state names (choice_of b k) x place (within k holds) first.0 first.1 first.2 in (is q k).1 (holds, here ∙ ap Some (sym e)),
)

pub states_absent : (b : Batch) (names : List ℕ) (x : ℕ) (r : NumberRelation) → IsFirstPlace names x None
    → ((q k : ℕ) → Relates r q k ↔ (Holds b k × (q ≡ 0))) → (q k : ℕ) → Relates r q k ↔ (Holds b k × (q ≡ state_of names (choice_of b k) x))
states_absent b names x r none is q k =
    let zero = absent_state names (choice_of b k) x none in (
      λ h. let g = (is q k).0 h in (g.0, g.1 ∙ sym zero),
      λ g. (is q k).1 (g.0, g.1 ∙ zero),
    )

-- where there is no other state than 0, each name has it
only_zero : (names cs : List ℕ) (x : ℕ) → AreZeros cs → state_of names cs x ≡ 0
only_zero [] cs x all = refl
only_zero (y ∷ ys) [] x all = refl
only_zero (y ∷ ys) (c ∷ cs) x all = either (nat_eq x y) (all c (inl refl)) (only_zero ys cs x (λ q i. all q (inr i)))
  where
    either : (b : Bool) → c ≡ 0 → state_of ys cs x ≡ 0 → (if b then c else state_of ys cs x) ≡ 0
    either true e f = e
    either false e f = f

pub states_alone : (b : Batch) (names : List ℕ) (x : ℕ) (r : NumberRelation) → b.front ≡ [] → ((list : List ℕ) → IsAmong list b.tails → AreZeros list)
    → ((q k : ℕ) → Relates r q k ↔ (Holds b k × (q ≡ 0)))
    → (q k : ℕ) → Relates r q k ↔ (Holds b k × (q ≡ state_of names (choice_of b k) x))
states_alone b names x r front all zeros q k = (
  λ h. let z = (zeros q k).0 h in (z.0, z.1 ∙ sym (none z.0)),
  λ (holds, e). (zeros q k).1 (holds, e ∙ none holds),
)
  where
    none : Holds b k → state_of names (choice_of b k) x ≡ 0
    none holds =
        ap (λ (l : List ℕ). state_of names (l ++ get_or b.tails k []) x) front
        ∙ only_zero names (get_or b.tails k []) x (all (get_or b.tails k []) (place_among b.tails k (get_or b.tails k []) (slice_get-get_or b.tails k [] holds)))
