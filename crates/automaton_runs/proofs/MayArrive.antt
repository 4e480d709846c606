-- Fronts of choices by which a term may arrive: what is left out has no arrival.
use Rattle.std.proofs.Common.{◌≡◌, ◌↔◌, ◌⊎◌, inl, inr, ⊎_elim, ℕ, zero, suc, ◌+◌, ◌-◌, ◌<◌, ◌≤◌, List, [], ◌∷◌, ◌++◌, length, get_or, AllPairs, Some, slice_get, Vec, Global, refl}
use Rattle.std.proofs.Common.{ap, sym, subst, ◌∙◌, length-append, arith}
use Rattle.std.specs.List.{AllZip}
use Rattle.std.proofs.lemmas.Bool.{cases_lt}
use Rattle.std.proofs.lemmas.Option.{slice_get_within, slice_get-get_or, same_Some}
use Rattle.std.proofs.lemmas.List.{get_or_append_left, get_or-append-add}
use Rattle.general_lemmas.proofs.Places.{slice_get-append_left, slice_get-append_right}
use Rattle.rewriting.specs.Terms as math
use Rattle.rewriting.specs.Prelude.{IsBefore, IsAmong}
use Rattle.automata.specs.Runs.{Reach}
use Rattle.term_core.specs.View.{view, views}
use Rattle.term_core.specs.declared.terms.Term.{Term, Var, Fun}
use Rattle.term_core.proofs.Views.{view-Var, view-Fun}
use Rattle.rewriting.proofs.Lists.{among_either, among_left, among_right}
use Rattle.number_sets.specs.Relation.{row_of, Relates}
use Rattle.number_sets.specs.declared.rows.NumberRelation.{NumberRelation}
use Rattle.automaton_runs.specs.Counted.{Indexed, Finds}
use Rattle.automaton_runs.specs.Choices.{AreOf, choices_of}
use Rattle.automaton_runs.specs.Leaves.{AreAllStatesIn}
use Rattle.automaton_runs.specs.Linear.{linear}
use Rattle.automaton_runs.specs.Possible.{IsAnywhere, MayHave, MayReach, ArePossible, AreChosen, AreFronts}
use Rattle.automaton_runs.specs.Reached.{IsOneOf, IsReachedFrom}
use Rattle.automaton_runs.proofs.NumberedLeaves.{AreGiven, linear_reach}
use Rattle.automaton_runs.proofs.Evaluated.{reach_related}
use Rattle.automaton_runs.proofs.Shared.{one_of_all}
use Rattle.rewriting.proofs.Members.{among_place, at_place, place_among}
use Rattle.automaton_runs.proofs.ChoiceLists.{in_choices, of_choices, of_long, ordered_choices, pair_at}
use Rattle.automaton_runs.proofs.Ordered.{IsOrdered, ordered_append, pairs_from_ordered}

-- one more state with all numbers
pub anywhere_more : (all qs : List ℕ) (q : ℕ) (more : List ℕ) (old new : NumberRelation) → more ≡ qs ++ q ∷ [] → IsAnywhere all qs old
    → ((p k : ℕ) → Relates new p k ↔ (Relates old p k ⊎ ((p ≡ q) × IsAmong k all))) → IsAnywhere all more new
anywhere_more all qs q more old new is front put p k i n =
    (put p k).1
    (⊎_elim (λ h. inl (front p k h n)) (λ h. inr (⊎_elim (λ e. e) (λ f. absurd f) h, n)) (among_either p qs (q ∷ []) (subst (IsAmong p) is i)))

-- what the rows up to one have
pub rights_more : (r : NumberRelation) (left : ℕ) (row old new : List ℕ) → row ≡ row_of r left → ((q : ℕ) → IsAmong q new ↔ (IsAmong q old ⊎ IsAmong q row))
    → ((p q : ℕ) → p < left → Relates r p q → IsAmong q old) → (p q : ℕ) → p < left + 1 → Relates r p q → IsAmong q new
rights_more r left row old new is made had p q l h =
    ⊎_elim (λ (low : p < left). (made q).1 (inl (had p q low h)))
    (λ (high : left ≤ p). let same : p ≡ left = omega arith in (made q).1 (inr (subst (IsAmong q) (sym is) (subst (λ (s : ℕ). IsAmong q (row_of r s)) same h))))
    (cases_lt p left)

pub rights_none : (r : NumberRelation) (left : ℕ) (set : List ℕ) → [] ≡ row_of r left → ((p q : ℕ) → p < left → Relates r p q → IsAmong q set) → (p q : ℕ) → p < left + 1
    → Relates r p q → IsAmong q set
rights_none r left set is had p q l h =
    ⊎_elim (λ (low : p < left). had p q low h)
    (λ (high : left ≤ p). let same : p ≡ left = omega arith in absurd (subst (IsAmong q) (sym is) (subst (λ (s : ℕ). IsAmong q (row_of r s)) same h)))
    (cases_lt p left)

-- the element beside one
beside : {X Y : Type 0} (R : X → Y → Type 0) (xs : List X) (ys : List Y) (m : ℕ) (y : Y) → AllZip R xs ys → slice_get ys m ≡ Some y → (x : X) × (slice_get xs m ≡ Some x) × R x y
beside R [] [] m y z e = absurd (cc)
beside R [] (v ∷ ys) m y z e = absurd z
beside R (u ∷ xs) [] m y z e = absurd z
beside {Y = Y} R (u ∷ xs) (v ∷ ys) zero y z e = (u, refl, subst (λ (w : Y). R u w) (same_Some v y e) z.0)
beside R (u ∷ xs) (v ∷ ys) (suc m) y z e = beside R xs ys m y z.1 e

-- the other way round
facing : {X Y : Type 0} (R : X → Y → Type 0) (xs : List X) (ys : List Y) (m : ℕ) (x : X) → AllZip R xs ys → slice_get xs m ≡ Some x → (y : Y) × (slice_get ys m ≡ Some y) × R x y
facing R [] [] m x z e = absurd (cc)
facing R [] (v ∷ ys) m x z e = absurd z
facing R (u ∷ xs) [] m x z e = absurd z
facing {X = X} R (u ∷ xs) (v ∷ ys) zero x z e = (v, refl, subst (λ (w : X). R w v) (same_Some u x e) z.0)
facing R (u ∷ xs) (v ∷ ys) (suc m) x z e = facing R xs ys m x z.1 e

-- the relations give the states of each choice with a front
module _ (fronts pools : List (List ℕ)) (rs made : List NumberRelation) (all : List ℕ) (each : AreAllStatesIn fronts rs) (anywhere : AllZip (IsAnywhere all) pools made) where
  fronts_give : (j : ℕ) (front cs : List ℕ) → slice_get fronts j ≡ Some front → length rs ≡ length front → IsAmong j all → AreOf pools cs → AreGiven (MayHave (rs ++ made) j) 0 (front ++ cs)
  fronts_give j front cs at long number of i h =
      let place : i ≡ 0 + i = omega arith in
      subst (λ (p : ℕ). MayHave (rs ++ made) j p (get_or (front ++ cs) i 0)) place
      (⊎_elim (λ (l : i < length front). in_front i l) (λ (l : length front ≤ i). let m : length rs + (i - length front) ≡ i = omega arith in
      let n : length front + (i - length front) ≡ i = omega arith in
      subst (λ (p : ℕ). MayHave (rs ++ made) j p (get_or (front ++ cs) i 0)) m (subst (λ (p : ℕ). MayHave (rs ++ made) j (length rs + (i - length front)) (get_or (front ++ cs) p 0)) n
      (behind (i - length front) (omega (arith, length-append front cs))))) (cases_lt i (length front)))
    where
      in_front : (i : ℕ) → i < length front → MayHave (rs ++ made) j i (get_or (front ++ cs) i 0)
      in_front i l =
          let r = at_place rs i (omega arith) in
          let state : slice_get front i ≡ Some (get_or (front ++ cs) i 0) = slice_get-get_or front i 0 l ∙ ap Some (sym (get_or_append_left front cs 0 i l)) in
          (r.0, slice_get-append_left rs made i (omega arith) ∙ r.1, (each i r.0 r.1 (get_or (front ++ cs) i 0) j).1 (front, at, state))

      behind : (m : ℕ) → m < length cs → MayHave (rs ++ made) j (length rs + m) (get_or (front ++ cs) (length front + m) 0)
      behind m l =
          let pool = beside (λ qs c. IsAmong c qs) pools cs m (get_or cs m 0) of (slice_get-get_or cs m 0 l) in
          let r = facing (IsAnywhere all) pools made m pool.0 anywhere pool.1 in
          subst (MayHave (rs ++ made) j (length rs + m)) (sym (get_or-append-add front cs m 0)) (r.0, slice_get-append_right rs made m ∙ r.1, r.2 (get_or cs m 0) j pool.2 number)

  pub possible_are : (a : Indexed) (t u : math.Term) (start : ℕ) (places : List NumberRelation) (r : NumberRelation) (set : List ℕ) → places ≡ rs ++ made → u ≡ linear 0 t
      → length rs ≡ start → ((k : ℕ) → IsAmong k all ↔ (k < length fronts))
      → ((front : List ℕ) → IsAmong front fronts → length front ≡ start) → MayReach a all places u r → ((p q : ℕ) → Relates r p q → IsAmong q set) → ArePossible a t fronts pools set
  possible_are a t u start places r set is numbered long numbers alike may rights j q front cs at of reach =
      let within = slice_get_within fronts j front at in
      let number = (numbers j).1 within in
      let same : length rs ≡ length front = long ∙ sym (alike front (place_among fronts j front at)) in
      let linked = linear_reach (MayHave (rs ++ made) j) (Finds a) 0 t (front ++ cs) q (fronts_give j front cs at same number of) reach in
      rights q j (may q j number (subst (λ (l : List NumberRelation). Reach (Finds a) (MayHave l j) u q) (sym is)
      (subst (λ (w : math.Term). Reach (Finds a) (MayHave (rs ++ made) j) w q) (sym numbered) linked)))

-- lists that are chosen by their numbers
pub record AreChosenBelow (lists : List (List ℕ)) (set : List ℕ) (n : ℕ) (made : List (List ℕ)) : Type 0 where
  pub among : (list : List ℕ) → IsAmong list made → (j : ℕ) × (j < n) × (slice_get lists j ≡ Some list)
  pub kept : (j : ℕ) (list : List ℕ) → j < n → slice_get lists j ≡ Some list → IsAmong j set → IsAmong list made
  pub ordered : AllPairs IsBefore lists → IsOrdered IsBefore made

module _ (lists : List (List ℕ)) (set : List ℕ) (n : ℕ) (old : List (List ℕ)) (front : AreChosenBelow lists set n old) where
  pub chosen_more : (list : List ℕ) (new : List (List ℕ)) → slice_get lists n ≡ Some list → new ≡ old ++ list ∷ [] → AreChosenBelow lists set (n + 1) new
  chosen_more list new at is = record {
    among = λ l h. ⊎_elim (λ i. let r = front.among l i in let low = r.1 in (r.0, omega arith, r.2)) (λ i. (n, omega arith, ⊎_elim (λ e. at ∙ ap Some (sym e)) (λ f. absurd f) i))
        (among_either l old (list ∷ []) (subst (IsAmong l) is h));
    kept = λ j l low e i. subst (IsAmong l) (sym is)
        (⊎_elim (λ (h : j < n). among_left l old (list ∷ []) (front.kept j l h e i))
        (λ (h : n ≤ j). let same : j ≡ n = omega arith in among_right l old (list ∷ []) (inl (same_Some l list (sym e ∙ ap (slice_get lists) same ∙ at)))) (cases_lt j n));
    ordered = λ h. subst (IsOrdered IsBefore) (sym is)
        (ordered_append IsBefore old (list ∷ []) (front.ordered h) (λ y f. absurd f, tt)
        (λ x y i k. let r = front.among x i in ⊎_elim (λ e. subst (IsBefore x) (sym e) (pair_at IsBefore lists r.0 n x list h r.1 r.2 at)) (λ f. absurd f) k));
  }

  pub chosen_skip : (IsAmong n set → ⊥) → AreChosenBelow lists set (n + 1) old
  chosen_skip never = record {
    among = λ l h. let r = front.among l h in let low = r.1 in (r.0, omega arith, r.2);
    kept = λ j l low e i. ⊎_elim (λ (h : j < n). front.kept j l h e i) (λ (h : n ≤ j). let same : j ≡ n = omega arith in absurd (never (subst (λ (k : ℕ). IsAmong k set) same i))) (cases_lt j n);
    ordered = front.ordered;
  }

pub chosen_all : (lists : List (List ℕ)) (set : List ℕ) (n : ℕ) (made : List (List ℕ)) → AreChosenBelow lists set n made → length lists ≤ n → AreChosen lists set made
chosen_all lists set n made h past = record {
  among = λ l i. let r = h.among l i in place_among lists r.0 l r.2;
  kept = λ j l e i. let low = slice_get_within lists j l e in h.kept j l (omega arith) e i;
  ordered = λ o. pairs_from_ordered IsBefore made (h.ordered o);
}

-- all choices of the first pools are fronts, and so are those of them that are possible
module _ (a : Indexed) (t : math.Term) (firsts others all : List (List ℕ)) (is : all ≡ choices_of firsts) where
  front_of : (front : List ℕ) → IsAmong front all → AreOf firsts front
  front_of front i = of_choices firsts front (subst (λ (l : List (List ℕ)). IsAmong front l) is i)

  pub all_fronts : AreFronts a t firsts others all
  all_fronts = record {
    among = front_of;
    complete = λ front cs q of rest h. subst (λ (l : List (List ℕ)). IsAmong front l) (sym is) (in_choices firsts front of);
    ordered = λ up. subst (AllPairs IsBefore) (sym is) (pairs_from_ordered IsBefore (choices_of firsts) (ordered_choices firsts up));
  }

  pub front_long : (front : List ℕ) → IsAmong front all → length front ≡ length firsts
  front_long front i = of_long firsts front (front_of front i)

  pub chosen_fronts : (set : List ℕ) (fronts : List (List ℕ)) → ArePossible a t all others set → AreChosen all set fronts → AreFronts a t firsts others fronts
  chosen_fronts set fronts possible chosen = record {
    among = λ front i. front_of front (chosen.among front i);
    complete = λ front cs q of rest h. let j = among_place front all (all_fronts.complete front cs q of rest h) in chosen.kept j.0 front j.1 (possible j.0 q front cs j.1 rest h);
    ordered = λ up. chosen.ordered (all_fronts.ordered up);
  }

module _ (a : Indexed) (all : List ℕ) (places : List NumberRelation) where
  pub may_symbol : (t : Term) (f : ℕ) (v : Vec Term Global) (ts : List Term) (made : List NumberRelation) (r : NumberRelation) → t ≡ Fun f v → ts ≡ v.items
      → AllZip (λ t r. MayReach a all places (view t) r) ts made
      → ((q k : ℕ) → Relates r q k ↔ (IsOneOf made all k × IsReachedFrom a f made q k)) → MayReach a all places (view t) r
  may_symbol t f v ts made r is items z from q k i h =
      let shown : view t ≡ math.app f (views ts) = ap view is ∙ view-Fun f v ∙ ap (λ (l : List Term). math.app f (views l)) (sym items) in
      let p = subst (λ (u : math.Term). Reach (Finds a) (MayHave places k) u q) shown h in
      (from q k).1 (one_of_all made all k i, (p.0, p.1, reach_related (Finds a) (MayHave places k) (λ t r. MayReach a all places (view t) r) k (λ t r q m h. m q k i h) ts made p.0 z p.2))

  pub may_variable : (t : Term) (x : ℕ) (s : NumberRelation) → t ≡ Var x → ((r : NumberRelation) → slice_get places x ≡ Some r → (q k : ℕ) → Relates r q k → Relates s q k)
      → MayReach a all places (view t) s
  may_variable t x s is copied q k i h =
      let shown : view t ≡ math.var x = ap view is ∙ view-Var x in
      let (r, at, has) = subst (λ (u : math.Term). Reach (Finds a) (MayHave places k) u q) shown h in
      copied r at q k has
