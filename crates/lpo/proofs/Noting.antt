-- The lists of rules by symbol, number by number.
use Rattle.std.proofs.Common.{◌≡◌, ◌+◌, ◌<◌, ◌≤◌, ◌⊎◌, inl, inr, false, ℕ, List, [], ◌∷◌, ◌++◌, length, set, get_or, slice_get, Some, Vec, Global, sym, ap, ◌∙◌, subst, arith}
use Rattle.std.proofs.lemmas.Bool.{cases_lt, cases_eq}
use Rattle.std.proofs.lemmas.List.{length-set}
use Rattle.std.proofs.lemmas.Option.{slice_get_within}
use Rattle.rewriting.specs.Prelude.{IsAmong, app}
use Rattle.rewriting.specs.Rules as math
use Rattle.rewriting.proofs.Lists.{among_left, among_either, among_middle}
use Rattle.rewriting.proofs.Members.{among_place}
use Rattle.unravel.specs.Listed.{listed}
use Rattle.unravel.proofs.NumberLists.{there, elsewhere}
use Rattle.lpo.specs.Rules.{is_dead_at}
use Rattle.term_core.specs.View.{view, views}
use Rattle.term_core.proofs.Views.{view-Fun}
use Rattle.term_core.specs.declared.terms.Term as code
use Rattle.term_core.specs.declared.terms.Term.TheVariants.{Fun}
use Rattle.lpo.proofs.Steps.{behind_first, views_split}
use Rattle.lpo.specs.Listed.{HasSymbol, HaveSymbol, OccursAt, IsNoted, AreListed, ListedAnswers}

module _ (number : ℕ) where
  pub noted_last : (lists : List (Vec ℕ Global)) (s : ℕ) (b v : Vec ℕ Global) → s < length lists → v.items ≡ (get_or lists s b).items ++ number ∷ [] → IsNoted number (λ f. f ≡ s) lists (set lists s v)
  noted_last lists s b v lt e =
      record {
        as_many = length-set lists s v;
        kept = λ f n i. kept f n i (cases_eq f s);
        only = λ f n i. only f n i (cases_eq f s);
        noted = λ f inside same. subst (λ k. IsAmong number (listed (set lists s v) k)) (sym same) (subst (IsAmong number) (sym here) (among_middle number (listed lists s) []));
      }
    where
      here : listed (set lists s v) s ≡ listed lists s ++ number ∷ []
      here = there lists s b v (number ∷ []) lt e

      kept : (f n : ℕ) → IsAmong n (listed lists f) → (f ≡ s) ⊎ (f ≡ s → ⊥) → IsAmong n (listed (set lists s v) f)
      kept f n i (inl same) =
          subst (λ k. IsAmong n (listed (set lists s v) k)) (sym same) (subst (IsAmong n) (sym here) (among_left n (listed lists s) (number ∷ []) (subst (λ k. IsAmong n (listed lists k)) same i)))
      kept f n i (inr other) = subst (IsAmong n) (sym (elsewhere lists s f v other)) i

      only : (f n : ℕ) → IsAmong n (listed (set lists s v) f) → (f ≡ s) ⊎ (f ≡ s → ⊥) → IsAmong n (listed lists f) ⊎ ((n ≡ number) × (f ≡ s))
      only f n i (inr other) = inl (subst (IsAmong n) (elsewhere lists s f v other) i)
      only f n i (inl same) = go (among_either n (listed lists s) (number ∷ []) (subst (IsAmong n) here (subst (λ k. IsAmong n (listed (set lists s v) k)) same i)))
        where
          go : IsAmong n (listed lists s) ⊎ IsAmong n (number ∷ []) → IsAmong n (listed lists f) ⊎ ((n ≡ number) × (f ≡ s))
          go (inl j) = inl (subst (λ k. IsAmong n (listed lists k)) (sym same) j)
          go (inr (inl is)) = inr (is, same)
          go (inr (inr none)) = absurd none

  pub noted_both : (A B : ℕ → Type 0) (a b c : List (Vec ℕ Global)) → IsNoted number A a b → IsNoted number B b c → IsNoted number (λ f. A f ⊎ B f) a c
  noted_both A B a b c x y =
      record {
        as_many = y.as_many ∙ x.as_many;
        kept = λ f n i. y.kept f n (x.kept f n i);
        only = λ f n i. only f n (y.only f n i);
        noted = noted;
      }
    where
      first : (f n : ℕ) → IsAmong n (listed a f) ⊎ ((n ≡ number) × A f) → IsAmong n (listed a f) ⊎ ((n ≡ number) × (A f ⊎ B f))
      first f n (inl i) = inl i
      first f n (inr (e, h)) = inr (e, inl h)

      only : (f n : ℕ) → IsAmong n (listed b f) ⊎ ((n ≡ number) × B f) → IsAmong n (listed a f) ⊎ ((n ≡ number) × (A f ⊎ B f))
      only f n (inl i) = first f n (x.only f n i)
      only f n (inr (e, h)) = inr (e, inr h)

      noted : (f : ℕ) → f < length a → A f ⊎ B f → IsAmong number (listed c f)
      noted f lt (inl h) = y.kept f number (x.noted f lt h)
      noted f lt (inr h) = y.noted f (let same = x.as_many in omega (arith, lt, same)) h

-- the symbols of a term, and of terms
module _ (number : ℕ) where
  pub noted_symbol : (t : code.Term) (f : ℕ) (args : Vec code.Term Global) (items : List code.Term) (a b c : List (Vec ℕ Global)) → t ≡ Fun f args → items ≡ args.items
      → IsNoted number (λ g. g ≡ f) a b
      → IsNoted number (λ g. HaveSymbol g (views items)) b c → IsNoted number (λ g. HasSymbol g (view t)) a c
  noted_symbol t f args items a b c is same x y =
      let shown : view t ≡ app f (views items) = ap view is ∙ (view-Fun f args ∙ ap (λ (z : List code.Term). app f (views z)) (sym same)) in
      subst (λ z. IsNoted number (λ g. HasSymbol g z) a c) (sym shown) (noted_both number (λ g. g ≡ f) (λ g. HaveSymbol g (views items)) a b c x y)

  pub noted_argument : (ts : List code.Term) (first : code.Term) (a b c : List (Vec ℕ Global)) → 1 ≤ length ts → first ≡ get_or ts 0 first → IsNoted number (λ g. HasSymbol g (view first)) a b
      → IsNoted number (λ g. HaveSymbol g (views (behind_first ts))) b c → IsNoted number (λ g. HaveSymbol g (views ts)) a c
  noted_argument ts first a b c le is x y =
      subst (λ z. IsNoted number (λ g. HaveSymbol g z) a c) (sym (views_split ts first le is))
      (noted_both number (λ g. HasSymbol g (view first)) (λ g. HaveSymbol g (views (behind_first ts))) a b c x y)

-- one more rule is listed
pub none_listed : (rules : List math.Rule) (lists : List (Vec ℕ Global)) → ((f : ℕ) → listed lists f ≡ []) → AreListed rules 0 lists
none_listed rules lists none = record { only = λ f n i. absurd (subst (IsAmong n) (none f) i); all = λ f n r lt less. absurd (omega (arith, less)) }

pub one_listed : (rules : List math.Rule) (k : ℕ) (r : math.Rule) (a b : List (Vec ℕ Global)) → AreListed rules k a → slice_get rules k ≡ Some r → IsNoted k (λ f. OccursAt f r) a b
    → AreListed rules (k + 1) b
one_listed rules k r a b h is x = record { only = λ f n i. only f n (x.only f n i); all = all }
  where
    only : (f n : ℕ) → IsAmong n (listed a f) ⊎ ((n ≡ k) × OccursAt f r) → (n < k + 1) × ((q : math.Rule) × (slice_get rules n ≡ Some q) × OccursAt f q)
    only f n (inl i) = let old = h.only f n i in let less = old.0 in (omega (arith, less), old.1)
    only f n (inr (e, o)) = (omega (arith, e), (r, ap (slice_get rules) e ∙ is, o))

    all : (f n : ℕ) (q : math.Rule) → f < length b → n < k + 1 → slice_get rules n ≡ Some q → OccursAt f q → IsAmong n (listed b f)
    all f n q lt less at o = go (cases_lt n k)
      where
        inside : f < length a
        inside = let same = x.as_many in omega (arith, lt, same)

        go : (n < k) ⊎ (k ≤ n) → IsAmong n (listed b f)
        go (inl low) = x.kept f n (h.all f n q inside low at o)
        go (inr high) =
            let last : k ≡ n = omega (arith, high, less) in
            let there : slice_get rules k ≡ Some q = subst (λ z. slice_get rules z ≡ Some q) (sym last) at in
            let one : q ≡ r = cc in
            subst (λ z. IsAmong z (listed b f)) last (x.noted f inside (subst (OccursAt f) one o))

-- the rules with the first numbers of a list are not dead
abbrev pub AreAliveSoFar : List ℕ → List math.Rule → List ℕ → ℕ → Type 0
AreAliveSoFar places rs numbers i = (j n : ℕ) (r : math.Rule) → j < i → slice_get numbers j ≡ Some n → slice_get rs n ≡ Some r → is_dead_at places r ≡ false

module _ (places : List ℕ) (rs : List math.Rule) (numbers : List ℕ) where
  pub one_alive : (i n : ℕ) (r : math.Rule) → AreAliveSoFar places rs numbers i → slice_get numbers i ≡ Some n → slice_get rs n ≡ Some r → is_dead_at places r ≡ false
      → AreAliveSoFar places rs numbers (i + 1)
  one_alive i n r before at is alive j m q less there here = go (cases_lt j i)
    where
      go : (j < i) ⊎ (i ≤ j) → is_dead_at places q ≡ false
      go (inl lt) = before j m q lt there here
      go (inr le) =
          let same : i ≡ j = omega (arith, le, less) in
          let last : slice_get numbers j ≡ Some n = subst (λ k. slice_get numbers k ≡ Some n) same at in
          let one : n ≡ m = cc in
          let other : slice_get rs m ≡ Some r = subst (λ k. slice_get rs k ≡ Some r) one is in
          let rule : r ≡ q = cc in
          subst (λ x. is_dead_at places x ≡ false) rule alive

  pub all_alive : (i : ℕ) → AreAliveSoFar places rs numbers i → length numbers ≤ i → ListedAnswers places rs numbers false
  all_alive i before le n r among is =
      let at = among_place n numbers among in
      let within = slice_get_within numbers at.0 n at.1 in before at.0 n r (omega (arith, within, le)) at.1 is
