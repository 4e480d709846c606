-- Numbers, lists and transitions compared.
use Rattle.std.proofs.Common.{◌≡◌, ℕ, zero, suc, ◌<◌, inl, inr, refl, sym, ap, ap₂, ◌∙◌, subst, List, [], ◌∷◌, map, Option}
use Rattle.std.specs.List.{insert}
use Rattle.std.specs.Ordering.{nat_cmp, ordering_then, MatchOrdering}
use Rattle.std.specs.Cmp.{ranks}
use Rattle.std.specs.Cmp.Lexicographic.{slice_cmp}
use Rattle.std.specs.declared.cmp.Ordering.{Ordering}
use Rattle.std.specs.declared.cmp.Ordering.TheVariants.{Less, Equal, Greater}
use Rattle.rewriting.specs.Positions.{IsBefore}
use Rattle.certificates.specs.Evidence as evidence
use Rattle.cert_model.specs.declared.evidence.Transition.{Transition}
use Rattle.cert_model.specs.EvidenceView.{transition_view}
use Rattle.automata.specs.Growth.{IsTransitionBefore}
use Rattle.automaton_grow.specs.Placing.{CompareAnswers, transition_of}

abbrev Ordered : Ordering → List ℕ → List ℕ → Type 0
Ordered o xs ys = MatchOrdering o (IsBefore xs ys) (xs ≡ ys) (IsBefore ys xs)

ordered_later : (x y : ℕ) (xs ys : List ℕ) (o : Ordering) → x ≡ y → Ordered o xs ys → Ordered o (x ∷ xs) (y ∷ ys)
ordered_later x y xs ys Less e h = inr (e, h)
ordered_later x y xs ys Equal e h = ap₂ (λ a b. a ∷ b) e h
ordered_later x y xs ys Greater e h = inr (sym e, h)

pub ordered : (xs ys : List ℕ) (r : Ordering) → r ≡ slice_cmp nat_cmp xs ys → Ordered r xs ys
ordered [] [] r e = subst (λ z. Ordered z [] []) (sym e) refl
ordered [] (y ∷ ys) r e = subst (λ z. Ordered z [] (y ∷ ys)) (sym e) tt
ordered (x ∷ xs) [] r e = subst (λ z. Ordered z (x ∷ xs) []) (sym e) tt
ordered (x ∷ xs) (y ∷ ys) r e = subst (λ z. Ordered z (x ∷ xs) (y ∷ ys)) (sym e) (go (nat_cmp x y) (ranks x y) (ordered xs ys (slice_cmp nat_cmp xs ys) refl))
  where
    go : (o : Ordering) → MatchOrdering o (x < y) (x ≡ y) (y < x) → Ordered (slice_cmp nat_cmp xs ys) xs ys → Ordered (ordering_then o (slice_cmp nat_cmp xs ys)) (x ∷ xs) (y ∷ ys)
    go Less h rest = inl h
    go Equal h rest = ordered_later x y xs ys (slice_cmp nat_cmp xs ys) h rest
    go Greater h rest = inl h

same_parts : (a : evidence.Transition) (f : Option ℕ) (qs : List ℕ) (q : ℕ) → a.symbol ≡ f → a.arguments ≡ qs → a.target ≡ q → a ≡ transition_of f qs q
same_parts a f qs q d e g = ap (λ z. transition_of z a.arguments a.target) d ∙ ap (λ z. transition_of f z a.target) e ∙ ap (λ z. transition_of f qs z) g

module _ (a : evidence.Transition) (f : Option ℕ) (qs : List ℕ) (q : ℕ) (head : a.symbol ≡ f) where
  pub compared_less : IsBefore a.arguments qs → IsTransitionBefore a (transition_of f qs q)
  compared_less h = inr (head, inl h)

  pub compared_greater : IsBefore qs a.arguments → IsTransitionBefore (transition_of f qs q) a
  compared_greater h = inr (sym head, inl h)

  pub compared_targets : a.arguments ≡ qs → (r : Ordering) → r ≡ nat_cmp a.target q → CompareAnswers a (transition_of f qs q) r
  compared_targets same r e = subst (CompareAnswers a (transition_of f qs q)) (sym e) (go (nat_cmp a.target q) (ranks a.target q))
    where
      go : (o : Ordering) → MatchOrdering o (a.target < q) (a.target ≡ q) (q < a.target) → CompareAnswers a (transition_of f qs q) o
      go Less h = inr (head, inr (same, h))
      go Equal h = same_parts a f qs q head same h
      go Greater h = inr (sym head, inr (sym same, h))

-- views of lists
map_insert : (xs : List Transition) (k : ℕ) (x : Transition) → map transition_view (insert xs k x) ≡ insert (map transition_view xs) k (transition_view x)
map_insert xs zero x = refl
map_insert [] (suc k) x = refl
map_insert (y ∷ xs) (suc k) x = ap (λ z. transition_view y ∷ z) (map_insert xs k x)

pub put_view : (old new : List Transition) (x : Transition) (d : evidence.Transition) (k : ℕ) → new ≡ insert old k x → transition_view x ≡ d
    → map transition_view new ≡ insert (map transition_view old) k d
put_view old new x d k e same = ap (map transition_view) e ∙ map_insert old k x ∙ ap (insert (map transition_view old) k) same
