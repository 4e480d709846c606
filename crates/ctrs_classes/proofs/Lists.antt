-- The walks over lists of variables.
use Rattle.std.proofs.Common.{ℕ, suc, ◌≡◌, ◌+◌, ◌≤◌, ◌-◌, Bool, true, false, ◌||◌, nat_lt, List, [], ◌∷◌, ◌++◌, length, get_or, take, drop, Option, None, Some, refl, sym, ap, ◌∙◌}
use Rattle.std.proofs.Common.{arith, Result, Ok, Err}
use Rattle.std.proofs.lemmas.List.{length-append}
use Rattle.std.proofs.Math.Bool.{or_assoc}
use Rattle.term_core.specs.declared.terms.Term.{Term}
use Rattle.term_core.specs.View.{view, views}
use Rattle.term_core.proofs.Views.{rest_of}
use Rattle.rewriting.specs.Variables.{variable_occurrences, variable_occurrences_of}
use Rattle.ctrs_classes.specs.Walks.{first_some, first_where, first_seen, any_where, SeenAnswers}

cons_seen : (n : ℕ) (x : ℕ) (xs ys : List ℕ) (b : Bool) → nat_lt x n ≡ b → first_seen (n + 1) (xs ++ ys) ≡ first_some (first_seen (n + 1) xs) (first_seen (n + 1 + length xs) ys)
    → first_seen n (x ∷ xs ++ ys) ≡ first_some (first_seen n (x ∷ xs)) (first_seen (n + length (x ∷ xs)) ys)
cons_seen n x xs ys true e h = rw e refl
cons_seen n x xs ys false e h = rw e (h ∙ (let k : n + 1 + length xs ≡ n + suc (length xs) = omega arith in ap (λ j. first_some (first_seen (n + 1) xs) (first_seen j ys)) k))

first_seen-append : (n : ℕ) (xs ys : List ℕ) → first_seen n (xs ++ ys) ≡ first_some (first_seen n xs) (first_seen (n + length xs) ys)
first_seen-append n [] ys = let e : n ≡ n + 0 = omega arith in ap (λ k. first_seen k ys) e
first_seen-append n (x ∷ xs) ys = cons_seen n x xs ys (nat_lt x n) refl (first_seen-append (n + 1) xs ys)

cons_where : (test : ℕ → Bool) (x : ℕ) (xs ys : List ℕ) (b : Bool) → test x ≡ b → first_where test (xs ++ ys) ≡ first_some (first_where test xs) (first_where test ys)
    → first_where test (x ∷ xs ++ ys) ≡ first_some (first_where test (x ∷ xs)) (first_where test ys)
cons_where test x xs ys true e h = rw e refl
cons_where test x xs ys false e h = rw e h

pub first_where-append : (test : ℕ → Bool) (xs ys : List ℕ) → first_where test (xs ++ ys) ≡ first_some (first_where test xs) (first_where test ys)
first_where-append test [] ys = refl
first_where-append test (x ∷ xs) ys = cons_where test x xs ys (test x) refl (first_where-append test xs ys)

-- the first argument and the others
pub leaves_split : (args : List Term) (first : Term) → 1 ≤ length args → first ≡ get_or args 0 first
    → variable_occurrences_of (views args) ≡ variable_occurrences (view first) ++ variable_occurrences_of (views (take (length args - 1) (drop 1 args)))
leaves_split [] first h e = absurd (omega arith)
leaves_split (t ∷ ts) first h e = let rest : take (length (t ∷ ts) - 1) (drop 1 (t ∷ ts)) ≡ ts = rest_of 1 (t ∷ ts) in rw (e, rest) refl

abbrev others : List Term → List ℕ
others args = variable_occurrences_of (views (take (length args - 1) (drop 1 args)))

module _ (args : List Term) (first : Term) (some : 1 ≤ length args) (is : first ≡ get_or args 0 first) where
  seen : (n : ℕ) → first_seen n (variable_occurrences_of (views args)) ≡ first_some (first_seen n (variable_occurrences (view first)))
      (first_seen (n + length (variable_occurrences (view first))) (others args))
  seen n = ap (first_seen n) (leaves_split args first some is) ∙ first_seen-append n (variable_occurrences (view first)) (others args)

  pub seen_in_first : (n x : ℕ) → first_seen n (variable_occurrences (view first)) ≡ Some x → first_seen n (variable_occurrences_of (views args)) ≡ Some x
  seen_in_first n x e = seen n ∙ ap (λ o. first_some o (first_seen (n + length (variable_occurrences (view first))) (others args))) e

  pub seen_in_rest : (n m : ℕ) (r : Result ℕ ℕ) → SeenAnswers n (variable_occurrences (view first)) (Ok m) → SeenAnswers m (others args) r → SeenAnswers n (variable_occurrences_of (views args)) r
  seen_in_rest n m (Ok k) (e, at) (h, end) = (
    seen n ∙ ap (λ o. first_some o (first_seen (n + length (variable_occurrences (view first))) (others args))) e ∙ ap (λ j. first_seen j (others args)) (sym at) ∙ h,
    (let size : length (variable_occurrences_of (views args)) ≡ length (variable_occurrences (view first)) + length (others args) = ap length (leaves_split args first some is)
        ∙ length-append (variable_occurrences (view first)) (others args) in
        omega (arith, at, end, size)),
  )
  seen_in_rest n m (Err x) (e, at) h =
      seen n ∙ ap (λ o. first_some o (first_seen (n + length (variable_occurrences (view first))) (others args))) e ∙ ap (λ j. first_seen j (others args)) (sym at) ∙ h

  pub where_in_first : (test : ℕ → Bool) (x : ℕ) → Some x ≡ first_where test (variable_occurrences (view first)) → Some x ≡ first_where test (variable_occurrences_of (views args))
  where_in_first test x e =
      sym (ap (first_where test) (leaves_split args first some is) ∙ first_where-append test (variable_occurrences (view first)) (others args)
      ∙ ap (λ o. first_some o (first_where test (others args))) (sym e))

  pub where_in_rest : (test : ℕ → Bool) (o : Option ℕ) → None ≡ first_where test (variable_occurrences (view first)) → o ≡ first_where test (others args)
      → o ≡ first_where test (variable_occurrences_of (views args))
  where_in_rest test o e h =
      h ∙ sym (ap (first_where test) (leaves_split args first some is) ∙ first_where-append test (variable_occurrences (view first)) (others args)
      ∙ ap (λ p. first_some p (first_where test (others args))) (sym e))

pub any_append : (test : ℕ → Bool) (xs ys : List ℕ) → any_where test (xs ++ ys) ≡ (any_where test xs || any_where test ys)
any_append test [] ys = refl
any_append test (x ∷ xs) ys = ap (λ b. test x || b) (any_append test xs ys) ∙ sym (or_assoc (test x) (any_where test xs) (any_where test ys))
