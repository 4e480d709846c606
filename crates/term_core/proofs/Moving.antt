-- Values that are moved into the arguments of a term, one argument after another.
use Rattle.std.proofs.Common.{◌≡◌, ℕ, zero, suc, ◌+◌, ◌≤◌, ◌<◌, ◌⊎◌, inl, inr, List, [], ◌∷◌, ◌++◌, map, take, length, get_or, refl, ap, ◌∙◌, arith, BTreeSet}
use Rattle.std.proofs.lemmas.Grind.{common_steps}
use Rattle.std.specs.Prelude.{unwrap_or}
use Rattle.std.specs.FinMap.{get}
use Rattle.rewriting.specs.Prelude.{Term, Terms, var, cons, Bindings, apply, values_of, occurrences, occurrences_in}
use Rattle.rewriting.proofs.Instances.{apply-agree}
use Rattle.rewriting.proofs.Variables.{occurs-counted}
use Rattle.term_core.specs.View.{view}
use Rattle.term_core.specs.declared.terms.Term as program
use Rattle.term_core.specs.Noting.{Has, Keeps}

-- all that occurs twice is a repeated variable
abbrev pub HasRepeated : BTreeSet ℕ → Term → Type 0
HasRepeated repeated t = (x : ℕ) → 2 ≤ occurrences x t → Has repeated x

-- the rest of the arguments is still to come: c has the values of b for it
pub record Moving (repeated : BTreeSet ℕ) (whole : Term) (rest : Terms) (b c : Bindings) : Type 0 where
  pub within : (x : ℕ) → occurrences_in x rest ≤ occurrences x whole
  pub coming : (x : ℕ) → 1 ≤ occurrences_in x rest → get c x ≡ get b x
  pub kept : Keeps repeated whole b c

module _ (repeated : BTreeSet ℕ) (whole t : Term) (rest : Terms) (b c : Bindings) (has : HasRepeated repeated whole) (m : Moving repeated whole (cons t rest) b c) where
  pub part_instance : apply (values_of c) t ≡ apply (values_of b) t
  part_instance = apply-agree (values_of c) (values_of b) t (λ x o. ap (λ v. unwrap_or v (var x)) (m.coming x (omega (arith, occurs-counted x t o))))

  pub moved_on : (d : Bindings) → Keeps repeated t c d → Moving repeated whole rest b d
  moved_on d k = record {
    within = λ x. omega (arith, m.within x);
    coming = λ x h. k x (once x h (occurrences x t) refl) ∙ m.coming x (omega (arith, h));
    kept = λ x h. k x (other x h) ∙ m.kept x h;
  }
    where
      once : (x : ℕ) → 1 ≤ occurrences_in x rest → (n : ℕ) → occurrences x t ≡ n → (occurrences x t ≡ 0) ⊎ Has repeated x
      once x h zero e = inl e
      once x h (suc n) e = inr (has x (omega (arith, h, e, m.within x)))

      other : (x : ℕ) → (occurrences x whole ≡ 0) ⊎ Has repeated x → (occurrences x t ≡ 0) ⊎ Has repeated x
      other x (inl e) = inl (omega (arith, e, m.within x))
      other x (inr r) = inr r

-- the instances of some terms, and the one of the next
pub made_on : (f : program.Term → Term) (ts out new : List program.Term) (i : ℕ) (t u : program.Term) → i < length ts → t ≡ get_or ts i t → map view out ≡ map f (take i ts) → new ≡ out ++ u ∷ []
    → view u ≡ f t → map view new ≡ map f (take (i + 1) ts)
made_on f ts out new i t u h is made e k = grind (arith, common_steps)
