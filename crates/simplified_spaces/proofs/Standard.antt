-- The standard steps: good, one list, and it cannot be that there are none.
use Rattle.std.proofs.Common.{ℕ, zero, suc, ◌≡◌, ◌+◌, ◌<◌, ◌≤◌, List, [], ◌∷◌, length, refl, sym, ap, ap₂, ◌∙◌, subst, arith}
use Rattle.rewriting.specs.Rules.{System}
use Rattle.first_found.specs.Items.{IsFirst, one}
use Rattle.first_found.proofs.Items.{not_both, first_once, none_of_no_first}
use Rattle.certificates.specs.Certificates.{Simplification}
use Rattle.simplifications.specs.Simplifying.{Simplifies, AllSimplify}
use Rattle.simplifications.specs.Laws.{parts}
use Rattle.simplifications.proofs.Systems.{shrink}
use Rattle.simplified_spaces.specs.Tries.{GivesStep, tries, all_tries}
use Rattle.simplified_spaces.specs.Standard.{AreStandard}
use Rattle.simplified_spaces.specs.Laws.{SystemsHaveStandardSteps}
use Rattle.simplified_spaces.proofs.Tries.{gives_once}

first_good : (sys next : System) (s : Simplification) (n : ℕ) → IsFirst one (GivesStep sys) (tries sys) (s, next) n → Simplifies sys s next
first_good sys next s n f = f.gives.1

pub standard_good : (sys : System) (ss : List Simplification) (last : System) (w : ℕ) → AreStandard sys ss last w → AllSimplify sys ss last
standard_good sys [] last w h = h.1
standard_good sys (s ∷ ss) last w (next, paid, rest, f, h, e) = (next, first_good sys next s paid f, standard_good next ss last rest h)

-- two walks are one
pub record SameWalk (ss ts : List Simplification) (a b : System) (v w : ℕ) : Type 0 where
  pub steps : ss ≡ ts
  pub last : a ≡ b
  pub number : v ≡ w

pub standard_once : (sys : System) (ss ts : List Simplification) (a b : System) (v w : ℕ) → AreStandard sys ss a v → AreStandard sys ts b w → SameWalk ss ts a b v w
standard_once sys [] [] a b v w h g = record { steps = refl; last = h.1 ∙ sym g.1; number = h.2 ∙ sym g.2 }
standard_once sys [] (t ∷ ts) a b v w h (q, paid, rest, f, g, e) = absurd (not_both (GivesStep sys) one (tries sys) (t, q) paid h.0 f)
standard_once sys (s ∷ ss) [] a b v w (p, paid, rest, f, h, e) g = absurd (not_both (GivesStep sys) one (tries sys) (s, p) paid g.0 f)
standard_once sys (s ∷ ss) (t ∷ ts) a b v w (p, m, i, f, h, d) (q, n, j, g, k, e) =
    let first = (first_once (GivesStep sys) one (tries sys) (s, p) (t, q) m n f g).1 in
    let same = gives_once sys first.0 s t p q first.1 first.2 in
    let rest = standard_once q ss ts a b i j (subst (λ z. AreStandard z ss a i) same.1 h) k in
    record { steps = ap₂ (λ x xs. x ∷ xs) same.0 rest.steps; last = rest.last; number = d ∙ ap (λ z. all_tries sys + z) rest.number ∙ sym e }

-- the walk ends, since rules and conditions fall
there : (bound : ℕ) (sys : System) → parts sys < bound → ((ss : List Simplification) (last : System) (w : ℕ) → AreStandard sys ss last w → ⊥) → ⊥
there zero sys less none = omega (arith, less)
there (suc bound) sys less none =
    none [] sys (all_tries sys) (
      none_of_no_first (GivesStep sys) one (tries sys)
          (λ p n f. there bound p.1 (let falls = shrink sys p.1 p.0 (first_good sys p.1 p.0 n f) in omega (arith, falls, less))
          (λ ss last w h. none (p.0 ∷ ss) last (all_tries sys + w) (p.1, n, w, f, h, refl))),
      refl,
      refl,
    )

few_steps : (sys : System) (ss : List Simplification) (last : System) → AllSimplify sys ss last → length ss + parts last ≤ parts sys
few_steps sys [] last e = let same : parts last ≡ parts sys = ap parts e in omega (arith, same)
few_steps sys (s ∷ ss) last (next, h, hs) = let falls = shrink sys next s h in let rest = few_steps next ss last hs in omega (arith, falls, rest)

pub standard_there : SystemsHaveStandardSteps
standard_there sys =
    record {
      good = standard_good sys;
      same_steps = λ ss ts a b v w h g. (standard_once sys ss ts a b v w h g).steps;
      same_last = λ ss ts a b v w h g. (standard_once sys ss ts a b v w h g).last;
      same_number = λ ss ts a b v w h g. (standard_once sys ss ts a b v w h g).number;
      not_none = there (suc (parts sys)) sys (omega arith);
      few = λ ss last w h. few_steps sys ss last (standard_good sys ss last w h);
    }
