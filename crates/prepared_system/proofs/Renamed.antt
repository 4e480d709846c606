-- The rules of a list that are those of a system, renamed, by the numbers of the rules.
use Rattle.std.proofs.Common.{ℕ, zero, suc, ◌≡◌, ◌-◌, ◌<◌, ◌≤◌, List, [], ◌∷◌, map, length, get_or, Some, ap, ◌∙◌, subst, arith, slice_get}
use Rattle.rewriting.specs.Rules.{Rule, System, rule_at}
use Rattle.term_core.specs.RuleView.{rule_view}
use Rattle.term_core.specs.declared.systems.Rule as Program

renamed_at : (f : Rule → Rule) (xs : List Program.Rule) (rs : List Rule) (k : ℕ) (x : Program.Rule) (r : Rule) → map rule_view xs ≡ map f rs → slice_get rs k ≡ Some r
    → x ≡ get_or xs k x → rule_view x ≡ f r
renamed_at f xs [] k x r e h g = absurd (cc)
renamed_at f [] (q ∷ rs) k x r e h g = absurd (cc)
renamed_at f (y ∷ xs) (q ∷ rs) zero x r e h g = (let a : rule_view y ≡ f q = cc in let b : q ≡ r = cc in ap rule_view g ∙ (a ∙ ap f b))
renamed_at f (y ∷ xs) (q ∷ rs) (suc k) x r e h g = (let rest : map rule_view xs ≡ map f rs = cc in renamed_at f xs rs k x r rest h g)

place_within : (f : Rule → Rule) (xs : List Program.Rule) (rs : List Rule) (k : ℕ) (r : Rule) → map rule_view xs ≡ map f rs → slice_get rs k ≡ Some r → k < length xs
place_within f xs [] k r e h = absurd (cc)
place_within f [] (q ∷ rs) k r e h = absurd (cc)
place_within f (y ∷ xs) (q ∷ rs) zero r e h = omega arith
place_within f (y ∷ xs) (q ∷ rs) (suc k) r e h = (let rest : map rule_view xs ≡ map f rs = cc in let l = place_within f xs rs k r rest h in omega (arith, l))

-- the renamed rule behind a number
pub renamed_rule : (sys : System) (f : Rule → Rule) (xs : List Program.Rule) (i : ℕ) (x : Program.Rule) (r : Rule) → map rule_view xs ≡ map f sys.rules → rule_at sys i ≡ Some r
    → x ≡ get_or xs (i - 1) x → rule_view x ≡ f r
renamed_rule sys f xs zero x r e h g = absurd (cc)
renamed_rule sys f xs (suc i) x r e h g = let one : suc i - 1 ≡ i = omega arith in renamed_at f xs sys.rules i x r e h (subst (λ z. x ≡ get_or xs z x) one g)

-- is there
pub number_within : (sys : System) (f : Rule → Rule) (xs : List Program.Rule) (i : ℕ) (r : Rule) → map rule_view xs ≡ map f sys.rules → rule_at sys i ≡ Some r → (1 ≤ i) × (i - 1 < length xs)
number_within sys f xs zero r e h = absurd (cc)
number_within sys f xs (suc i) r e h = (let k = place_within f xs sys.rules i r e h in (omega arith, omega (arith, k)))
