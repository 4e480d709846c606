-- The tries counted; a try gives one step at most.
use Rattle.std.proofs.Common.{ℕ, suc, ◌≡◌, List, [], ◌∷◌, map, length, refl, sym, ap, ◌∙◌, subst, arith}
use Rattle.std.specs.List.{range_with_len}
use Rattle.std.proofs.lemmas.List.FromFn.{length-range_with_len}
use Rattle.std.proofs.lemmas.List.{length-map}
use Rattle.rewriting.specs.Rules.{Condition, Rule, System, rule_at}
use Rattle.rewriting.proofs.Once.{same_some}
use Rattle.first_found.specs.Items.{cost_of, one}
use Rattle.first_found.proofs.Items.{cost_append, first_within, cost_of_ones}
use Rattle.search_spaces.specs.Refuting.{Tries, try_growth, refutings}
use Rattle.search_spaces.proofs.Entries.{tries_once}
use Rattle.certificates.specs.Certificates.{Simplification, dropped}
use Rattle.simplifications.specs.Simplifying.{Simplifies}
use Rattle.simplifications.proofs.OneAnswer.{step_once}
use Rattle.simplified_spaces.specs.Tries.{Try, try_drop, try_inline, Offers, GivesStep, tries_of, tries_from, tries, count_of, try_count}
use Rattle.simplified_spaces.specs.Laws.{TriesAreCounted, StepsAreWithinTries}

counted_rule : (i : ℕ) (cs : List Condition) → cost_of one (tries_of i cs) ≡ count_of cs
counted_rule i [] = refl
counted_rule i (c ∷ cs) =
    let n : ℕ = length (c ∷ cs) in
    let drops : List Try = map (try_drop i) (refutings n) in
    let inlines : List Try = map (try_inline i) (range_with_len 1 n) in
    let all = cost_append one drops inlines in
    let a = cost_of_ones drops in
    let b = cost_of_ones inlines in
    let d : length drops ≡ suc (length (map try_growth (range_with_len 1 n))) = length-map (refutings n) (try_drop i) in
    let e : length (map try_growth (range_with_len 1 n)) ≡ length (range_with_len 1 n) = length-map (range_with_len 1 n) try_growth in
    let f : length inlines ≡ length (range_with_len 1 n) = length-map (range_with_len 1 n) (try_inline i) in
    let g = length-range_with_len 1 n in
    omega (arith, all, a, b, d, e, f, g)

counted_from : (i : ℕ) (rs : List Rule) → cost_of one (tries_from i rs) ≡ cost_of try_count rs
counted_from i [] = refl
counted_from i (r ∷ rs) =
    let all = cost_append one (tries_of i r.conditions) (tries_from (suc i) rs) in
    let first = counted_rule i r.conditions in
    let rest = counted_from (suc i) rs in
    omega (arith, all, first, rest)

pub counted : TriesAreCounted
counted sys = counted_from 1 sys.rules

pub steps_within : StepsAreWithinTries
steps_within sys next s n f = let most = first_within (GivesStep sys) one (tries sys) (s, next) n f in let all = counted sys in omega (arith, most, all)

-- one step, and one system
pub offers_once : (sys : System) (t : Try) (a b : Simplification) → Offers sys t a → Offers sys t b → a ≡ b
offers_once sys (try_drop i item) a b (r, e, is, h, x) (q, f, at, k, y) =
    let same = same_some (rule_at sys i) q r at is in
    x ∙ ap (dropped i) (tries_once sys r.conditions item e f h (subst (λ z. Tries sys z.conditions item f) same k)) ∙ sym y
offers_once sys (try_inline i k) a b h g = h ∙ sym g

pub gives_once : (sys : System) (t : Try) (a b : Simplification) (p q : System) → GivesStep sys t (a, p) → GivesStep sys t (b, q) → (a ≡ b) × (p ≡ q)
gives_once sys t a b p q h g =
    let same = offers_once sys t a b h.0 g.0 in
    (same, step_once sys b p q (subst (λ z. Simplifies sys z p) same h.1) g.1)
