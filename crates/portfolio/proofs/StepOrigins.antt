-- The rules that steps leave as they are keep their numbers in the first system.
use Rattle.std.proofs.Common.{ℕ, zero, suc, ◌≡◌, ◌+◌, ◌-◌, ◌<◌, ◌≤◌, List, [], ◌∷◌, ◌++◌, map, take, drop, set, length, get_or, slice_get, Option, Some, None, refl, sym, ap, ◌∙◌, subst, arith}
use Rattle.std.specs.List.{remove}
use Rattle.std.proofs.lemmas.List.{drop_all}
use Rattle.std.proofs.lemmas.Option.{slice_get_within}
use Rattle.general_lemmas.proofs.Places.{map-drop_read}
use Rattle.rewriting.specs.Rules.{Rule, System, rule_at}
use Rattle.certificates.specs.Certificates.{Simplification, dropped, inlined}
use Rattle.simplifications.specs.Simplifying.{Simplifies, AllSimplify}
use Rattle.simplified_spaces.proofs.Standard.{standard_good}
use Rattle.cc_count.specs.Counts.{Counts}
use Rattle.step_search.specs.Answers.{Finds}
use Rattle.cert_model.specs.CertificateView.{simp_view}
use Rattle.cert_model.specs.declared.model.Simp.{Simp}
use Rattle.portfolio.specs.Following.{rule_of, followed}
use Rattle.critical_pairs.specs.Kept.{AreOriginsFrom, AreOrigins}
use Rattle.critical_pairs.proofs.Origins.{length_same}

-- the numbers behind n, so many of them
abbrev pub numbers_behind : ℕ → ℕ → List (Option ℕ)
numbers_behind n zero = []
numbers_behind n (suc k) = Some (suc n) ∷ numbers_behind (suc n) k

numbers_on : (n k : ℕ) → numbers_behind n (suc k) ≡ numbers_behind n k ++ Some (suc (n + k)) ∷ []
numbers_on n zero = (let e : n ≡ n + 0 = omega arith in ap (λ z. Some (suc z) ∷ []) e)
numbers_on n (suc k) = (let e : suc n + k ≡ n + suc k = omega arith in ap (λ z. Some (suc n) ∷ z) (numbers_on (suc n) k ∙ ap (λ z. numbers_behind (suc n) k ++ Some (suc z) ∷ []) e))

pub next_own : (k n : ℕ) (xs : List (Option ℕ)) → n ≡ suc k → xs ≡ numbers_behind 0 k → xs ++ Some n ∷ [] ≡ numbers_behind 0 n
next_own k n xs e h =
    let z : suc k ≡ suc (0 + k) = omega arith in
    ap (λ y. y ++ Some n ∷ []) h ∙ (ap (λ y. numbers_behind 0 k ++ Some y ∷ []) (e ∙ z) ∙ (sym (numbers_on 0 k) ∙ ap (numbers_behind 0) (sym e)))

own_from : (sys : System) (n : ℕ) (rs : List Rule) → ((k : ℕ) (r : Rule) → slice_get rs k ≡ Some r → rule_at sys (suc (n + k)) ≡ Some r) → AreOriginsFrom n sys (numbers_behind n (length rs)) rs
own_from sys n [] h = tt
own_from sys n (r ∷ rs) h =
    let first : n + 0 ≡ n = omega arith in
    let less : n < suc n = omega arith in (
      less,
      subst (λ z. rule_at sys (suc z) ≡ Some r) first (h 0 r refl),
      own_from sys (suc n) rs (λ k q e. (let next : n + suc k ≡ suc n + k = omega arith in subst (λ z. rule_at sys (suc z) ≡ Some q) next (h (suc k) q e))),
    )

pub own_origins : (sys : System) (xs : List (Option ℕ)) → xs ≡ numbers_behind 0 (length sys.rules) → AreOrigins sys sys xs
own_origins sys xs e = subst (AreOrigins sys sys) (sym e) (own_from sys 0 sys.rules (λ k r h. (let z : 0 + k ≡ k = omega arith in subst (λ y. rule_at sys (suc y) ≡ Some r) (sym z) h)))

weaker : (m n : ℕ) (e : System) (os : List (Option ℕ)) (rs : List Rule) → n < m → AreOriginsFrom m e os rs → AreOriginsFrom n e os rs
weaker m n e [] [] less h = tt
weaker m n e [] (r ∷ rs) less h = h
weaker m n e (o ∷ os) [] less h = h
weaker m n e (None ∷ os) (r ∷ rs) less h = weaker m n e os rs less h
weaker m n e (Some l ∷ os) (r ∷ rs) less (a, s, h) = (omega (arith, less, a), s, h)

-- without one rule
without : (n : ℕ) (e : System) (os : List (Option ℕ)) (rs : List Rule) (k : ℕ) → AreOriginsFrom n e os rs → AreOriginsFrom n e (take k os ++ drop (suc k) os) (take k rs ++ drop (suc k) rs)
without n e [] [] zero h = tt
without n e [] [] (suc k) h = tt
without n e [] (r ∷ rs) k h = absurd h
without n e (o ∷ os) [] k h = absurd h
without n e (None ∷ os) (r ∷ rs) zero h = h
without n e (None ∷ os) (r ∷ rs) (suc k) h = without n e os rs k h
without n e (Some l ∷ os) (r ∷ rs) zero (a, s, h) = weaker l n e os rs a h
without n e (Some l ∷ os) (r ∷ rs) (suc k) (a, s, h) = (a, s, without l e os rs k h)

-- with another rule in place of one
exchanged : (n : ℕ) (e : System) (os : List (Option ℕ)) (rs : List Rule) (k : ℕ) (q : Rule) → k < length os → AreOriginsFrom n e os rs
    → AreOriginsFrom n e (set os k None) (take k rs ++ q ∷ drop (suc k) rs)
exchanged n e [] rs k q inside h = absurd (omega (arith, inside))
exchanged n e (o ∷ os) [] k q inside h = absurd h
exchanged n e (None ∷ os) (r ∷ rs) zero q inside h = h
exchanged n e (None ∷ os) (r ∷ rs) (suc k) q inside h = exchanged n e os rs k q (omega (arith, inside)) h
exchanged n e (Some l ∷ os) (r ∷ rs) zero q inside (a, s, h) = weaker l n e os rs a h
exchanged n e (Some l ∷ os) (r ∷ rs) (suc k) q inside (a, s, h) = (a, s, exchanged l e os rs k q (omega (arith, inside)) h)

is_there : (here next : System) (s : Simplification) → Simplifies here s next → (0 < rule_of s) × (rule_of s ≤ length here.rules)
is_there here next (dropped zero e) h = absurd h
is_there here next (dropped (suc n) e) h = (let l = slice_get_within here.rules n h.rule h.is_rule in (omega arith, omega (arith, l)))
is_there here next (inlined zero k) h = absurd h
is_there here next (inlined (suc n) zero) h = absurd h
is_there here next (inlined (suc n) (suc k)) h = (let l = slice_get_within here.rules n h.rule h.is_rule in (omega arith, omega (arith, l)))

-- one step
module _ (sys here next : System) (os : List (Option ℕ)) (are : AreOrigins sys here os) where
  follows : (s : Simplification) → Simplifies here s next → AreOrigins sys next (followed s os)
  follows (dropped zero e) h = absurd h
  follows (dropped (suc n) e) h =
      let one : suc n - 1 ≡ n = omega arith in
      subst (λ z. AreOrigins sys next (remove os z)) (sym one) (subst (λ z. AreOrigins sys z (remove os n)) (sym h.result) (without 0 sys os here.rules n are))
  follows (inlined zero k) h = absurd h
  follows (inlined (suc n) zero) h = absurd h
  follows (inlined (suc n) (suc k)) h =
      let one : suc n - 1 ≡ n = omega arith in
      let l = slice_get_within here.rules n h.rule h.is_rule in
      let many = length_same sys here os are in
      subst (λ z. AreOrigins sys next (set os z None)) (sym one) (subst (λ z. AreOrigins sys z (set os n None)) (sym h.result) (exchanged 0 sys os here.rules n _ (omega (arith, l, many)) are))

-- steps that lead on from a system in which some rules have origins
pub record LeadOn (sys last : System) (os : List (Option ℕ)) (steps : List Simplification) : Type 0 where
  pub here : System
  pub origins : AreOrigins sys here os
  pub rest : AllSimplify here steps last

pub good_steps : (sys : System) (steps : List Simplification) (last : System) (before here : Counts) → Finds sys steps last before here → AllSimplify sys steps last
good_steps sys steps last before here f = standard_good sys steps last _ f.standard

-- along the steps
pub none_followed : (sys last : System) (os : List (Option ℕ)) (steps : List Simplification) → AreOrigins sys sys os → AllSimplify sys steps last → LeadOn sys last os steps
none_followed sys last os steps own all = record { here = sys; origins = own; rest = all }

all_followed : (sys last : System) (os : List (Option ℕ)) → LeadOn sys last os [] → AreOrigins sys last os
all_followed sys last os h = subst (λ z. AreOrigins sys z os) (sym h.rest) h.origins

module _ (sys last : System) (os : List (Option ℕ)) (steps : List Simp) (i : ℕ) (step : Simp) (inside : i < length steps) (at : step ≡ get_or steps i step)
    (h : LeadOn sys last os (map simp_view (drop i steps))) where
  first : AllSimplify h.here (simp_view step ∷ map simp_view (drop (i + 1) steps)) last
  first = subst (λ z. AllSimplify h.here z last) (map-drop_read simp_view steps i step inside at) h.rest

  pub step_there : (0 < rule_of (simp_view step)) × (rule_of (simp_view step) ≤ length os)
  step_there = (let r = is_there h.here first.0 (simp_view step) first.1 in let many = length_same sys h.here os h.origins in (r.0, subst (λ z. rule_of (simp_view step) ≤ z) (sym many) r.1))

  pub step_followed : LeadOn sys last (followed (simp_view step) os) (map simp_view (drop (i + 1) steps))
  step_followed = record { here = first.0; origins = follows sys h.here first.0 os h.origins (simp_view step) first.1; rest = first.2 }

pub steps_followed : (sys last : System) (os : List (Option ℕ)) (steps : List Simp) (i : ℕ) → length steps ≤ i → LeadOn sys last os (map simp_view (drop i steps)) → AreOrigins sys last os
steps_followed sys last os steps i all h = all_followed sys last os (subst (λ z. LeadOn sys last os (map simp_view z)) (drop_all i steps all) h)
