-- What the marks of values do not show: transitions from variables have no states, and an automaton that is used by its number
-- is the one with that number.
use Rattle.std.specs.Prelude.{◌≡◌, ◌≤◌, ◌-◌, ℕ, List, length, slice_get, Some}
use Rattle.certificates.specs.Prelude.{Automaton, InfeasibilityEvidence, PairEvidence, PairEntry, Redex, Apartness, Simplification, Certificate, ortho_certificate, quasi_certificate}
use Rattle.certificates.specs.Prelude.{peak_certificate, simplified_certificate}
use Rattle.cert_grammar.specs.Versions.{Version, HasMeasure, CanSimplify, first_version, second_version, used_by, used_by_evidence, used_by_pairs, used_by_redexes, used_by_apart, used_by_steps}
use Rattle.cert_laws.proofs.PassEvidence.{AllOf}
use Rattle.cert_words.specs.Walks.{AreWithoutStates}

-- an automaton that is used stands there in full, or among the shared ones
abbrev pub IsUsed : Version → List Automaton → Automaton → Type 0
IsUsed first_version all a = AreWithoutStates a.transitions
IsUsed second_version all a = (n : ℕ) × (1 ≤ n) × (n ≤ length all) × (slice_get all (n - 1) ≡ Some a)

abbrev pub HasUsed : Version → List Automaton → InfeasibilityEvidence → Type 0
HasUsed v all e = AllOf (IsUsed v all) (used_by e)

abbrev pub EvidenceUses : Version → List Automaton → PairEvidence → Type 0
EvidenceUses v all e = AllOf (IsUsed v all) (used_by_evidence e)

abbrev pub PairsUse : Version → List Automaton → List PairEntry → Type 0
PairsUse v all ps = AllOf (IsUsed v all) (used_by_pairs ps)

abbrev pub RedexesUse : Version → List Automaton → List Redex → Type 0
RedexesUse v all rs = AllOf (IsUsed v all) (used_by_redexes rs)

abbrev pub ApartUses : Version → List Automaton → Apartness → Type 0
ApartUses v all a = AllOf (IsUsed v all) (used_by_apart a)

abbrev pub StepsUse : Version → List Automaton → List Simplification → Type 0
StepsUse v all steps = AllOf (IsUsed v all) (used_by_steps steps)

-- and the version can say it
abbrev pub IsPlainBy : Version → List Automaton → Certificate → Type 0
IsPlainBy v all (ortho_certificate ps) = PairsUse v all ps
IsPlainBy v all (quasi_certificate m ps) = HasMeasure v m × PairsUse v all ps
IsPlainBy v all (peak_certificate p) = ApartUses v all p.apart
IsPlainBy v all (simplified_certificate steps c) = CanSimplify v c × StepsUse v all steps × IsPlainBy v all c
