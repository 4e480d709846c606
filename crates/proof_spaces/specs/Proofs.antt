-- The spaces of a system, and behind them those of the system that its standard steps leave, if it has any.
use Rattle.std.specs.Prelude.{List, [], ◌∷◌}
use Rattle.rewriting.specs.Rules.{System}
use Rattle.certificates.specs.Certificates.{Simplification, Certificate, simplified_certificate}
use Rattle.cops_names.specs.NameTable.{NameTable}
use Rattle.first_found.specs.Spaces.{Space, followed_by}
use Rattle.search_spaces.specs.Texts.{HasText}
use Rattle.search_spaces.specs.Ortho.{ortho_space}
use Rattle.search_spaces.specs.Peak.{peak_space}
use Rattle.quasi_space.specs.Measures.{MeasureTrials, each_measure, pruned_measures}
use Rattle.quasi_space.specs.Quasi.{quasi_space_by}
use Rattle.quasi_space.specs.AllSpaces.{all_spaces_by}
use Rattle.simplified_spaces.specs.Standard.{Simplified, IsStandard}
use Rattle.proof_spaces.specs.Combined.{empty_space, only_found, space_of}

-- the first valid certificate of a space, behind the steps, if it can be written with them
abbrev pub with_steps : NameTable → List Simplification → Space Certificate → Space Certificate
with_steps names steps S = only_found (simplified_certificate steps) (HasText names) S

-- the first two spaces of the last system, each behind the steps
abbrev pub two_with_steps : NameTable → List Simplification → System → Space Certificate
two_with_steps names steps last = followed_by (with_steps names steps (ortho_space names last)) (with_steps names steps (peak_space names last))

-- and all three
abbrev pub three_with_steps : (System → MeasureTrials) → NameTable → List Simplification → System → Space Certificate
three_with_steps by names steps last = followed_by (two_with_steps names steps last) (with_steps names steps (quasi_space_by (by last) names last))

-- where there are no steps, nothing more is searched
abbrev pub if_some : (System → MeasureTrials) → NameTable → List Simplification → System → Space Certificate
if_some by names [] last = empty_space
if_some by names (s ∷ steps) last = three_with_steps by names (s ∷ steps) last

abbrev pub behind_steps : (System → MeasureTrials) → NameTable → Simplified → Space Certificate
behind_steps by names x = if_some by names x.steps x.last

-- the standard steps, at the cost of their tries, and what is searched behind them
abbrev pub simplified_space : (System → MeasureTrials) → NameTable → System → Space Certificate
simplified_space by names sys = space_of (IsStandard sys) (behind_steps by names)

abbrev pub proof_space_by : (System → MeasureTrials) → NameTable → System → Space Certificate
proof_space_by by names sys = followed_by (all_spaces_by (by sys) names sys) (simplified_space by names sys)

-- each measure is tried
abbrev pub proof_space : NameTable → System → Space Certificate
proof_space = proof_space_by each_measure

-- nothing behind a dead prefix is tried
abbrev pub pruned_proof_space : NameTable → System → Space Certificate
pruned_proof_space = proof_space_by pruned_measures
