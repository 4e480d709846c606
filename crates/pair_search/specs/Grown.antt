-- What is remembered of what growth gave for a condition.
use Rattle.std.specs.Prelude.{Option, None, Some, option_map}
use Rattle.std.specs.Coded.{Coded, coded×, coded_option}
use Rattle.rewriting.specs.Prelude.{Condition, System, coded_condition}
use Rattle.certificates.specs.Evidence as math
use Rattle.term_core.specs.RuleView.{condition_view}
use Rattle.cert_model.specs.EvidenceView.{automaton_view}
use Rattle.infeasible.specs.Known.{coded_automaton}
use Rattle.evidence_offers.specs.Growth.{GrowthGives}
use Rattle.pair_search.specs.declared.grown.Tried.{Tried}
use Rattle.pair_search.specs.declared.grown.Grown.TheInside.{Inside}

-- the last condition for which growth was tried, with what came of it, or nothing
abbrev pub Remembered : Type 0
Remembered = Option (Condition × Option math.Automaton)

abbrev pub remembered_view : Inside → Remembered
remembered_view g = option_map (λ (t : Tried). (condition_view t.cond, option_map automaton_view t.automaton)) g.last

-- what is remembered is so of this system
abbrev pub IsGrown : Remembered → System → Type 0
IsGrown None sys = Unit {0}
IsGrown (Some t) sys = GrowthGives sys t.0 t.1

-- the code by which a program's type may have it as its value
abbrev pub coded_remembered : Coded Remembered
coded_remembered = coded_option (coded× coded_condition (coded_option coded_automaton))
