-- What growth from conditions answers.
use Rattle.std.specs.Prelude.{ℕ, ◌≡◌, List, Option, None, Some, option_map, Result, Ok, Err}
use Rattle.rewriting.specs.Prelude.{Term, Condition, System}
use Rattle.certificates.specs.Evidence as math
use Rattle.certificates.specs.Judging.{hypothesis_at}
use Rattle.automata.specs.Evidence.{IsClosureJudged, IsConditionJudged, JudgedByAutomaton}
use Rattle.term_core.specs.declared.terms.NoMemory.{NoMemory}
use Rattle.cert_model.specs.EvidenceView.{automaton_view}
use Rattle.cert_model.specs.declared.evidence.Automaton.{Automaton}
use Rattle.automaton_grow.specs.declared.GrowError.{GrowError}
use Rattle.automaton_grow.specs.declared.GrowError.TheVariants as growing
use Rattle.search_spaces.specs.Grown.{GrowsTo}

-- growth that is refused gives no automaton
abbrev pub NoAutomatonAnswers : GrowError → Result (Option Automaton) NoMemory → Type 0
NoAutomatonAnswers growing.NoMemory (Ok a) = ⊥
NoAutomatonAnswers why (Ok (Some a)) = ⊥
NoAutomatonAnswers why (Ok None) = Unit {0}
NoAutomatonAnswers why (Err e) = Unit {0}

-- the automaton that grows from the term, which is closed; or none does
abbrev pub GrownAnswers : System → Term → Result (Option Automaton) NoMemory → Type 0
GrownAnswers sys s (Ok (Some a)) = GrowsTo sys s (automaton_view a) × IsClosureJudged sys (automaton_view a) None
GrownAnswers sys s (Ok None) = (a : math.Automaton) → GrowsTo sys s a → ⊥
GrownAnswers sys s (Err e) = Unit {0}

-- the automaton, where it is valid for condition k, or it is not
abbrev pub ShownAnswers : System → List Condition → ℕ → math.Automaton → Result (Option Automaton) NoMemory → Type 0
ShownAnswers sys cs k a (Ok (Some b)) = (automaton_view b ≡ a) × JudgedByAutomaton sys cs k a None
ShownAnswers sys cs k a (Ok None) = JudgedByAutomaton sys cs k a None → ⊥
ShownAnswers sys cs k a (Err e) = Unit {0}

-- the automaton that grows from the left side, where it shows that the condition is never met; else that none does both
abbrev pub GrowthGives : System → Condition → Option math.Automaton → Type 0
GrowthGives sys c (Some a) = GrowsTo sys c.left a × IsConditionJudged sys c a None
GrowthGives sys c None = (a : math.Automaton) → GrowsTo sys c.left a → IsConditionJudged sys c a None → ⊥

-- the same for a condition, if there is one
abbrev pub MayGive : System → Option Condition → Option math.Automaton → Type 0
MayGive sys None a = a ≡ None
MayGive sys (Some c) a = GrowthGives sys c a

abbrev pub ValidGrowthAnswers : System → List Condition → ℕ → Result (Option Automaton) NoMemory → Type 0
ValidGrowthAnswers sys cs k (Ok a) = MayGive sys (hypothesis_at cs k) (option_map automaton_view a)
ValidGrowthAnswers sys cs k (Err e) = Unit {0}
