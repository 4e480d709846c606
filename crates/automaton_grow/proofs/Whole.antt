-- What the whole of growing answers.
use Rattle.std.proofs.Common.{Ok, Err, Result, IfOk}
use Rattle.rewriting.specs.Prelude.{Term, System, IsWellFormed}
use Rattle.automata.specs.Laws.{IsWellGrown}
use Rattle.automata.proofs.Grown.{grown_well}
use Rattle.cert_model.specs.declared.evidence.Automaton.{Automaton}
use Rattle.cert_model.specs.EvidenceView.{automaton_view}
use Rattle.automaton_grow.specs.declared.GrowError.{GrowError}
use Rattle.automaton_grow.specs.Rounds.{GrownAnswers}

pub well_grown : (sys : System) (s : Term) (o : Result Automaton GrowError) → IsWellFormed sys → GrownAnswers sys s o → IfOk o (λ a. IsWellGrown sys s (automaton_view a))
well_grown sys s (Ok a) well growth = grown_well sys s (automaton_view a) well growth.0
well_grown sys s (Err why) well h = tt
