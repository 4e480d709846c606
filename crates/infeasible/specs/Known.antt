-- What a judge of evidence remembers.
use Rattle.std.specs.Prelude.{ℕ, List, Option, None, Some, option_map, refl}
use Rattle.std.specs.Coded.{Coded, code_by, coded×, coded_ℕ, coded_list, coded_option}
use Rattle.rewriting.specs.Prelude.{Condition, System, coded_condition}
use Rattle.certificates.specs.Evidence.{Transition, Automaton}
use Rattle.term_core.specs.RuleView.{condition_view}
use Rattle.cert_model.specs.EvidenceView.{automaton_view}
use Rattle.automata.specs.Evidence.{IsConditionJudged}
use Rattle.infeasible.specs.declared.by_kind.NeverMet.{NeverMet}
use Rattle.infeasible.specs.declared.by_kind.JudgeByKind.TheInside.{Inside}

-- a condition and an automaton, or nothing
abbrev pub Known : Type 0
Known = Option (Condition × Automaton)

abbrev pub known_view : Inside → Known
known_view j = option_map (λ (k : NeverMet). (condition_view k.cond, automaton_view k.automaton)) j.last

-- the automaton shows that the condition is never met
abbrev pub IsKnown : Known → System → Type 0
IsKnown None sys = Unit {0}
IsKnown (Some k) sys = IsConditionJudged sys k.0 k.1 None

-- codes, by which a program's type may have it as its value
abbrev pub coded_transition : Coded Transition
coded_transition =
    code_by (Option ℕ × (List ℕ × ℕ)) (coded× (coded_option coded_ℕ) (coded× (coded_list coded_ℕ) coded_ℕ)) (λ t. (t.symbol, (t.arguments, t.target)))
    (λ p. record { symbol = p.0; arguments = p.1.0; target = p.1.1 }) (λ _. refl)

abbrev pub coded_automaton : Coded Automaton
coded_automaton =
    code_by (ℕ × (List ℕ × List Transition)) (coded× coded_ℕ (coded× (coded_list coded_ℕ) (coded_list coded_transition))) (λ a. (a.states, (a.accepting, a.transitions)))
    (λ p. record { states = p.0; accepting = p.1.0; transitions = p.1.1 }) (λ _. refl)

abbrev pub coded_known : Coded Known
coded_known = coded_option (coded× coded_condition coded_automaton)
