-- Rules at whose arrivals the right side is kept, and the first that is not.
use Rattle.std.specs.Prelude.{ℕ, ◌≡◌, List, Option, None, Some}
use Rattle.rewriting.specs.Prelude.{Rule, System, IsAmong}
use Rattle.certificates.specs.Prelude.{Transition, Automaton, EvidenceReason, auto_wide, auto_not_closed}
use Rattle.automata.specs.Runs.{ReachBy}
use Rattle.automata.specs.Closed.{IsChoice, IsRuleKept, IsClosed, IsFirstOpen, AreNarrow, IsFirstWide}
use Rattle.automaton_runs.specs.Counted.{Indexed, Finds}
use Rattle.automaton_runs.specs.Arrivals.{IsArrivalBefore}
use Rattle.automaton_runs.specs.declared.runs.Arrival.{Arrival}

-- no left side is wide, or the first rule whose left side is
abbrev pub IsWidthJudged : System → Automaton → Option EvidenceReason → Type 0
IsWidthJudged sys a None = AreNarrow sys a
IsWidthJudged sys a (Some (auto_wide i)) = IsFirstWide sys a i
IsWidthJudged sys a (Some _) = ⊥

-- every right side is kept, or the first that is not
abbrev pub IsOpenJudged : System → Automaton → Option EvidenceReason → Type 0
IsOpenJudged sys a None = IsClosed sys a
IsOpenJudged sys a (Some (auto_not_closed i cs q)) = IsFirstOpen sys a i cs q
IsOpenJudged sys a (Some _) = ⊥

-- one of the rules has the same sides
abbrev pub HaveSides : List Rule → Rule → Type 0
HaveSides rs rule = (r : Rule) × IsAmong r rs × (r.left ≡ rule.left) × (r.right ≡ rule.right)

-- the right side of the rule is kept at all arrivals of its left side
abbrev pub IsRuleClosed : Indexed → Rule → Type 0
IsRuleClosed a r = (cs : List ℕ) (q : ℕ) → IsChoice a.automaton.states r.left cs → ReachBy (Finds a) r.left cs q → IsRuleKept (Finds a) r cs q

abbrev pub AreClosed : Indexed → List Rule → Type 0
AreClosed a rs = (r : Rule) → IsAmong r rs → IsRuleClosed a r

-- with these states the left side reaches q, and the right side is not kept there, first among its arrivals
pub record IsOpenAt (a : Indexed) (r : Rule) (cs : List ℕ) (q : ℕ) : Type 0 where
  pub choice : IsChoice a.automaton.states r.left cs
  pub reached : ReachBy (Finds a) r.left cs q
  pub fails : IsRuleKept (Finds a) r cs q → ⊥
  pub earlier : (ds : List ℕ) (p : ℕ) → IsChoice a.automaton.states r.left ds → ReachBy (Finds a) r.left ds p → IsArrivalBefore (ds, p) (cs, q) → IsRuleKept (Finds a) r ds p

abbrev pub OpenAnswers : Indexed → Rule → Option Arrival → Type 0
OpenAnswers a r None = IsRuleClosed a r
OpenAnswers a r (Some arrival) = IsOpenAt a r arrival.choice.items arrival.state

-- each of the transitions has its twin to q
abbrev pub HaveTwins : Indexed → List Transition → ℕ → Type 0
HaveTwins a ts q = (t : Transition) → IsAmong t ts → Finds a t.symbol t.arguments q
