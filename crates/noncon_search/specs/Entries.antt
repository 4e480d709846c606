-- The entries for the redexes of a term whose variables are 0 to n - 1: a rule's variables k without value become n + k.
use Rattle.std.specs.Prelude.{ℕ, ◌≡◌, true, false, List, ◌++◌, length, Some, Bool, Result, Ok, Err}
use Rattle.std.specs.FinMap.{empty}
use Rattle.rewriting.specs.Prelude.{IsAmong, Term, Bindings, IsLeastMatch, Rule, System, rule_at, conditions_under}
use Rattle.certificates.specs.Prelude.{InfeasibilityEvidence, Redex}
use Rattle.term_core.specs.declared.terms.NoMemory.{NoMemory}
use Rattle.valid_certificates.specs.Peaks.{RedexPlace}
use Rattle.rule_index.specs.Parts.{Part}
use Rattle.redex_conditions.specs.Judged.{match_or_new}
use Rattle.redex_conditions.specs.Redexes.{places}
use Rattle.first_found.specs.Items.{NoneGives, IsFirst, one}
use Rattle.first_found.specs.Rows.{AreFirsts}
use Rattle.search_spaces.specs.Refuting.{refutings}
use Rattle.noncon_search.specs.Trying.{Refutes}

-- the entry for a place with some evidence
abbrev pub entry_at : RedexPlace → InfeasibilityEvidence → Redex
entry_at r e = record { which = r.which; position = r.position; rule = r.rule; evidence = e }

-- the place's rule matches a part
pub record Hit (sys : System) (part : Term) (r : RedexPlace) : Type 0 where
  pub rule : Rule
  pub match : Bindings
  pub is_rule : rule_at sys r.rule ≡ Some rule
  pub matches : IsLeastMatch empty match rule.left part

-- the entry has the first valid evidence for the conditions of the place's rule
abbrev pub IsRefutedOn : System → ℕ → Term → RedexPlace → Redex → ℕ → Type 0
IsRefutedOn sys n part r entry m =
    (h : Hit sys part r) × (e : InfeasibilityEvidence)
    × IsFirst one (Refutes sys (conditions_under (match_or_new n h.match) h.rule.conditions)) (refutings (length h.rule.conditions)) e m
    × (entry ≡ entry_at r e)

-- no evidence that is tried for them is valid
abbrev pub IsUnrefutedOn : System → ℕ → Term → RedexPlace → Type 0
IsUnrefutedOn sys n part r =
    (h : Hit sys part r) × NoneGives (Refutes sys (conditions_under (match_or_new n h.match) h.rule.conditions)) (refutings (length h.rule.conditions))

-- each place has an entry, and these are added to the entries before; or some place has none
abbrev pub EntriesAnswer : (RedexPlace → Redex → ℕ → Type 0) → (RedexPlace → Type 0) → List RedexPlace → List Redex → List Redex → Result Bool NoMemory → Type 0
EntriesAnswer First Lacks rs before after (Ok true) = (es : List Redex) × (after ≡ before ++ es) × ((n : ℕ) × AreFirsts First rs es n)
EntriesAnswer First Lacks rs before after (Ok false) = (r : RedexPlace) × IsAmong r rs × Lacks r
EntriesAnswer First Lacks rs before after (Err e) = Unit {0}

-- so it is for the places at a part for the rules with some numbers
abbrev pub RulesAnswer : System → ℕ → ℕ → Part → List ℕ → List Redex → List Redex → Result Bool NoMemory → Type 0
RulesAnswer sys n which q numbers = EntriesAnswer (IsRefutedOn sys n q.term) (IsUnrefutedOn sys n q.term) (places sys which q numbers)
