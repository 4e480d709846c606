-- Automata that are closed under the rules of a system, and terms that they exclude (after Genet, Decidable approximations of
-- sets of descendants and sets of normal forms, 1998, and Felgenhauer and Thiemann, Reachability, confluence, and termination
-- analysis with state-compatible automata, 2017). The conditions of rules play no part.
use Rattle.std.specs.Prelude.{ℕ, ◌≡◌, ◌<◌, ◌⊎◌, ◌^◌, nat_eq, if◌then◌else◌, List, [], ◌∷◌, Option, None, Some, All, length, replicate, slice_get}
use Rattle.automata.specs.declared.TheConstants.{MOST_CHOICES}
use Rattle.rewriting.specs.Prelude.{Term, var, app, IsBefore, Rule, System, rule_at, variable_occurrences}
use Rattle.certificates.specs.Evidence.{Automaton}
use Rattle.automata.specs.Runs.{Moves, Symbols, Has, Reach, at, ReachBy, IsAccepting}

-- states, n of them, for the variable occurrences of a term
pub record IsChoice (n : ℕ) (t : Term) (cs : List ℕ) : Type 0 where
  pub each : length cs ≡ length (variable_occurrences t)
  pub states : All (λ q. q < n) cs

-- the state of the first occurrence of x among variables with their states; 0 where it does not occur
abbrev pub state_of : List ℕ → List ℕ → ℕ → ℕ
state_of [] cs x = 0
state_of (y ∷ ys) [] x = 0
state_of (y ∷ ys) (c ∷ cs) x = if nat_eq x y then c else state_of ys cs x

-- state q includes p: each transition to p has its twin to q
abbrev pub Includes : Moves → ℕ → ℕ → Type 0
Includes M q p = (symbol : Option ℕ) (qs : List ℕ) → M symbol qs p → M symbol qs q

-- the right side is kept at q, its variables having the states that e gives: it reaches q, or, where it is a variable, q includes its state
abbrev pub IsKept : Moves → (ℕ → ℕ) → Term → ℕ → Type 0
IsKept M e (var x) q = Includes M q (e x)
IsKept M e (app f ts) q = Reach M (at e) (app f ts) q

-- the variables of a right side have the states of their first occurrences in the left side, and others 0
abbrev pub IsRuleKept : Moves → Rule → List ℕ → ℕ → Type 0
IsRuleKept M r cs q = IsKept M (state_of (variable_occurrences r.left) cs) r.right q

-- the automaton's transitions by the symbols of the system
abbrev pub HasOver : System → Automaton → Moves
HasOver sys a = Has (Some sys.arities) a

-- for each rule, each choice of states and each state that the left side reaches, the right side is kept
abbrev pub IsClosed : System → Automaton → Type 0
IsClosed sys a =
    (i : ℕ) (r : Rule) (cs : List ℕ) (q : ℕ) → rule_at sys i ≡ Some r → IsChoice a.states r.left cs → ReachBy (HasOver sys a) r.left cs q → IsRuleKept (HasOver sys a) r cs q

-- in order by the rule, then the choice, then the state
abbrev pub IsEarlierChoice : ℕ × (List ℕ × ℕ) → ℕ × (List ℕ × ℕ) → Type 0
IsEarlierChoice (i, (cs, p)) (j, (ds, q)) = (i < j) ⊎ ((i ≡ j) × (IsBefore cs ds ⊎ ((cs ≡ ds) × (p < q))))

-- rule i with these states, whose left side reaches q, is the first whose right side is not kept
pub record IsFirstOpen (sys : System) (a : Automaton) (i : ℕ) (cs : List ℕ) (q : ℕ) : Type 0 where
  pub rule : Rule
  pub is_rule : rule_at sys i ≡ Some rule
  pub choice : IsChoice a.states rule.left cs
  pub reached : ReachBy (HasOver sys a) rule.left cs q
  pub fails : IsRuleKept (HasOver sys a) rule cs q → ⊥
  pub earlier : (j : ℕ) (r : Rule) (ds : List ℕ) (p : ℕ) → rule_at sys j ≡ Some r → IsChoice a.states r.left ds → ReachBy (HasOver sys a) r.left ds p
      → IsEarlierChoice (j, (ds, p)) (i, (cs, q)) → IsRuleKept (HasOver sys a) r ds p

-- there are more than 1,000,000 choices for the term's variable occurrences
abbrev pub IsWide : Automaton → Term → Type 0
IsWide a t = MOST_CHOICES < a.states ^ length (variable_occurrences t)

-- no left side is wide, and rule i is the first whose left side is
abbrev pub AreNarrow : System → Automaton → Type 0
AreNarrow sys a = (i : ℕ) (r : Rule) → rule_at sys i ≡ Some r → IsWide a r.left → ⊥

pub record IsFirstWide (sys : System) (a : Automaton) (i : ℕ) : Type 0 where
  pub rule : Rule
  pub is_rule : rule_at sys i ≡ Some rule
  pub wide : IsWide a rule.left
  pub earlier : (j : ℕ) (r : Rule) → j < i → rule_at sys j ≡ Some r → IsWide a r.left → ⊥

-- state 0 accepts all: it has f(0, .., 0) 0 for each symbol, and | 0
pub record AcceptsAll (sys : System) (M : Moves) : Type 0 where
  pub symbols : (f n : ℕ) → slice_get sys.arities f ≡ Some n → M (Some f) (replicate n 0) 0
  pub variables : M None [] 0

-- no choice of states for its variable occurrences brings the term to an accepting state
abbrev pub Excludes : Symbols → Automaton → Term → Type 0
Excludes symbols a t = (cs : List ℕ) (q : ℕ) → IsChoice a.states t cs → IsAccepting a q → ReachBy (Has symbols a) t cs q → ⊥
