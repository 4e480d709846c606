-- The least automaton that accepts a term and is closed under the rules of a system: states stand for the subterms of the
-- term and of the right sides (after Genet 1998).
use Rattle.std.specs.Prelude.{ℕ, zero, suc, ◌≡◌, ◌⊎◌, ◌+◌, ◌<◌, ◌^◌, List, [], ◌∷◌, ◌++◌, Option, None, Some, All, Contains, length, replicate, slice_get}
use Rattle.automata.specs.declared.TheConstants.{MOST_GROWN_STATES, MOST_GROWTH_CHOICES, MOST_GROWN_TRANSITIONS}
use Rattle.rewriting.specs.Prelude.{IsSorted, Term, var, app, Terms, nil, cons, IsBefore, Rule, System, rule_at, variable_occurrences}
use Rattle.certificates.specs.Evidence.{Transition, Automaton}
use Rattle.automata.specs.Runs.{Moves, IsHead, ReachBy}
use Rattle.automata.specs.Closed.{IsChoice, state_of}

-- the number of subterms that are no variables
abbrev mutual
  pub inner : Term → ℕ
  inner (var x) = 0
  inner (app f ts) = suc (inner_in ts)

  pub inner_in : Terms → ℕ
  inner_in nil = 0
  inner_in (cons t ts) = inner t + inner_in ts

-- the number of proper ones
abbrev pub proper : Term → ℕ
proper (var x) = 0
proper (app f ts) = inner_in ts

-- the state of a term whose subterms that are no variables have the states n, n + 1, .. in preorder; its variables have the states that e gives
abbrev pub top : (ℕ → ℕ) → ℕ → Term → ℕ
top e n (var x) = e x
top e n (app f ts) = n

-- the states of some terms
abbrev pub tops : (ℕ → ℕ) → ℕ → Terms → List ℕ
tops e n nil = []
tops e n (cons t ts) = top e n t ∷ tops e (n + inner t) ts

-- the transitions of all subterms that are no variables: under the symbol there, from the states of its arguments to its own
abbrev mutual
  pub inside : (ℕ → ℕ) → ℕ → Term → List Transition
  inside e n (var x) = []
  inside e n (app f ts) = (record { symbol = Some f; arguments = tops e (suc n) ts; target = n }) ∷ inside_all e (suc n) ts

  pub inside_all : (ℕ → ℕ) → ℕ → Terms → List Transition
  inside_all e n nil = []
  inside_all e n (cons t ts) = inside e n t ++ inside_all e (n + inner t) ts

-- the transitions of a right side at q, whose proper subterms have the states n, n + 1, ..
abbrev pub grown : (ℕ → ℕ) → ℕ → Term → ℕ → List Transition
grown e n (var x) q = []
grown e n (app f ts) q = (record { symbol = Some f; arguments = tops e n ts; target = q }) ∷ inside_all e n ts

-- how many proper subterms that are no variables the right sides of the first rules have
abbrev pub proper_before : ℕ → List Rule → ℕ
proper_before n [] = 0
proper_before zero (r ∷ rs) = 0
proper_before (suc n) (r ∷ rs) = proper r.right + proper_before n rs

-- the first state for the right side of the rule behind the first n: behind the state 0 and those for s
abbrev pub first_state : System → Term → ℕ → ℕ
first_state sys s n = suc (inner s + proper_before n sys.rules)

-- all states
abbrev pub state_count : System → Term → ℕ
state_count sys s = first_state sys s (length sys.rules)

-- the numbers of the transition are states, and one for variables has no arguments
pub record HasStates (states : ℕ) (d : Transition) : Type 0 where
  pub head : IsHead None d.symbol d.arguments
  pub arguments : All (λ q. q < states) d.arguments
  pub target : d.target < states

-- a finite set of transitions as a relation
abbrev pub moves : List Transition → Moves
moves ds symbol qs q = Contains ds (record { symbol = symbol; arguments = qs; target = q })

-- the set has the transitions that state 0, the term and the rules ask for
pub record IsGrown (sys : System) (s : Term) (ds : List Transition) : Type 0 where
  -- state 0 accepts all
  pub symbols : (f n : ℕ) → slice_get sys.arities f ≡ Some n → moves ds (Some f) (replicate n 0) 0
  pub variables : moves ds None [] 0
  -- the term's subterms reach their states, its variables having the state 0
  pub start : (d : Transition) → Contains (inside (λ x. 0) 1 s) d → Contains ds d
  -- where a left side reaches q, so does the right side
  pub right : (i : ℕ) (r : Rule) (cs : List ℕ) (q : ℕ) (d : Transition) → rule_at sys (suc i) ≡ Some r → IsChoice (state_count sys s) r.left cs
      → ReachBy (moves ds) r.left cs q → Contains (grown (state_of (variable_occurrences r.left) cs) (first_state sys s i) r.right q) d → Contains ds d
  -- where the right side is a variable, each transition to its state has its twin to q
  pub twins : (i : ℕ) (r : Rule) (cs : List ℕ) (q x : ℕ) (symbol : Option ℕ) (qs : List ℕ) → rule_at sys (suc i) ≡ Some r → r.right ≡ var x
      → IsChoice (state_count sys s) r.left cs → ReachBy (moves ds) r.left cs q → moves ds symbol qs (state_of (variable_occurrences r.left) cs x) → moves ds symbol qs q

-- the transition is in each such set: in the least of them
abbrev pub IsAsked : System → Term → Transition → Type 0
IsAsked sys s d = (ds : List Transition) → IsGrown sys s ds → Contains ds d

-- the transitions are in order by the symbol, with that of no symbol last, then the arguments, then the target
abbrev pub IsHeadBefore : Option ℕ → Option ℕ → Type 0
IsHeadBefore (Some f) (Some g) = f < g
IsHeadBefore (Some f) None = Unit {0}
IsHeadBefore None d = ⊥

abbrev pub IsTransitionBefore : Transition → Transition → Type 0
IsTransitionBefore c d =
    IsHeadBefore c.symbol d.symbol
    ⊎ ((c.symbol ≡ d.symbol) × (IsBefore c.arguments d.arguments ⊎ ((c.arguments ≡ d.arguments) × (c.target < d.target))))

-- the list has exactly the transitions of the least set, in order
pub record AreLeast (sys : System) (s : Term) (ds : List Transition) : Type 0 where
  pub grown_set : IsGrown sys s ds
  pub least : (d : Transition) → Contains ds d → IsAsked sys s d
  pub sorted : IsSorted IsTransitionBefore ds

-- the automaton that grows from s
pub record IsGrowthOf (sys : System) (s : Term) (a : Automaton) : Type 0 where
  pub states : a.states ≡ state_count sys s
  pub accepting : a.accepting ≡ top (λ x. 0) 1 s ∷ []
  pub transitions : AreLeast sys s a.transitions

-- there are too many states
abbrev pub AreStatesMany : System → Term → Type 0
AreStatesMany sys s = MOST_GROWN_STATES < state_count sys s

-- there are more than 100,000 choices for the rule's left side
abbrev pub IsTooWide : System → Term → Rule → Type 0
IsTooWide sys s r = MOST_GROWTH_CHOICES < state_count sys s ^ length (variable_occurrences r.left)

-- rule i is the first such rule
pub record IsFirstTooWide (sys : System) (s : Term) (i : ℕ) : Type 0 where
  pub rule : Rule
  pub is_rule : rule_at sys i ≡ Some rule
  pub wide : IsTooWide sys s rule
  pub earlier : (j : ℕ) (r : Rule) → j < i → rule_at sys j ≡ Some r → IsTooWide sys s r → ⊥

-- the least set has more than 5,000 transitions: so many different ones are asked for
pub record AreTransitionsMany (sys : System) (s : Term) : Type 0 where
  pub some : List Transition
  pub many : MOST_GROWN_TRANSITIONS < length some
  pub asked : (d : Transition) → Contains some d → IsAsked sys s d
  pub different : IsSorted IsTransitionBefore some
