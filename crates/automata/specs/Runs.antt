-- Tree automata: which states a term reaches (after Comon and others, Tree Automata Techniques and Applications, chapter 1).
use Rattle.std.specs.Prelude.{ℕ, ◌≡◌, ◌<◌, List, [], ◌∷◌, ◌++◌, Option, None, Some, All, Contains, length, slice_get}
use Rattle.rewriting.specs.Prelude.{Term, var, app, Terms, nil, cons, Signature}
use Rattle.certificates.specs.Evidence.{Automaton}

-- transitions as a relation: under a symbol, or for a variable, the states of the arguments, and the state that they lead to
abbrev pub Moves : Type 1
Moves = Option ℕ → List ℕ → ℕ → Type 0

-- the states are the numbers below their count
abbrev pub IsState : Automaton → ℕ → Type 0
IsState a q = q < a.states

-- the symbols of transitions: those of a signature with their arities, or, where none is at hand, any with any number of arguments
abbrev pub Symbols : Type 0
Symbols = Option Signature

abbrev pub HasArity : Symbols → ℕ → ℕ → Type 0
HasArity None f n = Unit {0}
HasArity (Some arities) f n = slice_get arities f ≡ Some n

-- the head of a transition: a symbol with its arguments, or none and no arguments, for a variable
abbrev pub IsHead : Symbols → Option ℕ → List ℕ → Type 0
IsHead symbols None qs = qs ≡ []
IsHead symbols (Some f) qs = HasArity symbols f (length qs)

-- the automaton has the transition; one with another head, or with a number that is no state, counts as absent
pub record Has (symbols : Symbols) (a : Automaton) (symbol : Option ℕ) (qs : List ℕ) (q : ℕ) : Type 0 where
  pub listed : Contains a.transitions (record { symbol = symbol; arguments = qs; target = q })
  pub head : IsHead symbols symbol qs
  pub arguments : All (IsState a) qs
  pub target : IsState a q

-- the term reaches q, where each variable has the states that At tells
abbrev mutual
  pub Reach : Moves → (ℕ → ℕ → Type 0) → Term → ℕ → Type 0
  Reach M At (var x) q = At x q
  Reach M At (app f ts) q = (qs : List ℕ) × M (Some f) qs q × ReachAll M At ts qs

  pub ReachAll : Moves → (ℕ → ℕ → Type 0) → Terms → List ℕ → Type 0
  ReachAll M At nil qs = qs ≡ []
  ReachAll M At (cons t ts) [] = ⊥
  ReachAll M At (cons t ts) (q ∷ qs) = Reach M At t q × ReachAll M At ts qs

-- each variable has the one state that e gives
abbrev pub at : (ℕ → ℕ) → ℕ → ℕ → Type 0
at e x q = q ≡ e x

-- a term as it stands reaches q: a variable does so by the automaton's transitions for variables
abbrev pub Runs : Symbols → Automaton → Term → ℕ → Type 0
Runs symbols a t q = Reach (Has symbols a) (λ x p. Has symbols a None [] p) t q

-- all variables have the state 0, and no other
abbrev pub RunsFrom0 : Symbols → Automaton → Term → ℕ → Type 0
RunsFrom0 symbols a t q = IsState a q × Reach (Has symbols a) (at (λ x. 0)) t q

-- each variable occurrence, from left to right, has a state of its own: the term reaches q with these states
abbrev mutual
  pub ReachBy : Moves → Term → List ℕ → ℕ → Type 0
  ReachBy M (var x) cs q = cs ≡ q ∷ []
  ReachBy M (app f ts) cs q = (qs : List ℕ) × M (Some f) qs q × ReachAllBy M ts cs qs

  pub ReachAllBy : Moves → Terms → List ℕ → List ℕ → Type 0
  ReachAllBy M nil cs qs = (cs ≡ []) × (qs ≡ [])
  ReachAllBy M (cons t ts) cs [] = ⊥
  ReachAllBy M (cons t ts) cs (q ∷ qs) = (before after : List ℕ) × (cs ≡ before ++ after) × ReachBy M t before q × ReachAllBy M ts after qs

-- a number in the list of accepting states that is a state
abbrev pub IsAccepting : Automaton → ℕ → Type 0
IsAccepting a q = Contains a.accepting q × IsState a q
