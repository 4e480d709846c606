-- The place of a transition among others in order.
use Rattle.std.specs.Prelude.{ℕ, ◌≡◌, ◌≤◌, Option, Some, List, [], ◌∷◌, length, take, drop, slice_get, Result, Ok, Err}
use Rattle.std.specs.declared.cmp.Ordering.{Ordering}
use Rattle.std.specs.declared.cmp.Ordering.TheVariants.{Less, Equal, Greater}
use Rattle.certificates.specs.Evidence.{Transition}
use Rattle.rewriting.specs.Lists.{IsBeforeAll}
use Rattle.automata.specs.Growth.{IsHeadBefore, IsTransitionBefore}

-- which of two heads comes first
abbrev pub HeadAnswers : Option ℕ → Option ℕ → Ordering → Type 0
HeadAnswers a b Less = IsHeadBefore a b
HeadAnswers a b Equal = a ≡ b
HeadAnswers a b Greater = IsHeadBefore b a

-- which of two transitions comes first
abbrev pub CompareAnswers : Transition → Transition → Ordering → Type 0
CompareAnswers c d Less = IsTransitionBefore c d
CompareAnswers c d Equal = c ≡ d
CompareAnswers c d Greater = IsTransitionBefore d c

-- each transition of the list comes before d
abbrev pub AreBefore : List Transition → Transition → Type 0
AreBefore [] d = Unit {0}
AreBefore (c ∷ cs) d = IsTransitionBefore c d × AreBefore cs d

-- d has its place behind the first k
pub record IsPlace (ds : List Transition) (d : Transition) (k : ℕ) : Type 0 where
  pub within : k ≤ length ds
  pub before : AreBefore (take k ds) d
  pub behind : IsBeforeAll IsTransitionBefore d (drop k ds)

-- where the transition stands, or else its place
abbrev pub PlaceAnswers : List Transition → Transition → Result ℕ ℕ → Type 0
PlaceAnswers ds d (Ok k) = slice_get ds k ≡ Some d
PlaceAnswers ds d (Err k) = IsPlace ds d k

-- a transition by its parts
abbrev pub transition_of : Option ℕ → List ℕ → ℕ → Transition
transition_of symbol arguments target = record { symbol = symbol; arguments = arguments; target = target }
