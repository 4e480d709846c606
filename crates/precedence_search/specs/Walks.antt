-- Where a walk through the pruned list of precedences stands.
use Rattle.std.specs.Prelude.{ℕ, suc, ◌≡◌, ◌+◌, ◌<◌, ◌≤◌, List, [], ◌∷◌, ◌++◌, map, length, slice_get, Option, None, Some, Bool, true, false}
use Rattle.rewriting.specs.Prelude.{Rule, System, IsSystem, Head, heads, unraveled}
use Rattle.first_found.specs.Trees.{IsBarrenBelow}
use Rattle.first_found.specs.Paths.{HasWalked}
use Rattle.term_core.specs.HeadView.{head_view}
use Rattle.path_orders.specs.Precedences.{Precedence, IsGood}
use Rattle.path_orders.specs.Dead.{IsDead}
use Rattle.precedence_walks.specs.Pruned.{extensions, IsDeadPrefix, PrefixGives, start, IsPrunedBarren}
use Rattle.lpo.specs.Answers.{IsOf}
use Rattle.lpo.specs.Places.{place_in, ArePlaces}
use Rattle.precedence_search.specs.declared.walk.Walk.{Walk}
use Rattle.precedence_search.specs.declared.walk.Seen.{Seen}
use Rattle.precedence_search.specs.declared.walk.Seen.TheVariants.{Alive, Barren, Good}

-- the first symbol from a number on that has no place, or that there is none
abbrev pub FreeAnswers : List ℕ → ℕ → Option ℕ → Type 0
FreeAnswers places from (Some f) = (from ≤ f) × (f < length places) × (place_in places f ≡ 0) × ((j : ℕ) → from ≤ j → j < f → place_in places j ≡ 0 → ⊥)
FreeAnswers places from None = (j : ℕ) → from ≤ j → j < length places → place_in places j ≡ 0 → ⊥

-- the walk came to these symbols, tried nothing that begins with them, and paid n; these are left
abbrev pub StandsWith : System → List Head → Precedence → ℕ → Type 0
StandsWith sys left order n =
    HasWalked extensions (IsDeadPrefix sys) (PrefixGives sys) (length (heads sys)) (start sys) (length order) (length left) (record { entries = order; left = left }) n

abbrev pub HasComeTo : System → Precedence → ℕ → Type 0
HasComeTo sys order n = (left : List Head) × StandsWith sys left order n

-- it came to these symbols, and n units in all show that nothing good begins with them
pub record HasDoneWith (sys : System) (order : Precedence) (n : ℕ) : Type 0 where
  pub left : List Head
  pub paid : ℕ
  pub units : ℕ
  pub came_to : StandsWith sys left order paid
  pub barren : IsBarrenBelow extensions (IsDeadPrefix sys) (PrefixGives sys) (length left) (record { entries = order; left = left }) units
  pub sum : n ≡ paid + units

-- the symbols have their places
abbrev pub HasItsPlaces : List Head → Precedence → List ℕ → Type 0
HasItsPlaces hs order places = ArePlaces hs order (length order) places

-- it goes on at other symbols, or it is done with all
abbrev pub GoesOn : System → Precedence → ℕ → Bool → Type 0
GoesOn sys order n true = HasComeTo sys order n
GoesOn sys order n false = IsPrunedBarren sys n

-- the symbols before the last are not dead
abbrev pub IsAliveBefore : System → Precedence → Type 0
IsAliveBefore sys order = (before : Precedence) (h : Head) → order ≡ before ++ h ∷ [] → IsDead sys before → ⊥

-- the symbols and the rules of the unraveled system, which are sound
pub record IsSoundOf (sys : System) (hs : List Head) (rs : List Rule) : Type 0 where
  pub of : IsOf sys hs rs
  pub sound : IsSystem (unraveled sys)

-- dead symbols, a good precedence, or symbols that are neither
abbrev pub VisitAnswers : System → Precedence → Seen → Type 0
VisitAnswers sys order Alive = (IsDead sys order → ⊥) × (length order < length (heads sys))
VisitAnswers sys order Barren = IsDead sys order
VisitAnswers sys order Good = (length order ≡ length (heads sys)) × IsGood sys order

-- the symbols that a walk holds have their places
abbrev pub IsInPlace : List Head → Walk → Type 0
IsInPlace hs w = HasItsPlaces hs (map head_view w.prefix.items) w.places.items

-- symbol f stands behind the others
abbrev pub IsLonger : List Head → Precedence → ℕ → Precedence → Type 0
IsLonger hs order f longer = (h : Head) × (slice_get hs f ≡ Some h) × (longer ≡ order ++ h ∷ [])

-- the last symbol was taken away, or there is none
abbrev pub TakeAnswers : List Head → Precedence → Precedence → Option ℕ → Type 0
TakeAnswers hs before after (Some f) = IsLonger hs after f before
TakeAnswers hs before after None = (before ≡ []) × (after ≡ [])

-- these are the symbols of the unraveled system
abbrev pub HasHeads : System → List Head → Type 0
HasHeads sys hs = hs ≡ heads sys

-- from symbols that are not dead the walk goes on to one symbol more
abbrev pub GoesDown : System → Precedence → Precedence → Type 0
GoesDown sys order longer = (length longer ≡ suc (length order)) × ((n : ℕ) → HasComeTo sys order n → (IsDead sys order → ⊥) → HasComeTo sys longer n)
