-- How a part of a text is read: along the marks of a value, or up to a refusal.
use Rattle.std.specs.Prelude.{◌≡◌, ◌≤◌, ◌-◌, nat_le, nat_lt, ◌&&◌, true, false, ℕ, List, [], ◌∷◌, ◌++◌, length, take, Option, Some, None, Result, Ok, Err, Vec}
use Rattle.std.specs.Global.{Global}
use Rattle.cops_names.specs.NameTable.{NameTable}
use Rattle.cert_grammar.specs.Prelude.{name_of, CertificateCause, Naming, Mark, marks_text, verdict, are_places, value, Item, Lead, leads, first_there}
use Rattle.cert_grammar.specs.Prelude.{taken, mark_of, Left, goes_on, step, Shared, behind_marks, PassShares, ends, shared_step}
use Rattle.cert_grammar.specs.FirstRefusal as machine
use Rattle.cert_shares.specs.SharesView.{with_begun}
use Rattle.cert_words.specs.declared.error.CertError.{CertError}
use Rattle.cert_words.specs.declared.reading.Reading.{Reading}
use Rattle.cert_words.specs.Words.{told, IsTold}
pub use Rattle.cert_laws.specs.FoundNames.{tagged, IsFound, AreFound, HasNoStates, AreWithoutStates}

-- where the reader is with these bytes left of a text of so many
abbrev pub left_at : ℕ → List Item → List ℕ → Left
left_at end items bytes = record { at = end - length bytes; items = items; bytes = bytes }

-- a step that goes on, and the mark over which it goes
pub record StepsOver (names : NameTable) (l : Left) (m : Mark) (k : Left) : Type 0 where
  pub item : Item
  pub others : List Item
  pub items : l.items ≡ item ∷ others
  pub lead : Lead
  pub first : first_there (leads item) l.bytes ≡ Some lead
  pub mark : m ≡ mark_of lead (take (taken lead l.bytes) l.bytes)
  pub goes : step names l ≡ goes_on k

abbrev pub Walks : NameTable → List Mark → Left → Left → Type 0
Walks names [] l k = l ≡ k
Walks names (m ∷ ms) l k = (j : Left) × StepsOver names l m j × Walks names ms j k

-- what is known of shared automata before marks and behind them, where they pass, whatever was begun of an automaton
abbrev pub Keeps : Shared → List Mark → Shared → Type 0
Keeps s ms t = (b : List ℕ) → PassShares (with_begun b s) ms × (with_begun [] (behind_marks ms (with_begun b s)) ≡ with_begun [] t)

-- with these marks an automaton begins, and nothing else of shared automata: what is begun is their text
abbrev pub BeginsAnew : List Mark → Type 0
BeginsAnew ms = (b : List ℕ) (s : Shared) → (behind_marks ms (with_begun b s)).begun ≡ marks_text ms

-- from these items on to those, along the marks of a value, whatever items are behind them
pub record Run (names : NameTable) (end : ℕ) (from : List Item) (marks : Naming → List Mark) (to : List Item) (bytes rest : List ℕ) (s t : Shared) : Type 0 where
  pub walks : length bytes ≤ end → (items : List Item) → Walks names (marks (name_of names)) (left_at end (from ++ items) bytes) (left_at end (to ++ items) rest)
  pub found : AreFound names (marks tagged)
  pub shares : length bytes ≤ end → Keeps s (marks (name_of names)) t

-- a refusal at the next word
abbrev pub RefusesAt : NameTable → Left → Shared → CertificateCause × ℕ → Type 0
RefusesAt names l s e = shared_step names l s ≡ ends (machine.refused e.0 e.1)

-- what is told is the refusal at this item, whatever items are behind it; wanting memory tells nothing
abbrev pub IsStuckAt : NameTable → ℕ → Item → List ℕ → Shared → Option (CertificateCause × ℕ) → Type 0
IsStuckAt names end i bytes s None = Unit {0}
IsStuckAt names end i bytes s (Some e) = (items : List Item) (b : List ℕ) → RefusesAt names (left_at end (i ∷ items) bytes) (with_begun b s) e

-- the same behind marks, which begin with these bytes
abbrev pub IsStuckBehind : NameTable → ℕ → Item → List Mark → List ℕ → List ℕ → Shared → Option (CertificateCause × ℕ) → Type 0
IsStuckBehind names end i marks begun bytes s None = Unit {0}
IsStuckBehind names end i marks begun bytes s (Some e) = length begun ≤ end → (items : List Item) (b : List ℕ) → RefusesAt names (left_at end (i ∷ items) bytes) (behind_marks marks (with_begun b s)) e

-- what is true of the items and of the bytes that are left
abbrev pub Place : Type 1
Place = List Item → List ℕ → Type 0

abbrev pub Anywhere : Place
Anywhere items bytes = Unit {0}

-- the same of the items above these
abbrev pub Above : Place → List Item → Place
Above P items whole bytes = (i : Item) × (more : List Item) × (whole ≡ i ∷ (more ++ items)) × P (i ∷ more) bytes

-- a refusal at such a place
pub record StopsWhere (P : Place) (names : NameTable) (end : ℕ) (from : List Item) (bytes : List ℕ) (s : Shared) (e : CertificateCause × ℕ) : Type 0 where
  pub marks : List Mark
  pub item : Item
  pub more : List Item
  pub rest : List ℕ
  pub walks : Walks names marks (left_at end from bytes) (left_at end (item ∷ more) rest)
  pub stops : (b : List ℕ) → PassShares (with_begun b s) marks × RefusesAt names (left_at end (item ∷ more) rest) (behind_marks marks (with_begun b s)) e
  pub place : P (item ∷ more) rest

-- the same of what is told; wanting memory tells nothing
abbrev pub IsStoppedWhere : Place → NameTable → ℕ → List Item → List ℕ → Shared → Option (CertificateCause × ℕ) → Type 0
IsStoppedWhere P names end from bytes s None = Unit {0}
IsStoppedWhere P names end from bytes s (Some e) = length bytes ≤ end → StopsWhere P names end from bytes s e

-- before the items behind these, whatever they are
abbrev pub IsStopped : Place → NameTable → ℕ → List Item → List ℕ → Shared → Option (CertificateCause × ℕ) → Type 0
IsStopped P names end from bytes s t = (items : List Item) → IsStoppedWhere (Above P items) names end (from ++ items) bytes s t

-- what was refused stays so; else the part is read, or refused
abbrev pub GoesOn : Type 0 → (Option (CertificateCause × ℕ) → Type 0) → Option CertError → Option CertError → Type 0
GoesOn IsRead IsRefused None None = IsRead
GoesOn IsRead IsRefused (Some d) None = ⊥
GoesOn IsRead IsRefused None (Some e) = IsRefused (told e)
GoesOn IsRead IsRefused (Some d) (Some e) = told e ≡ told d

-- texts of shared automata stay in front of those that come
abbrev pub IsFront : List (List ℕ) → List (List ℕ) → Type 0
IsFront old new = (more : List (List ℕ)) × (new ≡ old ++ more)

-- what is read from these items on to those, or refused at such a place
pub record ReadsWhere (P : Place) (names : NameTable) (end : ℕ) (from : List Item) (marks : Naming → List Mark) (to : List Item) (old new : Reading) : Type 0 where
  pub front : IsFront old.shares.texts new.shares.texts
  pub on : GoesOn (Run names end from marks to old.left.now new.left.now old.shares new.shares) (IsStopped P names end from old.left.now old.shares) old.refused new.refused

abbrev pub Reads : NameTable → ℕ → List Item → (Naming → List Mark) → List Item → Reading → Reading → Type 0
Reads names end from marks to old new = ReadsWhere Anywhere names end from marks to old new

-- the number that digits spell, where it is in a range
abbrev pub IsWithin : ℕ → ℕ → List ℕ → Option ℕ → Type 0
IsWithin least bound digits None = (nat_le least (value digits) && nat_lt (value digits) bound) ≡ false
IsWithin least bound digits (Some n) = (n ≡ value digits) × ((nat_le least (value digits) && nat_lt (value digits) bound) ≡ true)

-- the numbers of a position, or why they are none, if not for want of memory
abbrev pub IsPlaces : NameTable → ℕ → List ℕ → Result (Vec ℕ Global) CertError → Type 0
IsPlaces names at p (Ok places) = (places.items ≡ p) × (verdict names at (are_places 0 p) ≡ None)
IsPlaces names at p (Err e) = IsTold (verdict names at (are_places 0 p)) (told e)
