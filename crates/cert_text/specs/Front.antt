-- What is known of a text that is read up to its body, or behind the word of the body's kind.
use Rattle.std.specs.Prelude.{◌≡◌, ℕ, suc, Bool, List, [], ◌∷◌, ◌++◌, length, Option, None, Some, codes}
use Rattle.certificates.specs.Prelude.{Automaton, Simplification}
use Rattle.cops_names.specs.NameTable.{NameTable}
use Rattle.cert_grammar.specs.Prelude.{largest, Version, second_version, Uses, in_range, is_few, simplifications, Naming, Mark, fixed, word, simplifications_marks, answer_marks, heading_marks, Item}
use Rattle.cert_grammar.specs.Prelude.{nothing_shared}
use Rattle.cert_grammar.specs.WordMarks.{numeral}
use Rattle.cert_grammar.specs.Items as Items
use Rattle.cert_openings.specs.Openings.{Opening, simplified_opening, uses_with, IsOpened}
use Rattle.cert_words.specs.declared.error.CertError.{CertError}
use Rattle.cert_words.specs.declared.reading.Reading.{Reading}
use Rattle.cert_reading.specs.declared.headings.Kind.{Kind}
use Rattle.cert_reading.specs.Headings.{kind_mark, item_by}
use Rattle.cert_reading.specs.Plain.{StepsUse}
use Rattle.cert_reading.specs.Shared.{ArePlainAutomata, CanShare}
use Rattle.cert_reading.specs.Stops.{ReadsWhere, BeforeEntries}
use Rattle.cert_reading.specs.Uses.{AreShared}
use Rattle.cert_text.specs.OpenedText.{OpenedText, behind_steps, IsBad}
use Rattle.cert_text.specs.ReadingView.{IsUpTo, place_of}

-- the steps before a body, if there are any
abbrev pub steps_marks : Naming → Uses → Option (List Simplification) → List Mark
steps_marks names uses None = []
steps_marks names uses (Some steps) =
    fixed (codes "simplify ") ∷ word (numeral (length steps)) (in_range 0 1 (suc largest) (length steps) ∷ is_few simplifications (length steps) ∷ []) ∷ fixed (codes "\n")
    ∷ simplifications_marks names uses steps

abbrev pub opening_behind : Option (List Simplification) → Opening → Opening
opening_behind None o = o
opening_behind (Some steps) o = simplified_opening steps o

abbrev pub opened_behind : Option (List Simplification) → OpenedText → OpenedText
opened_behind None t = t
opened_behind (Some steps) t = behind_steps steps t

-- the second version alone can say them
abbrev pub CanStep : Version → List Automaton → Option (List Simplification) → Type 0
CanStep v shared None = Unit {0}
CanStep v shared (Some steps) = (v ≡ second_version) × StepsUse v shared steps

-- all marks before the body
abbrev pub front_marks : Naming → Uses → List Automaton → Option Bool → Option (List Simplification) → List Mark
front_marks names uses shared given steps = answer_marks given ++ (heading_marks names uses shared ++ steps_marks names uses steps)

-- the first byte of a text is next, and nothing is known yet
pub record IsStart (bytes : List ℕ) (at : Reading) : Type 0 where
  pub all_left : at.left.now ≡ bytes
  pub fresh : at.shares ≡ nothing_shared
  pub not_refused : at.refused ≡ None

-- a text that is read from its first byte on, along these and further marks, up to these items
pub record IsBegun (names : NameTable) (bytes : List ℕ) (v : Version) (shared : List Automaton) (given : Option Bool) (steps : Option (List Simplification)) (further : List Mark)
    (items : List Item) (at : Reading) : Type 0 where
  pub can_share : CanShare v shared
  pub start : Reading
  pub first : IsStart bytes start
  pub read : ReadsWhere BeforeEntries names (length bytes) (Items.opening ∷ []) (λ u. front_marks u (uses_with v names shared) shared given steps ++ further) items start at
  pub known : AreShared v names shared (length bytes) at
  pub plain_shared : at.refused ≡ None → ArePlainAutomata shared
  pub can_step : at.refused ≡ None → CanStep v shared steps

-- behind the word of this kind
pub record BeginsBody (names : NameTable) (bytes : List ℕ) (v : Version) (shared : List Automaton) (steps : Option (List Simplification)) (kind : Kind) (at : Reading) : Type 0 where
  pub given : Option Bool
  pub begun : IsBegun names bytes v shared given steps (kind_mark given kind ∷ []) (Items.between Items.line ∷ item_by v kind ∷ []) at

-- an opening is read, or refused
pub record ReadsOpening (names : NameTable) (bytes : List ℕ) (v : Version) (shared : List Automaton) (o : Opening) (at : Reading) : Type 0 where
  pub up_to : at.refused ≡ None → IsUpTo v shared names bytes at.left.now 0 at.shares
  pub opened : at.refused ≡ None → IsOpened names bytes o (place_of bytes at.left.now)
  pub refused : (e : CertError) → at.refused ≡ Some e → IsBad names bytes e
