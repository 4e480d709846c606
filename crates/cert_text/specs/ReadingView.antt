-- The reading that a `Pairs` stands for.
use Rattle.std.specs.Prelude.{◌≡◌, ◌⊎◌, ◌-◌, ℕ, suc, Bool, List, [], ◌∷◌, ◌++◌, length, map, drop, Option, Some, None, Vec}
use Rattle.std.specs.Global.{Global}
use Rattle.certificates.specs.Evidence as math
use Rattle.certificates.specs.Certificates.{PairEntry}
use Rattle.cops_names.specs.NameTable.{NameTable}
use Rattle.cert_model.specs.declared.evidence.Automaton.{Automaton}
use Rattle.cert_model.specs.EvidenceView.{automaton_view}
use Rattle.cert_grammar.specs.Prelude.{Naming, Mark, answer_marks, heading_marks, body_marks, Item, pairs_from, entries_from, heads_from, Version, first_version, second_version, Uses, Shared}
use Rattle.cert_grammar.specs.Prelude.{nothing_shared}
use Rattle.cert_grammar.specs.Items as Items
use Rattle.cert_openings.specs.Openings.{Opening, certificate_for, uses_with, BeginsEntry}
use Rattle.cert_openings.specs.Laws.{IsReadTo}
use Rattle.cert_words.specs.Walks.{Run}
use Rattle.cert_reading.specs.Plain.{IsPlainBy}
use Rattle.cert_reading.specs.Shared.{IsKnown, ArePlainAutomata, CanShare}
use Rattle.cert_text.specs.Reading.{Reading}
use Rattle.cert_text.specs.declared.pairs.Pairs.TheInside.{Inside}

-- the place of the bytes that are left
abbrev pub place_of : List ℕ → List ℕ → ℕ
place_of bytes left = length bytes - length left

abbrev pub reading_view : Inside → Reading
reading_view p = record { names = p.names.now; bytes = p.bytes.now; place = place_of p.bytes.now p.at.left.now }

-- the version, and the shared automata of the second one
abbrev pub version_with : Option (Vec Automaton Global) → Version
version_with None = first_version
version_with (Some automata) = second_version

abbrev pub shared_in : Option (Vec Automaton Global) → List math.Automaton
shared_in None = []
shared_in (Some automata) = map automaton_view automata.items

-- an item of a measure at which it may end
abbrev pub EndsMeasure : Version → Item → Type 0
EndsMeasure v (entries_from u k) = v ≡ u
EndsMeasure v (heads_from k) = v ≡ second_version
EndsMeasure v _ = ⊥

-- what the text goes on with: an overlap with this number; or, behind a measure, the first
abbrev pub IsNext : Version → Item → ℕ → List ℕ → Type 0
IsNext v item n left = (item ≡ pairs_from v n) ⊎ (EndsMeasure v item × (n ≡ 1) × BeginsEntry left)

-- the marks of an opening and of entries, behind this answer
abbrev pub read_marks : Naming → Uses → List math.Automaton → Option Bool → Opening → List PairEntry → List Mark
read_marks names uses shared given o es = answer_marks given ++ (heading_marks names uses shared ++ body_marks names uses given (certificate_for o es))

-- an opening and so many entries are read up to the bytes that are left, along their marks, and this is known of the shared automata
pub record IsUpTo (v : Version) (shared : List math.Automaton) (names : NameTable) (bytes left : List ℕ) (count : ℕ) (now : Shared) : Type 0 where
  pub opening : Opening
  pub entries : List PairEntry
  pub given : Option Bool
  pub item : Item
  pub read : IsReadTo names bytes opening entries (place_of bytes left) v (drop now.used shared) left
  pub counted : length entries ≡ count
  pub can_share : CanShare v shared
  pub known : IsKnown names shared now
  pub plain : IsPlainBy v shared (certificate_for opening entries)
  pub plain_shared : ArePlainAutomata shared
  pub run : Run names (length bytes) (Items.opening ∷ []) (λ u. read_marks u (uses_with v names shared) shared given opening entries) (item ∷ []) bytes left nothing_shared now
  pub next : IsNext v item (suc count) left

abbrev pub IsHeld : Inside → Type 0
IsHeld p = (p.at.refused ≡ None) × IsUpTo (version_with p.automata) (shared_in p.automata) p.names.now p.bytes.now p.at.left.now p.count p.at.shares
