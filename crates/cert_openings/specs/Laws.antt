-- Laws of openings, and of entries that are read one by one.
use Rattle.std.specs.Prelude.{ℕ, suc, ◌-◌, slice_get, Some, ◌≡◌, ◌<◌, ◌≤◌, ◌+◌, List, [], ◌∷◌, ◌++◌, length, codes}
use Rattle.cert_grammar.specs.declared.limits.TheConstants.{MOST_PAIRS}
use Rattle.certificates.specs.Prelude.{Automaton, PairEntry, Certificate}
use Rattle.cops_names.specs.NameTable.{NameTable}
use Rattle.cert_grammar.specs.Prelude.{Version, used_by_evidence, texts_of, with_new, shared_by, number_in, AllNew, pairs_text, ArePairs, CertificateCause, IsCertificateText}
use Rattle.cert_grammar.specs.Prelude.{IsCertificateRefused}
use Rattle.cert_openings.specs.Openings.{Opening, certificate_for, uses_with, IsRead, Takes, IsOpened, IsOpeningEnd, IsPeak}

-- a text whose opening is read is refused behind it, if it is
abbrev pub OpeningsPass : Type 0
OpeningsPass = (names : NameTable) (bytes : List ℕ) (o : Opening) (end : ℕ) (e : CertificateCause) (at : ℕ) → IsOpened names bytes o end → IsCertificateRefused names bytes e at → end ≤ at

-- a text whose opening ends somewhere but is none is refused before its end
abbrev pub BadOpeningsAreRefused : Type 0
BadOpeningsAreRefused = (names : NameTable) (bytes : List ℕ) (end : ℕ) (e : CertificateCause) (at : ℕ) → IsOpeningEnd bytes end → ((o : Opening) → IsOpened names bytes o end → ⊥)
    → IsCertificateRefused names bytes e at → at < end

-- an opening ends at the first line that may begin an entry
abbrev pub OpeningsEnd : Type 0
OpeningsEnd = (names : NameTable) (bytes : List ℕ) (o : Opening) (end : ℕ) → IsOpened names bytes o end → IsOpeningEnd bytes end

-- a text has one opening's end
abbrev pub OneOpeningEnd : Type 0
OneOpeningEnd = (bytes : List ℕ) (end place : ℕ) → IsOpeningEnd bytes end → IsOpeningEnd bytes place → end ≡ place

-- the text of a peak has none
abbrev pub PeaksHaveNoEnd : Type 0
PeaksHaveNoEnd = (names : NameTable) (bytes : List ℕ) (c : Certificate) (end : ℕ) → IsPeak c → IsCertificateText names bytes c → IsOpeningEnd bytes end → ⊥

-- what is read up to the last line, with no automaton left, is the text of a certificate
abbrev pub WholeIsText : Type 0
WholeIsText = (names : NameTable) (bytes : List ℕ) (o : Opening) (es : List PairEntry) (at : ℕ) → (h : IsRead names bytes o es at) → h.left ≡ [] → h.rest ≡ codes "end\n"
    → IsCertificateText names bytes (certificate_for o es)

-- read up to the last line, with no automaton left
pub record IsWhole (names : NameTable) (bytes : List ℕ) (o : Opening) (es : List PairEntry) : Type 0 where
  pub at : ℕ
  pub read : IsRead names bytes o es at
  pub all_used : read.left ≡ []
  pub last : read.rest ≡ codes "end\n"

abbrev pub TextIsWhole : Type 0
TextIsWhole = (names : NameTable) (bytes : List ℕ) (o : Opening) (es : List PairEntry) → IsCertificateText names bytes (certificate_for o es) → IsWhole names bytes o es

-- an opening and entries are read in this version, with these automata left and these bytes behind
pub record IsReadTo (names : NameTable) (bytes : List ℕ) (o : Opening) (es : List PairEntry) (at : ℕ) (v : Version) (left : List Automaton) (rest : List ℕ) : Type 0 where
  pub read : IsRead names bytes o es at
  pub is_version : read.version ≡ v
  pub is_left : read.left ≡ left
  pub is_rest : read.rest ≡ rest

-- one entry more: its text stands next, with the numbers of the automata of the whole text
abbrev pub EntryIsTaken : Type 0
EntryIsTaken =
    (names : NameTable) (bytes : List ℕ) (o : Opening) (es : List PairEntry) (at : ℕ) (p : PairEntry) (left : List Automaton) (rest : List ℕ) → (h : IsRead names bytes o es at)
    → length es < MOST_PAIRS → ArePairs names (p ∷ [])
    → h.rest ≡ pairs_text names (uses_with h.version names (shared_by names (certificate_for o es) ++ h.left)) (p ∷ []) ++ rest
    → Takes h.version names (certificate_for o es) h.left (used_by_evidence p.evidence) left
    → IsReadTo names bytes o (es ++ p ∷ []) (at + length (pairs_text names (uses_with h.version names (shared_by names (certificate_for o es) ++ h.left)) (p ∷ []))) h.version left rest

-- two readings up to one place are one: the version, the opening, the entries, the automata left, and what is behind
pub record AreOne (names : NameTable) (bytes : List ℕ) (o p : Opening) (es fs : List PairEntry) (at : ℕ) (h : IsRead names bytes o es at) (k : IsRead names bytes p fs at) : Type 0 where
  pub version : h.version ≡ k.version
  pub opening : o ≡ p
  pub entries : es ≡ fs
  pub left : h.left ≡ k.left
  pub rest : h.rest ≡ k.rest

abbrev pub OneReading : Type 0
OneReading = (names : NameTable) (bytes : List ℕ) (o p : Opening) (es fs : List PairEntry) (at : ℕ) → (h : IsRead names bytes o es at) → (k : IsRead names bytes p fs at)
    → AreOne names bytes o p es fs at h k

-- a number that is at most the next one: the automaton that stands at its place, which has this number, and what is left behind its use
pub record IsTold (names : NameTable) (now left : List Automaton) (n : ℕ) : Type 0 where
  pub automaton : Automaton
  pub stands : slice_get (now ++ left) (n - 1) ≡ Some automaton
  pub number : number_in names (now ++ left) automaton ≡ n
  pub then : List Automaton
  pub takes : with_new names now (automaton ∷ []) ++ then ≡ now ++ left

abbrev pub NumbersTell : Type 0
NumbersTell = (names : NameTable) (now left : List Automaton) (n : ℕ) → AllNew [] (texts_of names (now ++ left)) → 1 ≤ n → n ≤ length (now ++ left) → n ≤ suc (length now) → IsTold names now left n
