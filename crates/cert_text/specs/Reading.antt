-- The text of a certificate that is read entry by entry, and what one call of `Pairs::next` says of it.
use Rattle.std.specs.Prelude.{◌≡◌, ℕ, List, [], ◌∷◌, ◌++◌, Option, None, Some, Result, Ok, Err}
use Rattle.certificates.specs.Certificates as math
use Rattle.cops_names.specs.NameTable.{NameTable}
use Rattle.cert_model.specs.declared.model.PairEntry.{PairEntry}
use Rattle.cert_grammar.specs.CertificateText.{IsCertificateText}
use Rattle.cert_openings.specs.Openings.{Opening, certificate_for, IsRead}
use Rattle.cert_words.specs.declared.error.CertError.{CertError}
use Rattle.cert_words.specs.Words.{told}

-- names, bytes, and the place up to which they are read
pub record Reading : Type 0 where
  pub names : NameTable
  pub bytes : List ℕ
  pub place : ℕ

-- an opening and entries are read
abbrev pub HasRead : Reading → Opening → List math.PairEntry → Type 0
HasRead r o es = IsRead r.names r.bytes o es r.place

-- all bytes are the text of the certificate with an opening and entries
abbrev pub IsAll : Reading → Opening → List math.PairEntry → Type 0
IsAll r o es = IsCertificateText r.names r.bytes (certificate_for o es)

-- one entry more is read
abbrev pub ReadsOn : Reading → math.PairEntry → Reading → Type 0
ReadsOn old e new = (o : Opening) (es : List math.PairEntry) → HasRead old o es → HasRead new o (es ++ e ∷ [])

-- what is read is all but the last line
abbrev pub IsAtEnd : Reading → Type 0
IsAtEnd r = (o : Opening) (es : List math.PairEntry) → HasRead r o es → IsAll r o es

-- the same text
abbrev pub HasTextOf : Reading → Reading → Type 0
HasTextOf old new = (new.names ≡ old.names) × (new.bytes ≡ old.bytes)

-- none, unless memory was refused
abbrev pub GivesNone : Result (Option PairEntry) CertError → Type 0
GivesNone (Ok None) = Unit {0}
GivesNone (Ok (Some e)) = ⊥
GivesNone (Err e) = told e ≡ None

-- an entry, unless memory was refused
abbrev pub GivesSome : Result (Option PairEntry) CertError → Type 0
GivesSome (Ok None) = ⊥
GivesSome (Ok (Some e)) = Unit {0}
GivesSome (Err e) = told e ≡ None

-- without an entry nothing is read
abbrev pub StaysWithout : {E : Type 0} → Reading → Reading → Result (Option PairEntry) E → Type 0
StaysWithout old new (Ok (Some e)) = Unit {0}
StaysWithout old new _ = new ≡ old
