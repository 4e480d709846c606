-- The error that is told of a text that no certificate has.
use Rattle.std.specs.Prelude.{ℕ, List, MatchOption}
use Rattle.cops_names.specs.NameTable.{NameTable}
use Rattle.cert_grammar.specs.Prelude.{IsCertificateRefused}
use Rattle.cert_words.specs.declared.error.CertError.{CertError}
use Rattle.cert_words.specs.Words.{told}

-- the refusal of the bytes, and its place; memory may be refused at any text
abbrev pub IsRefusedAs : NameTable → List ℕ → CertError → Type 0
IsRefusedAs names bytes e = MatchOption (told e) (Unit {0}) (λ r. IsCertificateRefused names bytes r.0 r.1)
