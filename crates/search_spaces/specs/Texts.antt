-- Certificates that are in a space: those that can be spelt, with a text of the second version that is not too long.
use Rattle.std.specs.Prelude.{ℕ, ◌≤◌, length}
use Rattle.cert_grammar.specs.declared.limits.TheConstants.{MOST_BYTES}
use Rattle.certificates.specs.Certificates.{Certificate}
use Rattle.cops_names.specs.NameTable.{NameTable}
use Rattle.cert_grammar.specs.Prelude.{second_version, certificate_text, CanBeSpelt}

-- no text of a certificate is longer
abbrev pub most_bytes : ℕ
most_bytes = MOST_BYTES

abbrev pub HasText : NameTable → Certificate → Type 0
HasText names c = CanBeSpelt second_version names c × (length (certificate_text second_version names c) ≤ most_bytes)
