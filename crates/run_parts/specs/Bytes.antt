-- What the bytes of files spell.
use Rattle.std.specs.Prelude.{◌≡◌, ◌≤◌, ℕ, List, length, Option, Some, IfSome}
use Rattle.run_parts.specs.declared.limits.TheConstants.{FILE_LIMIT, CERT_LIMIT, QUERY_LIMIT}
use Rattle.rewriting.specs.Rules.{System}
use Rattle.certificates.specs.Certificates.{Certificate}
use Rattle.cops_names.specs.NameTable.{NameTable}
use Rattle.cops_read.specs.File.{IsFile}
use Rattle.cert_grammar.specs.CertificateText.{IsCertificateText}
use Rattle.run_parts.specs.Devices.{ShelfRun}

-- no file, no certificate and no query is longer
abbrev pub most_file_bytes : ℕ
most_file_bytes = FILE_LIMIT

abbrev pub most_cert_bytes : ℕ
most_cert_bytes = CERT_LIMIT

abbrev pub most_query_bytes : ℕ
most_query_bytes = QUERY_LIMIT

-- the bytes of a file: a set of lists, since a shelf may not tell which they are
abbrev pub Bytes : Type 1
Bytes = List ℕ → Type 0

-- bytes that may be told or not: those that are, else any
abbrev pub told_or_any : Option (List ℕ) → Bytes
told_or_any told bytes = IfSome told (λ contents. bytes ≡ contents)

-- the bytes of a file: the shelf's contents, where it tells them
abbrev pub bytes_of : ShelfRun → List ℕ → Bytes
bytes_of shelf name = told_or_any (shelf.contents name)

-- the same where it does tell them
abbrev pub told_bytes : ShelfRun → List ℕ → Bytes
told_bytes shelf name bytes = shelf.contents name ≡ Some bytes

-- the file spells the system with these names
abbrev pub SpellsSystem : Bytes → System → NameTable → Type 0
SpellsSystem file sys names = (bytes : List ℕ) × file bytes × (length bytes ≤ most_file_bytes) × IsFile bytes sys names

-- with these names the text is that of the certificate
abbrev pub SpellsCertificate : Bytes → NameTable → Certificate → Type 0
SpellsCertificate cert names c = (bytes : List ℕ) × cert bytes × (length bytes ≤ most_cert_bytes) × IsCertificateText names bytes c
