-- The answer that a certificate is, and the text of both.
use Rattle.std.specs.Prelude.{◌++◌, ℕ, List, codes}
use Rattle.certificates.specs.Certificates.{Certificate}
use Rattle.cops_names.specs.NameTable.{NameTable}
use Rattle.cert_grammar.specs.Prelude.{answer_line, certificate_text, second_version}
use Rattle.cert_check.specs.declared.Verdict.{Verdict}
use Rattle.cert_check.specs.declared.Verdict.TheVariants.{Yes, No}

-- the answer that a verdict is, as a line
abbrev pub verdict_text : Verdict → List ℕ
verdict_text Yes = codes "YES\n"
verdict_text No = codes "NO\n"

-- what the certificate shows, and below it the certificate
abbrev pub proof_text : NameTable → Certificate → List ℕ
proof_text names c = answer_line c ++ certificate_text second_version names c
