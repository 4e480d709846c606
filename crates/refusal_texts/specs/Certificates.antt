-- Why a text is that of no certificate, in words.
use Rattle.std.specs.Prelude.{ℕ, List, Option, Some, None, option_map, codes}
use Rattle.cert_grammar.specs.Marks as marks
use Rattle.cert_words.specs.Words.{counted_view}
use Rattle.cert_words.specs.declared.error.CertError.{CertError}
use Rattle.cert_words.specs.declared.error.CertError.TheVariants.{CertSyntax, UnknownName, WrongArity, BadNumber, BadShare, CertTooDeep, TooMany, NoMemory}

abbrev pub cert_cause_words : marks.CertificateCause → List ℕ
cert_cause_words marks.syntax = codes "syntax"
cert_cause_words marks.unknown_name = codes "unknown name"
cert_cause_words marks.wrong_arity = codes "wrong arity"
cert_cause_words marks.bad_number = codes "bad number"
cert_cause_words marks.bad_share = codes "bad share"
cert_cause_words (marks.too_many what) = codes "too many"
cert_cause_words marks.too_deep = codes "too deep"

-- the cause and the place that the reader's error tells; want of memory is no refusal
abbrev pub cert_error_cause : CertError → Option (marks.CertificateCause × ℕ)
cert_error_cause (CertSyntax at) = Some (marks.syntax, at)
cert_error_cause (UnknownName at) = Some (marks.unknown_name, at)
cert_error_cause (WrongArity at) = Some (marks.wrong_arity, at)
cert_error_cause (BadNumber at) = Some (marks.bad_number, at)
cert_error_cause (BadShare at) = Some (marks.bad_share, at)
cert_error_cause (CertTooDeep at) = Some (marks.too_deep, at)
cert_error_cause (TooMany what at) = Some (marks.too_many (counted_view what), at)
cert_error_cause NoMemory = None

abbrev pub cert_refusal_text : CertError → Option (ℕ × List ℕ)
cert_refusal_text e = option_map (λ r. (r.1, cert_cause_words r.0)) (cert_error_cause e)
