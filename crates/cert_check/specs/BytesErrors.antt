-- The errors of a certificate's text.
use Rattle.cert_words.specs.declared.error.CertError.{CertError}
use Rattle.cert_words.specs.declared.error.CertError.TheVariants as refused
use Rattle.validity.specs.declared.CheckError.{CheckError}
use Rattle.validity.specs.declared.CheckError.TheVariants as check
use Rattle.cert_check.specs.declared.bytes.BytesError.{BytesError}
use Rattle.cert_check.specs.declared.bytes.BytesError.TheVariants.{Cert, Rejected, NoMemory}

-- want of memory is no refusal
abbrev pub error_of_text : CertError → BytesError
error_of_text refused.NoMemory = NoMemory
error_of_text e = Cert e

abbrev pub error_of_check : CheckError → BytesError
error_of_check (check.Rejected reason) = Rejected reason
error_of_check check.NoMemory = NoMemory
