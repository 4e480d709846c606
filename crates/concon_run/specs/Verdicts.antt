-- What a verdict on a certificate means, and how it is said.
use Rattle.std.specs.Prelude.{ℕ, List, codes}
use Rattle.rewriting.specs.Rules.{System}
use Rattle.certificates.specs.Certificates.{Certificate}
use Rattle.valid_certificates.specs.CarriedBack.{IsPeakApart}
use Rattle.cert_check.specs.declared.Verdict.{Verdict}
use Rattle.cert_check.specs.declared.Verdict.TheVariants.{Yes, No}
use Rattle.concon_run.specs.Systems.{IsWhollyConfluent}
use Rattle.concon_run.specs.declared.status.Status.{Status}
use Rattle.concon_run.specs.declared.status.Status.TheVariants as status

-- what a certificate shows of a system
abbrev pub IsShown : System → Certificate → Verdict → Type 0
IsShown sys c Yes = IsWhollyConfluent sys
IsShown sys c No = IsPeakApart sys c

abbrev pub status_of : Verdict → Status
status_of Yes = status.Yes
status_of No = status.No

-- the answer that a verdict is, as a word
abbrev pub verdict_word : Verdict → List ℕ
verdict_word Yes = codes "YES"
verdict_word No = codes "NO"
