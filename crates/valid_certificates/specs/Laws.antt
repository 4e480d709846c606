-- What a valid peak shows, and that a certificate is either valid or rejected for one reason, and never both.
use Rattle.std.specs.Prelude.{◌≡◌, ◌⊎◌}
use Rattle.rewriting.specs.Prelude.{Term, IsOver, System, IsWellFormed, Reaches, IsConfluent, AreApart}
use Rattle.join_systems.specs.FileRelation.{IsFileTerm, FileReaches, IsFileConfluent, AreFileApart}
use Rattle.certificates.specs.Prelude.{Peak, Certificate, Rejection}
use Rattle.valid_certificates.specs.Peaks.{LeadsTo, IsValidPeak}
use Rattle.valid_certificates.specs.Certificates.{IsValid, IsRejected}

-- the file term reaches two file terms, and they have no common reduct; all the same by the file's relation
pub record IsUnjoinable (sys : System) (t u v : Term) : Type 0 where
  pub terms : IsFileTerm sys t × IsFileTerm sys u × IsFileTerm sys v
  pub one : Reaches sys t u
  pub other : Reaches sys t v
  pub apart : AreApart sys u v
  pub file_one : FileReaches sys t u
  pub file_other : FileReaches sys t v
  pub file_apart : AreFileApart sys u v

-- the peak's derivations lead to two terms, and whichever they are, the start reaches both and they have no common reduct
pub record ReachesApart (sys : System) (peak : Peak) : Type 0 where
  pub leads : (u : Term) × (v : Term) × LeadsTo sys peak u v
  pub apart : (u v : Term) → LeadsTo sys peak u v → IsUnjoinable sys peak.start u v

-- so it is of a valid peak whose start is a term over the symbols
abbrev pub ValidPeaksReachApart : Type 0
ValidPeaksReachApart = (sys : System) (peak : Peak) → IsWellFormed sys → IsOver sys.arities peak.start → IsValidPeak sys peak → ReachesApart sys peak

-- such terms show that neither relation is confluent
abbrev pub UnjoinableTermsRefuteConfluence : Type 0
UnjoinableTermsRefuteConfluence = (sys : System) (t u v : Term) → IsUnjoinable sys t u v → (IsFileConfluent sys → ⊥) × (IsConfluent sys → ⊥)

-- a certificate is rejected for one reason, and then it is not valid
pub record IsOneAnswer (Valid : Type 0) (IsRejected : Rejection → Type 0) : Type 0 where
  pub one_reason : (r s : Rejection) → IsRejected r → IsRejected s → r ≡ s
  pub never_both : (r : Rejection) → IsRejected r → Valid → ⊥

abbrev pub CertificatesHaveOneAnswer : Type 0
CertificatesHaveOneAnswer = (sys : System) (c : Certificate) → IsOneAnswer (IsValid sys c) (IsRejected sys c)

-- and it is rejected for one where it is not valid
abbrev pub CertificatesHaveAnAnswer : Type 0
CertificatesHaveAnAnswer = (sys : System) (c : Certificate) → IsValid sys c ⊎ ((reason : Rejection) × IsRejected sys c reason)
