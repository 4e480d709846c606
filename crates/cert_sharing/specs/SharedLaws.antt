-- Laws of the text of a certificate in both versions: all bytes are the text of one certificate, or have one refusal.
use Rattle.std.specs.Prelude.{◌≡◌, ◌⊎◌, ◌≤◌, ℕ, List, length}
use Rattle.certificates.specs.Certificates.{Certificate}
use Rattle.cops_names.specs.NameTable.{NameTable}
use Rattle.cert_grammar.specs.Prelude.{certificate_text, CanBeSpelt, IsCertificateText, second_version, CertificateCause, nothing_shared, PassShares, Reading, accepted, refused, read_text}
use Rattle.cert_grammar.specs.Prelude.{Skeleton, marks_of, skeleton_text, Pass, IsCertificateRefused}

-- a text of the grammar in which all demands are met
abbrev pub IsMetText : NameTable → List ℕ → Type 0
IsMetText names bytes = (s : Skeleton) × (skeleton_text s ≡ bytes) × Pass names (marks_of s) × PassShares nothing_shared (marks_of s)

-- these are the texts of certificates
abbrev pub MetAreCertificates : Type 0
MetAreCertificates = (names : NameTable) (bytes : List ℕ) → IsMetText names bytes → (c : Certificate) × IsCertificateText names bytes c

abbrev pub CertificatesAreMet : Type 0
CertificatesAreMet = (names : NameTable) (bytes : List ℕ) (c : Certificate) → IsCertificateText names bytes c → (s : Skeleton) × (s.certificate ≡ c) × (skeleton_text s ≡ bytes)
    × Pass names (marks_of s) × PassShares nothing_shared (marks_of s)

-- all bytes are the text of a certificate or are refused
abbrev pub TextOrRefused : Type 0
TextOrRefused = (names : NameTable) (bytes : List ℕ) → ((c : Certificate) × IsCertificateText names bytes c) ⊎ ((e : CertificateCause) × (at : ℕ) × IsCertificateRefused names bytes e at)

-- no bytes are both
abbrev pub NeverBoth : Type 0
NeverBoth = (names : NameTable) (bytes : List ℕ) (c : Certificate) (e : CertificateCause) (at : ℕ) → IsCertificateText names bytes c → IsCertificateRefused names bytes e at → ⊥

-- there is one refusal, at one place, in the text or at its end
abbrev pub OneRefusal : Type 0
OneRefusal = (names : NameTable) (bytes : List ℕ) (e f : CertificateCause) (at place : ℕ) → IsCertificateRefused names bytes e at → IsCertificateRefused names bytes f place → (e ≡ f) × (at ≡ place)

abbrev pub PlacesAreWithin : Type 0
PlacesAreWithin = (names : NameTable) (bytes : List ℕ) (e : CertificateCause) (at : ℕ) → IsCertificateRefused names bytes e at → at ≤ length bytes

-- an answer that is right
abbrev pub IsAnswer : NameTable → List ℕ → Reading → Type 0
IsAnswer names bytes accepted = IsMetText names bytes
IsAnswer names bytes (refused e at) = IsCertificateRefused names bytes e at

-- the reader that stops at the first refusal gives the answer of each text
abbrev pub ReaderIsExact : Type 0
ReaderIsExact = (names : NameTable) (bytes : List ℕ) → IsAnswer names bytes (read_text names bytes)

-- and finds each
abbrev pub AnswersAreRead : Type 0
AnswersAreRead = (names : NameTable) (bytes : List ℕ) (r : Reading) → IsAnswer names bytes r → read_text names bytes ≡ r

-- bytes are the text of one certificate at most
abbrev pub OneCertificate : Type 0
OneCertificate = (names : NameTable) (bytes : List ℕ) (c d : Certificate) → IsCertificateText names bytes c → IsCertificateText names bytes d → c ≡ d

-- what is written in the second version is that certificate's text alone, and has no refusal
abbrev pub WrittenIsRead : Type 0
WrittenIsRead = (names : NameTable) (c d : Certificate) → CanBeSpelt second_version names c → IsCertificateText names (certificate_text second_version names c) d → c ≡ d
