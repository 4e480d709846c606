-- How the entries of a text are read and judged, one after the other.
use Rattle.std.proofs.Common.{◌≡◌, ℕ, ◌+◌, ◌<◌, ◌≤◌, List, [], ◌∷◌, ◌++◌, length, Option, Some, None, refl, subst, arith, length-append}
use Rattle.std.specs.Prelude.{IfSome, IfNone}
use Rattle.certificates.specs.Certificates.{PairEntry}
use Rattle.cert_model.specs.declared.model.PairEntry as model
use Rattle.cert_model.specs.CertificateView.{pair_entry_view}
use Rattle.valid_certificates.specs.Entries.{IsPairShort}
use Rattle.cops_names.specs.NameTable.{NameTable}
use Rattle.cert_grammar.specs.CertificateText.{IsCertificateText, IsWithin}
use Rattle.cert_openings.specs.Openings.{Opening, ortho_opening, quasi_opening, simplified_opening, certificate_for}
use Rattle.cert_text.specs.Reading.{Reading, HasRead, ReadsOn, IsAtEnd}
use Rattle.cert_check.proofs.Bounds.{last_short}

-- so many entries are read, and have this tally
pub record AreTaken (r : Reading) (o : Opening) (n : ℕ) (HaveTally : List PairEntry → Type 0) : Type 0 where
  pub entries : List PairEntry
  pub read : HasRead r o entries
  pub counted : length entries ≡ n
  pub tally : HaveTally entries

few_entries : (names : NameTable) (o : Opening) (es : List PairEntry) → IsWithin names (certificate_for o es) → length es ≤ 20000
few_entries names ortho_opening es h = h.0
few_entries names (quasi_opening m) es h = h.1
few_entries names (simplified_opening ss o) es h = few_entries names o es h.3

-- they are never more than a text has
pub never_more : (r : Reading) (o : Opening) (n : ℕ) (T : List PairEntry → Type 0) → AreTaken r o n T → 20000 < n → ⊥
never_more r o n T h more = let few = few_entries r.names o h.entries h.read.within in let counted = h.counted in omega (arith, few, counted, more)

-- an entry is read
module _ (old new : Reading) (o : Opening) (es : List PairEntry) (found : Option model.PairEntry) (e : model.PairEntry) (is : found ≡ Some e)
    (reads : IfSome found (λ e. ReadsOn old (pair_entry_view e) new)) (read : HasRead old o es) where
  pub one_more : HasRead new o (es ++ pair_entry_view e ∷ [])
  one_more = subst (λ f. IfSome f (λ e. ReadsOn old (pair_entry_view e) new)) is reads o es read

  pub next_short : IsPairShort (pair_entry_view e).evidence
  next_short = last_short new.names o es (pair_entry_view e) one_more.within

-- then one more is taken
pub one_taken : (old new : Reading) (o : Opening) (n : ℕ) (T U : List PairEntry → Type 0) (found : Option model.PairEntry) (e : model.PairEntry) → found ≡ Some e
    → IfSome found (λ e. ReadsOn old (pair_entry_view e) new) → ((es : List PairEntry) → T es → U (es ++ pair_entry_view e ∷ [])) → AreTaken old o n T → AreTaken new o (n + 1) U
one_taken old new o n T U found e is reads so taken = record {
  entries = taken.entries ++ pair_entry_view e ∷ [];
  read = one_more old new o taken.entries found e is reads taken.read;
  counted = let counted = taken.counted in omega (arith, counted, length-append taken.entries (pair_entry_view e ∷ []));
  tally = so taken.entries taken.tally;
}

-- where there is no further entry, all is read
pub all_read : (names : NameTable) (bytes : List ℕ) (r : Reading) (o : Opening) (es : List PairEntry) → r.names ≡ names → r.bytes ≡ bytes
    → (found : Option model.PairEntry) → ((e : model.PairEntry) → found ≡ Some e → ⊥) → IfNone found (IsAtEnd r) → HasRead r o es → IsCertificateText names bytes (certificate_for o es)
all_read names bytes r o es n b None without end read =
    subst (λ x. IsCertificateText x bytes (certificate_for o es)) n (subst (λ x. IsCertificateText r.names x (certificate_for o es)) b (end o es read))
all_read names bytes r o es n b (Some e) without end read = absurd (without e refl)
