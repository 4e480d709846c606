-- How the search ends.
use Rattle.std.proofs.Common.{ℕ, ◌≡◌, inl, inr, List, Result, Ok, Err, refl, sym, ◌∙◌, subst, arith}
use Rattle.rewriting.specs.Rules.{System}
use Rattle.unifier_run.specs.Overlaps.{Overlap, AreOverlaps}
use Rattle.certificates.specs.Certificates.{Certificate, PairEntry, ortho_certificate}
use Rattle.cops_names.specs.NameTable.{NameTable}
use Rattle.valid_certificates.specs.Certificates.{IsValid}
use Rattle.valid_certificates.specs.Confluence.{IsInOrthoClasses}
use Rattle.valid_certificates.specs.Kinds.{ortho}
use Rattle.term_core.specs.declared.terms.NoMemory.{NoMemory}
use Rattle.cert_model.specs.CertificateView.{certificate_view}
use Rattle.validity.specs.declared.Search.{Search}
use Rattle.validity.specs.declared.Search.TheVariants.{Found, Nothing, Spent}
use Rattle.cc_count.specs.Counts.{Counts, Spends}
use Rattle.first_found.specs.Rows.{AreFirsts, EndsAtRow, StopsInRow}
use Rattle.first_found.specs.Spaces.{spent, MayEndExactly}
use Rattle.search_spaces.specs.Entries.{overlap_cost, StopsAtOverlap}
use Rattle.search_spaces.specs.Ortho.{IsOrthoOpen, IsOrthoEntry, IsOrthoPaid, ortho_space}
use Rattle.search_spaces.specs.PairItems.{ortho_items}
use Rattle.search_spaces.specs.Texts.{HasText}
use Rattle.search_spaces.proofs.Ortho.{space_searched, ends_closed, ends_at_row, ends_found, ends_too_long, ends_spent}
use Rattle.cc_count.proofs.Spending.{spends_none}
use Rattle.search_answers.specs.Answers.{Searches, ending_of, IfFound, IfNothing, WrittenAnswers}

module _ (names : NameTable) (sys : System) where
  abbrev Searched : Counts → Counts → Result Search NoMemory → Type 0
  Searched = Searches ending_of (MayEndExactly (ortho_space names sys))

  abbrev Paid : Counts → Counts → Type 0
  Paid before after = (n : ℕ) × Spends before n after × IsOrthoPaid names sys n

  -- what is found is valid, and where nothing is, nothing in the space is
  pub found_valid : (before after : Counts) (r : Result Search NoMemory) → Searched before after r → IfFound ending_of r (IsValid sys)
  found_valid before after (Ok (Found c)) (n, s, f) = ((space_searched names sys).held (certificate_view c) n f).1
  found_valid before after (Ok Nothing) h = tt
  found_valid before after (Ok Spent) h = tt
  found_valid before after (Err e) h = tt

  pub nothing_valid : (before after : Counts) (r : Result Search NoMemory) → Searched before after r
      → IfNothing ending_of r ((c : Certificate) → (ortho_space names sys).Holds c → IsValid sys c → ⊥)
  nothing_valid before after (Ok (Found c)) h = tt
  nothing_valid before after (Ok Nothing) (n, s, (barren, rest)) = (space_searched names sys).barren barren
  nothing_valid before after (Ok Spent) h = tt
  nothing_valid before after (Err e) h = tt

  -- where a class fails, or the overlaps are refused
  module _ (closed : (os : List Overlap) → IsOrthoOpen sys os → ⊥) where
    pub closed_searched : (b : Counts) → Searched b b (Ok Nothing)
    closed_searched b = (0, spends_none b, ends_closed names sys closed b.left)

    pub closed_paid : (b : Counts) → Paid b b
    closed_paid b = (0, spends_none b, inr (closed, refl))

  pub closed_by_class : (IsInOrthoClasses sys → ⊥) → (os : List Overlap) → IsOrthoOpen sys os → ⊥
  closed_by_class no_class os h = no_class h.classes

  pub closed_by_overlaps : ((os : List Overlap) → AreOverlaps sys os → ⊥) → (os : List Overlap) → IsOrthoOpen sys os → ⊥
  closed_by_overlaps none os h = none os h.overlaps

  module _ (os : List Overlap) (classes : IsInOrthoClasses sys) (overlaps : AreOverlaps sys os) (before after : Counts) where
    is_open : IsOrthoOpen sys os
    is_open = record { classes = classes; overlaps = overlaps }

    module _ (es : List PairEntry) (n : ℕ) (spends : Spends before n after) (firsts : AreFirsts (IsOrthoEntry sys) os es n) where
      module _ (d : Certificate) (is : d ≡ ortho_certificate es) where
        has_none : (HasText names d → ⊥) → HasText names (ortho_certificate es) → ⊥
        has_none long text = long (subst (HasText names) (sym is) text)

        -- the certificate of the entries is found, or it has no text
        pub written_searched : (r : Result Search NoMemory) → WrittenAnswers names d r → Searched before after r
        written_searched (Ok (Found c)) (same, text) =
            (n, spends, subst (λ z. (ortho_space names sys).Finds z n) (sym (same ∙ is)) (ends_found names sys os is_open before.left n es firsts (subst (HasText names) is text)))
        written_searched (Ok Nothing) long = (n, spends, ends_too_long names sys os is_open before.left n es firsts (has_none long))
        written_searched (Ok Spent) h = absurd h
        written_searched (Err e) h = tt

        pub written_paid : (r : Result Search NoMemory) → WrittenAnswers names d r → IfNothing ending_of r (Paid before after)
        written_paid (Ok (Found c)) h = tt
        written_paid (Ok Nothing) long = (n, spends, inl (os, is_open, inr (es, firsts, has_none long)))
        written_paid (Ok Spent) h = tt
        written_paid (Err e) h = tt

    module _ (n : ℕ) (spends : Spends before n after) (ends : EndsAtRow (IsOrthoEntry sys) (overlap_cost ortho_items) os n) where
      pub row_searched : Searched before after (Ok Nothing)
      row_searched = (n, spends, ends_at_row names sys os is_open before.left n ends)

      pub row_paid : Paid before after
      row_paid = (n, spends, inl (os, is_open, inl ends))

    pub spent_searched : (n : ℕ) → Spends before n after → after.left ≡ 0 → StopsInRow (IsOrthoEntry sys) (StopsAtOverlap ortho sys ortho_items) os n → Searched before after (Ok Spent)
    spent_searched n spends end stops =
        let units = spends.left in
        let all : n ≡ before.left = omega (arith, units, end) in
        (n, spends, subst (λ left. MayEndExactly (ortho_space names sys) left n spent) all (ends_spent names sys os is_open n stops))
