-- How the search ends.
use Rattle.std.proofs.Common.{ℕ, ◌≡◌, ◌+◌, ◌≤◌, inl, List, Result, Ok, Err, sym, ◌∙◌, subst, arith}
use Rattle.rewriting.specs.Rules.{System}
use Rattle.unifier_run.specs.Overlaps.{Overlap, AreOverlaps}
use Rattle.certificates.specs.Certificates.{Certificate, MeasureCertificate, PairEntry, quasi_certificate}
use Rattle.cops_names.specs.NameTable.{NameTable}
use Rattle.valid_certificates.specs.Certificates.{IsValid}
use Rattle.term_core.specs.declared.terms.NoMemory.{NoMemory}
use Rattle.cert_model.specs.CertificateView.{certificate_view}
use Rattle.validity.specs.declared.Search.{Search}
use Rattle.validity.specs.declared.Search.TheVariants.{Found, Nothing, Spent}
use Rattle.quasi_check.specs.Parts.{AreRulesGood}
use Rattle.cc_count.specs.Counts.{Counts, Spends}
use Rattle.first_found.specs.Rows.{AreFirsts, EndsAtRow, StopsInRow}
use Rattle.first_found.specs.Spaces.{Space, spent}
use Rattle.search_answers.specs.Answers.{ending_of, Searches, IfFound, IfNothing, WrittenAnswers}
use Rattle.search_spaces.specs.Texts.{HasText}
use Rattle.quasi_space.specs.PrunedMeasures.{IsPrunedFirst}
use Rattle.quasi_space.specs.Endings.{MayEndLast}
use Rattle.quasi_space.specs.Measures.{pruned_measures}
use Rattle.quasi_space.specs.Quasi.{IsQuasiOpen, IsQuasiEntry, StopsAtQuasi, items_cost, quasi_space, quasi_space_by}
use Rattle.quasi_space.proofs.AllSpaces.{each_searchable, pruned_search}
use Rattle.quasi_space.proofs.Measures.{pruned_tried}
use Rattle.quasi_space.proofs.Quasi.{ends_closed, ends_at_row, ends_in_row, ends_found, ends_too_long, ends_no_measure, ends_in_measures}
use Rattle.cc_count.proofs.Spending.{spends_none, spends_both}
use Rattle.quasi_search.specs.MeasureTrials.{IsNoneGood, AreTooFew}

module _ (names : NameTable) (sys : System) where
  abbrev pub Pruned : Space Certificate
  Pruned = quasi_space_by (pruned_measures sys) names sys

  module _ (before after : Counts) where
    -- what is answered with the pruned grid may be answered with the whole one
    pub whole_searched : (r : Result Search NoMemory) → Searches ending_of (MayEndLast Pruned) before after r → Searches ending_of (MayEndLast (quasi_space names sys)) before after r
    whole_searched (Ok answer) (n, s, e) = (n, s, pruned_search names sys before.left n (ending_of answer) e)
    whole_searched (Err e) h = tt

    -- what is found is valid, and where nothing is, nothing in the space is
    valid_of : (r : Result Search NoMemory) → Searches ending_of (MayEndLast (quasi_space names sys)) before after r → IfFound ending_of r (IsValid sys)
    valid_of (Ok (Found c)) (n, s, (k, f, most)) = ((each_searchable names sys).searched.held (certificate_view c) k f).1
    valid_of (Ok Nothing) h = tt
    valid_of (Ok Spent) h = tt
    valid_of (Err e) h = tt

    nothing_of : (r : Result Search NoMemory) → Searches ending_of (MayEndLast (quasi_space names sys)) before after r
        → IfNothing ending_of r ((c : Certificate) → (quasi_space names sys).Holds c → IsValid sys c → ⊥)
    nothing_of (Ok (Found c)) h = tt
    nothing_of (Ok Nothing) (n, s, (barren, most)) = (each_searchable names sys).searched.barren barren
    nothing_of (Ok Spent) h = tt
    nothing_of (Err e) h = tt

    pub found_valid : (r : Result Search NoMemory) → Searches ending_of (MayEndLast Pruned) before after r → IfFound ending_of r (IsValid sys)
    found_valid r h = valid_of r (whole_searched r h)

    pub nothing_valid : (r : Result Search NoMemory) → Searches ending_of (MayEndLast Pruned) before after r
        → IfNothing ending_of r ((c : Certificate) → (quasi_space names sys).Holds c → IsValid sys c → ⊥)
    nothing_valid r h = nothing_of r (whole_searched r h)

  -- where a rule is not good, or the overlaps have no list
  closed : ((os : List Overlap) → IsQuasiOpen sys os → ⊥) → (b : Counts) → Searches ending_of (MayEndLast Pruned) b b (Ok Nothing)
  closed none b = (0, spends_none b, ends_closed names sys (pruned_measures sys) (pruned_tried sys) none b.left)

  pub closed_by_rules : (AreRulesGood sys → ⊥) → (b : Counts) → Searches ending_of (MayEndLast Pruned) b b (Ok Nothing)
  closed_by_rules bad = closed (λ os h. bad (record { deterministic = h.deterministic; irreducible = h.irreducible }))

  pub closed_by_overlaps : ((os : List Overlap) → AreOverlaps sys os → ⊥) → (b : Counts) → Searches ending_of (MayEndLast Pruned) b b (Ok Nothing)
  closed_by_overlaps none = closed (λ os h. none os h.overlaps)

  -- where all units are spent
  all_spent : (before after : Counts) (n : ℕ) → Spends before n after → after.left ≡ 0 → MayEndLast Pruned n n spent → Searches ending_of (MayEndLast Pruned) before after (Ok Spent)
  all_spent before after n spends end stopped =
      let units = spends.left in
      let all : n ≡ before.left = omega (arith, units, end) in (n, spends, subst (λ left. MayEndLast Pruned left n spent) all stopped)

  module _ (os : List Overlap) (rules : AreRulesGood sys) (overlaps : AreOverlaps sys os) where
    is_open : IsQuasiOpen sys os
    is_open = record { deterministic = rules.deterministic; irreducible = rules.irreducible; overlaps = overlaps }

    module _ (before after : Counts) where
      pub row_searched : (n : ℕ) × Spends before n after × EndsAtRow (IsQuasiEntry sys) (items_cost sys) os n → Searches ending_of (MayEndLast Pruned) before after (Ok Nothing)
      row_searched (n, spends, ends) = (n, spends, ends_at_row names sys (pruned_measures sys) (pruned_tried sys) os is_open before.left n ends)

      pub row_spent : (n : ℕ) × Spends before n after × (after.left ≡ 0) × StopsInRow (IsQuasiEntry sys) (StopsAtQuasi sys) os n → Searches ending_of (MayEndLast Pruned) before after (Ok Spent)
      row_spent (n, spends, end, stops) = all_spent before after n spends end (ends_in_row names sys (pruned_measures sys) (pruned_tried sys) os is_open n stops)

    -- every overlap has evidence, and the search goes on for a measure
    module _ (before here after : Counts) (es : List PairEntry) (whole : (n : ℕ) × Spends before n here × AreFirsts (IsQuasiEntry sys) os es n) where
      -- the certificate of the entries and the first good measure is found, or it has no text
      module _ (m : MeasureCertificate) (u : ℕ) (spends : Spends here u after) (first : IsPrunedFirst sys m u) (d : Certificate) (is : d ≡ quasi_certificate m es) where
        all_spends : Spends before (whole.0 + u) after
        all_spends = spends_both before here after whole.0 u whole.1 spends

        pub written_searched : (r : Result Search NoMemory) → WrittenAnswers names d r → Searches ending_of (MayEndLast Pruned) before after r
        written_searched (Ok (Found c)) (same, text) = (
          whole.0 + u,
          all_spends,
          subst (λ z. (k : ℕ) × Pruned.Finds z k × (whole.0 + u ≤ k)) (sym (same ∙ is))
              (ends_found names sys (pruned_measures sys) (pruned_tried sys) os is_open es whole.0 whole.2 before.left u m first (subst (HasText names) is text)),
        )
        written_searched (Ok Nothing) long = (
          whole.0 + u,
          all_spends,
          ends_too_long names sys (pruned_measures sys) (pruned_tried sys) os is_open es whole.0 whole.2 before.left u m first (λ t. long (subst (HasText names) (sym is) t)),
        )
        written_searched (Ok Spent) h = absurd h
        written_searched (Err e) h = tt

      pub none_searched : (u : ℕ) × Spends here u after × IsNoneGood sys u → Searches ending_of (MayEndLast Pruned) before after (Ok Nothing)
      none_searched (u, spends, none) = (
        whole.0 + u,
        spends_both before here after whole.0 u whole.1 spends,
        ends_no_measure names sys (pruned_measures sys) (pruned_tried sys) os is_open es whole.0 whole.2 before.left u none.within none.none,
      )

      pub spent_searched : (u : ℕ) × Spends here u after × (after.left ≡ 0) × AreTooFew sys u → Searches ending_of (MayEndLast Pruned) before after (Ok Spent)
      spent_searched (u, spends, end, few) =
          all_spent before after (whole.0 + u) (spends_both before here after whole.0 u whole.1 spends) end
          (ends_in_measures names sys (pruned_measures sys) (pruned_tried sys) os is_open es whole.0 whole.2 u
          (λ m k f. few k (inl (m, f))) few)
