-- How the search ends.
use Rattle.std.proofs.Common.{ℕ, ◌≡◌, ◌++◌, inl, inr, List, map, Bor, Option, None, Some, Result, Ok, Err, IsErr, refl, sym, ap₂, subst, arith}
use Rattle.std.proofs.lemmas.Bool.{false≢true}
use Rattle.std.proofs.lemmas.Grind.{flat_map-append}
use Rattle.rewriting.specs.Prelude.{Term, System}
use Rattle.unifier_run.specs.Overlaps as math
use Rattle.unifier_run.specs.Overlaps.{AreOverlaps}
use Rattle.certificates.specs.Certificates.{Certificate}
use Rattle.cops_names.specs.NameTable.{NameTable}
use Rattle.valid_certificates.specs.Certificates.{IsValid}
use Rattle.term_core.specs.declared.terms.NoMemory.{NoMemory}
use Rattle.term_core.specs.Prelude.{view, rule_view}
use Rattle.term_core.specs.declared.systems.Rule.{Rule}
use Rattle.cert_model.specs.CertificateView.{certificate_view}
use Rattle.critical_pairs.specs.View.{overlap_view}
use Rattle.critical_pairs.specs.declared.Overlap.{Overlap}
use Rattle.validity.specs.declared.Search.{Search}
use Rattle.validity.specs.declared.Search.TheVariants.{Found, Nothing, Spent}
use Rattle.cc_count.specs.Counts.{Counts, Spends}
use Rattle.first_found.specs.Items.{cost_of}
use Rattle.first_found.specs.Spaces.{nothing, spent, MayEndExactly}
use Rattle.search_spaces.specs.PeakItems.{peak_item_cost, peak_items_of, peak_items, GivesPeak}
use Rattle.search_spaces.specs.Peak.{ArePeakItems, peak_space}
use Rattle.search_spaces.proofs.Peak.{peak_searched, peak_ends_found, peak_ends_none, peak_ends_spent}
use Rattle.search_answers.specs.Given.{IsOverlapList}
use Rattle.search_answers.specs.Answers.{Searches, ending_of, IfNothing}
use Rattle.noncon_search.specs.Answers.{WalkAnswers, StartsAnswer}
use Rattle.search_answers.proofs.Walking.{first_part, two_parts, not_nothing_found}
use Rattle.noncon_search.proofs.Listed.{rule_starts, source_starts}

module _ (names : NameTable) (sys : System) where
  pub nothing_valid : (before after : Counts) (r : Result Search NoMemory) → Searches ending_of (MayEndExactly (peak_space names sys)) before after r
      → IfNothing ending_of r ((c : Certificate) → (peak_space names sys).Holds c → IsValid sys c → ⊥)
  nothing_valid before after (Ok (Found c)) h = tt
  nothing_valid before after (Ok Nothing) (n, s, (barren, rest)) = (peak_searched names sys).barren barren
  nothing_valid before after (Ok Spent) h = tt
  nothing_valid before after (Err e) h = tt

  module _ (before after : Counts) where
    -- a walk through all items is a search
    pub walk_searched : (r : Result Search NoMemory) → StartsAnswer names sys before after r → Searches ending_of (MayEndExactly (peak_space names sys)) before after r
    walk_searched (Ok (Found c)) (items, are, (n, s, f)) = (n, s, peak_ends_found names sys items are before.left n (certificate_view c) f)
    walk_searched (Ok Nothing) (items, are, (s, none)) = (cost_of peak_item_cost items, s, peak_ends_none names sys items are before.left none)
    walk_searched (Ok Spent) (items, are, (n, s, end, stopped)) =
        let units = s.left in
        let all : n ≡ before.left = omega (arith, units, end) in
        (n, s, subst (λ left. MayEndExactly (peak_space names sys) left n spent) all (peak_ends_spent names sys items are n stopped))
    walk_searched (Err e) h = tt

-- the items of all starts
module _ (sys : System) (rs : List Rule) (same : map rule_view rs ≡ sys.rules) where
  abbrev lefts : List Term
  lefts = map (λ r. view r.left) rs

  pub items_of_all : (os : List Overlap) → AreOverlaps sys (map overlap_view os) → ArePeakItems sys (peak_items sys lefts ++ peak_items sys (map (λ o. view o.source) os))
  items_of_all os are = (
    lefts ++ map (λ o. view o.source) os,
    inl (map overlap_view os, are, ap₂ (λ (a b : List Term). a ++ b) (rule_starts sys rs same) (source_starts os)),
    sym (flat_map-append (peak_items_of sys) lefts (map (λ o. view o.source) os)),
  )

  pub items_of_rules : ((os : List math.Overlap) → AreOverlaps sys os → ⊥) → ArePeakItems sys (peak_items sys lefts)
  items_of_rules none = (lefts, inr (none, rule_starts sys rs same), refl)

  -- how a walk through all starts may end
  module _ (names : NameTable) (a b : Counts) where
    pub starts_end : (o : Option (Bor (List Overlap))) → IsOverlapList sys o → (r : Search) → (r ≡ Nothing → ⊥) → WalkAnswers names sys (peak_items sys lefts) a b (Ok r)
        → StartsAnswer names sys a b (Ok r)
    starts_end (Some os) are r other h =
        let sources = peak_items sys (map (λ o. view o.source) os.now) in (
          peak_items sys lefts ++ sources,
          items_of_all os.now are,
          first_part peak_item_cost (GivesPeak names sys) (peak_items sys lefts) sources a b (ending_of r) (not_nothing_found r other) h,
        )
    starts_end None none r other h = (peak_items sys lefts, items_of_rules none, h)

    pub starts_fail : (o : Option (Bor (List Overlap))) → IsOverlapList sys o → (r : Result Search NoMemory) → IsErr r → (n : ℕ) × Spends a n b → StartsAnswer names sys a b r
    starts_fail o given (Ok x) is h = absurd (false≢true is)
    starts_fail (Some os) are (Err e) is h = (peak_items sys lefts ++ peak_items sys (map (λ o. view o.source) os.now), items_of_all os.now are, h)
    starts_fail None none (Err e) is h = (peak_items sys lefts, items_of_rules none, h)

    pub starts_over : (os : List Overlap) → AreOverlaps sys (map overlap_view os) → WalkAnswers names sys (peak_items sys lefts) a b (Ok Nothing) → (c : Counts) (r : Result Search NoMemory)
        → WalkAnswers names sys (peak_items sys (map (λ o. view o.source) os)) b c r → StartsAnswer names sys a c r
    starts_over os are h c r k =
        let sources = peak_items sys (map (λ o. view o.source) os) in (
          peak_items sys lefts ++ sources,
          items_of_all os are,
          two_parts peak_item_cost (GivesPeak names sys) (peak_items sys lefts) sources a b ending_of c nothing refl h r k,
        )
