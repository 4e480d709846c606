-- The ends that are left of a list, and starts that fit.
use Rattle.std.proofs.Common.{ℕ, ◌≡◌, ◌+◌, ◌<◌, inl, inr, List, [], ◌∷◌, ◌++◌, map, length, get_or, drop, refl, sym, ap, ◌∙◌, subst}
use Rattle.std.specs.Prelude.{false, ◌||◌}
use Rattle.std.proofs.lemmas.Bool.{false≢true, or_parts}
use Rattle.rewriting.specs.Prelude.{IsAmong, Term, Fits, System, Signature, AreRules, is_same}
use Rattle.rewriting.specs.Rules as math_rules
use Rattle.rewriting.proofs.Tests.{equal_same}
use Rattle.certificates.specs.Judging.{Derives}
use Rattle.unifier_run.specs.Overlaps as math
use Rattle.unifier_run.specs.Overlaps.{AreOverlaps}
use Rattle.term_core.specs.Prelude.{view, rule_view}
use Rattle.term_core.specs.declared.systems.Rule.{Rule}
use Rattle.critical_pairs.specs.View.{overlap_view}
use Rattle.critical_pairs.specs.declared.Overlap.{Overlap}
use Rattle.reach_lists.specs.Solutions.{Reached}
use Rattle.reach_lists.specs.Laws.{EachOf, IsWithoutRepetition}
use Rattle.reach_lists.specs.Lists.{is_listed, reach_list}
use Rattle.reach_lists.proofs.Laws.{listed_derived, none_twice}
use Rattle.general_lemmas.proofs.Places.{drop_read, map-drop_read}
pub use Rattle.general_lemmas.proofs.Places.{slice_rest}
use Rattle.search_spaces.specs.Listings.{pairs_of}
use Rattle.search_spaces.specs.PeakItems.{try_ends, peak_items_of, peak_items}
use Rattle.noncon_search.specs.declared.ends.End.{End}
use Rattle.noncon_search.specs.Ends.{end_view, ends_view, IsEnd, AreMet, AreEnds}
use Rattle.noncon_search.specs.Answers.{pairs_with, pair_items}

-- the pairs that are left
module _ (t : Term) where
  pub with_splits : (x : Reached) (later : List End) (j : ℕ) (y : End) → j < length later → y ≡ get_or later j y
      → pairs_with t x (ends_view (drop j later)) ≡ (try_ends t x (end_view y) ∷ []) ++ pairs_with t x (ends_view (drop (j + 1) later))
  with_splits x later j y h e = ap (pairs_with t x) (map-drop_read end_view later j y h e)

  pairs_split : (x : Reached) (ys : List Reached) (ps : List (Reached × Reached)) → map (λ p. try_ends t p.0 p.1) (map (λ y. (x, y)) ys ++ ps) ≡ pairs_with t x ys ++ map (λ p. try_ends t p.0 p.1) ps
  pairs_split x [] ps = refl
  pairs_split x (y ∷ ys) ps = ap (λ zs. try_ends t x y ∷ zs) (pairs_split x ys ps)

  pub firsts_split : (ends : List End) (i : ℕ) (x : End) → i < length ends → x ≡ get_or ends i x
      → pair_items t (ends_view (drop i ends)) ≡ pairs_with t (end_view x) (ends_view (drop (i + 1) ends)) ++ pair_items t (ends_view (drop (i + 1) ends))
  firsts_split ends i x h e =
      ap (pair_items t) (map-drop_read end_view ends i x h e)
      ∙ pairs_split (end_view x) (ends_view (drop (i + 1) ends)) (pairs_of (ends_view (drop (i + 1) ends)))

-- the starts that are left
pub starts_split : {A : Type 0} (sys : System) (f : A → Term) (xs : List A) (i : ℕ) (x : A) → i < length xs → x ≡ get_or xs i x
    → peak_items sys (map f (drop i xs)) ≡ peak_items_of sys (f x) ++ peak_items sys (map f (drop (i + 1) xs))
starts_split sys f xs i x h e = ap (peak_items sys) (map-drop_read f xs i x h e)

-- what holds of each item holds of what is left of them
pub first_of_rest : {A : Type 0} (P : A → Type 0) (xs : List A) (i : ℕ) (x : A) → i < length xs → x ≡ get_or xs i x → EachOf P (drop i xs) → P x × EachOf P (drop (i + 1) xs)
first_of_rest P xs i x h e each = subst (EachOf P) (drop_read xs i x h e) each

module _ (sys : System) (t : Term) where
  pub skip_next : (x y : End) (rest : List End) → AreEnds sys t (x ∷ y ∷ rest) → AreEnds sys t (x ∷ rest)
  skip_next x y rest h =
      let no = or_parts (is_same (end_view y).term (end_view x).term) (is_listed (end_view x).term (ends_view rest)) h.once.0 in
      record { each = (h.each.0, h.each.1.1); met = (h.met.0.1, h.met.1.1); derived = (h.derived.0, h.derived.1.1); once = (no.1, h.once.1.1) }

  pub without_first : (x : End) (rest : List End) → AreEnds sys t (x ∷ rest) → AreEnds sys t rest
  without_first x rest h = record { each = h.each.1; met = h.met.1; derived = h.derived.1; once = h.once.1 }

  pub differ : (x y : End) → AreEnds sys t (x ∷ y ∷ []) → (end_view x).term ≡ (end_view y).term → ⊥
  differ x y h e = false≢true (sym h.once.0 ∙ ap (λ b. b || false) (equal_same (end_view y).term (end_view x).term (sym e)))

  -- the ends that are left of a list
  pub ends_left : (ends : List End) (i : ℕ) (x : End) → i < length ends → x ≡ get_or ends i x → AreEnds sys t (drop i ends) → AreEnds sys t (x ∷ drop (i + 1) ends)
  ends_left ends i x h e are = subst (AreEnds sys t) (drop_read ends i x h e) are

  pub later_left : (first : End) (later : List End) (j : ℕ) (y : End) → j < length later → y ≡ get_or later j y → AreEnds sys t (first ∷ drop j later) → AreEnds sys t (first ∷ y ∷ drop (j + 1) later)
  later_left first later j y h e are = subst (λ z. AreEnds sys t (first ∷ z)) (drop_read later j y h e) are

  -- the ends of a list
  pub ends_are : (d k : ℕ) (list : List Reached) → list ≡ reach_list sys [] d k t → (es : List End) → ends_view es ≡ list → EachOf (IsEnd sys) es → AreMet sys es → AreEnds sys t es
  ends_are d k list is es same each met =
      let all : reach_list sys [] d k t ≡ ends_view es = sym (same ∙ is) in
      record {
        each = each;
        met = met;
        derived = subst (EachOf (λ r. Derives sys [] t r.by r.term)) all (listed_derived sys [] d k t);
        once = subst IsWithoutRepetition all (none_twice sys [] d k t);
      }

-- the left sides of rules, and the sources of overlaps
pub lefts_fit : (arities : Signature) (rs : List Rule) → AreRules arities (map rule_view rs) → EachOf (λ r. Fits (view r.left)) rs
lefts_fit arities [] h = tt
lefts_fit arities (r ∷ rs) (h, hs) = (h.fits.0, lefts_fit arities rs hs)

lefts_are : (rs : List Rule) → map (λ r. r.left) (map rule_view rs) ≡ map (λ r. view r.left) rs
lefts_are [] = refl
lefts_are (r ∷ rs) = ap (λ zs. view r.left ∷ zs) (lefts_are rs)

pub rule_starts : (sys : System) (rs : List Rule) → map rule_view rs ≡ sys.rules → map (λ r. view r.left) rs ≡ map (λ r. r.left) sys.rules
rule_starts sys rs e = sym (lefts_are rs) ∙ ap (λ (z : List math_rules.Rule). map (λ r. r.left) z) e

pub source_starts : (os : List Overlap) → map (λ o. view o.source) os ≡ map (λ o. o.pair.source) (map overlap_view os)
source_starts [] = refl
source_starts (o ∷ os) = ap (λ zs. view o.source ∷ zs) (source_starts os)

each_source : (os : List Overlap) → ((q : math.Overlap) → IsAmong q (map overlap_view os) → Fits q.pair.source) → EachOf (λ o. Fits (view o.source)) os
each_source [] h = tt
each_source (o ∷ os) h = (h (overlap_view o) (inl refl), each_source os (λ q l. h q (inr l)))

pub sources_fit : (sys : System) (os : List Overlap) → AreOverlaps sys (map overlap_view os) → EachOf (λ o. Fits (view o.source)) os
sources_fit sys os h = each_source os (λ q l. (h.are.each q l).0.fits.source)
