-- What the ortho space finds is valid; what a search of it may answer.
use Rattle.std.proofs.Common.{ℕ, ◌≡◌, ◌<◌, ◌≤◌, inl, inr, List, [], ◌∷◌, None, refl, sym, ap, ◌∙◌, subst, arith}
use Rattle.rewriting.specs.Rules.{System}
use Rattle.unifier_run.specs.Overlaps.{Overlap}
use Rattle.certificates.specs.Certificates.{PairEntry, Certificate, ortho_certificate}
use Rattle.cops_names.specs.NameTable.{NameTable}
use Rattle.valid_certificates.specs.Kinds.{Kind, ortho}
use Rattle.valid_certificates.specs.Entries.{AreSettled, triple_of}
use Rattle.valid_certificates.specs.PairEvidence.{IsPairJudged}
use Rattle.valid_certificates.specs.Certificates.{IsValid}
use Rattle.valid_certificates.proofs.OneOverlaps.{overlaps_once}
use Rattle.first_found.specs.Items.{cost_of}
use Rattle.first_found.specs.Rows.{AreFirsts, EndsAtRow, StopsInRow}
use Rattle.first_found.specs.Spaces.{CostsOnce, IsSearched, IsDearer, MayEndExactly, found, nothing, spent, HasCost, FindsOnce}
use Rattle.first_found.proofs.Rows.{firsts_once, firsts_within, none_of_rows, ends_within, ends_none, rows_stopped_before, rows_stopped_within}
use Rattle.search_spaces.specs.Texts.{HasText}
use Rattle.search_spaces.specs.PairItems.{PairItem, ortho_items}
use Rattle.search_spaces.specs.Entries.{IsFirstEntry, overlap_cost, StopsAtOverlap}
use Rattle.search_spaces.specs.Ortho.{IsOrthoOpen, IsOrthoEntry, IsOrthoFound, IsOrthoCost, ortho_space}
use Rattle.search_spaces.proofs.Entries.{entry_once, entry_within, stops_before, stops_within}

-- entries with valid evidence settle their overlaps
pub entries_settle : (kind : Kind) (sys : System) (items : Overlap → List PairItem) (os : List Overlap) (es : List PairEntry) (n : ℕ)
    → AreFirsts (IsFirstEntry kind sys items) os es n → AreSettled kind sys os es
entries_settle kind sys items [] [] n h = tt
entries_settle kind sys items [] (e ∷ es) n h = absurd h
entries_settle kind sys items (o ∷ os) [] n h = absurd h
entries_settle kind sys items (o ∷ os) (e ∷ es) n (m, k, (evidence, f, is), rest, up) =
    (ap triple_of is, subst (λ z. IsPairJudged kind sys o z.evidence None) (sym is) f.gives.1, entries_settle kind sys items os es k rest)

module _ (names : NameTable) (sys : System) where
  pub found_valid : (c : Certificate) (n : ℕ) → IsOrthoFound names sys c n → IsValid sys c
  found_valid c n f =
      subst (IsValid sys) (sym f.certificate)
      (record { classes = f.is_open.classes; pairs = (f.overlaps, f.is_open.overlaps, entries_settle ortho sys ortho_items f.overlaps f.entries n f.firsts) })

  pub open_once : (os qs : List Overlap) → IsOrthoOpen sys os → IsOrthoOpen sys qs → os ≡ qs
  open_once os qs h k = overlaps_once sys os qs h.overlaps k.overlaps

  pub space_searched : IsSearched (IsValid sys) (ortho_space names sys)
  space_searched = record { held = λ c n f. ((n, f), found_valid c n f); barren = λ b c h good. b c h.0 h.1 }

  pub cost_once : CostsOnce (ortho_space names sys)
  cost_once a b (inl (os, h, e)) (inl (qs, k, f)) = e ∙ ap (cost_of (overlap_cost ortho_items)) (open_once os qs h k) ∙ sym f
  cost_once a b (inl (os, h, e)) (inr (none, f)) = absurd (none os h)
  cost_once a b (inr (none, e)) (inl (qs, k, f)) = absurd (none qs k)
  cost_once a b (inr (none, e)) (inr (nor, f)) = e ∙ sym f

  pub has_cost : HasCost (ortho_space names sys)
  has_cost none = none 0 (inr ((λ os h. none (cost_of (overlap_cost ortho_items) os) (inl (os, h, refl))), refl))

  pub ortho_finds_once : FindsOnce (ortho_space names sys)
  ortho_finds_once c d n m f g =
      let same = open_once g.overlaps f.overlaps g.is_open f.is_open in
      let entries = firsts_once (IsOrthoEntry sys) (entry_once ortho sys ortho_items) f.overlaps f.entries g.entries n m f.firsts
      (subst (λ z. AreFirsts (IsOrthoEntry sys) z g.entries m) same g.firsts) in
      (entries.0, f.certificate ∙ ap ortho_certificate entries.1 ∙ sym g.certificate)

  pub ortho_finds_within : (c : Certificate) (n m : ℕ) → IsOrthoFound names sys c n → IsOrthoCost sys m → n ≤ m
  ortho_finds_within c n m f (inl (os, h, e)) =
      let most = firsts_within (IsOrthoEntry sys) (overlap_cost ortho_items) (entry_within ortho sys ortho_items) f.overlaps f.entries n f.firsts in
      let whole = ap (cost_of (overlap_cost ortho_items)) (open_once f.overlaps os f.is_open h) in omega (arith, most, whole, e)
  ortho_finds_within c n m f (inr (none, e)) = absurd (none f.overlaps f.is_open)

  -- where a class fails or the overlaps are refused, nothing is paid
  pub ends_closed : ((os : List Overlap) → IsOrthoOpen sys os → ⊥) → (left : ℕ) → MayEndExactly (ortho_space names sys) left 0 nothing
  ends_closed none left = ((λ c n f. none f.overlaps f.is_open), (0, inr (none, refl), omega arith))

  module _ (os : List Overlap) (is_open : IsOrthoOpen sys os) where
    -- what is found is made of these overlaps
    firsts_of : (c : Certificate) (n : ℕ) (f : IsOrthoFound names sys c n) → AreFirsts (IsOrthoEntry sys) os f.entries n
    firsts_of c n f = subst (λ z. AreFirsts (IsOrthoEntry sys) z f.entries n) (open_once f.overlaps os f.is_open is_open) f.firsts

    pub ends_at_row : (left n : ℕ) → EndsAtRow (IsOrthoEntry sys) (overlap_cost ortho_items) os n → MayEndExactly (ortho_space names sys) left n nothing
    ends_at_row left n h = (
      (λ c m f. none_of_rows (IsOrthoEntry sys) (entry_once ortho sys ortho_items) os f.entries m
          (ends_none (IsOrthoEntry sys) (overlap_cost ortho_items) (entry_within ortho sys ortho_items) os n h) (firsts_of c m f)),
      (cost_of (overlap_cost ortho_items) os, inl (os, is_open, refl), ends_within (IsOrthoEntry sys) (overlap_cost ortho_items) (entry_within ortho sys ortho_items) os n h),
    )

    pub ends_found : (left n : ℕ) (es : List PairEntry) → AreFirsts (IsOrthoEntry sys) os es n → HasText names (ortho_certificate es)
        → MayEndExactly (ortho_space names sys) left n (found (ortho_certificate es))
    ends_found left n es h t = record { overlaps = os; is_open = is_open; entries = es; firsts = h; certificate = refl; text = t }

    pub ends_too_long : (left n : ℕ) (es : List PairEntry) → AreFirsts (IsOrthoEntry sys) os es n → (HasText names (ortho_certificate es) → ⊥) → MayEndExactly (ortho_space names sys) left n nothing
    ends_too_long left n es h long = (
      (λ c m f. long (subst (HasText names) (f.certificate
          ∙ ap ortho_certificate (sym (firsts_once (IsOrthoEntry sys) (entry_once ortho sys ortho_items) os es f.entries n m h (firsts_of c m f)).1)) f.text)),
      (cost_of (overlap_cost ortho_items) os, inl (os, is_open, refl), firsts_within (IsOrthoEntry sys) (overlap_cost ortho_items) (entry_within ortho sys ortho_items) os es n h),
    )

    -- where the budget ends in a row, the price is greater
    pub ends_spent : (n : ℕ) → StopsInRow (IsOrthoEntry sys) (StopsAtOverlap ortho sys ortho_items) os n → MayEndExactly (ortho_space names sys) n n spent
    ends_spent n s = (refl, dearer)
      where
        dearer : IsDearer (ortho_space names sys) n
        dearer m (inl (c, f)) =
            rows_stopped_before (IsOrthoEntry sys) (entry_once ortho sys ortho_items) (StopsAtOverlap ortho sys ortho_items) (stops_before_row) os f.entries n m s (firsts_of c m f)
          where
            stops_before_row : (o : Overlap) (e : PairEntry) (i j : ℕ) → StopsAtOverlap ortho sys ortho_items o i → IsOrthoEntry sys o e j → i < j
            stops_before_row o e i j x y = stops_before ortho sys ortho_items o e i j x y
        dearer m (inr (b, x)) =
            subst (λ z. n < z) (cost_once (cost_of (overlap_cost ortho_items) os) m (inl (os, is_open, refl)) x)
            (rows_stopped_within (IsOrthoEntry sys) (overlap_cost ortho_items) (entry_within ortho sys ortho_items) (StopsAtOverlap ortho sys ortho_items) (stops_within ortho sys ortho_items) os n s)
