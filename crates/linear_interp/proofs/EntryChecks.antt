-- Entries at places, and lists of entries up to a place.
use Rattle.std.proofs.Common.{◌≡◌, ℕ, suc, ◌+◌, ◌<◌, ◌≤◌, ◌⊎◌, inl, inr, refl, sym, ap, ◌∙◌, subst, List, map, length, get_or, slice_get, option_map, Option, Some, None, arith}
use Rattle.std.proofs.lemmas.List.{length-map, get_or_default}
use Rattle.std.proofs.lemmas.Bool.{cases_lt}
use Rattle.std.proofs.lemmas.Option.{slice_get_within, slice_get-get_or}
use Rattle.general_lemmas.proofs.Places.{slice_get-map_read}
use Rattle.certificates.specs.Certificates as math
use Rattle.term_core.specs.HeadView.{head_view}
use Rattle.term_core.specs.declared.systems.Head.{Head}
use Rattle.cert_model.specs.CertificateView.{linear_entry_view}
use Rattle.cert_model.specs.declared.model.LinearEntry.{LinearEntry}
use Rattle.linear_interp.specs.Entries.{IsEntryAt, AreGoodBelow}

module _ (heads : List Head) (arities : List ℕ) (entries : List LinearEntry) (k : ℕ) where
  pub absent : (length heads ≤ k) ⊎ ((length arities ≤ k) ⊎ (length entries ≤ k)) → IsEntryAt (map head_view heads) arities (map linear_entry_view entries) k → ⊥
  absent (inl le) (e, at, head, numbers) = let w = slice_get_within (map head_view heads) k _ head in let m = length-map heads head_view in omega (arith, le, w, m)
  absent (inr (inl le)) (e, at, head, numbers) = no_arity (slice_get arities k) refl numbers
    where
      no_arity : (o : Option ℕ) → slice_get arities k ≡ o → option_map suc o ≡ Some (length e.coefficients) → ⊥
      no_arity None here q = cc
      no_arity (Some n) here q = let w = slice_get_within arities k n here in omega (arith, le, w)
  absent (inr (inr le)) (e, at, head, numbers) = let w = slice_get_within (map linear_entry_view entries) k _ at in let m = length-map entries linear_entry_view in omega (arith, le, w, m)

  pub present : (e : LinearEntry) (h : Head) → k < length heads → k < length arities → k < length entries → e ≡ get_or entries k e → h ≡ get_or heads k h
      → (head_view e.head ≡ head_view h) × (length e.coeffs.items ≡ get_or arities k 0 + 1)
      → IsEntryAt (map head_view heads) arities (map linear_entry_view entries) k
  present e h lh la le ie ih (same, count) =
      let arity = slice_get-get_or arities k 0 la in
      let one : suc (get_or arities k 0) ≡ length e.coeffs.items = omega (arith, count) in
      (linear_entry_view e, slice_get-map_read linear_entry_view entries k e le ie, slice_get-map_read head_view heads k h lh ih ∙ ap Some (sym same), ap (option_map suc) arity ∙ ap Some one)

  pub shaped : (e : LinearEntry) (h : Head) → k < length heads → k < length arities → k < length entries → e ≡ get_or entries k e → h ≡ get_or heads k h
      → IsEntryAt (map head_view heads) arities (map linear_entry_view entries) k
      → (head_view e.head ≡ head_view h) × (length e.coeffs.items ≡ get_or arities k 0 + 1)
  shaped e h lh la le ie ih (d, at, head, numbers) =
      let entry : linear_entry_view e ≡ d = (let here = slice_get-map_read linear_entry_view entries k e le ie in let z : Some (linear_entry_view e) ≡ Some d = sym here ∙ at in cc) in
      let symbol : head_view h ≡ d.head = (let here = slice_get-map_read head_view heads k h lh ih in let z : Some (head_view h) ≡ Some d.head = sym here ∙ head in cc) in
      let count : suc (get_or arities k 0) ≡ length d.coefficients =
      (let z : Some (suc (get_or arities k 0)) ≡ Some (length d.coefficients) = sym (ap (option_map suc) (slice_get-get_or arities k 0 la)) ∙ numbers in cc) in
      let same_count : length d.coefficients ≡ length e.coeffs.items = sym (ap (λ z. length z.coefficients) entry) in
      (ap (λ z. z.head) entry ∙ sym symbol, omega (arith, count, same_count))

pub more_good : (symbols : ℕ) (entries : List LinearEntry) (k : ℕ) (e : LinearEntry)
    → ((j : ℕ) (d : math.LinearEntry) → j < k → slice_get (map linear_entry_view entries) j ≡ Some d → AreGoodBelow symbols j d.coefficients (length d.coefficients))
    → k < length entries → e ≡ get_or entries k e
    → AreGoodBelow symbols k e.coeffs.items (length e.coeffs.items) → (j : ℕ) (d : math.LinearEntry) → j < k + 1 → slice_get (map linear_entry_view entries) j ≡ Some d
    → AreGoodBelow symbols j d.coefficients (length d.coefficients)
more_good symbols entries k e before lt is here j d less at = by_case (cases_lt j k)
  where
    by_case : (j < k) ⊎ (k ≤ j) → AreGoodBelow symbols j d.coefficients (length d.coefficients)
    by_case (inl h) = before j d h at
    by_case (inr h) =
        let same : k ≡ j = omega (arith, less, h) in
        let there : slice_get (map linear_entry_view entries) j ≡ Some (linear_entry_view e) = subst (λ i. slice_get (map linear_entry_view entries) i ≡ Some (linear_entry_view e))
        same (slice_get-map_read linear_entry_view entries k e lt is) in
        let entry : linear_entry_view e ≡ d = (let z : Some (linear_entry_view e) ≡ Some d = sym there ∙ at in cc) in
        subst (λ z. AreGoodBelow symbols j z.coefficients (length z.coefficients)) entry (subst (λ i. AreGoodBelow symbols i e.coeffs.items (length e.coeffs.items)) same here)

pub all_good : (symbols : ℕ) (entries : List LinearEntry) (k : ℕ)
    → ((j : ℕ) (d : math.LinearEntry) → j < k → slice_get (map linear_entry_view entries) j ≡ Some d → AreGoodBelow symbols j d.coefficients (length d.coefficients))
    → length entries ≤ k → (j : ℕ) (d : math.LinearEntry) → slice_get (map linear_entry_view entries) j ≡ Some d
    → AreGoodBelow symbols j d.coefficients (length d.coefficients)
all_good symbols entries k before le j d at = let w = slice_get_within (map linear_entry_view entries) j d at in let m = length-map entries linear_entry_view in before j d (omega (arith, w, m, le)) at

pub present_read : (heads : List Head) (arities : List ℕ) (entries : List LinearEntry) (k : ℕ) (e : LinearEntry) (d : Head) → k < length heads → k < length arities
    → k < length entries → e ≡ get_or entries k e
    → (head_view e.head ≡ head_view (get_or heads k d)) × (length e.coeffs.items ≡ get_or arities k 0 + 1) → IsEntryAt (map head_view heads) arities (map linear_entry_view entries) k
present_read heads arities entries k e d lh la le ie h = present heads arities entries k e (get_or heads k d) lh la le ie (get_or_default heads k d (get_or heads k d) lh) h

pub shaped_read : (heads : List Head) (arities : List ℕ) (entries : List LinearEntry) (k : ℕ) (e : LinearEntry) (d : Head) → k < length heads → k < length arities
    → k < length entries → e ≡ get_or entries k e
    → IsEntryAt (map head_view heads) arities (map linear_entry_view entries) k → (head_view e.head ≡ head_view (get_or heads k d)) × (length e.coeffs.items ≡ get_or arities k 0 + 1)
shaped_read heads arities entries k e d lh la le ie h = shaped heads arities entries k e (get_or heads k d) lh la le ie (get_or_default heads k d (get_or heads k d) lh) h
