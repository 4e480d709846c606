-- Prefixes grow entry by entry.
use Rattle.std.proofs.Common.{◌≡◌, ℕ, suc, ◌<◌, ◌≤◌, ◌⊎◌, inl, inr, sym, ap, ◌∙◌, subst, [], ◌∷◌, ◌++◌, length, slice_get, option_map, Some, arith}
use Rattle.std.proofs.Math.Seq.{get_or-append_seam}
use Rattle.std.proofs.lemmas.Bool.{cases_lt}
use Rattle.std.proofs.lemmas.List.{length_push}
use Rattle.std.proofs.lemmas.Option.{slice_get_within, slice_get-get_or}
use Rattle.general_lemmas.proofs.Places.{slice_get-append_left}
use Rattle.rewriting.specs.Prelude.{System, heads, unraveled}
use Rattle.certificates.specs.Certificates.{LinearEntry}
use Rattle.interpretations.specs.Linear.{Interpretation, IsEntry, AreNumbersGood}
use Rattle.grid_search.specs.Prefix.{IsPrefix}

pub prefix_start : (sys : System) → IsPrefix sys []
prefix_start sys = record { few = omega arith; entries = λ k lt. absurd (omega (arith, lt)); numbers = λ k e at. absurd (cc) }

-- an entry for the next symbol, with good numbers
module _ (sys : System) (es : Interpretation) (e : LinearEntry) (p : IsPrefix sys es)
    (head : slice_get (heads sys) (length es) ≡ Some e.head) (numbers : option_map suc (slice_get (unraveled sys).arities (length es)) ≡ Some (length e.coefficients))
    (good : AreNumbersGood sys (length es) e.coefficients) where
  next_there : slice_get (es ++ e ∷ []) (length es) ≡ Some e
  next_there = let long = length_push es e in slice_get-get_or (es ++ e ∷ []) (length es) e (omega (arith, long)) ∙ ap Some (get_or-append_seam es e [] e)

  last : (k : ℕ) → k < length (es ++ e ∷ []) → length es ≤ k → length es ≡ k
  last k lt ge = let long = length_push es e in omega (arith, lt, ge, long)

  entry_at : (k : ℕ) → k < length (es ++ e ∷ []) → (k < length es) ⊎ (length es ≤ k) → IsEntry sys (es ++ e ∷ []) k
  entry_at k lt (inl less) = let h = p.entries k less in record { entry = h.entry; is_entry = slice_get-append_left es (e ∷ []) k less ∙ h.is_entry; head = h.head; numbers = h.numbers }
  entry_at k lt (inr ge) = subst (IsEntry sys (es ++ e ∷ [])) (last k lt ge) (record { entry = e; is_entry = next_there; head = head; numbers = numbers })

  numbers_at : (k : ℕ) (d : LinearEntry) → slice_get (es ++ e ∷ []) k ≡ Some d → k < length (es ++ e ∷ []) → (k < length es) ⊎ (length es ≤ k) → AreNumbersGood sys k d.coefficients
  numbers_at k d at lt (inl less) = p.numbers k d (sym (slice_get-append_left es (e ∷ []) k less) ∙ at)
  numbers_at k d at lt (inr ge) =
      let there : slice_get (es ++ e ∷ []) k ≡ Some e = subst (λ i. slice_get (es ++ e ∷ []) i ≡ Some e) (last k lt ge) next_there in
      let same : e ≡ d = (let both : Some e ≡ Some d = sym there ∙ at in cc) in
      subst (λ z. AreNumbersGood sys k z.coefficients) same (subst (λ i. AreNumbersGood sys i e.coefficients) (last k lt ge) good)

  pub next_prefix : IsPrefix sys (es ++ e ∷ [])
  next_prefix =
      let long = length_push es e in
      let within = slice_get_within (heads sys) (length es) e.head head in
      record {
        few = omega (arith, long, within);
        entries = λ k lt. entry_at k lt (cases_lt k (length es));
        numbers = λ k d at. numbers_at k d at (slice_get_within (es ++ e ∷ []) k d at) (cases_lt k (length es));
      }
