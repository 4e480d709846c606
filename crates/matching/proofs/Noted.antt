-- Trails: what is bound, and what is taken back.
use Rattle.std.proofs.Common.{◌≡◌, ℕ, ◌<◌, Bool, true, false, cond, List, [], ◌∷◌, ◌++◌, length, take, drop, Some, None, nat_cmp, refl, sym, ap, ◌∙◌, append-nil, append_assoc}
use Rattle.std.proofs.Common.{length-append, le_refl, ◌≤◌, arith}
use Rattle.std.proofs.lemmas.List.{take_all, drop_all, take-append-le, drop-append-le}
use Rattle.std.specs.Ordering.{eq_by_cmp}
use Rattle.std.specs.Cmp.{nat_cmp_total, Equal-is}
use Rattle.std.specs.FinMap.{get, insert, remove, get-insert, get-remove, same_map, nat_cmp-IsAntisymmetric}
use Rattle.rewriting.specs.Prelude.{Term, Bindings}
use Rattle.matching.specs.Trails.{without, IsNoted}

without-append : (b : Bindings) (xs ys : List ℕ) → without b (xs ++ ys) ≡ without (without b ys) xs
without-append b [] ys = refl
without-append b (x ∷ xs) ys = ap (λ c. remove c x) (without-append b xs ys)

pub noted_none : (b : Bindings) (xs : List ℕ) → IsNoted b xs b xs
noted_none b xs = record { fresh = []; noted = sym (append-nil xs); back = refl }

pub noted_both : (b c d : Bindings) (xs ys zs : List ℕ) → IsNoted b xs c ys → IsNoted c ys d zs → IsNoted b xs d zs
noted_both b c d xs ys zs h k = record {
  fresh = h.fresh ++ k.fresh;
  noted = k.noted ∙ ap (λ z. z ++ k.fresh) h.noted ∙ append_assoc xs h.fresh k.fresh;
  back = without-append d h.fresh k.fresh ∙ ap (λ e. without e h.fresh) k.back ∙ h.back;
}

-- one variable that has no value
taken : (b : Bindings) (x : ℕ) (t : Term) (q : ℕ) (same : Bool) → get b x ≡ None → eq_by_cmp nat_cmp q x ≡ same → cond same None (cond same (Some t) (get b q)) ≡ get b q
taken b x t q true free e = sym (ap (get b) (nat_cmp-IsAntisymmetric q x ((Equal-is (nat_cmp q x)).0 e)) ∙ free)
taken b x t q false free e = refl

bound_back : (b : Bindings) (x : ℕ) (t : Term) → get b x ≡ None → remove (insert b x t) x ≡ b
bound_back b x t free =
    same_map nat_cmp_total nat_cmp-IsAntisymmetric _ _
    (λ q. get-remove nat_cmp_total (insert b x t) x q ∙ ap (cond (eq_by_cmp nat_cmp q x) None) (get-insert nat_cmp_total b x t q) ∙ taken b x t q (eq_by_cmp nat_cmp q x) free refl)

pub noted_one : (b c : Bindings) (x : ℕ) (t : Term) (xs ys : List ℕ) → get b x ≡ None → c ≡ insert b x t → ys ≡ xs ++ x ∷ [] → IsNoted b xs c ys
noted_one b c x t xs ys free is pushed = record { fresh = x ∷ []; noted = pushed; back = ap (λ d. remove d x) is ∙ bound_back b x t free }

-- what stands behind a place, and what stands before it
pub noted_back : (b c : Bindings) (xs ys : List ℕ) → IsNoted b xs c ys → without c (drop (length xs) ys) ≡ b
noted_back b c xs ys h = ap (without c) (ap (drop (length xs)) h.noted ∙ drop-append-le (length xs) xs h.fresh (le_refl (length xs))
    ∙ ap (λ z. z ++ h.fresh) (drop_all (length xs) xs (le_refl (length xs)))) ∙ h.back

pub noted_before : (b c : Bindings) (xs ys : List ℕ) → IsNoted b xs c ys → take (length xs) ys ≡ xs
noted_before b c xs ys h = ap (take (length xs)) h.noted ∙ take-append-le (length xs) xs h.fresh (le_refl (length xs)) ∙ take_all (length xs) xs (le_refl (length xs))

-- the last of the variables behind a place is taken back
module _ (from x : ℕ) (xs ys : List ℕ) (split : ys ≡ xs ++ x ∷ []) (low : from < length ys) where
  within : from ≤ length xs
  within = let long = ap length split ∙ length-append xs (x ∷ []) in omega (arith, long, low)

  pub last_back : (b c : Bindings) → c ≡ remove b x → without c (drop from xs) ≡ without b (drop from ys)
  last_back b c is =
      ap (λ d. without d (drop from xs)) is ∙ sym (without-append b (drop from xs) (x ∷ []))
      ∙ ap (without b) (sym (ap (drop from) split ∙ drop-append-le from xs (x ∷ []) within))

  pub last_before : take from xs ≡ take from ys
  last_before = sym (ap (take from) split ∙ take-append-le from xs (x ∷ []) within)
