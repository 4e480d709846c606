-- The next choice of numbers, made from its end: while the last are set to the firsts.
use Rattle.std.proofs.Common.{ℕ, zero, suc, ◌≡◌, ◌+◌, ◌<◌, ◌≤◌, ◌⊎◌, inl, inr, List, [], ◌∷◌, ◌++◌, length, get_or, set, take, drop, refl, sym, ap, ap₂, ◌∙◌, subst, arith, add-one, subst₂}
use Rattle.std.proofs.Math.Seq.{drop-cons}
use Rattle.std.proofs.lemmas.List.{length-set, drop-set, drop_all, take-set, take-take, take_more, get_or-take}
use Rattle.std.proofs.lemmas.Bool.{cases_lt}
use Rattle.measure_grid.specs.Grid.{choices}
use Rattle.rewriting.specs.Lists.{IsAmong}
use Rattle.term_core.specs.Numbering.{numbers_from}
use Rattle.measure_grid.proofs.Choices.{Begins, Ends, Follows, AreFirsts, AreLasts, AreFrom, from_length, from_get, advances_at, choices_end, choices_advance}

number_within : (low n x : ℕ) → IsAmong x (numbers_from low n) → (low ≤ x) × (x < low + n)
number_within low zero x a = absurd a
number_within low (suc n) x (inl e) = (omega (arith, e), omega (arith, e))
number_within low (suc n) x (inr a) = let at = number_within (suc low) n x a in let least = at.0 in let most = at.1 in (omega (arith, least), omega (arith, most))

numbers_end : (low more : ℕ) → Ends (numbers_from low (suc more)) (low + more)
numbers_end low zero = ([], ap (λ (x : ℕ). x ∷ []) (omega arith))
numbers_end low (suc more) =
    let at = numbers_end (suc low) more in
    let same : suc low + more ≡ low + suc more = omega arith in
    (low ∷ at.0, ap (λ (xs : List ℕ). low ∷ xs) (at.1 ∙ ap (λ (x : ℕ). at.0 ++ x ∷ []) same))

follow_later : (low more x : ℕ) → Follows (numbers_from (suc low) (suc more)) x (x + 1) → Follows (numbers_from low (suc (suc more))) x (x + 1)
follow_later low more x (before, behind, e) = (low ∷ before, behind, ap (λ (xs : List ℕ). low ∷ xs) e)

numbers_follow : (low more x : ℕ) → low ≤ x → x < low + more → Follows (numbers_from low (suc more)) x (x + 1)
numbers_follow low zero x least less = absurd (omega (arith, least, less))
numbers_follow low (suc more) x least less = go (cases_lt low x) (λ h. numbers_follow (suc low) more x h (omega (arith, less)))
  where
    go : (low < x) ⊎ (x ≤ low) → (low < x → Follows (numbers_from (suc low) (suc more)) x (x + 1)) → Follows (numbers_from low (suc (suc more))) x (x + 1)
    go (inl h) later = follow_later low more x (later h)
    go (inr h) later =
        let here : low ≡ x = omega (arith, h, least) in
        let next : suc low ≡ x + 1 = omega (arith, h, least) in
        ([], numbers_from (suc (suc low)) more, ap₂ (λ (y z : ℕ). y ∷ z ∷ numbers_from (suc (suc low)) more) here next)

-- the old numbers from a place on are the lasts, and the new ones there the firsts
pub record IsReset (ls : List (List ℕ)) (old new : List ℕ) (place : ℕ) : Type 0 where
  pub as_many : length new ≡ length old
  pub before : take place new ≡ take place old
  pub lasts : AreLasts (drop place old) (drop place ls)
  pub firsts : AreFirsts (drop place new) (drop place ls)

pub nothing_reset : (ls : List (List ℕ)) (old : List ℕ) (n : ℕ) → length old ≤ n → length ls ≤ n → IsReset ls old old n
nothing_reset ls old n h k =
    let none = drop_all n old h in
    let nothing = drop_all n ls k in
    record {
      as_many = refl;
      before = refl;
      lasts = subst (λ xs. AreLasts xs (drop n ls)) (sym none) (subst (AreLasts []) (sym nothing) tt);
      firsts = subst (λ xs. AreFirsts xs (drop n ls)) (sym none) (subst (AreFirsts []) (sym nothing) tt);
    }

pub all_reset : (ls : List (List ℕ)) (old new : List ℕ) → IsReset ls old new 0 → Ends (choices ls) old
all_reset ls old new h = choices_end old ls h.lasts

-- the numbers at one place more
module _ (ls : List (List ℕ)) (old new : List ℕ) (place k low more x : ℕ) (is : place ≡ suc k) (from : AreFrom old ls) (within : place ≤ length old)
    (at : get_or ls k [] ≡ numbers_from low (suc more)) (reset : IsReset ls old new place) (here : x ≡ get_or new k 0) where
  long : k < length ls
  long = let same = from_length old ls from in omega (arith, same, is, within)

  old_here : get_or old k 0 ≡ x
  old_here =
      let inside : k < place = omega (arith, is) in
      sym (get_or-take place old k 0 inside) ∙ ap (λ (xs : List ℕ). get_or xs k 0) (sym reset.before) ∙ get_or-take place new k 0 inside ∙ sym here

  old_drop : drop k old ≡ x ∷ drop (suc k) old
  old_drop = drop-cons old k 0 (omega (arith, is, within)) ∙ ap (λ (y : ℕ). y ∷ drop (suc k) old) old_here

  ranges_drop : drop k ls ≡ numbers_from low (suc more) ∷ drop (suc k) ls
  ranges_drop = drop-cons ls k [] long ∙ ap (λ (l : List ℕ). l ∷ drop (suc k) ls) at

  new_drop : (y : ℕ) → drop k (set new k y) ≡ y ∷ drop (suc k) new
  new_drop y = drop-set new k y (let many = reset.as_many in omega (arith, is, within, many)) ∙ ap (λ (n : ℕ). y ∷ drop n new) (add-one k)

  new_before : (y : ℕ) → take k (set new k y) ≡ take k old
  new_before y =
      take-set new k y ∙ sym (take-take k place new (omega (arith, is))) ∙ ap (take k) reset.before ∙ take-take k place old (omega (arith, is))

  lasts_behind : AreLasts (drop (suc k) old) (drop (suc k) ls)
  lasts_behind = subst (λ n. AreLasts (drop n old) (drop n ls)) is reset.lasts

  firsts_behind : AreFirsts (drop (suc k) new) (drop (suc k) ls)
  firsts_behind = subst (λ n. AreFirsts (drop n new) (drop n ls)) is reset.firsts

  -- is among the numbers of its place
  old_within : (low ≤ x) × (x < low + suc more)
  old_within = number_within low (suc more) x (subst₂ IsAmong old_here at (from_get old ls k 0 from long))

  pub reset_more : low + more ≤ x → IsReset ls old (set new k low) k
  reset_more most =
      let last : low + more ≡ x = (let bound = old_within.1 in omega (arith, bound, most)) in
      record {
        as_many = length-set new k low ∙ reset.as_many;
        before = new_before low;
        lasts = subst₂ AreLasts (sym old_drop) (sym ranges_drop) (subst (Ends (numbers_from low (suc more))) last (numbers_end low more), lasts_behind);
        firsts = subst₂ AreFirsts (sym (new_drop low)) (sym ranges_drop) ((numbers_from (suc low) more, refl), firsts_behind);
      }

  pub raised : x < low + more → Follows (choices ls) old (set new k (x + 1))
  raised less =
      choices_advance old (set new k (x + 1)) ls
      (advances_at k old (set new k (x + 1)) ls x (x + 1) (drop (suc k) old) (drop (suc k) new) (numbers_from low (suc more)) (drop (suc k) ls) from (new_before (x + 1)) old_drop
      (new_drop (x + 1)) ranges_drop
      (numbers_follow low more x old_within.0 less) lasts_behind firsts_behind)

firsts_push : (xs : List ℕ) (ls : List (List ℕ)) (x : ℕ) (l : List ℕ) → AreFirsts xs ls → Begins l x → AreFirsts (xs ++ x ∷ []) (ls ++ l ∷ [])
firsts_push [] [] x l h b = (b, tt)
firsts_push [] (m ∷ ls) x l h b = absurd h
firsts_push (y ∷ xs) [] x l h b = absurd h
firsts_push (y ∷ xs) (m ∷ ls) x l (h, hs) b = (h, firsts_push xs ls x l hs b)

-- the firsts of one place more
pub firsts_more : (ls : List (List ℕ)) (xs : List ℕ) (k low more : ℕ) → k < length ls → get_or ls k [] ≡ numbers_from low (suc more) → AreFirsts xs (take k ls)
    → AreFirsts (xs ++ low ∷ []) (take (k + 1) ls)
firsts_more ls xs k low more long at h =
    subst (AreFirsts (xs ++ low ∷ [])) (sym (take_more ls k [] long)) (firsts_push xs (take k ls) low (get_or ls k []) h (numbers_from (suc low) more, at))
