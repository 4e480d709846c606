-- The lists of items that are tried.
use Rattle.std.proofs.Common.{ℕ, ◌≡◌, ◌+◌, ◌≤◌, List, [], ◌∷◌, ◌++◌, map, flat_map, sym, ap, ◌∙◌, subst, arith, append_assoc, append-nil}
use Rattle.std.proofs.lemmas.List.{map-append}
use Rattle.std.proofs.lemmas.List.FromFn.{map-range_with_len_more}
use Rattle.std.proofs.lemmas.List.Concat.{flat_map-append}
use Rattle.std.specs.List.{range_with_len}
use Rattle.search_spaces.specs.Refuting.{Refuting, try_growth, growths}
use Rattle.search_spaces.proofs.Growths.{range_more}
use Rattle.search_spaces.specs.PairItems.{PairItem, try_evidence, try_refuting, conflicts_with, conflicts}
use Rattle.certificates.specs.Evidence.{conflicting_pair}
use Rattle.ortho_search.specs.ItemView.{item_view}
use Rattle.evidence_offers.specs.declared.Refuting.TheVariants.{Growth}
use Rattle.ortho_search.specs.declared.items.Item.{Item}
use Rattle.ortho_search.specs.declared.items.Item.TheVariants.{Conflict, Infeasible}

growths_more : (k : ℕ) → map try_refuting (growths (k + 1)) ≡ map try_refuting (growths k) ++ try_refuting (try_growth (k + 1)) ∷ []
growths_more k =
    ap (λ (rs : List Refuting). map try_refuting rs) (map-range_with_len_more try_growth 1 k (k + 1) (omega arith))
    ∙ map-append try_refuting (growths k) (try_growth (k + 1) ∷ [])

-- one growth more
pub growth_added : (old : List PairItem) (xs : List Item) (k : ℕ) (now : List Item) → map item_view xs ≡ old ++ map try_refuting (growths k) → now ≡ xs ++ Infeasible (Growth (k + 1)) ∷ []
    → map item_view now ≡ old ++ map try_refuting (growths (k + 1))
growth_added old xs k now so_far is =
    ap (λ (z : List Item). map item_view z) is
    ∙ map-append item_view xs (Infeasible (Growth (k + 1)) ∷ [])
    ∙ ap (λ (z : List PairItem). z ++ try_refuting (try_growth (k + 1)) ∷ []) so_far
    ∙ append_assoc old (map try_refuting (growths k)) (try_refuting (try_growth (k + 1)) ∷ [])
    ∙ ap (λ (z : List PairItem). old ++ z) (sym (growths_more k))

pub all_growths : (old : List PairItem) (xs : List Item) (k n : ℕ) → map item_view xs ≡ old ++ map try_refuting (growths k) → n ≤ k → k ≤ n → map item_view xs ≡ old ++ map try_refuting (growths n)
all_growths old xs k n so_far least most =
    let same : k ≡ n = omega (arith, least, most) in subst (λ z. map item_view xs ≡ old ++ map try_refuting (growths z)) same so_far

-- one conflict more with a condition
pub conflict_added : (old : List PairItem) (a : ℕ) (xs : List Item) (k : ℕ) (now : List Item) → map item_view xs ≡ old ++ conflicts_with k a → now ≡ xs ++ Conflict a (k + 1) ∷ []
    → map item_view now ≡ old ++ conflicts_with (k + 1) a
conflict_added old a xs k now so_far is =
    ap (λ (z : List Item). map item_view z) is
    ∙ map-append item_view xs (Conflict a (k + 1) ∷ [])
    ∙ ap (λ (z : List PairItem). z ++ try_evidence (conflicting_pair a (k + 1)) ∷ []) so_far
    ∙ append_assoc old (conflicts_with k a) (try_evidence (conflicting_pair a (k + 1)) ∷ [])
    ∙ ap (λ (z : List PairItem). old ++ z) (sym (map-range_with_len_more (λ (b : ℕ). try_evidence (conflicting_pair a b)) 1 k (k + 1) (omega arith)))

pub all_conflicts_with : (old : List PairItem) (a : ℕ) (xs : List Item) (k n : ℕ) → map item_view xs ≡ old ++ conflicts_with k a → n ≤ k → k ≤ n → map item_view xs ≡ old ++ conflicts_with n a
all_conflicts_with old a xs k n so_far least most =
    let same : k ≡ n = omega (arith, least, most) in subst (λ z. map item_view xs ≡ old ++ conflicts_with z a) same so_far

conflicts_more : (k n : ℕ) → conflicts (k + 1) n ≡ conflicts k n ++ conflicts_with n (k + 1)
conflicts_more k n =
    ap (flat_map (conflicts_with n)) (range_more 1 k (k + 1) (omega arith))
    ∙ flat_map-append (conflicts_with n) (range_with_len 1 k) ((k + 1) ∷ [])
    ∙ ap (λ (z : List PairItem). conflicts k n ++ z) (append-nil (conflicts_with n (k + 1)))

-- all conflicts with one condition more
pub row_added : (old : List PairItem) (n : ℕ) (xs : List Item) (k : ℕ) (now : List Item) → map item_view xs ≡ old ++ conflicts k n → map item_view now ≡ map item_view xs ++ conflicts_with n (k + 1)
    → map item_view now ≡ old ++ conflicts (k + 1) n
row_added old n xs k now so_far is =
    is
    ∙ ap (λ (z : List PairItem). z ++ conflicts_with n (k + 1)) so_far
    ∙ append_assoc old (conflicts k n) (conflicts_with n (k + 1))
    ∙ ap (λ (z : List PairItem). old ++ z) (sym (conflicts_more k n))

pub all_conflicts : (old : List PairItem) (n : ℕ) (xs : List Item) (k m : ℕ) → map item_view xs ≡ old ++ conflicts k n → m ≤ k → k ≤ m → map item_view xs ≡ old ++ conflicts m n
all_conflicts old n xs k m so_far least most =
    let same : k ≡ m = omega (arith, least, most) in subst (λ z. map item_view xs ≡ old ++ conflicts z n) same so_far
