-- Choices that turn: the next ones, and the last.
use Rattle.std.proofs.Common.{◌≡◌, ℕ, zero, suc, ◌+◌, ◌-◌, ◌<◌, ◌≤◌, true, false, List, [], ◌∷◌, ◌++◌, length, get_or, set, take, drop, map, flat_map, refl, sym, ap, ap₂, ◌∙◌, subst, arith, add-one}
use Rattle.std.proofs.Math.Seq.{drop-cons, split_at}
use Rattle.std.proofs.lemmas.List.{length-set, drop-set, drop_all, take-set, take-take, get_or_default, length-take-le, length-drop}
use Rattle.std.specs.FinMap.{empty, insert}
use Rattle.general_lemmas.proofs.Lists.{flat_map_same}
use Rattle.rewriting.specs.Prelude.{Term, var, app, nil, Bindings, Condition, System}
use Rattle.query_space.specs.Items.{try_values, value_items}
use Rattle.query_space.specs.Variables.{open_variables}
use Rattle.query_space.specs.Assignments.{constants, choices, assignments_from}
use Rattle.query_search.specs.Choices.{constants_of, choice, chosen, all_chosen, chosen_from, AreZeros, TurnAnswers}

-- ---- one choice

pub choice_first : (ts : List Term) (x n : ℕ) → n ≡ 0 → choice ts x n ≡ var x
choice_first ts x n e = ap (choice ts x) e

get_past : (fs : List ℕ) (n : ℕ) (d : Term) → length fs ≤ n → get_or (constants_of fs) n d ≡ d
get_past [] n d h = refl
get_past (g ∷ fs) zero d h = absurd (omega (arith, h))
get_past (g ∷ fs) (suc n) d h = get_past fs n d (omega (arith, h))

get_made : (fs : List ℕ) (n : ℕ) (d : Term) → n < length fs → get_or (constants_of fs) n d ≡ app (get_or fs n 0) nil
get_made [] n d h = absurd (omega (arith, h))
get_made (g ∷ fs) zero d h = refl
get_made (g ∷ fs) (suc n) d h = get_made fs n d (omega (arith, h))

pub choice_past : (fs : List ℕ) (x n : ℕ) → length fs < n → choice (constants_of fs) x n ≡ var x
choice_past fs x zero h = absurd (omega (arith, h))
choice_past fs x (suc n) h = get_past fs n (var x) (omega (arith, h))

pub choice_made : (fs : List ℕ) (x n : ℕ) → (n ≡ 0 → ⊥) → n ≤ length fs → choice (constants_of fs) x n ≡ app (get_or fs (n - 1) 0) nil
choice_made fs x zero h e = absurd (h refl)
choice_made fs x (suc n) h e = let same : n ≡ suc n - 1 = omega arith in get_made fs n (var x) (omega (arith, e)) ∙ ap (λ k. app (get_or fs k 0) nil) same

-- ---- the first choices, and the last

abbrev pub AreAtLeast : ℕ → List ℕ → Type 0
AreAtLeast last [] = Unit {0}
AreAtLeast last (n ∷ ns) = (last ≤ n) × AreAtLeast last ns

module _ (ts : List Term) where
  abbrev under : Bindings → ℕ → List ℕ → Term → List Bindings
  under b x xs t = all_chosen ts (insert b x t) xs

  pub from_zeros : (b : Bindings) (xs ns : List ℕ) → AreZeros ns → length ns ≡ length xs → chosen_from ts b xs ns ≡ all_chosen ts b xs
  from_zeros b [] ns h e = refl
  from_zeros b (x ∷ xs) [] h e = absurd (omega (arith, e))
  from_zeros b (x ∷ xs) (n ∷ ns) (z, h) e =
      ap (λ k. chosen_from ts (insert b x (choice ts x k)) xs ns ++ flat_map (under b x xs) (drop (suc k) (var x ∷ ts))) z
      ∙ ap (λ l. l ++ flat_map (under b x xs) ts) (from_zeros (insert b x (var x)) xs ns h (omega (arith, e)))

  pub from_last : (b : Bindings) (xs ns : List ℕ) → AreAtLeast (length ts) ns → length ns ≡ length xs → chosen_from ts b xs ns ≡ chosen ts b xs ns ∷ []
  from_last b [] ns h e = refl
  from_last b (x ∷ xs) [] h e = refl
  from_last b (x ∷ xs) (n ∷ ns) (last, h) e =
      let none : drop (suc n) (var x ∷ ts) ≡ [] = drop_all (suc n) (var x ∷ ts) (omega (arith, last)) in
      ap₂ (λ l m. l ++ m) (from_last (insert b x (choice ts x n)) xs ns h (omega (arith, e))) (ap (flat_map (under b x xs)) none)

  -- the number at one place is one more, those behind it were the last and are the first
  pub from_next : (b : Bindings) (xs ys : List ℕ) (x : ℕ) (ms ns zs : List ℕ) (n : ℕ) → length ms ≡ length xs → length ns ≡ length ys → length zs ≡ length ys
      → AreAtLeast (length ts) ns → AreZeros zs → n < length ts
      → chosen_from ts b (xs ++ x ∷ ys) (ms ++ n ∷ ns) ≡ chosen ts b (xs ++ x ∷ ys) (ms ++ n ∷ ns) ∷ chosen_from ts b (xs ++ x ∷ ys) (ms ++ suc n ∷ zs)
  from_next b [] ys x [] ns zs n em en ez last first less =
      let here = from_last (insert b x (choice ts x n)) ys ns last en in
      let next = from_zeros (insert b x (choice ts x (suc n))) ys zs first ez in
      let split : drop (suc n) (var x ∷ ts) ≡ choice ts x (suc n) ∷ drop (suc (suc n)) (var x ∷ ts) = drop-cons (var x ∷ ts) (suc n) (var x) (omega (arith, less)) in
      ap₂ (λ l m. l ++ m) here (ap (flat_map (under b x ys)) split)
      ∙ ap (λ l. chosen ts (insert b x (choice ts x n)) ys ns ∷ (l ++ flat_map (under b x ys) (drop (suc (suc n)) (var x ∷ ts)))) (sym next)
  from_next b [] ys x (m ∷ ms) ns zs n em en ez last first less = absurd (omega (arith, em))
  from_next b (y ∷ xs) ys x [] ns zs n em en ez last first less = absurd (omega (arith, em))
  from_next b (y ∷ xs) ys x (m ∷ ms) ns zs n em en ez last first less =
      ap (λ l. l ++ flat_map (under b y (xs ++ x ∷ ys)) (drop (suc m) (var y ∷ ts))) (from_next (insert b y (choice ts y m)) xs ys x ms ns zs n (omega (arith, em)) en ez last first less)

-- ---- the numbers that turn

-- from a place on the old numbers are the last, and the new ones the first
pub record IsTurned (last : ℕ) (old new : List ℕ) (place : ℕ) : Type 0 where
  pub as_many : length new ≡ length old
  pub before : take place new ≡ take place old
  pub lasts : AreAtLeast last (drop place old)
  pub zeros : AreZeros (drop place new)

pub none_turned : (last : ℕ) (old : List ℕ) (place : ℕ) → length old ≤ place → IsTurned last old old place
none_turned last old place h =
    let none = drop_all place old h in
    record { as_many = refl; before = refl; lasts = subst (AreAtLeast last) (sym none) tt; zeros = subst AreZeros (sym none) tt }

-- at one place less
module _ (last : ℕ) (old new : List ℕ) (place k n : ℕ) (is : place ≡ suc k) (within : place ≤ length old) (turned : IsTurned last old new place) (here : n ≡ get_or new k n) where
  old_split : drop k old ≡ get_or old k 0 ∷ drop (suc k) old
  old_split = drop-cons old k 0 (omega (arith, is, within))

  old_here : get_or old k 0 ≡ n
  old_here =
      got old new k place turned.before (omega (arith, is)) (omega (arith, within)) (let many = turned.as_many in omega (arith, within, many))
      ∙ sym (here ∙ get_or_default new k n 0 (let many = turned.as_many in omega (arith, is, within, many)))
    where
      first : (xs : List ℕ) (k m : ℕ) → k < m → get_or (take m xs) k 0 ≡ get_or xs k 0
      first [] k zero h = refl
      first [] k (suc m) h = refl
      first (x ∷ xs) k zero h = absurd (omega (arith, h))
      first (x ∷ xs) zero (suc m) h = refl
      first (x ∷ xs) (suc k) (suc m) h = first xs k m (omega (arith, h))

      got : (xs ys : List ℕ) (k m : ℕ) → take m ys ≡ take m xs → k < m → m ≤ length xs → m ≤ length ys → get_or xs k 0 ≡ get_or ys k 0
      got xs ys k m e h l r = sym (first xs k m h) ∙ ap (λ z. get_or z k 0) (sym e) ∙ first ys k m h

  before_here : (y : ℕ) → take k (set new k y) ≡ take k old
  before_here y = take-set new k y ∙ sym (take-take k place new (omega (arith, is))) ∙ ap (take k) turned.before ∙ take-take k place old (omega (arith, is))

  new_split : (y : ℕ) → drop k (set new k y) ≡ y ∷ drop (suc k) new
  new_split y = drop-set new k y (let many = turned.as_many in omega (arith, is, within, many)) ∙ ap (λ m. y ∷ drop m new) (add-one k)

  lasts_behind : AreAtLeast last (drop (suc k) old)
  lasts_behind = subst (λ m. AreAtLeast last (drop m old)) is turned.lasts

  zeros_behind : AreZeros (drop (suc k) new)
  zeros_behind = subst (λ m. AreZeros (drop m new)) is turned.zeros

  pub turned_back : last ≤ n → IsTurned last old (set new k 0) k
  turned_back most =
      record {
        as_many = length-set new k 0 ∙ turned.as_many;
        before = before_here 0;
        lasts = subst (AreAtLeast last) (sym (old_split ∙ ap (λ m. m ∷ drop (suc k) old) old_here)) (most, lasts_behind);
        zeros = subst AreZeros (sym (new_split 0)) (refl, zeros_behind);
      }

  pub turned_up : (ts : List Term) (xs : List ℕ) → length ts ≡ last → length xs ≡ length old → n < last → TurnAnswers ts xs old (set new k (n + 1)) true
  turned_up ts xs many as_many less =
      let long : k < length xs = omega (arith, is, within, as_many) in
      let x = get_or xs k 0 in
      let shown : xs ≡ take k xs ++ x ∷ drop (suc k) xs = split_at xs k 0 long in
      let old_shown : old ≡ take k old ++ n ∷ drop (suc k) old = split_at old k 0 (omega (arith, is, within)) ∙ ap (λ m. take k old ++ m ∷ drop (suc k) old) old_here in
      let new_long : k < length (set new k (n + 1)) = (let a = length-set new k (n + 1) in let b = turned.as_many in omega (arith, a, b, is, within)) in
      let new_shown : set new k (n + 1) ≡ take k old ++ suc n ∷ drop (suc k) new =
      front_back (set new k (n + 1)) k ∙ ap₂ (λ l m. l ++ m) (before_here (n + 1)) (new_split (n + 1)) ∙ ap (λ m. take k old ++ m ∷ drop (suc k) new) (add-one n) in
      let whole = from_next ts empty (take k xs) (drop (suc k) xs) x (take k old) (drop (suc k) old) (drop (suc k) new) n
      (length-take-le k old (omega (arith, is, within)) ∙ sym (length-take-le k xs (omega (arith, long))))
      (length-drop (suc k) old ∙ ap (λ m. m - suc k) (sym as_many) ∙ sym (length-drop (suc k) xs))
      (length-drop (suc k) new ∙ ap (λ m. m - suc k) (turned.as_many ∙ sym as_many) ∙ sym (length-drop (suc k) xs))
      (subst (λ m. AreAtLeast m (drop (suc k) old)) (sym many) lasts_behind) zeros_behind (omega (arith, less, many)) in
      ap₂ (chosen_from ts empty) shown old_shown ∙ whole
      ∙ ap₂ (λ l m. l ∷ m) (ap₂ (chosen ts empty) (sym shown) (sym old_shown)) (ap₂ (chosen_from ts empty) (sym shown) (sym new_shown))
    where
      front_back : {A : Type 0} (zs : List A) (j : ℕ) → zs ≡ take j zs ++ drop j zs
      front_back [] zero = refl
      front_back [] (suc j) = refl
      front_back (z ∷ zs) zero = refl
      front_back (z ∷ zs) (suc j) = ap (λ l. z ∷ l) (front_back zs j)

pub all_turned : (last : ℕ) (old new : List ℕ) (place : ℕ) → place ≡ 0 → IsTurned last old new place → (ts : List Term) (xs : List ℕ) → length ts ≡ last → length xs ≡ length old
    → TurnAnswers ts xs old new false
all_turned last old new place e t ts xs many as_many =
    let lasts : AreAtLeast last old = subst (λ m. AreAtLeast last (drop m old)) e t.lasts in
    from_last ts empty xs old (subst (λ m. AreAtLeast m old) (sym many) lasts) (sym as_many)

pub zeros_push : (ns : List ℕ) → AreZeros ns → AreZeros (ns ++ 0 ∷ [])
zeros_push [] h = (refl, tt)
zeros_push (n ∷ ns) (z, h) = (z, zeros_push ns h)

-- the choices to which the numbers have turned come first
pub head_split : (ts : List Term) (b : Bindings) (xs ns : List ℕ) → (others : List Bindings) × (chosen_from ts b xs ns ≡ chosen ts b xs ns ∷ others)
head_split ts b [] ns = ([], refl)
head_split ts b (x ∷ xs) [] = ([], refl)
head_split ts b (x ∷ xs) (n ∷ ns) =
    let inner = head_split ts (insert b x (choice ts x n)) xs ns in
    (inner.0 ++ flat_map (under ts b x xs) (drop (suc n) (var x ∷ ts)), ap (λ l. l ++ flat_map (under ts b x xs) (drop (suc n) (var x ∷ ts))) inner.1)

pub same_chosen : (fs gs xs ys ns : List ℕ) → gs ≡ fs → ys ≡ xs → chosen (constants_of gs) empty ys ns ≡ chosen (constants_of fs) empty xs ns
same_chosen fs gs xs ys ns e f = ap₂ (λ z w. chosen (constants_of z) empty w ns) e f

-- ---- the values

-- ---- all assignments

pub all_assigned : (sys : System) (b : Bindings) (xs : List ℕ) → all_chosen (constants sys) b xs ≡ assignments_from sys b xs
all_assigned sys b [] = refl
all_assigned sys b (x ∷ xs) =
    flat_map_same (λ t. all_chosen (constants sys) (insert b x t) xs) (λ t. assignments_from sys (insert b x t) xs) (λ t. all_assigned sys (insert b x t) xs) (choices sys x)

pub first_assigned : (sys : System) (cs : List Condition) (ts : List Term) (xs ns : List ℕ) → ts ≡ constants sys → xs ≡ open_variables cs → AreZeros ns → length ns ≡ length xs
    → map try_values (chosen_from ts empty xs ns) ≡ value_items sys cs
first_assigned sys cs ts xs ns e f z many =
    ap (map try_values) (from_zeros ts empty xs ns z many ∙ ap₂ (λ t o. all_chosen t empty o) e f ∙ all_assigned sys empty (open_variables cs))
