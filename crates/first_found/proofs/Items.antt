-- The first of a list of items that gives something.
use Rattle.std.proofs.Common.{ℕ, ◌≡◌, ◌+◌, ◌<◌, ◌≤◌, ◌⊎◌, inl, inr, List, [], ◌∷◌, ◌++◌, refl, sym, ap, ◌∙◌, subst, arith, append_assoc, length}
use Rattle.first_found.specs.Items.{GivesNothing, NoneGives, cost_of, IsFirst, IsStopped, one}

module _ {A : Type 0} (cost : A → ℕ) where
  pub cost_append : (xs ys : List A) → cost_of cost (xs ++ ys) ≡ cost_of cost xs + cost_of cost ys
  cost_append [] ys = omega arith
  cost_append (x ∷ xs) ys = let e = cost_append xs ys in omega (arith, e)

  -- what stands before and at an item costs no more than all
  pub cost_within : (items before : List A) (a : A) (behind : List A) → items ≡ before ++ a ∷ behind → cost_of cost before + cost a ≤ cost_of cost items
  cost_within items before a behind e =
      let all : cost_of cost items ≡ cost_of cost before + (cost a + cost_of cost behind) = ap (cost_of cost) e ∙ cost_append before (a ∷ behind) in
      omega (arith, all)

module _ {A B : Type 0} (Gives : A → B → Type 0) where
  pub none_append : (xs ys : List A) → NoneGives Gives xs → NoneGives Gives ys → NoneGives Gives (xs ++ ys)
  none_append [] ys h k = k
  none_append (x ∷ xs) ys (h, hs) k = (h, none_append xs ys hs k)

  -- where none of a list gives anything, no member does
  none_at : (before : List A) (a : A) (behind : List A) → NoneGives Gives (before ++ a ∷ behind) → GivesNothing Gives a
  none_at [] a behind (h, hs) = h
  none_at (x ∷ before) a behind (h, hs) = none_at before a behind hs

  module _ (cost : A → ℕ) where
    pub not_both : (items : List A) (b : B) (n : ℕ) → NoneGives Gives items → IsFirst cost Gives items b n → ⊥
    not_both items b n h f = none_at f.before f.item f.behind (subst (NoneGives Gives) f.split h) b f.gives

    pub first_within : (items : List A) (b : B) (n : ℕ) → IsFirst cost Gives items b n → n ≤ cost_of cost items
    first_within items b n f =
        let e = f.up_to in
        let within = cost_within cost items f.before f.item f.behind f.split in omega (arith, e, within)

    pub first_here : (before : List A) (a : A) (behind : List A) (b : B) → NoneGives Gives before → Gives a b → IsFirst cost Gives (before ++ a ∷ behind) b (cost_of cost before + cost a)
    first_here before a behind b none gives = record { before = before; item = a; behind = behind; split = refl; none = none; gives = gives; up_to = refl }

    pub first_right : (xs ys : List A) (b : B) (n : ℕ) → NoneGives Gives xs → IsFirst cost Gives ys b n → IsFirst cost Gives (xs ++ ys) b (cost_of cost xs + n)
    first_right xs ys b n none f =
        record {
          before = xs ++ f.before;
          item = f.item;
          behind = f.behind;
          split = ap (λ (zs : List A). xs ++ zs) f.split ∙ sym (append_assoc xs f.before (f.item ∷ f.behind));
          none = none_append xs f.before none f.none;
          gives = f.gives;
          up_to = let e = f.up_to in let sum = cost_append cost xs f.before in omega (arith, e, sum);
        }

    -- what is first stays first, whatever follows; and so does where a walk stopped
    pub first_left : (xs ys : List A) (b : B) (n : ℕ) → IsFirst cost Gives xs b n → IsFirst cost Gives (xs ++ ys) b n
    first_left xs ys b n f =
        record {
          before = f.before;
          item = f.item;
          behind = f.behind ++ ys;
          split = ap (λ (zs : List A). zs ++ ys) f.split ∙ append_assoc f.before (f.item ∷ f.behind) ys;
          none = f.none;
          gives = f.gives;
          up_to = f.up_to;
        }

    pub stopped_left : (xs ys : List A) (n : ℕ) → IsStopped cost Gives xs n → IsStopped cost Gives (xs ++ ys) n
    stopped_left xs ys n s =
        record {
          before = s.before;
          item = s.item;
          behind = s.behind ++ ys;
          split = ap (λ (zs : List A). zs ++ ys) s.split ∙ append_assoc s.before (s.item ∷ s.behind) ys;
          none = s.none;
          short = s.short;
        }

    pub stopped_right : (xs ys : List A) (n : ℕ) → NoneGives Gives xs → IsStopped cost Gives ys n → IsStopped cost Gives (xs ++ ys) (cost_of cost xs + n)
    stopped_right xs ys n none s =
        record {
          before = xs ++ s.before;
          item = s.item;
          behind = s.behind;
          split = ap (λ (zs : List A). xs ++ zs) s.split ∙ sym (append_assoc xs s.before (s.item ∷ s.behind));
          none = none_append xs s.before none s.none;
          short = let less = s.short in let sum = cost_append cost xs s.before in omega (arith, less, sum);
        }

    -- of no items none is first
    pub nil_first : (b : B) (n : ℕ) → IsFirst cost Gives [] b n → ⊥
    nil_first b n f = go f.before f.split
      where
        go : (before : List A) → [] ≡ before ++ f.item ∷ f.behind → ⊥
        go [] e = cc
        go (x ∷ before) e = cc

    -- the head gives it, or gives nothing and the rest does
    abbrev pub IsFirstFrom : A → List A → B → ℕ → Type 0
    IsFirstFrom a rest b n = (Gives a b × (n ≡ cost a)) ⊎ (GivesNothing Gives a × ((m : ℕ) × IsFirst cost Gives rest b m × (n ≡ cost a + m)))

    -- the first of a list is its head, or the first of the rest
    pub first_cases : (a : A) (rest : List A) (b : B) (n : ℕ) → IsFirst cost Gives (a ∷ rest) b n → IsFirstFrom a rest b n
    first_cases a rest b n f = go f.before f.split f.none f.up_to
      where
        go : (before : List A) → a ∷ rest ≡ before ++ f.item ∷ f.behind → NoneGives Gives before → n ≡ cost_of cost before + cost f.item → IsFirstFrom a rest b n
        go [] e none up = let same : f.item ≡ a = cc in inl (subst (λ z. Gives z b) same f.gives, subst (λ z. n ≡ cost z) same (omega (arith, up)))
        go (x ∷ before) e (bare, none) up =
            let same : x ≡ a = cc in
            let tail : rest ≡ before ++ f.item ∷ f.behind = cc in
            inr (
              subst (GivesNothing Gives) same bare,
              (
                cost_of cost before + cost f.item,
                record { before = before; item = f.item; behind = f.behind; split = tail; none = none; gives = f.gives; up_to = refl },
                subst (λ z. n ≡ cost z + (cost_of cost before + cost f.item)) same (omega (arith, up)),
              ),
            )

    -- the head of a list gives it for both, or the rest does
    heads_once : (a : A) (rest : List A) (b c : B) (n m : ℕ) → ((k l : ℕ) → IsFirst cost Gives rest b k → IsFirst cost Gives rest c l → (k ≡ l) × ((z : A) × Gives z b × Gives z c))
        → IsFirstFrom a rest b n → IsFirstFrom a rest c m → (n ≡ m) × ((z : A) × Gives z b × Gives z c)
    heads_once a rest b c n m below (inl (x, d)) (inl (y, e)) = (d ∙ sym e, (a, x, y))
    heads_once a rest b c n m below (inl (x, d)) (inr (bare, (k, y, e))) = absurd (bare b x)
    heads_once a rest b c n m below (inr (bare, (k, x, d))) (inl (y, e)) = absurd (bare c y)
    heads_once a rest b c n m below (inr (bare, (k, x, d))) (inr (other, (l, y, e))) = let rec = below k l x y in (d ∙ ap (λ z. cost a + z) rec.0 ∙ sym e, rec.1)

    -- what comes first comes once: at one cost, and from one item
    pub first_once : (items : List A) (b c : B) (n m : ℕ) → IsFirst cost Gives items b n → IsFirst cost Gives items c m → (n ≡ m) × ((a : A) × Gives a b × Gives a c)
    first_once [] b c n m f g = absurd (nil_first b n f)
    first_once (a ∷ rest) b c n m f g = heads_once a rest b c n m (λ k l x y. first_once rest b c k l x y) (first_cases a rest b n f) (first_cases a rest c m g)

    behind_head : (x : A) (rest : List A) (b : B) (n k : ℕ) → GivesNothing Gives x → ((m : ℕ) → IsFirst cost Gives rest b m → k ≤ m) → IsFirstFrom x rest b n → cost x + k ≤ n
    behind_head x rest b n k bare less (inl (y, e)) = absurd (bare b y)
    behind_head x rest b n k bare less (inr (other, (m, y, e))) = let most = less m y in omega (arith, e, most)

    -- behind items that give nothing the next one has still to be paid
    after_none : (before : List A) (a : A) (behind : List A) (b : B) (n : ℕ) → NoneGives Gives before → IsFirst cost Gives (before ++ a ∷ behind) b n → cost_of cost before + cost a ≤ n
    after_none [] a behind b n none f = go (first_cases a behind b n f)
      where
        go : IsFirstFrom a behind b n → 0 + cost a ≤ n
        go (inl (x, e)) = omega (arith, e)
        go (inr (other, (m, x, e))) = omega (arith, e)
    after_none (x ∷ before) a behind b n (bare, none) f =
        let less = behind_head x (before ++ a ∷ behind) b n (cost_of cost before + cost a) bare (λ m g. after_none before a behind b m none g) (first_cases x (before ++ a ∷ behind) b n f) in
        omega (arith, less)

    -- a walk that stopped has paid less than the first costs, and less than all
    pub stopped_before : (items : List A) (b : B) (n m : ℕ) → IsStopped cost Gives items n → IsFirst cost Gives items b m → n < m
    stopped_before items b n m s f =
        let less = s.short in
        let most = after_none s.before s.item s.behind b m s.none (subst (λ z. IsFirst cost Gives z b m) s.split f) in omega (arith, less, most)

    pub stopped_within : (items : List A) (n : ℕ) → IsStopped cost Gives items n → n < cost_of cost items
    stopped_within items n s =
        let less = s.short in
        let most = cost_within cost items s.before s.item s.behind s.split in omega (arith, less, most)

    -- where nothing is the first, no item gives anything
    pub none_of_no_first : (items : List A) → ((b : B) (n : ℕ) → IsFirst cost Gives items b n → ⊥) → NoneGives Gives items
    none_of_no_first [] h = tt
    none_of_no_first (a ∷ rest) h =
        let head : GivesNothing Gives a = λ b g. h b (0 + cost a) (first_here [] a rest b tt g) in
        (head, none_of_no_first rest (λ b n f. h b ((cost a + 0) + n) (first_right (a ∷ []) rest b n (head, tt) f)))

-- items at one each
pub cost_of_ones : {A : Type 0} (xs : List A) → cost_of one xs ≡ length xs
cost_of_ones [] = refl
cost_of_ones (x ∷ xs) = let e = cost_of_ones xs in omega (arith, e)
