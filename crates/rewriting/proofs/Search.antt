-- Finite search: either all have one property, or a first has another.
use Rattle.std.proofs.Common.{ℕ, zero, suc, ◌≡◌, ◌+◌, ◌<◌, ◌⊎◌, inl, inr, List, [], ◌∷◌, Some, slice_get, refl, sym, subst, arith}
use Rattle.rewriting.specs.Terms.{Term, var, app, Terms, nil, cons}
use Rattle.rewriting.specs.Positions.{Position, IsBefore, argument, subterm}
use Rattle.rewriting.specs.Rules.{Rule, System, rule_at}
use Rattle.rewriting.proofs.Positions.{none_at_zero, within}
use Rattle.rewriting.proofs.Conditions.{Order, is_smaller, is_equal, is_greater, order}

-- the first number below n without P, which has Q
pub record FirstBelow (P Q : ℕ → Type 0) (n : ℕ) : Type 0 where
  pub number : ℕ
  pub below : number < n
  pub has : Q number
  pub before : (i : ℕ) → i < number → P i

pub search_below : (P Q : ℕ → Type 0) → ((i : ℕ) → P i ⊎ Q i) → (n : ℕ) → ((i : ℕ) → i < n → P i) ⊎ FirstBelow P Q n
search_below P Q test zero = inl (λ i less. absurd (omega (arith, less)))
search_below P Q test (suc n) = go (search_below P Q test n) (test n)
  where
    last : (i : ℕ) → i < suc n → (i < n) ⊎ (i ≡ n)
    last i less = (let d = order i n in split d less)
      where
        split : Order i n → i < suc n → (i < n) ⊎ (i ≡ n)
        split (is_smaller h) less = inl h
        split (is_equal e) less = inr e
        split (is_greater h) less = absurd (omega (arith, h, less))

    go : ((i : ℕ) → i < n → P i) ⊎ FirstBelow P Q n → P n ⊎ Q n → ((i : ℕ) → i < suc n → P i) ⊎ FirstBelow P Q (suc n)
    go (inr f) h = inr (record { number = f.number; below = omega (arith, f.below); has = f.has; before = f.before })
    go (inl all) (inr q) = inr (record { number = n; below = omega arith; has = q; before = all })
    go (inl all) (inl p) = inl (λ i less. with_last i (last i less))
      where
        with_last : (i : ℕ) → (i < n) ⊎ (i ≡ n) → P i
        with_last i (inl h) = all i h
        with_last i (inr e) = subst P (sym e) p

-- the first element without P, which has Q; both may speak of its number too
pub record FirstAt {A : Type 0} (P Q : ℕ → A → Type 0) (xs : List A) : Type 0 where
  pub number : ℕ
  pub found : A
  pub is_there : slice_get xs number ≡ Some found
  pub has : Q number found
  pub before : (i : ℕ) (a : A) → i < number → slice_get xs i ≡ Some a → P i a

pub search_at : {A : Type 0} (P Q : ℕ → A → Type 0) (xs : List A) → ((i : ℕ) (a : A) → slice_get xs i ≡ Some a → P i a ⊎ Q i a)
    → ((i : ℕ) (a : A) → slice_get xs i ≡ Some a → P i a) ⊎ FirstAt P Q xs
search_at {A = A} P Q [] test = inl (λ i a e. absurd (cc))
search_at {A = A} P Q (b ∷ xs) test = go (test 0 b refl) (search_at (λ i. P (suc i)) (λ i. Q (suc i)) xs (λ i a e. test (suc i) a e))
  where
    go : P 0 b ⊎ Q 0 b → ((i : ℕ) (a : A) → slice_get xs i ≡ Some a → P (suc i) a) ⊎ FirstAt (λ i. P (suc i)) (λ i. Q (suc i)) xs
        → ((i : ℕ) (a : A) → slice_get (b ∷ xs) i ≡ Some a → P i a) ⊎ FirstAt P Q (b ∷ xs)
    go (inr q) h = inr (record { number = 0; found = b; is_there = refl; has = q; before = λ i a less e. absurd (omega (arith, less)) })
    go (inl p) (inl all) = inl each
      where
        each : (i : ℕ) (a : A) → slice_get (b ∷ xs) i ≡ Some a → P i a
        each zero a e = subst (P 0) (let same : b ≡ a = cc in same) p
        each (suc i) a e = all i a e
    go (inl p) (inr f) = inr (record { number = suc f.number; found = f.found; is_there = f.is_there; has = f.has; before = before })
      where
        before : (i : ℕ) (a : A) → i < suc f.number → slice_get (b ∷ xs) i ≡ Some a → P i a
        before zero a less e = subst (P 0) (let same : b ≡ a = cc in same) p
        before (suc i) a less e = f.before i a (omega (arith, less)) e

-- the same for the rules of a system
pub record FirstRule (P Q : ℕ → Rule → Type 0) (sys : System) : Type 0 where
  pub number : ℕ
  pub found : Rule
  pub is_rule : rule_at sys number ≡ Some found
  pub has : Q number found
  pub before : (i : ℕ) (r : Rule) → i < number → rule_at sys i ≡ Some r → P i r

pub search_rules : (P Q : ℕ → Rule → Type 0) (sys : System) → ((i : ℕ) (r : Rule) → rule_at sys i ≡ Some r → P i r ⊎ Q i r)
    → ((i : ℕ) (r : Rule) → rule_at sys i ≡ Some r → P i r) ⊎ FirstRule P Q sys
search_rules P Q sys test = go (search_at (λ i. P (suc i)) (λ i. Q (suc i)) sys.rules (λ i r e. test (suc i) r e))
  where
    go : ((i : ℕ) (r : Rule) → slice_get sys.rules i ≡ Some r → P (suc i) r) ⊎ FirstAt (λ i. P (suc i)) (λ i. Q (suc i)) sys.rules
        → ((i : ℕ) (r : Rule) → rule_at sys i ≡ Some r → P i r) ⊎ FirstRule P Q sys
    go (inl all) = inl each
      where
        each : (i : ℕ) (r : Rule) → rule_at sys i ≡ Some r → P i r
        each zero r e = absurd (cc)
        each (suc i) r e = all i r e
    go (inr f) = inr (record { number = suc f.number; found = f.found; is_rule = f.is_there; has = f.has; before = before })
      where
        before : (i : ℕ) (r : Rule) → i < suc f.number → rule_at sys i ≡ Some r → P i r
        before zero r less e = absurd (cc)
        before (suc i) r less e = f.before i r (omega (arith, less)) e

-- a property that is decided has its opposite for the other
pub decided : {A : Type 0} → Dec A → A ⊎ (A → ⊥)
decided (yes a) = inl a
decided (no h) = inr h

-- the first subterm in preorder without P, which has Q
pub record FirstSubterm (P Q : Position → Term → Type 0) (t : Term) : Type 0 where
  pub position : Position
  pub part : Term
  pub is_part : subterm t position ≡ Some part
  pub has : Q position part
  pub before : (p : Position) (u : Term) → IsBefore p position → subterm t p ≡ Some u → P p u

-- the same for the subterms of arguments, which are numbered from k on
pub record FirstInside (P Q : Position → Term → Type 0) (k : ℕ) (ts : Terms) : Type 0 where
  pub number : ℕ
  pub rest : Position
  pub argument_there : Term
  pub part : Term
  pub here : argument ts (suc number) ≡ Some argument_there
  pub inside : subterm argument_there rest ≡ Some part
  pub has : Q ((k + number) ∷ rest) part
  pub before : (l : ℕ) (p : Position) (t u : Term) → (l < number) ⊎ ((l ≡ number) × IsBefore p rest) → argument ts (suc l) ≡ Some t → subterm t p ≡ Some u → P ((k + l) ∷ p) u

-- one number lower on both sides
lower : (l n : ℕ) (p q : Position) → (suc l < suc n) ⊎ ((suc l ≡ suc n) × IsBefore p q) → (l < n) ⊎ ((l ≡ n) × IsBefore p q)
lower l n p q (inl less) = inl (omega (arith, less))
lower l n p q (inr (same, b)) = inr (omega (arith, same), b)

abbrev pub AllSubterms : (P : Position → Term → Type 0) → Term → Type 0
AllSubterms P t = (p : Position) (u : Term) → subterm t p ≡ Some u → P p u

abbrev pub AllInside : (P : Position → Term → Type 0) → ℕ → Terms → Type 0
AllInside P k ts = (l : ℕ) (p : Position) (t u : Term) → argument ts (suc l) ≡ Some t → subterm t p ≡ Some u → P ((k + l) ∷ p) u

at_root : (P Q : Position → Term → Type 0) (f : ℕ) (ts : Terms) → Q [] (app f ts) → FirstSubterm P Q (app f ts)
at_root P Q f ts q = record { position = []; part = app f ts; is_part = refl; has = q; before = λ p u b e. absurd (before_root p b) }
  where
    before_root : (p : Position) → IsBefore p [] → ⊥
    before_root [] b = b
    before_root (k ∷ p) b = b

all_below : (P : Position → Term → Type 0) (f : ℕ) (ts : Terms) → P [] (app f ts) → AllInside P 1 ts → AllSubterms P (app f ts)
all_below P f ts h all [] u e = subst (P []) (let same : app f ts ≡ u = cc in same) h
all_below P f ts h all (zero ∷ p) u e = absurd (let w = within (app f ts) zero p u e in none_at_zero ts w.part w.here)
all_below P f ts h all (suc k ∷ p) u e =
    let w = within (app f ts) (suc k) p u e in
    let number : 1 + k ≡ suc k = omega arith in
    subst (λ z. P (z ∷ p) u) number (all k p w.part u w.here w.inside)

first_below : (P Q : Position → Term → Type 0) (f : ℕ) (ts : Terms) → P [] (app f ts) → FirstInside P Q 1 ts → FirstSubterm P Q (app f ts)
first_below P Q f ts h i =
    let number : 1 + i.number ≡ suc i.number = omega arith in
    record {
      position = suc i.number ∷ i.rest;
      part = i.part;
      is_part = rw i.here i.inside;
      has = subst (λ z. Q (z ∷ i.rest) i.part) number i.has;
      before = before;
    }
  where
    before : (p : Position) (u : Term) → IsBefore p (suc i.number ∷ i.rest) → subterm (app f ts) p ≡ Some u → P p u
    before [] u b e = subst (P []) (let same : app f ts ≡ u = cc in same) h
    before (zero ∷ p) u b e = absurd (let w = within (app f ts) zero p u e in none_at_zero ts w.part w.here)
    before (suc l ∷ p) u b e =
        let w = within (app f ts) (suc l) p u e in
        let number : 1 + l ≡ suc l = omega arith in
        subst (λ z. P (z ∷ p) u) number (i.before l p w.part u (lower l i.number p i.rest b) w.here w.inside)

all_more : (P : Position → Term → Type 0) (k : ℕ) (t : Term) (ts : Terms) → AllSubterms (λ p. P (k ∷ p)) t → AllInside P (suc k) ts → AllInside P k (cons t ts)
all_more P k t ts h all zero p s u here e =
    let same : t ≡ s = cc in
    let number : k ≡ k + 0 = omega arith in
    subst (λ z. P (z ∷ p) u) number (h p u (subst (λ z. subterm z p ≡ Some u) (sym same) e))
all_more P k t ts h all (suc l) p s u here e = let number : suc k + l ≡ k + suc l = omega arith in subst (λ z. P (z ∷ p) u) number (all l p s u here e)

in_first : (P Q : Position → Term → Type 0) (k : ℕ) (t : Term) (ts : Terms) → FirstSubterm (λ p. P (k ∷ p)) (λ p. Q (k ∷ p)) t → FirstInside P Q k (cons t ts)
in_first P Q k t ts f =
    let number : k ≡ k + 0 = omega arith in
    record {
      number = 0;
      rest = f.position;
      argument_there = t;
      part = f.part;
      here = refl;
      inside = f.is_part;
      has = subst (λ z. Q (z ∷ f.position) f.part) number f.has;
      before = before;
    }
  where
    before : (l : ℕ) (p : Position) (s u : Term) → (l < 0) ⊎ ((l ≡ 0) × IsBefore p f.position) → argument (cons t ts) (suc l) ≡ Some s → subterm s p ≡ Some u → P ((k + l) ∷ p) u
    before l p s u (inl less) here e = absurd (omega (arith, less))
    before zero p s u (inr (z, b)) here e =
        let same : t ≡ s = cc in
        let number : k ≡ k + 0 = omega arith in
        subst (λ z. P (z ∷ p) u) number (f.before p u b (subst (λ z. subterm z p ≡ Some u) (sym same) e))
    before (suc l) p s u (inr (z, b)) here e = absurd (omega (arith, z))

in_later : (P Q : Position → Term → Type 0) (k : ℕ) (t : Term) (ts : Terms) → AllSubterms (λ p. P (k ∷ p)) t → FirstInside P Q (suc k) ts → FirstInside P Q k (cons t ts)
in_later P Q k t ts h i =
    let number : suc k + i.number ≡ k + suc i.number = omega arith in
    record {
      number = suc i.number;
      rest = i.rest;
      argument_there = i.argument_there;
      part = i.part;
      here = i.here;
      inside = i.inside;
      has = subst (λ z. Q (z ∷ i.rest) i.part) number i.has;
      before = before;
    }
  where
    before : (l : ℕ) (p : Position) (s u : Term) → (l < suc i.number) ⊎ ((l ≡ suc i.number) × IsBefore p i.rest) → argument (cons t ts) (suc l) ≡ Some s → subterm s p ≡ Some u → P ((k + l) ∷ p) u
    before zero p s u b here e =
        let same : t ≡ s = cc in
        let number : k ≡ k + 0 = omega arith in
        subst (λ z. P (z ∷ p) u) number (h p u (subst (λ z. subterm z p ≡ Some u) (sym same) e))
    before (suc l) p s u b here e = let number : suc k + l ≡ k + suc l = omega arith in subst (λ z. P (z ∷ p) u) number (i.before l p s u (lower l i.number p i.rest b) here e)

mutual
  pub search_subterms : (P Q : Position → Term → Type 0) → ((p : Position) (u : Term) → P p u ⊎ Q p u) → (t : Term) → AllSubterms P t ⊎ FirstSubterm P Q t
  search_subterms P Q test (var x) = go (test [] (var x))
    where
      go : P [] (var x) ⊎ Q [] (var x) → AllSubterms P (var x) ⊎ FirstSubterm P Q (var x)
      go (inl h) = inl each
        where
          each : AllSubterms P (var x)
          each [] u e = subst (P []) (let same : var x ≡ u = cc in same) h
          each (k ∷ p) u e = absurd (cc)
      go (inr q) = inr (record { position = []; part = var x; is_part = refl; has = q; before = before })
        where
          before : (p : Position) (u : Term) → IsBefore p [] → subterm (var x) p ≡ Some u → P p u
          before [] u b e = absurd b
          before (k ∷ p) u b e = absurd b
  search_subterms P Q test (app f ts) = go (test [] (app f ts)) (search_inside P Q test 1 ts)
    where
      go : P [] (app f ts) ⊎ Q [] (app f ts) → AllInside P 1 ts ⊎ FirstInside P Q 1 ts → AllSubterms P (app f ts) ⊎ FirstSubterm P Q (app f ts)
      go (inr q) h = inr (at_root P Q f ts q)
      go (inl h) (inl all) = inl (all_below P f ts h all)
      go (inl h) (inr i) = inr (first_below P Q f ts h i)

  pub search_inside : (P Q : Position → Term → Type 0) → ((p : Position) (u : Term) → P p u ⊎ Q p u) → (k : ℕ) (ts : Terms) → AllInside P k ts ⊎ FirstInside P Q k ts
  search_inside P Q test k nil = inl (λ l p t u here e. absurd (cc))
  search_inside P Q test k (cons t ts) = go (search_subterms (λ p. P (k ∷ p)) (λ p. Q (k ∷ p)) (λ p u. test (k ∷ p) u) t) (search_inside P Q test (suc k) ts)
    where
      go : AllSubterms (λ p. P (k ∷ p)) t ⊎ FirstSubterm (λ p. P (k ∷ p)) (λ p. Q (k ∷ p)) t → AllInside P (suc k) ts ⊎ FirstInside P Q (suc k) ts
          → AllInside P k (cons t ts) ⊎ FirstInside P Q k (cons t ts)
      go (inr f) h = inr (in_first P Q k t ts f)
      go (inl h) (inl all) = inl (all_more P k t ts h all)
      go (inl h) (inr i) = inr (in_later P Q k t ts h i)
