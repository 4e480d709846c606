-- Finite search: over the members of a list, the ways to split it, and lists of numbers in order.
use Rattle.std.proofs.Common.{ℕ, zero, suc, ◌≡◌, ◌<◌, ◌⊎◌, inl, inr, List, [], ◌∷◌, ◌++◌, Option, None, Some, All, Contains, length, refl, sym, ap, subst, arith}
use Rattle.std.proofs.lemmas.List.Elements.{All-nil, All-cons, All-head, All-tail, All-contains}
use native.Mathlib.Decide.{ℕ_discrete, map_dec}
use Rattle.rewriting.specs.Positions.{IsBefore}
use Rattle.rewriting.proofs.Search.{FirstBelow, search_below}
use Rattle.automata.proofs.Asked.{contains_head, contains_tail}

pub same_option : (o p : Option ℕ) → Dec (o ≡ p)
same_option None None = yes refl
same_option None (Some y) = no (λ e. cc)
same_option (Some x) None = no (λ e. cc)
same_option (Some x) (Some y) = map_dec (λ e. ap Some e) (λ e. cc) (ℕ_discrete x y)

-- a member with a property
abbrev pub Member : {A : Type 0} → (A → Type 0) → List A → Type 0
Member {A} P xs = (x : A) × Contains xs x × P x

module _ {A : Type 0} (P : A → Type 0) (test : (x : A) → Dec (P x)) where
  found : (x : A) (xs : List A) → Dec (P x) → (Member P xs ⊎ All (λ y. P y → ⊥) xs) → Member P (x ∷ xs) ⊎ All (λ y. P y → ⊥) (x ∷ xs)
  found x xs (yes p) rest = inl (x, contains_head x xs, p)
  found x xs (no k) (inl (y, c, p)) = inl (y, contains_tail x xs y c, p)
  found x xs (no k) (inr none) = inr (All-cons (λ y. P y → ⊥) x xs k none)

  search_members : (xs : List A) → Member P xs ⊎ All (λ y. P y → ⊥) xs
  search_members [] = inr (All-nil (λ y. P y → ⊥))
  search_members (x ∷ xs) = found x xs (test x) (search_members xs)

  pub some_member : (xs : List A) → Dec (Member P xs)
  some_member xs = go (search_members xs)
    where
      go : Member P xs ⊎ All (λ y. P y → ⊥) xs → Dec (Member P xs)
      go (inl m) = yes m
      go (inr none) = no (λ (x, c, p). All-contains (λ y. P y → ⊥) xs x none c p)

-- two parts of a list with a property
abbrev pub Parts : List ℕ → (List ℕ → List ℕ → Type 0) → Type 0
Parts cs P = (before after : List ℕ) × (cs ≡ before ++ after) × P before after

none_nil : (P : List ℕ → List ℕ → Type 0) → (P [] [] → ⊥) → (before after : List ℕ) → [] ≡ before ++ after → P before after → ⊥
none_nil P k [] after e p = k (subst (P []) (sym e) p)
none_nil P k (c ∷ before) after e p = cc

none_cons : (c : ℕ) (cs : List ℕ) (P : List ℕ → List ℕ → Type 0) → (P [] (c ∷ cs) → ⊥) → (Parts cs (λ x y. P (c ∷ x) y) → ⊥) → (before after : List ℕ) → c ∷ cs ≡ before ++ after → P before after → ⊥
none_cons c cs P k m [] after e p = k (subst (P []) (sym e) p)
none_cons c cs P k m (d ∷ before) after e p =
    let same : d ≡ c = cc in
    let rest : cs ≡ before ++ after = cc in
    m (before, after, rest, subst (λ x. P (x ∷ before) after) same p)

pub some_parts : (cs : List ℕ) (P : List ℕ → List ℕ → Type 0) → ((x y : List ℕ) → Dec (P x y)) → Dec (Parts cs P)
some_parts [] P test = go (test [] [])
  where
    go : Dec (P [] []) → Dec (Parts [] P)
    go (yes p) = yes ([], [], refl, p)
    go (no k) = no (λ (before, after, e, p). none_nil P k before after e p)
some_parts (c ∷ cs) P test = go (test [] (c ∷ cs)) (some_parts cs (λ x y. P (c ∷ x) y) (λ x y. test (c ∷ x) y))
  where
    go : Dec (P [] (c ∷ cs)) → Dec (Parts cs (λ x y. P (c ∷ x) y)) → Dec (Parts (c ∷ cs) P)
    go (yes p) rest = yes ([], c ∷ cs, refl, p)
    go (no k) (yes (before, after, e, p)) = yes (c ∷ before, after, ap (λ l. c ∷ l) e, p)
    go (no k) (no m) = no (λ (before, after, e, p). none_cons c cs P k m before after e p)

-- the first list of m numbers below n without P, which has Q
pub record FirstList (P Q : List ℕ → Type 0) (n m : ℕ) : Type 0 where
  pub list : List ℕ
  pub long : length list ≡ m
  pub below : All (λ q. q < n) list
  pub has : Q list
  pub before : (ds : List ℕ) → length ds ≡ m → All (λ q. q < n) ds → IsBefore ds list → P ds

abbrev pub AllLists : (List ℕ → Type 0) → ℕ → ℕ → Type 0
AllLists P n m = (cs : List ℕ) → length cs ≡ m → All (λ q. q < n) cs → P cs

no_number : (P Q : List ℕ → Type 0) (n : ℕ) → P [] ⊎ Q [] → AllLists P n zero ⊎ FirstList P Q n zero
no_number P Q n (inl p) = inl none
  where
    none : (cs : List ℕ) → length cs ≡ zero → All (λ q. q < n) cs → P cs
    none [] e all = p
    none (c ∷ cs) e all = absurd (omega (arith, e))
no_number P Q n (inr q) = inr (record { list = []; long = refl; below = All-nil (λ q. q < n); has = q; before = λ ds long all b. absurd b })

one_more : (P Q : List ℕ → Type 0) (n m : ℕ)
    → (((q : ℕ) → q < n → AllLists (λ cs. P (q ∷ cs)) n m) ⊎ FirstBelow (λ q. AllLists (λ cs. P (q ∷ cs)) n m) (λ q. FirstList (λ cs. P (q ∷ cs)) (λ cs. Q (q ∷ cs)) n m) n)
    → AllLists P n (suc m) ⊎ FirstList P Q n (suc m)
one_more P Q n m (inl all) = inl each
  where
    each : (cs : List ℕ) → length cs ≡ suc m → All (λ q. q < n) cs → P cs
    each [] e below = absurd (omega (arith, e))
    each (c ∷ cs) e below = let long : length cs ≡ m = omega (arith, e) in all c (All-head (λ q. q < n) c cs below) cs long (All-tail (λ q. q < n) c cs below)
one_more P Q n m (inr f) = inr (record {
  list = f.number ∷ f.has.list;
  long = ap suc f.has.long;
  below = All-cons (λ q. q < n) f.number f.has.list f.below f.has.below;
  has = f.has.has;
  before = earlier;
})
  where
    earlier : (ds : List ℕ) → length ds ≡ suc m → All (λ q. q < n) ds → IsBefore ds (f.number ∷ f.has.list) → P ds
    earlier [] e below b = absurd (omega (arith, e))
    earlier (d ∷ ds) e below (inl less) = let long : length ds ≡ m = omega (arith, e) in f.before d less ds long (All-tail (λ q. q < n) d ds below)
    earlier (d ∷ ds) e below (inr (same, b)) =
        let long : length ds ≡ m = omega (arith, e) in
        subst (λ q. P (q ∷ ds)) (sym same) (f.has.before ds long (All-tail (λ q. q < n) d ds below) b)

pub search_lists : (P Q : List ℕ → Type 0) → ((cs : List ℕ) → P cs ⊎ Q cs) → (n m : ℕ) → AllLists P n m ⊎ FirstList P Q n m
search_lists P Q test n zero = no_number P Q n (test [])
search_lists P Q test n (suc m) =
    one_more P Q n m
    (search_below (λ q. AllLists (λ cs. P (q ∷ cs)) n m) (λ q. FirstList (λ cs. P (q ∷ cs)) (λ cs. Q (q ∷ cs)) n m)
    (λ q. search_lists (λ cs. P (q ∷ cs)) (λ cs. Q (q ∷ cs)) (λ cs. test (q ∷ cs)) n m) n)
