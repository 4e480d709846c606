-- What a walk through a pruned tree comes to: there is one such thing, and it is the first of the list that the leaves are made of.
use Rattle.std.proofs.Common.{ℕ, suc, ◌≡◌, ◌<◌, ◌≤◌, inl, inr, List, map, length, refl, sym, ap, ◌∙◌, subst, arith}
use Rattle.std.proofs.lemmas.List.{length-map}
use Rattle.first_found.specs.Items.{NoneGives, cost_of, IsFirst, one}
use Rattle.first_found.specs.Trees.{leaves, IsBarrenBelow, IsFirstBelow, IsWhole, EndsOnce, StopsBelow}
use Rattle.first_found.proofs.Items.{cost_of_ones}
use Rattle.first_found.proofs.Lists.{none_of_made, first_unmade}
use Rattle.first_found.proofs.Trees.{IsFull, barren_or_first, barren_once, below_once, stops_in_barren, stops_before_first, there_below, barren_within, nothing_below, place_below}

-- one thing at most is found, at one number of units, or one number shows that there is nothing; it cannot be that there is neither
pub record ComesToOne {B : Type 0} (First : B → ℕ → Type 0) (Barren : ℕ → Type 0) : Type 0 where
  pub first_once : (b c : B) (i j : ℕ) → First b i → First c j → (i ≡ j) × (b ≡ c)
  pub first_or_barren : (b : B) (i j : ℕ) → Barren i → First b j → ⊥
  pub barren_once : (i j : ℕ) → Barren i → Barren j → i ≡ j
  pub not_none : ((n : ℕ) → IsWhole First Barren n → ⊥) → ⊥

module _ {B : Type 0} (First : B → ℕ → Type 0) (Barren : ℕ → Type 0) (to_one : ComesToOne First Barren) where
  whole_once : (n m : ℕ) → IsWhole First Barren n → IsWhole First Barren m → n ≡ m
  whole_once n m (inl (a, f)) (inl (b, g)) = (to_one.first_once a b n m f g).0
  whole_once n m (inl (a, f)) (inr k) = absurd (to_one.first_or_barren a m n k f)
  whole_once n m (inr h) (inl (b, g)) = absurd (to_one.first_or_barren b n m h g)
  whole_once n m (inr h) (inr k) = to_one.barren_once n m h k

  pub comes_to_end : EndsOnce (IsWhole First Barren)
  comes_to_end = record { one_at_most = whole_once; not_none = to_one.not_none }

module _ {P B : Type 0} (next : P → List P) (Dead : P → Type 0) (Gives : P → B → Type 0) (top : ℕ) (root : P) where
  abbrev First : B → ℕ → Type 0
  First b n = IsFirstBelow next Dead Gives b top root n

  abbrev Barren : ℕ → Type 0
  Barren n = IsBarrenBelow next Dead Gives top root n

  pub tree_comes_to_one : ((p : P) (b c : B) → Gives p b → Gives p c → b ≡ c) → ComesToOne First Barren
  tree_comes_to_one one_gives =
      record {
        first_once = λ b c i j f g. (let same = below_once next Dead Gives top b c root i j f g in (same.0, one_gives same.1.0 b c same.1.1 same.1.2));
        first_or_barren = λ b i j h f. barren_or_first next Dead Gives top b root i j h f;
        barren_once = barren_once next Dead Gives top root;
        not_none = λ none. there_below next Dead Gives top root (λ n h. none n (inr h)) (λ b n f. none n (inl (b, f)));
      }

  pub stopped_before_whole : (n m : ℕ) → StopsBelow next Dead Gives top root n → IsWhole First Barren m → n < m
  stopped_before_whole n m s (inl (b, f)) = stops_before_first next Dead Gives top b root n m s f
  stopped_before_whole n m s (inr h) = stops_in_barren next Dead Gives top root n m s h

  -- where each leaf is made of a member of a list and gives the same, and below each node there are leaves
  module _ {A : Type 0} (leaf : A → P) (Of : A → B → Type 0) (there : (a : A) (b : B) → Gives (leaf a) b → Of a b) (back : (a : A) (b : B) → Of a b → Gives (leaf a) b) (xs : List A)
      (leaves_list : leaves next top root ≡ map leaf xs) (full : IsFull next top root) (empty : (d : ℕ) (p : P) → Dead p → NoneGives Gives (leaves next (suc d) p)) where
    pub first_of_list : (b : B) (n : ℕ) → First b n → (k : ℕ) × IsFirst one Of xs b k × (n ≤ k)
    first_of_list b n f =
        let at = place_below next Dead Gives empty top b root n full f in
        let first =
        first_unmade leaf (λ c. c) one one Gives Of (λ a. refl) back (λ a c g. (c, there a c g, refl)) xs b at.0 (subst (λ z. IsFirst one Gives z b at.0) leaves_list at.1) in
        (at.0, subst (λ c. IsFirst one Of xs c at.0) (sym first.2) first.1, at.2)

    pub none_of_list : (n : ℕ) → Barren n → NoneGives Of xs × (n ≤ length xs)
    none_of_list n h =
        let bare = nothing_below next Dead Gives empty top root n h in
        let most = barren_within next Dead Gives top root n full h in
        let units : cost_of one (leaves next top root) ≡ length xs = cost_of_ones (leaves next top root) ∙ ap (λ (z : List P). length z) leaves_list ∙ length-map xs leaf in
        (none_of_made leaf (λ c. c) one one Gives Of back xs (subst (NoneGives Gives) leaves_list bare), omega (arith, most, units))
