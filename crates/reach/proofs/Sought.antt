-- The first of solutions that are followed, part by part.
use Rattle.std.proofs.Common.{◌≡◌, ℕ, ◌+◌, ◌-◌, ◌≤◌, List, [], ◌∷◌, ◌++◌, flat_map, Option, None, Some, Result, Ok, Err, OnOk, refl, sym, ap, ap₂, ◌∙◌, arith}
use Rattle.rewriting.specs.Terms as math
use Rattle.rewriting.specs.Prelude.{Condition, Bindings}
use Rattle.cc_count.specs.Counts.{Counts, Spends}
use Rattle.cc_count.proofs.Spending.{spends_none, spends_same}
use Rattle.origins.specs.declared.Origin.{Origin}
use Rattle.reach_lists.specs.Solutions.{Reached, Solution, starts, solutions, asked}
use Rattle.reach_lists.specs.Lists.{total, reach_list, reach_cost, unconditional}
use Rattle.reach_lists.specs.Paths.{followed, asked_on_paths}
use Rattle.reach_lists.proofs.Totals.{total-append}
use Rattle.reach_lists.proofs.Following.{are_followed, cost_the_same}
use Rattle.reach.specs.declared.listed.ReachStop.{ReachStop}
use Rattle.flatterm.specs.Work.{HasRisen}
use Rattle.flatterm.proofs.Rising.{risen_on}
use Rattle.reach.proofs.Counted.{risen_less}
use Rattle.reach.specs.declared.sites.Search.{Search}
use Rattle.reach.specs.Costs.{Costs}
use Rattle.reach.specs.Follows.{behind, asked_behind}
use Rattle.reach.specs.Ready.{hyps_of, inner, price}
use Rattle.reach.specs.SolutionView.{first_of, or_first}
use Rattle.reach.proofs.Paths.{solved}
use Rattle.reach.proofs.Paying.{paying_begins, paying_goes_on, last_part}
use Rattle.reach.proofs.Following.{zero_followed, zero_price, all_behind, price_behind}

or_first-append : (o : Option Solution) (xs ys : List Solution) → or_first o (xs ++ ys) ≡ or_first (or_first o xs) ys
or_first-append (Some s) xs ys = refl
or_first-append None [] ys = refl
or_first-append None (x ∷ xs) ys = refl

pub none_more : (o : Option Solution) → o ≡ or_first o []
none_more None = refl
none_more (Some s) = refl

-- a loop over items of which each gives solutions, and asks for lists
module _ {A : Type 0} (items : List A) (x : A) (rest : List A) (split : items ≡ x ∷ rest) where
  pub next_sought : (g : A → List Solution) (o n : Option Solution) → n ≡ or_first o (g x) → (all : Option Solution) → or_first o (flat_map g items) ≡ all → or_first n (flat_map g rest) ≡ all
  next_sought g o n is all e =
      ap (λ z. or_first z (flat_map g rest)) is ∙ sym (or_first-append o (g x) (flat_map g rest)) ∙ sym (ap (λ z. or_first o (flat_map g z)) split) ∙ e

  pub next_price : (price : math.Term → ℕ) (h : A → List math.Term) → total price (flat_map h items) ≡ total price (h x) + total price (flat_map h rest)
  next_price price h = ap (λ z. total price (flat_map h z)) split ∙ total-append price (h x) (flat_map h rest)

  pub part_price : (price : math.Term → ℕ) (h : A → List math.Term) → total price (h x) ≤ total price (flat_map h items)
  part_price price h = let e = next_price price h in omega (arith, e)

-- splices are counted on
pub risen_later : (a b c : ℕ) → HasRisen a 0 b → HasRisen b 0 c → HasRisen a 0 c
risen_later a b c h k = risen_less a (0 + 0) 0 c (omega arith) (risen_on a 0 b 0 c h k)

pub later_risen : (r : Result (Unit {0}) ReachStop) (a b c : ℕ) → HasRisen a 0 b → OnOk r (HasRisen b 0 c) → OnOk r (HasRisen a 0 c)
later_risen (Ok x) a b c h k = risen_later a b c h k
later_risen (Err e) a b c h k = k

-- at depth 0 nothing is found, and nothing is paid
pub zero_sought : (self : Search) (cs : List Condition) (c : Condition) (rest : List Condition) (s : Solution) (o : Option Solution) (a : Counts) → self.depth ≡ 0 → cs ≡ c ∷ rest
    → (o ≡ or_first o (followed (inner self) cs s)) × Spends a (total (price self) (asked_on_paths (inner self) cs s)) a
zero_sought self cs c rest s o a e split =
    let none = zero_followed self.sys.now (hyps_of self) self.depth cs c rest s e split in
    let free = zero_price self.sys.now (hyps_of self) self.depth (asked_on_paths (inner self) cs s) e in
    (none_more o ∙ ap (or_first o) (sym none), spends_same a a 0 _ (omega (arith, free)) (spends_none a))

-- the list for one condition, and what its terms go on to
module _ (self : Search) (c : Condition) (cs : List Condition) (s : Solution) (t : math.Term) (deep : self.depth ≡ 0 → ⊥) (start : t ∷ [] ≡ starts c s) where
  pub condition_sought : (o n : Option Solution) (ws : List Reached) (a b d : Counts) (r : Result (Unit {0}) ReachStop)
      → ws ≡ reach_list self.sys.now (hyps_of self) 5 (self.depth - 1) t → Spends a (reach_cost self.sys.now (hyps_of self) 5 (self.depth - 1) t) b
      → Costs (λ _. n ≡ or_first o (flat_map (behind self c cs s) ws)) (total (price self) (flat_map (asked_behind self c cs s) ws)) b d r
      → Costs (λ _. n ≡ or_first o (followed (inner self) (c ∷ cs) s)) (total (price self) (asked_on_paths (inner self) (c ∷ cs) s)) a d r
  condition_sought o n ws a b d r is paid h =
      let e = price_behind self c cs s t deep start ws is in
      last_part (λ _. n ≡ or_first o (flat_map (behind self c cs s) ws)) (λ _. n ≡ or_first o (followed (inner self) (c ∷ cs) s)) _ a b d _ r
      (paying_goes_on _ a a b _ _ _ (omega (arith, e)) (paying_begins _ a) paid) (λ x k. k ∙ ap (or_first o) (all_behind self c cs s t deep start ws is)) h

-- a path that begins
pub begun : (v w : Bindings) (os : List Origin) → v ≡ w → os ≡ [] → solved v os ≡ unconditional w
begun v w os e f = ap₂ solved e f

module _ (inner : math.Term → List Reached) (cs : List Condition) (s : Solution) (b : Bindings) (is : s ≡ unconditional b) where
  pub first_sought : first_of (followed inner cs s) ≡ first_of (solutions inner cs (unconditional b ∷ []))
  first_sought = ap (λ z. first_of (followed inner cs z)) is ∙ ap first_of (sym (are_followed inner cs (unconditional b)))

  pub all_price : (price : math.Term → ℕ) → total price (asked inner cs (unconditional b ∷ [])) ≡ total price (asked_on_paths inner cs s)
  all_price price = cost_the_same inner price cs (unconditional b) ∙ sym (ap (λ z. total price (asked_on_paths inner cs z)) is)

  pub first_part : (price : math.Term → ℕ) → total price (asked_on_paths inner cs s) ≤ total price (asked inner cs (unconditional b ∷ []))
  first_part price = let e = all_price price in omega (arith, e)
