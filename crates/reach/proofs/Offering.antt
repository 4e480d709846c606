-- Loops that offer a list what items give, and pay for the lists that these ask for.
use Rattle.std.proofs.Common.{◌≡◌, ℕ, ◌+◌, List, [], ◌∷◌, ◌++◌, flat_map, Result, Err, IsErr, IsErrAnd, sym, ap, ap₂, ◌∙◌, arith}
use Rattle.cc_count.specs.Counts.{Counts, Spends}
use Rattle.cc_count.proofs.Spending.{spends_none}
use Rattle.reach_lists.specs.Solutions.{Reached}
use Rattle.reach_lists.specs.Lists.{total, with_terms}
use Rattle.reach_lists.proofs.Growing.{with_terms-append}
use Rattle.reach_lists.proofs.Totals.{total-append}
use Rattle.reach.specs.declared.listed.ReachStop.{ReachStop}
use Rattle.reach.specs.Costs.{Costs}
use Rattle.reach.specs.Offers.{TakesNone, added}
use Rattle.reach.proofs.Paying.{Paying, paying_begins, paying_goes_on, paying_ends}
use Rattle.reach.proofs.Stopping.{err_part}
use Rattle.reach.proofs.Taking.{added-append}

-- of the terms in all and the price of lists in all, which a list takes and pays, some are taken and paid, and the rest are left
pub record Offering (first all : List Reached) (whole : ℕ) (before : Counts) (l rest : List Reached) (left : ℕ) (now : Counts) : Type 0 where
  pub list : with_terms l rest ≡ with_terms first all
  pub paying : Paying (added first all + whole) before now (added l rest + left)

pub offering_begins : (first all : List Reached) (whole : ℕ) (a : Counts) (l rest : List Reached) (left : ℕ) → l ≡ first → rest ≡ all → left ≡ whole → Offering first all whole a l rest left a
offering_begins first all whole a l rest left is same free =
    let k = ap₂ added is same in
    record {
      list = ap₂ with_terms is same;
      paying = paying_goes_on _ _ _ _ 0 _ _ (omega (arith, k, free)) (paying_begins _ a) (spends_none a);
    }

module _ {first all : List Reached} {whole : ℕ} {a b : Counts} {l rest : List Reached} {left : ℕ} (still : Offering first all whole a l rest left b) where
  -- a part of the rest
  module _ (xs us : List Reached) (n more : ℕ) (split : rest ≡ xs ++ us) (prices : left ≡ n + more) where
    parts : added l rest ≡ added l xs + added (with_terms l xs) us
    parts = ap (added l) split ∙ added-append l xs us

    pub offering_goes_on : (m : List Reached) (c : Counts) → (m ≡ with_terms l xs) × Spends b (added l xs + n) c → Offering first all whole a m us more c
    offering_goes_on m c h =
        let e = parts in
        let k = ap (λ z. added z us) h.0 in
        record {
          list = ap (λ z. with_terms z us) h.0 ∙ sym (with_terms-append l xs us) ∙ sym (ap (with_terms l) split) ∙ still.list;
          paying = paying_goes_on _ _ _ _ (added l xs + n) _ _ (omega (arith, e, k, prices)) still.paying h.1;
        }

    pub offering_stops : {T : Type 0} (H : T → Type 0) (c : Counts) (r : Result T ReachStop) (e : ReachStop) → IsErr r → IsErrAnd r (λ x. x ≡ e)
        → Costs {T = Unit {0}} (λ _. Unit {0}) (added l xs + n) b c (Err e) → Costs H (added first all + whole) a c r
    offering_stops H c r e is same h = let k = parts in err_part H _ _ _ _ (added l xs + n) _ r e (omega (arith, k, prices)) still.paying is same h

  -- the list takes none of the rest, which asks for nothing
  pub offering_settles : TakesNone l rest 0 b → left ≡ 0 → (l ≡ with_terms first all) × Spends a (added first all + whole) b
  offering_settles none free = (none.0 ∙ still.list, paying_ends _ _ _ (paying_goes_on _ _ _ _ _ _ 0 (omega (arith, free)) still.paying none.1))

  pub offering_ends : rest ≡ [] → left ≡ 0 → (l ≡ with_terms first all) × Spends a (added first all + whole) b
  offering_ends none free =
      let k = ap (added l) none in
      (sym (ap (with_terms l) none) ∙ still.list, paying_ends _ _ _ (paying_goes_on _ _ _ _ 0 _ 0 (omega (arith, k, free)) still.paying (spends_none b)))

-- the next of some items, where f is what they give, and h what they ask for
module _ {A B : Type 0} (f : A → List Reached) (h : A → List B) (price : B → ℕ) {items : List A} {x : A} {later : List A} (split : items ≡ x ∷ later)
    {first all : List Reached} {whole : ℕ} {a b : Counts} {l : List Reached} (still : Offering first all whole a l (flat_map f items) (total price (flat_map h items)) b) where
  prices : total price (flat_map h items) ≡ total price (h x) + total price (flat_map h later)
  prices = ap (λ z. total price (flat_map h z)) split ∙ total-append price (h x) (flat_map h later)

  pub next_item : (m : List Reached) (c : Counts) → (m ≡ with_terms l (f x)) × Spends b (added l (f x) + total price (h x)) c
      → Offering first all whole a m (flat_map f later) (total price (flat_map h later)) c
  next_item m c taken = offering_goes_on still (f x) (flat_map f later) (total price (h x)) (total price (flat_map h later)) (ap (flat_map f) split) prices m c taken

  pub item_stops : {T : Type 0} (H : T → Type 0) (c : Counts) (r : Result T ReachStop) (e : ReachStop) → IsErr r → IsErrAnd r (λ z. z ≡ e)
      → Costs {T = Unit {0}} (λ _. Unit {0}) (added l (f x) + total price (h x)) b c (Err e) → Costs H (added first all + whole) a c r
  item_stops H c r e is same taken =
      offering_stops still (f x) (flat_map f later) (total price (h x)) (total price (flat_map h later)) (ap (flat_map f) split) prices H c r e is same taken

-- no item is left
pub items_end : {A B : Type 0} (f : A → List Reached) (h : A → List B) (price : B → ℕ) {items : List A} {first all : List Reached} {whole : ℕ} {a b : Counts} {l : List Reached} → items ≡ []
    → Offering first all whole a l (flat_map f items) (total price (flat_map h items)) b → (l ≡ with_terms first all) × Spends a (added first all + whole) b
items_end f h price none still = offering_ends still (ap (flat_map f) none) (ap (λ z. total price (flat_map h z)) none)
