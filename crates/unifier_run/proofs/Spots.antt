-- The triples of a system are those of its places, in order.
use Rattle.std.proofs.Common.{ℕ, zero, suc, ◌≡◌, ◌≢◌, ◌+◌, ◌<◌, ◌≤◌, ◌⊎◌, inl, inr, List, [], ◌∷◌, ◌++◌, length, Some, refl, sym, ap, ◌∙◌, subst, arith, slice_get, append_assoc}
use Rattle.rewriting.specs.Prelude.{Term, var, app, Terms, nil, cons, IsVariable, Position, IsBefore, subterm, argument, Rule, System, rule_at, IsPlace, IsEarlierOverlap, IsAmong}
use Rattle.rewriting.proofs.Positions.{within}
use Rattle.unifier_run.specs.Overlaps.{Triple}
use Rattle.unifier_run.specs.Triples.{triples_at, counted, triples_below, triples_beside, triples_from, all_triples}
use Rattle.rewriting.proofs.Lists.{among_left, among_right, among_either, before_each, sorted_append}
use Rattle.unifier_run.proofs.Triples.{AreEarlier, AreInOrder}

-- a triple at one position, with its inner rule between bounds
pub record AtPlace (j : ℕ) (p : Position) (i n : ℕ) (t : Triple) : Type 0 where
  pub number : ℕ
  pub is : t ≡ (number, (p, j))
  pub above : i < number
  pub below : number ≤ i + n

pub at_place : (j : ℕ) (p : Position) (i n : ℕ) (t : Triple) → IsAmong t (triples_at j p i n) → AtPlace j p i n t
at_place j p i zero t m = absurd m
at_place j p i (suc n) t (inl e) = record { number = suc i; is = e; above = omega arith; below = omega arith }
at_place j p i (suc n) t (inr m) = let r = at_place j p (suc i) n t m in record { number = r.number; is = r.is; above = omega (arith, r.above); below = omega (arith, r.below) }

pub in_place : (j : ℕ) (p : Position) (i n k : ℕ) → i < k → k ≤ i + n → IsAmong (k, (p, j)) (triples_at j p i n)
in_place j p i zero k a b = absurd (omega (arith, a, b))
in_place j p i (suc n) k a b = go (nat_cases (suc i) k a) (λ l. in_place j p (suc i) n k l (omega (arith, b)))
  where
    nat_cases : (m k : ℕ) → m ≤ k → (k ≡ m) ⊎ (m < k)
    nat_cases zero zero h = inl refl
    nat_cases zero (suc k) h = inr (omega arith)
    nat_cases (suc m) zero h = absurd (omega (arith, h))
    nat_cases (suc m) (suc k) h = lift (nat_cases m k (omega (arith, h)))
      where
        lift : (k ≡ m) ⊎ (m < k) → (suc k ≡ suc m) ⊎ (suc m < suc k)
        lift (inl e) = inl (ap suc e)
        lift (inr l) = inr (omega (arith, l))

    go : (k ≡ suc i) ⊎ (suc i < k) → (suc i < k → IsAmong (k, (p, j)) (triples_at j p (suc i) n)) → IsAmong (k, (p, j)) (triples_at j p i (suc n))
    go (inl e) f = inl (ap (λ z. (z, (p, j))) e)
    go (inr l) f = inr (f l)

order_at : (j : ℕ) (p : Position) (i n : ℕ) → AreInOrder (triples_at j p i n)
order_at j p i zero = tt
order_at j p i (suc n) = (before_each IsEarlierOverlap (suc i, (p, j)) (triples_at j p (suc i) n) first, order_at j p (suc i) n)
  where
    first : (u : Triple) → IsAmong u (triples_at j p (suc i) n) → IsEarlierOverlap (suc i, (p, j)) u
    first u m = let r = at_place j p (suc i) n u m in subst (IsEarlierOverlap (suc i, (p, j))) (sym r.is) (inr (refl, inr (refl, r.above)))

-- a triple below p: a position that goes on from p to a part of t that is no variable
pub record BelowPlace (j n : ℕ) (p : Position) (t : Term) (u : Triple) : Type 0 where
  pub number : ℕ
  pub rest : Position
  pub part : Term
  pub is : u ≡ (number, (p ++ rest, suc j))
  pub here : subterm t rest ≡ Some part
  pub no_variable : IsVariable part → ⊥

-- the same for the arguments from number k on
pub record BesidePlace (j n : ℕ) (p : Position) (k : ℕ) (ts : Terms) (u : Triple) : Type 0 where
  pub number : ℕ
  pub argument_number : ℕ
  pub rest : Position
  pub argument_there : Term
  pub part : Term
  pub is : u ≡ (number, (p ++ (k + argument_number) ∷ rest, suc j))
  pub at : argument ts (suc argument_number) ≡ Some argument_there
  pub here : subterm argument_there rest ≡ Some part
  pub no_variable : IsVariable part → ⊥

append-nil : (p : Position) → p ++ [] ≡ p
append-nil [] = refl
append-nil (k ∷ p) = ap (λ z. k ∷ z) (append-nil p)

from_argument : (j n : ℕ) (p : Position) (f : ℕ) (ts : Terms) (u : Triple) → BesidePlace j n p 1 ts u → BelowPlace j n p (app f ts) u
from_argument j n p f ts u b =
    record {
      number = b.number;
      rest = suc b.argument_number ∷ b.rest;
      part = b.part;
      is = b.is ∙ (let e : 1 + b.argument_number ≡ suc b.argument_number = omega arith in ap (λ z. (b.number, (p ++ z ∷ b.rest, suc j))) e);
      here = rw b.at b.here;
      no_variable = b.no_variable;
    }

at_root : (j n : ℕ) (p : Position) (f : ℕ) (ts : Terms) (u : Triple) → AtPlace (suc j) p 0 (counted j n p) u → BelowPlace j n p (app f ts) u
at_root j n p f ts u r = record { number = r.number; rest = []; part = app f ts; is = r.is ∙ ap (λ z. (r.number, (z, suc j))) (sym (append-nil p)); here = refl; no_variable = λ h. h }

from_first : (j n : ℕ) (p : Position) (k : ℕ) (t : Term) (ts : Terms) (u : Triple) → BelowPlace j n (p ++ k ∷ []) t u → BesidePlace j n p k (cons t ts) u
from_first j n p k t ts u b =
    record {
      number = b.number;
      argument_number = 0;
      rest = b.rest;
      argument_there = t;
      part = b.part;
      is = b.is ∙ ap (λ z. (b.number, (z, suc j))) (append_assoc p (k ∷ []) b.rest ∙ (let e : k ≡ k + 0 = omega arith in ap (λ z. p ++ z ∷ b.rest) e));
      at = refl;
      here = b.here;
      no_variable = b.no_variable;
    }

from_later : (j n : ℕ) (p : Position) (k : ℕ) (t : Term) (ts : Terms) (u : Triple) → BesidePlace j n p (suc k) ts u → BesidePlace j n p k (cons t ts) u
from_later j n p k t ts u b =
    record {
      number = b.number;
      argument_number = suc b.argument_number;
      rest = b.rest;
      argument_there = b.argument_there;
      part = b.part;
      is = b.is ∙ (let e : suc k + b.argument_number ≡ k + suc b.argument_number = omega arith in ap (λ z. (b.number, (p ++ z ∷ b.rest, suc j))) e);
      at = b.at;
      here = b.here;
      no_variable = b.no_variable;
    }

either : {A B C : Type 0} → A ⊎ B → (A → C) → (B → C) → C
either (inl a) f g = f a
either (inr b) f g = g b

mutual
  pub below_place : (j n : ℕ) (p : Position) (t : Term) (u : Triple) → IsAmong u (triples_below j n p t) → BelowPlace j n p t u
  below_place j n p (var x) u m = absurd m
  below_place j n p (app f ts) u m =
      either (among_either u (triples_at (suc j) p 0 (counted j n p)) (triples_beside j n p 1 ts) m) (λ k. at_root j n p f ts u (at_place (suc j) p 0 (counted j n p) u k))
      (λ k. from_argument j n p f ts u (beside_place j n p 1 ts u k))

  pub beside_place : (j n : ℕ) (p : Position) (k : ℕ) (ts : Terms) (u : Triple) → IsAmong u (triples_beside j n p k ts) → BesidePlace j n p k ts u
  beside_place j n p k nil u m = absurd m
  beside_place j n p k (cons t ts) u m =
      either (among_either u (triples_below j n (p ++ k ∷ []) t) (triples_beside j n p (suc k) ts) m) (λ l. from_first j n p k t ts u (below_place j n (p ++ k ∷ []) t u l))
      (λ l. from_later j n p k t ts u (beside_place j n p (suc k) ts u l))

-- positions that go on from one position
before_longer : (p q : Position) (k : ℕ) → IsBefore p (p ++ k ∷ q)
before_longer [] q k = tt
before_longer (l ∷ p) q k = inr (refl, before_longer p q k)

before_beside : (p q r : Position) (k l : ℕ) → k < l → IsBefore (p ++ k ∷ q) (p ++ l ∷ r)
before_beside [] q r k l h = inl h
before_beside (m ∷ p) q r k l h = inr (refl, before_beside p q r k l h)

root_first : (j n : ℕ) (p : Position) (ts : Terms) → AreEarlier (triples_at (suc j) p 0 (counted j n p)) (triples_beside j n p 1 ts)
root_first j n p ts t u m l =
    let a = at_place (suc j) p 0 (counted j n p) t m in
    let b = beside_place j n p 1 ts u l in
    subst (λ z. IsEarlierOverlap z u) (sym a.is) (subst (IsEarlierOverlap (a.number, (p, suc j))) (sym b.is) (inr (refl, inl (before_longer p b.rest _))))

argument_first : (j n : ℕ) (p : Position) (k : ℕ) (t : Term) (ts : Terms) → AreEarlier (triples_below j n (p ++ k ∷ []) t) (triples_beside j n p (suc k) ts)
argument_first j n p k t ts v u m l =
    let a = below_place j n (p ++ k ∷ []) t v m in
    let b = beside_place j n p (suc k) ts u l in
    let less : k < suc k + b.argument_number = omega arith in
    subst (λ z. IsEarlierOverlap z u) (sym (a.is ∙ ap (λ z. (a.number, (z, suc j))) (append_assoc p (k ∷ []) a.rest)))
    (subst (IsEarlierOverlap (a.number, (p ++ k ∷ a.rest, suc j))) (sym b.is) (inr (refl, inl (before_beside p a.rest b.rest k _ less))))

mutual
  pub order_below : (j n : ℕ) (p : Position) (t : Term) → AreInOrder (triples_below j n p t)
  order_below j n p (var x) = tt
  order_below j n p (app f ts) = sorted_append IsEarlierOverlap (triples_at (suc j) p 0 (counted j n p)) (triples_beside j n p 1 ts) (order_at (suc j) p 0 (counted j n p))
      (order_beside j n p 1 ts) (root_first j n p ts)

  pub order_beside : (j n : ℕ) (p : Position) (k : ℕ) (ts : Terms) → AreInOrder (triples_beside j n p k ts)
  order_beside j n p k nil = tt
  order_beside j n p k (cons t ts) = sorted_append IsEarlierOverlap (triples_below j n (p ++ k ∷ []) t) (triples_beside j n p (suc k) ts) (order_below j n (p ++ k ∷ []) t)
      (order_beside j n p (suc k) ts) (argument_first j n p k t ts)

-- which outer rule a triple has
pub record FromPlace (n j : ℕ) (rs : List Rule) (u : Triple) : Type 0 where
  pub index : ℕ
  pub rule : Rule
  pub found : slice_get rs index ≡ Some rule
  pub inside : BelowPlace (j + index) n [] rule.left u

later_rule : (n j : ℕ) (r : Rule) (rs : List Rule) (u : Triple) → FromPlace n (suc j) rs u → FromPlace n j (r ∷ rs) u
later_rule n j r rs u h = record {
  index = suc h.index;
  rule = h.rule;
  found = h.found;
  inside = (let e : suc j + h.index ≡ j + suc h.index = omega arith in subst (λ z. BelowPlace z n [] h.rule.left u) e h.inside);
}

first_rule : (n j : ℕ) (r : Rule) (rs : List Rule) (u : Triple) → BelowPlace j n [] r.left u → FromPlace n j (r ∷ rs) u
first_rule n j r rs u h = record { index = 0; rule = r; found = refl; inside = (let e : j ≡ j + 0 = omega arith in subst (λ z. BelowPlace z n [] r.left u) e h) }

pub from_place : (n j : ℕ) (rs : List Rule) (u : Triple) → IsAmong u (triples_from n j rs) → FromPlace n j rs u
from_place n j [] u m = absurd m
from_place n j (r ∷ rs) u m = either (among_either u (triples_below j n [] r.left) (triples_from n (suc j) rs) m) (λ k. first_rule n j r rs u (below_place j n [] r.left u k))
    (λ k. later_rule n j r rs u (from_place n (suc j) rs u k))

pub order_from : (n j : ℕ) (rs : List Rule) → AreInOrder (triples_from n j rs)
order_from n j [] = tt
order_from n j (r ∷ rs) = sorted_append IsEarlierOverlap (triples_below j n [] r.left) (triples_from n (suc j) rs) (order_below j n [] r.left) (order_from n (suc j) rs) first
  where
    first : AreEarlier (triples_below j n [] r.left) (triples_from n (suc j) rs)
    first t u m l =
        let a = below_place j n [] r.left t m in
        let b = from_place n (suc j) rs u l in
        let less : suc j < suc (suc j + b.index) = omega arith in
        subst (λ z. IsEarlierOverlap z u) (sym a.is) (subst (IsEarlierOverlap (a.number, (a.rest, suc j))) (sym b.inside.is) (inl less))

-- each place is among the triples below
mutual
  pub has_below : (j n i : ℕ) (p q : Position) (t u : Term) → subterm t q ≡ Some u → (IsVariable u → ⊥) → 0 < i → i ≤ counted j n (p ++ q) → IsAmong (i, (p ++ q, suc j)) (triples_below j n p t)
  has_below j n i p [] (var x) u e v a b = absurd (v (subst IsVariable (let h : var x ≡ u = cc in h) tt))
  has_below j n i p (k ∷ q) (var x) u e v a b = absurd (cc)
  has_below j n i p [] (app f ts) u e v a b =
      among_left _ (triples_at (suc j) p 0 (counted j n p)) (triples_beside j n p 1 ts)
      (subst (λ z. IsAmong (i, (z, suc j)) (triples_at (suc j) p 0 (counted j n p))) (sym (append-nil p))
      (in_place (suc j) p 0 (counted j n p) i a (let h : i ≤ counted j n p = subst (λ z. i ≤ counted j n z) (append-nil p) b in omega (arith, h))))
  has_below j n i p (k ∷ q) (app f ts) u e v a b =
      let w = within (app f ts) k q u e in
      among_right _ (triples_at (suc j) p 0 (counted j n p)) (triples_beside j n p 1 ts) (has_beside j n i p 1 k k q ts w.part u (omega arith) w.here w.inside v a b)

  pub has_beside : (j n i : ℕ) (p : Position) (k l m : ℕ) (q : Position) (ts : Terms) (s u : Term) → m + 1 ≡ k + l → argument ts l ≡ Some s → subterm s q ≡ Some u
      → (IsVariable u → ⊥) → 0 < i → i ≤ counted j n (p ++ m ∷ q)
      → IsAmong (i, (p ++ m ∷ q, suc j)) (triples_beside j n p k ts)
  has_beside j n i p k l m q nil s u r e h v a b = absurd (cc)
  has_beside j n i p k zero m q (cons t ts) s u r e h v a b = absurd (cc)
  has_beside j n i p k (suc zero) m q (cons t ts) s u r e h v a b =
      let same : t ≡ s = cc in
      let number : m ≡ k = omega (arith, r) in
      let path : (p ++ k ∷ []) ++ q ≡ p ++ m ∷ q = append_assoc p (k ∷ []) q ∙ ap (λ z. p ++ z ∷ q) (sym number) in
      among_left _ (triples_below j n (p ++ k ∷ []) t) (triples_beside j n p (suc k) ts)
      (subst (λ z. IsAmong (i, (z, suc j)) (triples_below j n (p ++ k ∷ []) t)) path
      (has_below j n i (p ++ k ∷ []) q t u (subst (λ z. subterm z q ≡ Some u) (sym same) h) v a (subst (λ z. i ≤ counted j n z) (sym path) b)))
  has_beside j n i p k (suc (suc l)) m q (cons t ts) s u r e h v a b =
      among_right _ (triples_below j n (p ++ k ∷ []) t) (triples_beside j n p (suc k) ts) (has_beside j n i p (suc k) (suc l) m q ts s u (omega (arith, r)) e h v a b)

pub has_from : (n j i index : ℕ) (q : Position) (rs : List Rule) (r : Rule) (u : Term) → slice_get rs index ≡ Some r → subterm r.left q ≡ Some u → (IsVariable u → ⊥)
    → 0 < i → i ≤ counted (j + index) n q
    → IsAmong (i, (q, suc (j + index))) (triples_from n j rs)
has_from n j i index q [] r u e h v a b = absurd (cc)
has_from n j i zero q (s ∷ rs) r u e h v a b =
    let same : s ≡ r = cc in
    let none : j + 0 ≡ j = omega arith in
    subst (λ z. IsAmong (i, (q, suc z)) (triples_from n j (s ∷ rs))) (sym none)
    (among_left _ (triples_below j n [] s.left) (triples_from n (suc j) rs) (has_below j n i [] q s.left u (subst (λ z. subterm z.left q ≡ Some u) (sym same) h) v a
    (subst (λ z. i ≤ counted z n q) none b)))
has_from n j i (suc index) q (s ∷ rs) r u e h v a b =
    let next : suc j + index ≡ j + suc index = omega arith in
    among_right _ (triples_below j n [] s.left) (triples_from n (suc j) rs)
    (subst (λ z. IsAmong (i, (q, suc z)) (triples_from n (suc j) rs)) next (has_from n (suc j) i index q rs r u e h v a (subst (λ z. i ≤ counted z n q) (sym next) b)))

rule_number : (sys : System) (i : ℕ) (r : Rule) → rule_at sys i ≡ Some r → (0 < i) × (i ≤ length sys.rules)
rule_number sys zero r e = absurd (cc)
rule_number sys (suc i) r e = (omega arith, within_list sys.rules i e)
  where
    within_list : (rs : List Rule) (i : ℕ) → slice_get rs i ≡ Some r → suc i ≤ length rs
    within_list [] i e = absurd (cc)
    within_list (s ∷ rs) zero e = omega arith
    within_list (s ∷ rs) (suc i) e = let h = within_list rs i e in omega (arith, h)

counts_there : (i j n : ℕ) (p : Position) → (p ≢ []) ⊎ (i < suc j) → i ≤ n → i ≤ counted j n p
counts_there i j n [] (inl h) k = absurd (h refl)
counts_there i j n [] (inr h) k = omega (arith, h)
counts_there i j n (a ∷ p) h k = k

pub has_all : (sys : System) (i : ℕ) (p : Position) (j : ℕ) (inner outer : Rule) (part : Term) → IsPlace sys i p j inner outer part → IsAmong (i, (p, j)) (all_triples sys)
has_all sys i p zero inner outer part h = (let bad = h.is_outer in absurd (cc))
has_all sys i p (suc j) inner outer part h =
    let number = rule_number sys i inner h.is_inner in
    let none : 0 + j ≡ j = omega arith in
    subst (λ z. IsAmong (i, (p, suc z)) (all_triples sys)) none
    (has_from (length sys.rules) 0 i j p sys.rules outer part h.is_outer h.is_part h.no_variable number.0
    (subst (λ z. i ≤ counted z (length sys.rules) p) (sym none) (counts_there i j (length sys.rules) p h.counts number.1)))

pub order_all : (sys : System) → AreInOrder (all_triples sys)
order_all sys = order_from (length sys.rules) 0 sys.rules
