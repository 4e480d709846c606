-- Two terms have a list of redexes: of all places those where a rule matches, each put before the first that is not earlier.
use Rattle.std.proofs.Common.{◌≡◌, ◌⊎◌, inl, inr, ℕ, zero, suc, ◌+◌, List, [], ◌∷◌, ◌++◌, map, slice_get, Option, Some, None, refl, sym, ap, ap₂, ◌∙◌, subst, arith}
use Rattle.rewriting.specs.Prelude.{IsAmong, IsBeforeAll, IsSorted, IsBefore, positions, Matches}
use Rattle.rewriting.proofs.Common.{Term, Position, subterm, Rule, System, rule_at}
use Rattle.rewriting.proofs.Conditions.{Order, is_smaller, is_equal, is_greater, order}
use Rattle.rewriting.proofs.Before.{Ordered, comes_first, is_same, comes_last, order_positions, before_before}
use Rattle.rewriting.proofs.Listed.{listed}
use Rattle.rewriting.proofs.Lists.{among_left, among_right, among_map}
use Rattle.rewriting.proofs.Matched.{instance_decided}
use Rattle.valid_certificates.specs.Peaks.{MatchesAt, RedexPlace, IsRedex, IsEarlierRedex, AreRedexes}

-- whether a rule matches at a position is decided
module _ (sys : System) (t : Term) (p : Position) (i : ℕ) where
  at_part : (r : Rule) (u : Term) → rule_at sys i ≡ Some r → subterm t p ≡ Some u → Dec (Matches r.left u) → Dec (MatchesAt sys t p i)
  at_part r u e s (yes h) = yes (record { rule = r; part = u; is_rule = e; stands = s; matches = h })
  at_part r u e s (no h) =
      no (λ m. h (
      let rules : m.rule ≡ r = (let a = m.is_rule in cc) in
      let parts : m.part ≡ u = (let a = m.stands in cc) in
      subst (Matches r.left) parts (subst (λ (q : Rule). Matches q.left m.part) rules m.matches)
      ))

  at_rule : (r : Rule) (o : Option Term) → rule_at sys i ≡ Some r → subterm t p ≡ o → Dec (MatchesAt sys t p i)
  at_rule r None e s = no (λ m. let a = m.stands in cc)
  at_rule r (Some u) e s = at_part r u e s (instance_decided r.left u)

  at_number : (o : Option Rule) → rule_at sys i ≡ o → Dec (MatchesAt sys t p i)
  at_number None e = no (λ m. let a = m.is_rule in cc)
  at_number (Some r) e = at_rule r (subterm t p) e refl

  match_decided : Dec (MatchesAt sys t p i)
  match_decided = at_number (rule_at sys i) refl

-- the order of places is total
places_ordered : (a b : RedexPlace) → Ordered IsEarlierRedex a b
places_ordered a b = go (order a.which b.which) (order_positions a.position b.position) (order a.rule b.rule)
  where
    go : Order a.which b.which → Ordered IsBefore a.position b.position → Order a.rule b.rule → Ordered IsEarlierRedex a b
    go (is_smaller h) o n = comes_first (inl h)
    go (is_greater h) o n = comes_last (inl h)
    go (is_equal e) (comes_first h) n = comes_first (inr (e, inl h))
    go (is_equal e) (comes_last h) n = comes_last (inr (sym e, inl h))
    go (is_equal e) (is_same s) (is_smaller h) = comes_first (inr (e, inr (s, h)))
    go (is_equal e) (is_same s) (is_greater h) = comes_last (inr (sym e, inr (sym s, h)))
    go (is_equal e) (is_same s) (is_equal h) =
        let first : ℕ → Position → RedexPlace = λ n p. record { which = n; position = p; rule = a.rule } in
        let second : ℕ → RedexPlace = λ n. record { which = b.which; position = b.position; rule = n } in
        is_same (ap₂ first e s ∙ ap second h)

earlier_trans : (a b c : RedexPlace) → IsEarlierRedex a b → IsEarlierRedex b c → IsEarlierRedex a c
earlier_trans a b c (inl h) (inl k) = inl (omega (arith, h, k))
earlier_trans a b c (inl h) (inr (e, k)) = inl (omega (arith, h, e))
earlier_trans a b c (inr (e, h)) (inl k) = inl (omega (arith, e, k))
earlier_trans a b c (inr (e, inl h)) (inr (f, inl k)) = inr (e ∙ f, inl (before_before a.position b.position c.position h k))
earlier_trans a b c (inr (e, inl h)) (inr (f, inr (s, k))) = inr (e ∙ f, inl (subst (IsBefore a.position) s h))
earlier_trans a b c (inr (e, inr (s, h))) (inr (f, inl k)) = inr (e ∙ f, inl (subst (λ z. IsBefore z c.position) (sym s) k))
earlier_trans a b c (inr (e, inr (s, h))) (inr (f, inr (q, k))) = inr (e ∙ f, inr (s ∙ q, omega (arith, h, k)))

before_trans : (a b : RedexPlace) (rs : List RedexPlace) → IsEarlierRedex a b → IsBeforeAll IsEarlierRedex b rs → IsBeforeAll IsEarlierRedex a rs
before_trans a b [] h all = tt
before_trans a b (r ∷ rs) h (k, all) = (earlier_trans a b r h k, before_trans a b rs h all)

-- a sorted list with one more place
record With (a : RedexPlace) (rs : List RedexPlace) : Type 0 where
  list : List RedexPlace
  sorted : IsSorted IsEarlierRedex list
  has : IsAmong a list
  keeps : (r : RedexPlace) → IsAmong r rs → IsAmong r list
  only : (r : RedexPlace) → IsAmong r list → (r ≡ a) ⊎ IsAmong r rs
  behind : (b : RedexPlace) → IsEarlierRedex b a → IsBeforeAll IsEarlierRedex b rs → IsBeforeAll IsEarlierRedex b list

put_in : (a : RedexPlace) (rs : List RedexPlace) → IsSorted IsEarlierRedex rs → With a rs
put_in a [] s = record { list = a ∷ []; sorted = (tt, tt); has = inl refl; keeps = λ r h. absurd h; only = λ r h. h; behind = λ b h all. (h, tt) }
put_in a (r ∷ rs) (low, s) = go (places_ordered a r) (put_in a rs s)
  where
    go : Ordered IsEarlierRedex a r → With a rs → With a (r ∷ rs)
    go (comes_first h) w = record {
      list = a ∷ r ∷ rs;
      sorted = ((h, before_trans a r rs h low), (low, s));
      has = inl refl;
      keeps = λ q k. inr k;
      only = λ q k. k;
      behind = λ b h all. (h, all);
    }
    go (is_same e) w = record {
      list = r ∷ rs;
      sorted = (low, s);
      has = inl e;
      keeps = λ q k. k;
      only = λ q k. inr k;
      behind = λ b h all. all;
    }
    go (comes_last h) w = record {
      list = r ∷ w.list;
      sorted = (w.behind r h low, w.sorted);
      has = inr w.has;
      keeps = λ q k. kept q k;
      only = λ q k. told q k;
      behind = λ b l all. (all.0, w.behind b l all.1);
    }
      where
        kept : (q : RedexPlace) → (q ≡ r) ⊎ IsAmong q rs → (q ≡ r) ⊎ IsAmong q w.list
        kept q (inl e) = inl e
        kept q (inr k) = inr (w.keeps q k)

        told : (q : RedexPlace) → (q ≡ r) ⊎ IsAmong q w.list → (q ≡ a) ⊎ ((q ≡ r) ⊎ IsAmong q rs)
        told q (inl e) = inr (inl e)
        told q (inr k) = or_rest (w.only q k)
          where
            or_rest : (q ≡ a) ⊎ IsAmong q rs → (q ≡ a) ⊎ ((q ≡ r) ⊎ IsAmong q rs)
            or_rest (inl e) = inl e
            or_rest (inr l) = inr (inr l)

-- those of a list that have a property, sorted
record Sorted (P : RedexPlace → Type 0) (xs : List RedexPlace) : Type 0 where
  list : List RedexPlace
  sorted : IsSorted IsEarlierRedex list
  each : (r : RedexPlace) → IsAmong r list → P r
  whole : (r : RedexPlace) → IsAmong r xs → P r → IsAmong r list

module _ (P : RedexPlace → Type 0) (test : (r : RedexPlace) → Dec (P r)) where
  one_more : (a : RedexPlace) (xs : List RedexPlace) → Dec (P a) → Sorted P xs → Sorted P (a ∷ xs)
  one_more a xs (no n) h = record { list = h.list; sorted = h.sorted; each = h.each; whole = λ r m p. still r m p }
    where
      still : (r : RedexPlace) → (r ≡ a) ⊎ IsAmong r xs → P r → IsAmong r h.list
      still r (inl e) p = absurd (n (subst P e p))
      still r (inr m) p = h.whole r m p
  one_more a xs (yes y) h = record { list = w.list; sorted = w.sorted; each = λ r l. holds r (w.only r l); whole = λ r m p. there r m p }
    where
      w : With a h.list
      w = put_in a h.list h.sorted

      holds : (r : RedexPlace) → (r ≡ a) ⊎ IsAmong r h.list → P r
      holds r (inl e) = subst P (sym e) y
      holds r (inr l) = h.each r l

      there : (r : RedexPlace) → (r ≡ a) ⊎ IsAmong r xs → P r → IsAmong r w.list
      there r (inl e) p = subst (λ z. IsAmong z w.list) (sym e) w.has
      there r (inr m) p = w.keeps r (h.whole r m p)

  sorted_of : (xs : List RedexPlace) → Sorted P xs
  sorted_of [] = record { list = []; sorted = tt; each = λ r h. absurd h; whole = λ r m p. m }
  sorted_of (a ∷ xs) = one_more a xs (test a) (sorted_of xs)

-- the numbers of rules, and all places of a term
abbrev numbers : ℕ → List Rule → List ℕ
numbers k [] = []
numbers k (r ∷ rs) = suc k ∷ numbers (suc k) rs

numbered : (k j n : ℕ) (rs : List Rule) (r : Rule) → slice_get rs j ≡ Some r → n ≡ suc (k + j) → IsAmong n (numbers k rs)
numbered k j n [] r e q = absurd (cc)
numbered k zero n (s ∷ rs) r e q = inl (omega (arith, q))
numbered k (suc j) n (s ∷ rs) r e q = inr (numbered (suc k) j n rs r e (omega (arith, q)))

rule_numbered : (sys : System) (i : ℕ) (r : Rule) → rule_at sys i ≡ Some r → IsAmong i (numbers 0 sys.rules)
rule_numbered sys zero r e = absurd (cc)
rule_numbered sys (suc j) r e = numbered 0 j (suc j) sys.rules r e (omega arith)

abbrev place : ℕ → Position → ℕ → RedexPlace
place w p i = record { which = w; position = p; rule = i }

abbrev rows : ℕ → List Position → List ℕ → List RedexPlace
rows w [] ns = []
rows w (p ∷ ps) ns = map (place w p) ns ++ rows w ps ns

in_rows : (w : ℕ) (p : Position) (i : ℕ) (ps : List Position) (ns : List ℕ) → IsAmong p ps → IsAmong i ns → IsAmong (place w p i) (rows w ps ns)
in_rows w p i [] ns h k = absurd h
in_rows w p i (q ∷ ps) ns (inl e) k =
    subst (λ z. IsAmong (place w z i) (rows w (q ∷ ps) ns)) (sym e) (among_left (place w q i) (map (place w q) ns) (rows w ps ns) (among_map (place w q) i ns k))
in_rows w p i (q ∷ ps) ns (inr h) k = among_right (place w p i) (map (place w q) ns) (rows w ps ns) (in_rows w p i ps ns h k)

module _ (sys : System) (u v : Term) where
  abbrev candidates : List RedexPlace
  candidates = rows 1 (positions u) (numbers 0 sys.rules) ++ rows 2 (positions v) (numbers 0 sys.rules)

  in_first : (r : RedexPlace) → r.which ≡ 1 → MatchesAt sys u r.position r.rule → IsAmong r candidates
  in_first r e m =
      among_left r (rows 1 (positions u) (numbers 0 sys.rules)) (rows 2 (positions v) (numbers 0 sys.rules))
      (subst (λ n. IsAmong (place n r.position r.rule) (rows 1 (positions u) (numbers 0 sys.rules))) (sym e)
      (in_rows 1 r.position r.rule (positions u) (numbers 0 sys.rules) (listed u r.position m.part m.stands) (rule_numbered sys r.rule m.rule m.is_rule)))

  in_second : (r : RedexPlace) → r.which ≡ 2 → MatchesAt sys v r.position r.rule → IsAmong r candidates
  in_second r e m =
      among_right r (rows 1 (positions u) (numbers 0 sys.rules)) (rows 2 (positions v) (numbers 0 sys.rules))
      (subst (λ n. IsAmong (place n r.position r.rule) (rows 2 (positions v) (numbers 0 sys.rules))) (sym e)
      (in_rows 2 r.position r.rule (positions v) (numbers 0 sys.rules) (listed v r.position m.part m.stands) (rule_numbered sys r.rule m.rule m.is_rule)))

  candidate : (r : RedexPlace) → IsRedex sys u v r → IsAmong r candidates
  candidate r (inl (e, m)) = in_first r e m
  candidate r (inr (e, m)) = in_second r e m

  redex_decided : (r : RedexPlace) → Dec (IsRedex sys u v r)
  redex_decided r = go (order r.which 1) (order r.which 2) (match_decided sys u r.position r.rule) (match_decided sys v r.position r.rule)
    where
      only_second : (r.which ≡ 1 → ⊥) → Order r.which 2 → Dec (MatchesAt sys v r.position r.rule) → Dec (IsRedex sys u v r)
      only_second n (is_equal e) (yes m) = yes (inr (e, m))
      only_second n (is_equal e) (no h) = no (λ d. neither d)
        where
          neither : IsRedex sys u v r → ⊥
          neither (inl (q, m)) = n q
          neither (inr (q, m)) = h m
      only_second n (is_smaller l) d = no (λ x. not_both x)
        where
          not_both : IsRedex sys u v r → ⊥
          not_both (inl (q, m)) = n q
          not_both (inr (q, m)) = omega (arith, q, l)
      only_second n (is_greater l) d = no (λ x. not_both x)
        where
          not_both : IsRedex sys u v r → ⊥
          not_both (inl (q, m)) = n q
          not_both (inr (q, m)) = omega (arith, q, l)

      only_first : r.which ≡ 1 → Dec (MatchesAt sys u r.position r.rule) → Dec (IsRedex sys u v r)
      only_first e (yes m) = yes (inl (e, m))
      only_first e (no h) = no (λ d. neither d)
        where
          neither : IsRedex sys u v r → ⊥
          neither (inl (q, m)) = h m
          neither (inr (q, m)) = omega (arith, e, q)

      go : Order r.which 1 → Order r.which 2 → Dec (MatchesAt sys u r.position r.rule) → Dec (MatchesAt sys v r.position r.rule) → Dec (IsRedex sys u v r)
      go (is_equal e) o a b = only_first e a
      go (is_smaller l) o a b = only_second (λ e. omega (arith, e, l)) o b
      go (is_greater l) o a b = only_second (λ e. omega (arith, e, l)) o b

  pub redexes_total : (rs : List RedexPlace) × AreRedexes sys u v rs
  redexes_total =
      let all = sorted_of (IsRedex sys u v) redex_decided candidates in
      (all.list, record { each = all.each; whole = λ r h. all.whole r (candidate r h) h; sorted = all.sorted })
