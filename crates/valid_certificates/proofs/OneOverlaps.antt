-- The list of overlaps is one, and it excludes a triple that is too large and too many overlaps.
use Rattle.std.proofs.Common.{◌≡◌, ◌⊎◌, inl, inr, ℕ, suc, ◌≤◌, List, [], ◌∷◌, ◌++◌, length, Option, refl, sym, ap, ap₂, ◌∙◌, subst, subst₂, arith}
use Rattle.std.proofs.lemmas.List.{length-append}
use Rattle.caps.proofs.Unique.{unifier_no_clash, large_no_clash, unifier_or_large}
use Rattle.rewriting.specs.Prelude.{Term, Position, IsBefore, subterm, replace, apply, even, odd, Condition, Rule, System, rule_at, IsPlace, IsEarlierOverlap, CriticalPair, IsCriticalPair}
use Rattle.rewriting.specs.Prelude.{IsAmong, IsBeforeAll, IsSorted}
use Rattle.rewriting.proofs.Lists.{among_either, before_one, sorted_append, sorted_once}
use Rattle.rewriting.proofs.Once.{same_some}
use Rattle.rewriting.proofs.Conditions.{Order, is_smaller, is_equal, is_greater, order}
use Rattle.rewriting.proofs.Before.{Ordered, comes_first, is_same, comes_last, order_positions, before_before}
use Rattle.unifier_run.specs.Run.{Binding, value, Outcome, unifier, clash, too_large}
use Rattle.unifier_run.specs.Overlaps.{Triple, Overlap, triple, ComesBefore, IsOutcomeOf, DoesPairFit, IsOverlapOf, IsTooLargeAt, AreOverlapsAt, AreOverlaps, IsPairTooLarge, AreTooManyOverlaps}
use Rattle.unifier_run.proofs.Unique.{runs_same}
use Rattle.unifier_run.proofs.Triples.{earlier_not_same, earlier_not_both}

-- the order of triples is total
abbrev pub IsSame : Triple → Triple → Type 0
IsSame t u = t ≡ u

same_triple : (i k : ℕ) (p q : Position) (j l : ℕ) → i ≡ k → p ≡ q → j ≡ l → IsSame (i, (p, j)) (k, (q, l))
same_triple i k p q j l e h s =
    let inside : Position → ℕ → Position × ℕ = λ r n. (r, n) in
    let whole : ℕ → Position × ℕ → Triple = λ n x. (n, x) in
    ap₂ whole e (ap₂ inside h s)

order_triples : (t u : Triple) → Ordered IsEarlierOverlap t u
order_triples (i, (p, j)) (k, (q, l)) = go (order j l) (order_positions p q) (order i k)
  where
    go : Order j l → Ordered IsBefore p q → Order i k → Ordered IsEarlierOverlap (i, (p, j)) (k, (q, l))
    go (is_smaller h) o n = comes_first (inl h)
    go (is_greater h) o n = comes_last (inl h)
    go (is_equal e) (comes_first h) n = comes_first (inr (e, inl h))
    go (is_equal e) (comes_last h) n = comes_last (inr (sym e, inl h))
    go (is_equal e) (is_same s) (is_smaller h) = comes_first (inr (e, inr (s, h)))
    go (is_equal e) (is_same s) (is_greater h) = comes_last (inr (sym e, inr (sym s, h)))
    go (is_equal e) (is_same s) (is_equal h) = is_same (same_triple i k p q j l h s e)

earlier_earlier : (t u v : Triple) → IsEarlierOverlap t u → IsEarlierOverlap u v → IsEarlierOverlap t v
earlier_earlier (i, (p, j)) (k, (q, l)) (m, (r, n)) (inl h) (inl g) = inl (omega (arith, h, g))
earlier_earlier (i, (p, j)) (k, (q, l)) (m, (r, n)) (inl h) (inr (e, g)) = inl (omega (arith, h, e))
earlier_earlier (i, (p, j)) (k, (q, l)) (m, (r, n)) (inr (e, h)) (inl g) = inl (omega (arith, g, e))
earlier_earlier (i, (p, j)) (k, (q, l)) (m, (r, n)) (inr (e, inl h)) (inr (f, inl g)) = inr (e ∙ f, inl (before_before p q r h g))
earlier_earlier (i, (p, j)) (k, (q, l)) (m, (r, n)) (inr (e, inl h)) (inr (f, inr (s, g))) = inr (e ∙ f, inl (subst (λ z. IsBefore p z) s h))
earlier_earlier (i, (p, j)) (k, (q, l)) (m, (r, n)) (inr (e, inr (s, h))) (inr (f, inl g)) = inr (e ∙ f, inl (subst (λ z. IsBefore z r) (sym s) g))
earlier_earlier (i, (p, j)) (k, (q, l)) (m, (r, n)) (inr (e, inr (s, h))) (inr (f, inr (x, g))) = inr (e ∙ f, inr (s ∙ x, omega (arith, h, g)))

same_unifier : (b c : List Binding) → unifier b ≡ unifier c → b ≡ c
same_unifier b c e = cc

-- the critical pair under a substitution is one
pair_once : (m : List Binding) (p : Position) (inner outer : Rule) (part : Term) (a b : CriticalPair)
    → IsCriticalPair (value m) p inner outer part a → IsCriticalPair (value m) p inner outer part b → a ≡ b
pair_once m p inner outer part a b x y =
    let first : Term → Term → CriticalPair = λ s l. record { source = s; left = l; right = a.right; conditions = a.conditions } in
    let second : Term → List Condition → CriticalPair = λ r cs. record { source = b.source; left = b.left; right = r; conditions = cs } in
    ap₂ first (x.source ∙ sym y.source) (same_some (replaced) a.left b.left x.left y.left) ∙ ap₂ second (x.right ∙ sym y.right) (x.conditions ∙ sym y.conditions)
  where
    replaced : Option Term
    replaced = replace (apply (value m) (apply odd outer.left)) p (apply (value m) (apply even inner.right))

module _ (sys : System) where
  -- two rules and a part with the run between them
  record Spot : Type 0 where
    inner : Rule
    outer : Rule
    part : Term

  abbrev IsSpot : Triple → Spot → Type 0
  IsSpot (i, (p, j)) s = IsPlace sys i p j s.inner s.outer s.part

  spot_once : (t : Triple) (a b : Spot) → IsSpot t a → IsSpot t b → a ≡ b
  spot_once (i, (p, j)) a b x y =
      let inner = same_some (rule_at sys i) a.inner b.inner x.is_inner y.is_inner in
      let outer = same_some (rule_at sys j) a.outer b.outer x.is_outer y.is_outer in
      let part = same_some (subterm b.outer.left p) a.part b.part (sym (ap (λ r. subterm r.left p) outer) ∙ x.is_part) y.is_part in
      let rules : Rule → Rule → Spot = λ q r. record { inner = q; outer = r; part = a.part } in
      let whole : Term → Spot = λ u. record { inner = b.inner; outer = b.outer; part = u } in
      ap₂ rules inner outer ∙ ap whole part

  abbrev spot_of : {o : Overlap} → IsOverlapOf sys o → Spot
  spot_of x = record { inner = x.inner; outer = x.outer; part = x.part }

  abbrev Ran : Spot → Outcome → Type 0
  Ran s o = IsOutcomeOf s.inner.left s.part o

  abbrev Gives : List Binding → Position → Spot → CriticalPair → Type 0
  Gives m p s pair = IsCriticalPair (value m) p s.inner s.outer s.part pair

  -- at one triple the run has one outcome, and a unifier one pair
  ran_once : (t : Triple) (a b : Spot) (o p : Outcome) → IsSpot t a → IsSpot t b → Ran a o → Ran b p → o ≡ p
  ran_once t a b o p x y h k = runs_same (subst (λ s. Ran s o) (spot_once t a b x y) h) k

  gives_once : (i : ℕ) (p : Position) (j : ℕ) (a b : Spot) (m n : List Binding) (x y : CriticalPair) → IsSpot (i, (p, j)) a → IsSpot (i, (p, j)) b → Ran a (unifier m) → Ran b (unifier n)
      → Gives m p a x → Gives n p b y → x ≡ y
  gives_once i p j a b m n x y at there h k f g =
      let spots = spot_once (i, (p, j)) a b at there in
      let bound = same_unifier m n (ran_once (i, (p, j)) a b (unifier m) (unifier n) at there h k) in
      pair_once n p b.inner b.outer b.part x y (subst₂ (λ c s. Gives c p s x) bound spots f) g

  -- an overlap is that of its triple
  overlap_at : (i : ℕ) (p : Position) (j : ℕ) (o q : Overlap) → IsOverlapOf sys o → IsOverlapOf sys q → o.inner ≡ i → o.position ≡ p → o.outer ≡ j → q.inner ≡ i → q.position ≡ p → q.outer ≡ j → o ≡ q
  overlap_at i p j o q a b e f g e' f' g' =
      let t = same_triple o.inner q.inner o.position q.position o.outer q.outer (e ∙ sym e') (f ∙ sym f') (g ∙ sym g') in
      let here : IsSpot (triple q) (spot_of a) = subst (λ u. IsSpot u (spot_of a)) t a.place in
      let made : Gives a.by q.position (spot_of a) o.pair = subst (λ z. Gives a.by z (spot_of a) o.pair) (f ∙ sym f') a.pair in
      let pairs = gives_once q.inner q.position q.outer (spot_of a) (spot_of b) a.by b.by o.pair q.pair here b.place a.outcome b.outcome made b.pair in
      let spots = spot_once (triple q) (spot_of a) (spot_of b) here b.place in
      let counts : o.inner_conditions ≡ q.inner_conditions = a.counted ∙ ap (λ s. length s.inner.conditions) spots ∙ sym b.counted in
      let first : ℕ → Position → Overlap = λ n z. record { inner = n; position = z; outer = o.outer; pair = o.pair; inner_conditions = o.inner_conditions } in
      let second : ℕ → CriticalPair → Overlap = λ n x. record { inner = q.inner; position = q.position; outer = n; pair = x; inner_conditions = o.inner_conditions } in
      let third : ℕ → Overlap = λ n. record { inner = q.inner; position = q.position; outer = q.outer; pair = q.pair; inner_conditions = n } in
      ap₂ first (e ∙ sym e') (f ∙ sym f') ∙ ap₂ second (g ∙ sym g') pairs ∙ ap third counts

  overlap_once : (o q : Overlap) → triple o ≡ triple q → IsOverlapOf sys o → IsOverlapOf sys q → o ≡ q
  overlap_once o q t a b =
      overlap_at q.inner q.position q.outer o q a b (ap (λ (x : Triple). x.0) t) (ap (λ (x : Triple). x.1.0) t) (ap (λ (x : Triple). x.1.1) t) refl refl refl

  -- what the lists of overlaps say of a triple
  abbrev Known : Triple → Type 0
  Known t = (s : Spot) → IsSpot t s → Ran s clash ⊎ ((o : Overlap) × IsOverlapOf sys o × (triple o ≡ t))

  known_at : (Counts : Triple → Type 0) (os : List Overlap) → AreOverlapsAt sys Counts os → (i : ℕ) (p : Position) (j : ℕ) → Counts (i, (p, j)) → Known (i, (p, j))
  known_at Counts os are i p j c s at = go (are.whole i p j s.inner s.outer s.part at c)
    where
      go : Ran s clash ⊎ ((o : Overlap) × IsAmong o os × (triple o ≡ (i, (p, j)))) → Ran s clash ⊎ ((o : Overlap) × IsOverlapOf sys o × (triple o ≡ (i, (p, j))))
      go (inl h) = inl h
      go (inr (o, l, e)) = inr (o, (are.each o l).0, e)

  -- at such a triple nothing is too large
  not_large : (i : ℕ) (p : Position) (j : ℕ) → IsTooLargeAt sys i p j → Known (i, (p, j)) → ⊥
  not_large i p j large known = go large.why (known spot large.place)
    where
      spot : Spot
      spot = record { inner = large.inner; outer = large.outer; part = large.part }

      there : (o : Overlap) → triple o ≡ (i, (p, j)) → (a : IsOverlapOf sys o) → IsSpot (i, (p, j)) (spot_of a)
      there o e a = subst (λ t. IsSpot t (spot_of a)) e a.place

      go : Ran spot too_large ⊎ ((by : List Binding) × (pair : CriticalPair) × Ran spot (unifier by) × Gives by p spot pair × (DoesPairFit pair → ⊥))
          → Ran spot clash ⊎ ((o : Overlap) × IsOverlapOf sys o × (triple o ≡ (i, (p, j)))) → ⊥
      go (inl h) (inl k) = large_no_clash (runs_same h k)
      go (inr (by, pair, h, g, n)) (inl k) = unifier_no_clash by (runs_same h k)
      go (inl h) (inr (o, a, e)) = unifier_or_large a.by (ran_once (i, (p, j)) (spot_of a) spot (unifier a.by) too_large (there o e a) large.place a.outcome h)
      go (inr (by, pair, h, g, n)) (inr (o, a, e)) =
          let made : Gives a.by p (spot_of a) o.pair = subst (λ z. Gives a.by z (spot_of a) o.pair) (ap (λ (x : Triple). x.1.0) e) a.pair in
          n (subst DoesPairFit (gives_once i p j (spot_of a) spot a.by by o.pair pair (there o e a) large.place a.outcome h made g) a.fits)

  -- an overlap that counts is listed
  listed : (Counts : Triple → Type 0) (os : List Overlap) → AreOverlapsAt sys Counts os → (o : Overlap) → IsOverlapOf sys o → Counts (triple o) → IsAmong o os
  listed Counts os are o a c = go (are.whole o.inner o.position o.outer a.inner a.outer a.part a.place c)
    where
      go : IsOutcomeOf a.inner.left a.part clash ⊎ ((q : Overlap) × IsAmong q os × (triple q ≡ triple o)) → IsAmong o os
      go (inl h) = absurd (unifier_no_clash a.by (runs_same a.outcome h))
      go (inr (q, l, e)) = subst (λ z. IsAmong z os) (overlap_once q o e (are.each q l).0 a) l

-- a sorted list has no more members than another that has all of them
abbrev IsPart : List Overlap → List Overlap → Type 0
IsPart os qs = (o : Overlap) → IsAmong o os → IsAmong o qs

abbrev Before : Overlap → Overlap → Type 0
Before o q = IsEarlierOverlap (triple o) (triple q)

rest_part : (o q : Overlap) (os qs : List Overlap) → o ≡ q → IsBeforeAll ComesBefore o os → IsPart (o ∷ os) (q ∷ qs) → IsPart os qs
rest_part o q os qs e low part x l = go (part x (inr l))
  where
    go : (x ≡ q) ⊎ IsAmong x qs → IsAmong x qs
    go (inl is) = absurd (earlier_not_same (triple x) (subst (λ y. Before y x) (e ∙ sym is) (before_one ComesBefore o x os low l)))
    go (inr k) = k

-- members behind the first are not q, where the first is not
past_head : (o q : Overlap) (os qs : List Overlap) → IsBeforeAll ComesBefore o os → IsBeforeAll ComesBefore q qs → IsAmong o qs → IsPart (o ∷ os) (q ∷ qs) → IsPart (o ∷ os) qs
past_head o q os qs low high at part x (inl e) = subst (λ z. IsAmong z qs) (sym e) at
past_head o q os qs low high at part x (inr l) = go (part x (inr l))
  where
    go : (x ≡ q) ⊎ IsAmong x qs → IsAmong x qs
    go (inl is) = absurd (earlier_not_both (triple o) (triple q) (subst (λ z. Before o z) is (before_one ComesBefore o x os low l)) (before_one ComesBefore q o qs high at))
    go (inr k) = k

part_short : (os qs : List Overlap) → IsSorted ComesBefore os → IsSorted ComesBefore qs → IsPart os qs → length os ≤ length qs
part_short [] qs a b part = omega arith
part_short (o ∷ os) [] a b part = absurd (part o (inl refl))
part_short (o ∷ os) (q ∷ qs) a b part = go (part o (inl refl)) (λ e. part_short os qs a.1 b.1 (rest_part o q os qs e a.0 part)) (λ l. part_short (o ∷ os) qs a b.1 (past_head o q os qs a.0 b.0 l part))
  where
    go : (o ≡ q) ⊎ IsAmong o qs → (o ≡ q → length os ≤ length qs) → (IsAmong o qs → suc (length os) ≤ length qs) → suc (length os) ≤ suc (length qs)
    go (inl e) f g = (let h = f e in omega (arith, h))
    go (inr l) f g = (let h = g l in omega (arith, h))

-- one more behind all
sorted_last : (n : Overlap) (os : List Overlap) → IsSorted ComesBefore os → ((o : Overlap) → IsAmong o os → Before o n) → IsSorted ComesBefore (os ++ n ∷ [])
sorted_last n os s all = sorted_append ComesBefore os (n ∷ []) s (tt, tt) (λ o q a b. last o q a b)
  where
    last : (o q : Overlap) → IsAmong o os → IsAmong q (n ∷ []) → Before o q
    last o q a (inl e) = subst (Before o) (sym e) (all o a)
    last o q a (inr h) = absurd h

listed_last : (n o : Overlap) (os : List Overlap) → IsAmong o (os ++ n ∷ []) → IsAmong o os ⊎ (o ≡ n)
listed_last n o os l = go (among_either o os (n ∷ []) l)
  where
    go : IsAmong o os ⊎ IsAmong o (n ∷ []) → IsAmong o os ⊎ (o ≡ n)
    go (inl a) = inl a
    go (inr (inl e)) = inr e
    go (inr (inr h)) = absurd h

module _ (sys : System) where
  -- with all overlaps up to one listed, there are fewer before it
  fewer : (Counts : Triple → Type 0) (n : Overlap) (before os : List Overlap) → IsOverlapOf sys n → AreOverlapsAt sys (λ t. IsEarlierOverlap t (triple n)) before → AreOverlapsAt sys Counts os
      → Counts (triple n) → ((t : Triple) → IsEarlierOverlap t (triple n) → Counts t) → suc (length before) ≤ length os
  fewer Counts n before os is early are here down =
      let short = part_short (before ++ n ∷ []) os (sorted_last n before early.sorted (λ o l. (early.each o l).1)) are.sorted (λ o l. go o (listed_last n o before l)) in
      let long = length-append before (n ∷ []) in
      omega (arith, short, long)
    where
      go : (o : Overlap) → IsAmong o before ⊎ (o ≡ n) → IsAmong o os
      go o (inl l) = let e = early.each o l in listed sys Counts os are o e.0 (down (triple o) e.1)
      go o (inr e) = subst (λ z. IsAmong z os) (sym e) (listed sys Counts os are n is here)

  pub overlaps_once : (os qs : List Overlap) → AreOverlaps sys os → AreOverlaps sys qs → os ≡ qs
  overlaps_once os qs a b =
      sorted_once ComesBefore (λ x y. earlier_not_both (triple x) (triple y)) os qs a.are.sorted b.are.sorted (λ o l. listed sys (λ t. Unit {0}) qs b.are o (a.are.each o l).0 tt)
      (λ o l. listed sys (λ t. Unit {0}) os a.are o (b.are.each o l).0 tt)

  pub overlaps_or_large : (os : List Overlap) (i : ℕ) (p : Position) (j : ℕ) → AreOverlaps sys os → IsPairTooLarge sys i p j → ⊥
  overlaps_or_large os i p j a large = not_large sys i p j large.is_large (known_at sys (λ t. Unit {0}) os a.are i p j tt)

  pub overlaps_or_many : (os : List Overlap) → AreOverlaps sys os → AreTooManyOverlaps sys → ⊥
  overlaps_or_many os a many =
      let less = fewer (λ t. Unit {0}) many.next many.before os many.is_overlap many.are_before a.are tt (λ t h. tt) in
      let top = a.few in
      let all = many.many in
      omega (arith, less, top, all)

  pub large_once : (i : ℕ) (p : Position) (j k : ℕ) (q : Position) (l : ℕ) → IsPairTooLarge sys i p j → IsPairTooLarge sys k q l → IsSame (i, (p, j)) (k, (q, l))
  large_once i p j k q l a b = go (order_triples (i, (p, j)) (k, (q, l)))
    where
      go : Ordered IsEarlierOverlap (i, (p, j)) (k, (q, l)) → IsSame (i, (p, j)) (k, (q, l))
      go (comes_first h) = absurd (not_large sys i p j a.is_large (known_at sys (λ t. IsEarlierOverlap t (k, (q, l))) b.before b.are_before i p j h))
      go (is_same e) = e
      go (comes_last h) = absurd (not_large sys k q l b.is_large (known_at sys (λ t. IsEarlierOverlap t (i, (p, j))) a.before a.are_before k q l h))

  pub large_or_many : (i : ℕ) (p : Position) (j : ℕ) → IsPairTooLarge sys i p j → AreTooManyOverlaps sys → ⊥
  large_or_many i p j large many = go (order_triples (i, (p, j)) (triple many.next))
    where
      go : Ordered IsEarlierOverlap (i, (p, j)) (triple many.next) → ⊥
      go (comes_first h) = not_large sys i p j large.is_large (known_at sys (λ t. IsEarlierOverlap t (triple many.next)) many.before many.are_before i p j h)
      go (is_same e) = not_large sys i p j large.is_large (λ s at. inr (many.next, many.is_overlap, sym e))
      go (comes_last h) =
          let less = fewer (λ t. IsEarlierOverlap t (i, (p, j))) many.next many.before large.before many.is_overlap many.are_before large.are_before h
          (λ t e. earlier_earlier t (triple many.next) (i, (p, j)) e h) in
          let top = large.few in
          let all = many.many in
          omega (arith, less, top, all)
