-- The inner rules between two candidates at a place have other roots, so their runs clash.
use Rattle.std.proofs.Common.{ℕ, zero, suc, ◌≡◌, ◌≢◌, ◌+◌, ◌-◌, ◌<◌, ◌≤◌, ◌⊎◌, inl, inr, Bool, true, false, List, [], ◌∷◌, ◌++◌, length, get_or, slice_get, None, Some, refl, sym, ◌*◌}
use Rattle.std.proofs.Common.{ap, ◌∙◌, subst, subst₂, arith}
use Rattle.std.proofs.lemmas.Bool.{cases_lt, eqb-false}
use Rattle.std.proofs.lemmas.Option.{slice_get_within, slice_get-get_or}
use Rattle.std.proofs.lemmas.List.{get_or_past, get_or_default}
use Rattle.rewriting.proofs.Once.{same_some}
use Rattle.rewriting.specs.Prelude.{IsAmong, Term, Terms, var, app, IsVariable, Fits, Position, subterm, apply_all, even, odd, Rule, System, rule_at, IsSystem}
use Rattle.rewriting.proofs.NumbersWhere.{Stands}
use Rattle.rewriting.proofs.Systems.{numbered_rule}
use Rattle.rule_index.specs.Roots.{has_root, rules_with_root}
use Rattle.rule_index.proofs.Walks.{ascending, is_listed, listed_rule}
use Rattle.unifier_run.specs.Run.{clash}
use Rattle.unifier_run.specs.Overlaps.{Triple, IsOutcomeOf}
use Rattle.unifier_run.proofs.Heads.{heads_clash}
use Rattle.unifier_run.proofs.Spots.{at_place}
use Rattle.unifier_run.specs.Triples.{triples_at, counted, DoesClash}
use Rattle.critical_pairs.specs.Offers.{DoesPass}
use Rattle.critical_pairs.specs.Places.{IsRootAt}
use Rattle.critical_pairs.specs.Cursors.{done, triples_behind, CandidateAnswers}
use Rattle.critical_pairs.proofs.Passing.{pass_all}
use Rattle.rewriting.proofs.Leaves.{fits_under, variables_are_leaves}
use Rattle.critical_pairs.proofs.Sizes.{fits_part}

-- a listed number counts from 1 and not beyond the rules
pub listed_within : (sys : System) (f k : ℕ) → k < length (rules_with_root sys f) → (1 ≤ get_or (rules_with_root sys f) k 0) × (get_or (rules_with_root sys f) k 0 ≤ length sys.rules)
listed_within sys f k h = let r = listed_rule sys f k h in numbered (get_or (rules_with_root sys f) k 0) r.0 r.1
  where
    numbered : (i : ℕ) (r : Rule) → rule_at sys i ≡ Some r → (1 ≤ i) × (i ≤ length sys.rules)
    numbered zero r e = absurd (cc)
    numbered (suc i) r e = let l = slice_get_within sys.rules i r e in (omega arith, omega (arith, l))

-- a term without a root that is no variable is another symbol over arguments
other_root : (f : ℕ) (t : Term) → has_root f t ≡ false → (IsVariable t → ⊥) → (g : ℕ) × (ts : Terms) × (t ≡ app g ts) × (f ≢ g)
other_root f (var x) h n = absurd (n tt)
other_root f (app g ts) h n = (g, ts, refl, eqb-false f g h)

-- elements of a list
pub get_there : (ns : List ℕ) (c i d : ℕ) → slice_get ns c ≡ Some i → (c < length ns) × (get_or ns c d ≡ i)
get_there [] c i d e = absurd (cc)
get_there (n ∷ ns) zero i d e = (omega arith, let same : n ≡ i = cc in same)
get_there (n ∷ ns) (suc c) i d e = let r = get_there ns c i d e in let l = r.0 in (omega arith, r.1)

-- the triples of one place are those before an inner rule, its own, and those behind it
at_parts : (j : ℕ) (p : Position) (a n m k : ℕ) → k ≡ n + suc m → triples_at j p a k ≡ triples_at j p a n ++ (suc (a + n), (p, j)) ∷ triples_at j p (suc (a + n)) m
at_parts j p a zero m k e =
    let s : k ≡ suc m = omega (arith, e) in
    let z : a ≡ a + 0 = omega arith in
    ap (triples_at j p a) s ∙ ap (λ x. (suc x, (p, j)) ∷ triples_at j p (suc x) m) z
at_parts j p a (suc n) m k e =
    let s : k ≡ suc (n + suc m) = omega (arith, e) in
    let z : suc a + n ≡ a + suc n = omega arith in
    ap (triples_at j p a) s
    ∙ ap (λ x. (suc a, (p, j)) ∷ x) (at_parts j p (suc a) n m (n + suc m) refl ∙ ap (λ x. triples_at j p (suc a) n ++ (suc x, (p, j)) ∷ triples_at j p (suc x) m) z)

at_split : (j : ℕ) (p : Position) (a b m : ℕ) → a < b → b ≤ m → triples_behind j p a m ≡ triples_at j p a (b - suc a) ++ (b, (p, j)) ∷ triples_behind j p b m
at_split j p a b m h l =
    let k : m - a ≡ (b - suc a) + suc (m - b) = omega (arith, h, l) in
    let z : suc (a + (b - suc a)) ≡ b = omega (arith, h) in
    at_parts j p a (b - suc a) (m - b) (m - a) k ∙ ap (λ x. triples_at j p a (b - suc a) ++ (x, (p, j)) ∷ triples_at j p x (m - b)) z

module _ (sys : System) (f : ℕ) where
  abbrev ns : List ℕ
  ns = rules_with_root sys f

  -- what is done is below the candidate
  done_below : (m c b : ℕ) → slice_get ns c ≡ Some b → done ns m c < b
  done_below m zero b e =
      let at = get_there ns 0 b 0 e in
      let low = (listed_within sys f 0 at.0).0 in
      let same = at.1 in
      omega (arith, low, same)
  done_below m (suc c) b e =
      let at = get_there ns (suc c) b 0 e in
      let inside = at.0 in
      let before : c < length ns = omega (arith, inside) in
      let up = ascending sys f c (suc c) (omega arith) inside in
      let same = at.1 in
      let other = get_or_default ns c m 0 before in
      omega (arith, up, same, other)

  -- no rule with the root lies between
  none_between : (m c i : ℕ) (r : Rule) → rule_at sys i ≡ Some r → done ns m c < i → i ≤ m → ((b : ℕ) → slice_get ns c ≡ Some b → i < b) → has_root f r.left ≡ false
  none_between m c i r e low high next = go (has_root f r.left) refl
    where
      later : (c k : ℕ) → c ≤ k → k < length ns → get_or ns c 0 ≤ get_or ns k 0
      later c k h w = by (cases_lt c k)
        where
          by : (c < k) ⊎ (k ≤ c) → get_or ns c 0 ≤ get_or ns k 0
          by (inl l) = let up = ascending sys f c k l w in omega (arith, up)
          by (inr l) = let same : c ≡ k = omega (arith, h, l) in subst (λ x. get_or ns c 0 ≤ get_or ns x 0) same (omega arith)

      before : (c k : ℕ) → done ns m c < i → k < c → k < length ns → get_or ns k 0 ≡ i → ⊥
      before zero k low l w s = omega (arith, l)
      before (suc c) k low l w s = by (cases_lt c (length ns))
        where
          by : (c < length ns) ⊎ (length ns ≤ c) → ⊥
          by (inl h) = let up = later k c (omega (arith, l)) h in let other = get_or_default ns c m 0 h in omega (arith, up, other, low, s)
          by (inr h) = let all = get_or_past ns c m h in omega (arith, all, low, high)

      listed : Stands i ns → ⊥
      listed (k, w, s) = by (cases_lt k c)
        where
          by : (k < c) ⊎ (c ≤ k) → ⊥
          by (inl l) = before c k low l w s
          by (inr l) =
              let inside : c < length ns = omega (arith, l, w) in
              let up = later c k l w in
              let less = next (get_or ns c 0) (slice_get-get_or ns c 0 inside) in
              omega (arith, up, less, s)

      go : (b : Bool) → has_root f r.left ≡ b → has_root f r.left ≡ false
      go true h = absurd (listed (is_listed sys f i r e h))
      go false h = h

-- a run of a rule with another root clashes at once
roots_clash : (sys : System) (j : ℕ) (p : Position) (f i : ℕ) → IsSystem sys → IsRootAt sys j (p, f)
    → ((inner : Rule) → rule_at sys i ≡ Some inner → ((p ≢ []) ⊎ (i < j)) → has_root f inner.left ≡ false) → DoesClash sys (i, (p, j))
roots_clash sys j p f i h at other inner outer part place =
    let k = numbered_rule sys i inner h place.is_inner in
    let l = numbered_rule sys j outer h place.is_outer in
    let same_outer = same_some (rule_at sys j) at.rule outer at.is_rule place.is_outer in
    let same_part = same_some (subterm outer.left p) (app f at.arguments) part (subst (λ z. subterm z.left p ≡ Some (app f at.arguments)) same_outer at.here) place.is_part in
    differ (other_root f inner.left (other inner place.is_inner place.counts) k.is_over.left) same_part k.fits.0 (fits_part outer.left p part place.is_part l.fits.0)
  where
    run : (g : ℕ) (ts : Terms) → f ≢ g → Fits (app g ts) → Fits (app f at.arguments) → IsOutcomeOf (app g ts) (app f at.arguments) clash
    run g ts d a b =
        heads_clash g f (apply_all even ts) (apply_all odd at.arguments) (λ e. d (sym e)) (fits_under even (variables_are_leaves (λ x. 2 * x)) (app g ts) a)
        (fits_under odd (variables_are_leaves (λ x. 2 * x + 1)) (app f at.arguments) b)

    differ : (g : ℕ) × (ts : Terms) × (inner.left ≡ app g ts) × (f ≢ g) → app f at.arguments ≡ part → Fits inner.left → Fits part → IsOutcomeOf inner.left part clash
    differ (g, ts, e, d) s a b = subst₂ (λ x y. IsOutcomeOf x y clash) (sym e) s (run g ts d (subst Fits e a) (subst Fits (sym s) b))

-- what holds of each number between two bounds holds of each triple between them
between : (P : Triple → Type 0) (j : ℕ) (p : Position) (a n : ℕ) → ((i : ℕ) → a < i → i ≤ a + n → P (i, (p, j))) → (t : Triple) → IsAmong t (triples_at j p a n) → P t
between P j p a n h t m = let r = at_place j p a n t m in subst P (sym r.is) (h r.number r.above r.below)

module _ (sys : System) (h : IsSystem sys) (j : ℕ) (p : Position) (f : ℕ) (at : IsRootAt sys j (p, f)) where
  abbrev most : ℕ
  most = counted (j - 1) (length sys.rules) p

  most_there : (b : ℕ) → (p ≢ []) ⊎ (b < j) → b ≤ length sys.rules → b ≤ most
  most_there b o l = go p o
    where
      go : (q : Position) → (q ≢ []) ⊎ (b < j) → b ≤ counted (j - 1) (length sys.rules) q
      go [] (inl k) = absurd (k refl)
      go [] (inr k) = omega (arith, k)
      go (k ∷ q) o = l

  -- on to the next candidate
  pub to_candidate : (c b : ℕ) → CandidateAnswers (rules_with_root sys f) p j c (Some b)
      → DoesPass sys (triples_behind j p (done (rules_with_root sys f) most c) most) ((b, (p, j)) ∷ triples_behind j p (done (rules_with_root sys f) most (suc c)) most)
  to_candidate c b (e, o) =
      let there = get_there (rules_with_root sys f) c b most e in
      let low = done_below sys f most c b e in
      let same = (get_there (rules_with_root sys f) c b 0 e).1 in
      let within = (listed_within sys f c there.0).1 in
      let high = most_there b o (omega (arith, within, same)) in
      let a = done (rules_with_root sys f) most c in
      subst (λ x. DoesPass sys (triples_behind j p a most) ((b, (p, j)) ∷ triples_behind j p x most)) (sym there.1)
      (subst (λ x. DoesPass sys x ((b, (p, j)) ∷ triples_behind j p b most)) (sym (at_split j p a b most low high))
      (pass_all sys (triples_at j p a (b - suc a)) ((b, (p, j)) ∷ triples_behind j p b most) (between (DoesClash sys) j p a (b - suc a) (λ i l k. gap i l k low high))))
    where
      gap : (i : ℕ) → done (rules_with_root sys f) most c < i → i ≤ done (rules_with_root sys f) most c + (b - suc (done (rules_with_root sys f) most c))
          → done (rules_with_root sys f) most c < b → b ≤ most → DoesClash sys (i, (p, j))
      gap i l k low high =
          let less : i < b = omega (arith, l, k, low) in
          roots_clash sys j p f i h at (λ r q u. none_between sys f most c i r q l (omega (arith, less, high))
          (λ d s. (let same : b ≡ d = same_some (slice_get (rules_with_root sys f) c) b d e s in omega (arith, less, same))))

  -- past the last one that counts
  pub past_candidates : (c : ℕ) → CandidateAnswers (rules_with_root sys f) p j c None → (t : Triple) → IsAmong t (triples_behind j p (done (rules_with_root sys f) most c) most) → DoesClash sys t
  past_candidates c none = between (DoesClash sys) j p (done (rules_with_root sys f) most c) (most - done (rules_with_root sys f) most c) (λ i l k. gap i l k)
    where
      gap : (i : ℕ) → done (rules_with_root sys f) most c < i → i ≤ done (rules_with_root sys f) most c + (most - done (rules_with_root sys f) most c) → DoesClash sys (i, (p, j))
      gap i l k =
          roots_clash sys j p f i h at (λ r q u. none_between sys f most c i r q l (omega (arith, l, k)) (λ d s. late d (none d s) u))
        where
          late : (d : ℕ) → (p ≡ []) × (j ≤ d) → (p ≢ []) ⊎ (i < j) → i < d
          late d (e, w) (inl o) = absurd (o e)
          late d (e, w) (inr o) = omega (arith, w, o)
