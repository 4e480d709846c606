-- The rules that match a term, among those with its root.
use Rattle.std.proofs.Common.{◌≡◌, inl, inr, ℕ, suc, ◌<◌, Bool, true, false, if◌then◌else◌, List, [], ◌∷◌, map, length, get_or, Option, None, Some, refl, sym, ap, ◌∙◌, subst, arith}
use Rattle.std.proofs.lemmas.Bool.{false≢true}
use Rattle.rewriting.specs.Prelude.{Matches, IsWellFormed, IsAmong, IsSorted}
use Rattle.rewriting.proofs.Common.{Term, Terms, Position, var, app, IsVariable, Rule, System, rule_at}
use Rattle.rule_index.specs.Roots.{has_root, rules_with_root}
use Rattle.rule_index.specs.Parts.{part}
use Rattle.rule_index.proofs.Walks.{root_of, is_listed, ascending}
use Rattle.valid_certificates.specs.Peaks.{RedexPlace, MatchesAt, IsEarlierRedex}
use Rattle.redex_conditions.specs.Redexes.{is_hit, hits, place, part_redexes}
use Rattle.redex_conditions.proofs.Deciding.{match_decided, match_found}
use Rattle.rewriting.proofs.Lists.{among_at, before_each}

-- a rule that is hit matches at the root, and the other way round
hit_matches : (sys : System) (t : Term) (i : ℕ) (o : Option Rule) → rule_at sys i ≡ o → is_hit o t ≡ true → MatchesAt sys t [] i
hit_matches sys t i None e h = absurd (false≢true h)
hit_matches sys t i (Some r) e h = record { rule = r; part = t; is_rule = e; stands = refl; matches = match_found r.left t h }

pub hit_of : (sys : System) (t : Term) (i : ℕ) → MatchesAt sys t [] i → is_hit (rule_at sys i) t ≡ true
hit_of sys t i m =
    let same : m.part ≡ t = (let e = m.stands in cc) in
    ap (λ o. is_hit o t) m.is_rule ∙ match_decided m.rule.left t (subst (Matches m.rule.left) same m.matches)

-- a number of a list stands at some place
at_some_place : (i : ℕ) (ns : List ℕ) → IsAmong i ns → (k : ℕ) × (k < length ns) × (get_or ns k 0 ≡ i)
at_some_place i [] h = absurd h
at_some_place i (n ∷ ns) (inl e) = (0, omega arith, sym e)
at_some_place i (n ∷ ns) (inr h) = let k = at_some_place i ns h in let low = k.1 in (suc k.0, omega (arith, low), k.2)

abbrev IsRising : List ℕ → Type 0
IsRising ns = (j k : ℕ) → j < k → k < length ns → get_or ns j 0 < get_or ns k 0

rest_rises : (n : ℕ) (ns : List ℕ) → IsRising (n ∷ ns) → IsRising ns
rest_rises n ns h j k l m = h (suc j) (suc k) (omega (arith, l)) (omega (arith, m))

first_least : (n i : ℕ) (ns : List ℕ) → IsRising (n ∷ ns) → IsAmong i ns → n < i
first_least n i ns h a = let k = at_some_place i ns a in let low = k.1 in subst (λ m. n < m) k.2 (h 0 (suc k.0) (omega arith) (omega (arith, low)))

-- places at a part are those of the hits
module _ (sys : System) (w : ℕ) (p : Position) (t : Term) where
  -- a hit: its rule matches, and its number is in the list
  abbrev IsOf : List ℕ → RedexPlace → Type 0
  IsOf ns r = (i : ℕ) × (r ≡ place w p i) × IsAmong i ns × MatchesAt sys t [] i

  later : (n : ℕ) (ns : List ℕ) (r : RedexPlace) → IsOf ns r → IsOf (n ∷ ns) r
  later n ns r (i, e, a, m) = (i, e, inr a, m)

  each_of : (n : ℕ) (ns : List ℕ) (r : RedexPlace) → (IsAmong r (map (place w p) (hits sys t ns)) → IsOf ns r)
      → (b : Bool) → is_hit (rule_at sys n) t ≡ b → IsAmong r (map (place w p) (if b then n ∷ hits sys t ns else hits sys t ns)) → IsOf (n ∷ ns) r
  each_of n ns r f true e (inl s) = (n, s, inl refl, hit_matches sys t n (rule_at sys n) refl e)
  each_of n ns r f true e (inr l) = later n ns r (f l)
  each_of n ns r f false e l = later n ns r (f l)

  pub hit_each : (ns : List ℕ) (r : RedexPlace) → IsAmong r (map (place w p) (hits sys t ns)) → IsOf ns r
  hit_each [] r h = absurd h
  hit_each (n ∷ ns) r h = each_of n ns r (λ l. hit_each ns r l) (is_hit (rule_at sys n) t) refl h

  skipped : (n i : ℕ) (ns : List ℕ) (b : Bool) → IsAmong (place w p i) (map (place w p) (hits sys t ns))
      → IsAmong (place w p i) (map (place w p) (if b then n ∷ hits sys t ns else hits sys t ns))
  skipped n i ns true l = inr l
  skipped n i ns false l = l

  taken : (n i : ℕ) (ns : List ℕ) (b : Bool) → b ≡ true → i ≡ n → IsAmong (place w p i) (map (place w p) (if b then n ∷ hits sys t ns else hits sys t ns))
  taken n i ns true e s = inl (ap (place w p) s)
  taken n i ns false e s = absurd (false≢true e)

  pub hit_whole : (i : ℕ) (ns : List ℕ) → IsAmong i ns → MatchesAt sys t [] i → IsAmong (place w p i) (map (place w p) (hits sys t ns))
  hit_whole i [] a m = absurd a
  hit_whole i (n ∷ ns) (inl e) m = taken n i ns (is_hit (rule_at sys n) t) (subst (λ k. is_hit (rule_at sys k) t ≡ true) e (hit_of sys t i m)) e
  hit_whole i (n ∷ ns) (inr a) m = skipped n i ns (is_hit (rule_at sys n) t) (hit_whole i ns a m)

  least_hit : (n : ℕ) (ns : List ℕ) → IsRising (n ∷ ns) → (q : RedexPlace) → IsAmong q (map (place w p) (hits sys t ns)) → IsEarlierRedex (place w p n) q
  least_hit n ns h q l = go (hit_each ns q l)
    where
      go : IsOf ns q → IsEarlierRedex (place w p n) q
      go (i, e, a, m) = subst (IsEarlierRedex (place w p n)) (sym e) (inr (refl, inr (refl, first_least n i ns h a)))

  sorted_step : (n : ℕ) (ns : List ℕ) (b : Bool) → IsRising (n ∷ ns) → IsSorted IsEarlierRedex (map (place w p) (hits sys t ns))
      → IsSorted IsEarlierRedex (map (place w p) (if b then n ∷ hits sys t ns else hits sys t ns))
  sorted_step n ns true h s = (before_each IsEarlierRedex (place w p n) (map (place w p) (hits sys t ns)) (least_hit n ns h), s)
  sorted_step n ns false h s = s

  pub hits_sorted : (ns : List ℕ) → IsRising ns → IsSorted IsEarlierRedex (map (place w p) (hits sys t ns))
  hits_sorted [] h = tt
  hits_sorted (n ∷ ns) h = sorted_step n ns (is_hit (rule_at sys n) t) h (hits_sorted ns (rest_rises n ns h))

-- a left side that matches a symbol over arguments has the root
root_matches : (l : Term) (f : ℕ) (ts : Terms) → (IsVariable l → ⊥) → Matches l (app f ts) → has_root f l ≡ true
root_matches (var x) f ts h m = absurd (h tt)
root_matches (app g us) f ts h (s, e) = root_of f us (app g us) (let same : g ≡ f = cc in ap (λ k. app k us) same)

none_at_variable : (sys : System) → IsWellFormed sys → (x i : ℕ) → MatchesAt sys (var x) [] i → ⊥
none_at_variable sys good x i m = no m.rule.left (good i m.rule m.is_rule).left (subst (Matches m.rule.left) (let e = m.stands in let same : m.part ≡ var x = cc in same) m.matches)
  where
    no : (l : Term) → (IsVariable l → ⊥) → Matches l (var x) → ⊥
    no (var y) h (s, e) = h tt
    no (app f ts) h (s, e) = cc

-- so all rules that match a part are hits among those with its root
module _ (sys : System) (good : IsWellFormed sys) (w : ℕ) (p : Position) where
  pub part_whole : (t : Term) (i : ℕ) → MatchesAt sys t [] i → IsAmong (place w p i) (part_redexes sys w (part p t))
  part_whole (var x) i m = absurd (none_at_variable sys good x i m)
  part_whole (app f ts) i m =
      let same : m.part ≡ app f ts = (let e = m.stands in cc) in
      let matches : Matches m.rule.left (app f ts) = subst (Matches m.rule.left) same m.matches in
      let there = is_listed sys f i m.rule m.is_rule (root_matches m.rule.left f ts (good i m.rule m.is_rule).left matches) in
      hit_whole sys w p (app f ts) i (rules_with_root sys f) (among_at (rules_with_root sys f) there.0 0 i there.1 (sym there.2)) m

  pub part_sorted : (t : Term) → IsSorted IsEarlierRedex (part_redexes sys w (part p t))
  part_sorted (var x) = tt
  part_sorted (app f ts) = hits_sorted sys w p (app f ts) (rules_with_root sys f) (ascending sys f)
