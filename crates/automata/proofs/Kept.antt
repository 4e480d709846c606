-- A closed automaton keeps what terms reach; so conditions whose right side it excludes are never met.
use Rattle.std.proofs.Common.{ℕ, zero, suc, ◌≡◌, inl, inr, List, [], ◌∷◌, Option, None, Some, replicate, slice_get, refl, sym, subst}
use Rattle.rewriting.specs.Prelude.{Term, var, app, Terms, nil, cons, count, Substitution, apply, values_of, IsOver, AreOver, AreValuesOver, Condition, System, Relation, Star, done, more}
use Rattle.rewriting.specs.Prelude.{Rewrites, Meets, Steps, IsInfeasible, variable_occurrences}
use Rattle.rewriting.proofs.Closures.{Star-mono}
use Rattle.rewriting.proofs.Opened.{Open, OpenAny, opened}
use Rattle.rewriting.proofs.Levels.{Contracts, level, level_of_step}
use Rattle.certificates.specs.Prelude.{Automaton, hypothesis_at, EvidenceReason}
use Rattle.automata.specs.Runs.{Reach, ReachAll, at, Runs, RunsFrom0}
use Rattle.automata.specs.Closed.{state_of, Includes, IsKept, HasOver, IsClosed, AcceptsAll, Excludes}
use Rattle.automata.specs.Evidence.{IsAccepted, IsExclusionJudged, IsConditionJudged, not_any, misses, closure_fails, right_side, JudgedByAutomaton}
use Rattle.automata.proofs.Splits.{split, joined, reach-mono, choice_of, state_has}

-- every term over the symbols reaches the state 0
abbrev plain_at : System → Automaton → ℕ → ℕ → Type 0
plain_at sys a x p = HasOver sys a None [] p

mutual
  pub reaches_0 : (sys : System) (a : Automaton) → AcceptsAll sys (HasOver sys a) → (t : Term) → IsOver sys.arities t → Reach (HasOver sys a) (plain_at sys a) t 0
  reaches_0 sys a any (var x) o = any.variables
  reaches_0 sys a any (app f ts) (o, os) = (replicate (count ts) 0, any.symbols f (count ts) o, reach_0 sys a any ts os)

  reach_0 : (sys : System) (a : Automaton) → AcceptsAll sys (HasOver sys a) → (ts : Terms) → AreOver sys.arities ts → ReachAll (HasOver sys a) (plain_at sys a) ts (replicate (count ts) 0)
  reach_0 sys a any nil o = refl
  reach_0 sys a any (cons t ts) (o, os) = (reaches_0 sys a any t o, reach_0 sys a any ts os)

-- with variables at 0 a term reaches no more
pub from_0 : (sys : System) (a : Automaton) (t : Term) (q : ℕ) → AcceptsAll sys (HasOver sys a) → RunsFrom0 (Some sys.arities) a t q → Runs (Some sys.arities) a t q
from_0 sys a t q any (is, h) = reach-mono (HasOver sys a) (at (λ x. 0)) (plain_at sys a) (λ x p e. subst (HasOver sys a None []) (sym e) any.variables) t q h

-- a term reaches each state that includes one that it reaches
included : (sys : System) (a : Automaton) (w : Term) (q p : ℕ) → Includes (HasOver sys a) q p → Runs (Some sys.arities) a w p → Runs (Some sys.arities) a w q
included sys a (var y) q p twin h = twin None [] h
included sys a (app f ts) q p twin (qs, m, h) = (qs, twin (Some f) qs m, h)

-- a right side that is kept at q: its instance reaches q
kept_instance : (sys : System) (a : Automaton) (s : Substitution) (e : ℕ → ℕ) (t : Term) (q : ℕ) → ((x : ℕ) → Runs (Some sys.arities) a (s x) (e x)) → IsKept (HasOver sys a) e t q
    → Runs (Some sys.arities) a (apply s t) q
kept_instance sys a s e (var x) q each twin = included sys a (s x) q (e x) twin (each x)
kept_instance sys a s e (app f ts) q each h = joined (HasOver sys a) (plain_at sys a) s e each (app f ts) q h

-- a contraction keeps what a term reaches
contraction_kept : (sys : System) (a : Automaton) → AcceptsAll sys (HasOver sys a) → IsClosed sys a → (S : Relation Term) (u v : Term) (q : ℕ) → Contracts sys S u v
    → Runs (Some sys.arities) a u q → Runs (Some sys.arities) a v q
contraction_kept sys a any closed S u v q c h =
    let r = split (HasOver sys a) (plain_at sys a) c.by c.rule.left q (subst (λ z. Runs (Some sys.arities) a z q) c.left h) in
    let kept = closed c.is_rule.0 c.rule r.states q c.is_rule.1 (choice_of (Some sys.arities) a c.by c.rule.left q r) r.run in
    let each = state_has (λ x p. Runs (Some sys.arities) a (c.by x) p) (λ x. reaches_0 sys a any (c.by x) (c.values x)) (variable_occurrences c.rule.left) r.states r.each in
    subst (λ z. Runs (Some sys.arities) a z q) (sym c.right) (kept_instance sys a c.by (state_of (variable_occurrences c.rule.left) r.states) c.rule.right q each kept)

-- and so does a step at any place
mutual
  place_kept : (sys : System) (a : Automaton) (C : Relation Term) → ((u v : Term) (q : ℕ) → C u v → Runs (Some sys.arities) a u q → Runs (Some sys.arities) a v q)
      → (u v : Term) (q : ℕ) → Open C u v → Runs (Some sys.arities) a u q → Runs (Some sys.arities) a v q
  place_kept sys a C keep (var x) v q k h = keep (var x) v q k h
  place_kept sys a C keep (app f ts) v q (inl k) h = keep (app f ts) v q k h
  place_kept sys a C keep (app f ts) v q (inr (us, e, k)) (qs, m, h) = subst (λ z. Runs (Some sys.arities) a z q) (sym e) (qs, m, places_kept sys a C keep ts us qs k h)

  places_kept : (sys : System) (a : Automaton) (C : Relation Term) → ((u v : Term) (q : ℕ) → C u v → Runs (Some sys.arities) a u q → Runs (Some sys.arities) a v q)
      → (ts us : Terms) (qs : List ℕ) → OpenAny C ts us
      → ReachAll (HasOver sys a) (plain_at sys a) ts qs → ReachAll (HasOver sys a) (plain_at sys a) us qs
  places_kept sys a C keep nil us qs k h = absurd k
  places_kept sys a C keep (cons t ts) us [] k h = absurd h
  places_kept sys a C keep (cons t ts) us (q ∷ qs) (inl (u, e, k)) (h, hs) = subst (λ z. ReachAll (HasOver sys a) (plain_at sys a) z (q ∷ qs)) (sym e) (place_kept sys a C keep t u q k h, hs)
  places_kept sys a C keep (cons t ts) us (q ∷ qs) (inr (vs, e, k)) (h, hs) = subst (λ z. ReachAll (HasOver sys a) (plain_at sys a) z (q ∷ qs)) (sym e) (h, places_kept sys a C keep ts vs qs k hs)

step_kept : (sys : System) (a : Automaton) → AcceptsAll sys (HasOver sys a) → IsClosed sys a → (n : ℕ) (u v : Term) (q : ℕ) → level sys n u v → Runs (Some sys.arities) a u q
    → Runs (Some sys.arities) a v q
step_kept sys a any closed zero u v q k h = absurd k
step_kept sys a any closed (suc n) u v q k h = place_kept sys a (Contracts sys (Star (level sys n))) (contraction_kept sys a any closed (Star (level sys n))) u v q (opened _ k) h

pub reduct_kept : (sys : System) (a : Automaton) → AcceptsAll sys (HasOver sys a) → IsClosed sys a → (q : ℕ) {t u : Term} → Star (Rewrites sys) t u → Runs (Some sys.arities) a t q
    → Runs (Some sys.arities) a u q
reduct_kept sys a any closed q done h = h
reduct_kept sys a any closed q (more {a = u} {b = v} k p) h = reduct_kept sys a any closed q p (step_kept sys a any closed k.0 u v q (level_of_step sys k.0 u v k.1) h)

-- the condition with a number is met where all are
met_at : (S : Relation Term) (s : Substitution) (cs : List Condition) (k : ℕ) (c : Condition) → slice_get cs k ≡ Some c → Meets S s cs → S (apply s c.left) (apply s c.right)
met_at S s [] k c e h = absurd (cc)
met_at S s (d ∷ cs) zero c e h = let same : d ≡ c = cc in subst (λ z. S (apply s z.left) (apply s z.right)) same h.0
met_at S s (d ∷ cs) (suc k) c e h = met_at S s cs k c e h.1

hypothesis_met : (S : Relation Term) (s : Substitution) (cs : List Condition) (k : ℕ) (c : Condition) → hypothesis_at cs k ≡ Some c → Meets S s cs → S (apply s c.left) (apply s c.right)
hypothesis_met S s cs zero c e h = absurd (cc)
hypothesis_met S s cs (suc k) c e h = met_at S s cs k c e h

-- the instances of a right side that is excluded reach no accepting state
excluded : (sys : System) (a : Automaton) (s : Substitution) (c : Condition) → AreValuesOver sys.arities s → AcceptsAll sys (HasOver sys a) → IsClosed sys a
    → IsAccepted (Some sys.arities) a c.left → Excludes (Some sys.arities) a c.right
    → Star (Rewrites sys) (apply s c.left) (apply s c.right) → ⊥
excluded sys a s c over any closed (q, final, from) none p =
    let start = joined (HasOver sys a) (plain_at sys a) s (λ x. 0) (λ x. reaches_0 sys a any (s x) (over x)) c.left q from.1 in
    let r = split (HasOver sys a) (plain_at sys a) s c.right q (reduct_kept sys a any closed q p start) in
    none r.states q (choice_of (Some sys.arities) a s c.right q r) final r.run

-- an automaton that is judged with no reason: what it shows
record Valid (sys : System) (c : Condition) (a : Automaton) : Type 0 where
  any : AcceptsAll sys (HasOver sys a)
  accepted : IsAccepted (Some sys.arities) a c.left
  closed : IsClosed sys a
  excludes : Excludes (Some sys.arities) a c.right

valid : (sys : System) (c : Condition) (a : Automaton) (o : Option EvidenceReason) → o ≡ None → IsConditionJudged sys c a o → Valid sys c a
valid sys c a o e (not_any lacks) = absurd (cc)
valid sys c a o e (misses any lacks) = absurd (cc)
valid sys c a o e (closure_fails why any accepts h) = absurd (cc)
valid sys c a o e (right_side p any accepts closed h) = record { any = any; accepted = accepts; closed = closed.1; excludes = (subst (IsExclusionJudged (Some sys.arities) a c.right) e h).1 }

refuted_by : (sys : System) (cs : List Condition) (k n : ℕ) (a : Automaton) (s : Substitution) (c : Condition) → hypothesis_at cs k ≡ Some c → Valid sys c a
    → AreValuesOver sys.arities s → Meets (Steps sys n) s cs → ⊥
refuted_by sys cs k n a s c is h over met =
    excluded sys a s c over h.any h.closed h.accepted h.excludes (Star-mono (λ u v p. (n, p)) (apply s c.left) (apply s c.right) (hypothesis_met (Steps sys n) s cs k c is met))

pub refutes : (sys : System) (cs : List Condition) (k : ℕ) (a : Automaton) → JudgedByAutomaton sys cs k a None → IsInfeasible sys cs
refutes sys cs k a (inl (e, h)) n b over met = cc
refutes sys cs k a (inr (c, is, h)) n b over met = refuted_by sys cs k n a (values_of b) c is (valid sys c a None refl h) over met
