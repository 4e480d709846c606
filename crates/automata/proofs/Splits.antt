-- Runs of instances: taken apart into a run of the term by states for its variable occurrences, and put together again.
use Rattle.std.proofs.Common.{ℕ, suc, ◌≡◌, ◌<◌, Bool, true, false, nat_eq, if◌then◌else◌, List, [], ◌∷◌, ◌++◌, None, All, length, refl, sym, ap, subst, eqb-true}
use Rattle.std.proofs.lemmas.List.Elements.{All-nil, All-cons}
use Rattle.rewriting.specs.Prelude.{Term, var, app, Terms, nil, cons, Substitution, apply, apply_all, variable_occurrences, variable_occurrences_of}
use Rattle.certificates.specs.Evidence.{Automaton}
use Rattle.automata.specs.Runs.{Moves, Symbols, Has, IsState, Reach, ReachAll, at, Runs, ReachBy, ReachAllBy}
use Rattle.automata.specs.Closed.{IsChoice, state_of}

-- each variable with its state has the property
abbrev pub AreEach : (ℕ → ℕ → Type 0) → List ℕ → List ℕ → Type 0
AreEach P [] [] = Unit {0}
AreEach P [] (c ∷ cs) = ⊥
AreEach P (x ∷ xs) [] = ⊥
AreEach P (x ∷ xs) (c ∷ cs) = P x c × AreEach P xs cs

each-append : (P : ℕ → ℕ → Type 0) (xs ys cs ds : List ℕ) → AreEach P xs cs → AreEach P ys ds → AreEach P (xs ++ ys) (cs ++ ds)
each-append P [] ys [] ds h k = k
each-append P [] ys (c ∷ cs) ds h k = absurd h
each-append P (x ∷ xs) ys [] ds h k = absurd h
each-append P (x ∷ xs) ys (c ∷ cs) ds h k = (h.0, each-append P xs ys cs ds h.1 k)

pub length-each : (P : ℕ → ℕ → Type 0) (xs cs : List ℕ) → AreEach P xs cs → length cs ≡ length xs
length-each P [] [] h = refl
length-each P [] (c ∷ cs) h = absurd h
length-each P (x ∷ xs) [] h = absurd h
length-each P (x ∷ xs) (c ∷ cs) h = ap suc (length-each P xs cs h.1)

pub each_all : (P : ℕ → ℕ → Type 0) (Q : ℕ → Type 0) → ((x c : ℕ) → P x c → Q c) → (xs cs : List ℕ) → AreEach P xs cs → All Q cs
each_all P Q f [] [] h = All-nil Q
each_all P Q f [] (c ∷ cs) h = absurd h
each_all P Q f (x ∷ xs) [] h = absurd h
each_all P Q f (x ∷ xs) (c ∷ cs) h = All-cons Q c cs (f x c h.0) (each_all P Q f xs cs h.1)

-- a variable has the property with the state of its first occurrence, where each has it with 0
state_at : (P : ℕ → ℕ → Type 0) (x y c d : ℕ) → P y c → P x d → (b : Bool) → nat_eq x y ≡ b → P x (if b then c else d)
state_at P x y c d h k true e = subst (λ z. P z c) (sym (eqb-true x y e)) h
state_at P x y c d h k false e = k

pub state_has : (P : ℕ → ℕ → Type 0) → ((x : ℕ) → P x 0) → (xs cs : List ℕ) → AreEach P xs cs → (x : ℕ) → P x (state_of xs cs x)
state_has P none [] cs h x = none x
state_has P none (y ∷ ys) [] h x = absurd h
state_has P none (y ∷ ys) (c ∷ cs) h x = state_at P x y c (state_of ys cs x) h.0 (state_has P none ys cs h.1 x) (nat_eq x y) refl

-- an instance's run: the term's run by states that the values reach
pub record Split (M : Moves) (At : ℕ → ℕ → Type 0) (s : Substitution) (t : Term) (q : ℕ) : Type 0 where
  pub states : List ℕ
  pub run : ReachBy M t states q
  pub each : AreEach (λ x c. Reach M At (s x) c) (variable_occurrences t) states

pub record Splits (M : Moves) (At : ℕ → ℕ → Type 0) (s : Substitution) (ts : Terms) (qs : List ℕ) : Type 0 where
  pub states : List ℕ
  pub run : ReachAllBy M ts states qs
  pub each : AreEach (λ x c. Reach M At (s x) c) (variable_occurrences_of ts) states

mutual
  pub split : (M : Moves) (At : ℕ → ℕ → Type 0) (s : Substitution) (t : Term) (q : ℕ) → Reach M At (apply s t) q → Split M At s t q
  split M At s (var x) q h = record { states = q ∷ []; run = refl; each = (h, tt) }
  split M At s (app f ts) q (qs, m, h) = let r = splits M At s ts qs h in record { states = r.states; run = (qs, m, r.run); each = r.each }

  splits : (M : Moves) (At : ℕ → ℕ → Type 0) (s : Substitution) (ts : Terms) (qs : List ℕ) → ReachAll M At (apply_all s ts) qs → Splits M At s ts qs
  splits M At s nil qs h = record { states = []; run = (refl, h); each = tt }
  splits M At s (cons t ts) [] h = absurd h
  splits M At s (cons t ts) (q ∷ qs) (h, hs) =
      let a = split M At s t q h in
      let b = splits M At s ts qs hs in
      record {
        states = a.states ++ b.states;
        run = (a.states, b.states, refl, a.run, b.run);
        each = each-append (λ x c. Reach M At (s x) c) (variable_occurrences t) (variable_occurrences_of ts) a.states b.states a.each b.each;
      }

-- a term's run, with states that the values reach, is the instance's run
mutual
  pub joined : (M : Moves) (At : ℕ → ℕ → Type 0) (s : Substitution) (e : ℕ → ℕ) → ((x : ℕ) → Reach M At (s x) (e x)) → (t : Term) (q : ℕ) → Reach M (at e) t q → Reach M At (apply s t) q
  joined M At s e each (var x) q h = subst (Reach M At (s x)) (sym h) (each x)
  joined M At s e each (app f ts) q (qs, m, h) = (qs, m, all_joined M At s e each ts qs h)

  all_joined : (M : Moves) (At : ℕ → ℕ → Type 0) (s : Substitution) (e : ℕ → ℕ) → ((x : ℕ) → Reach M At (s x) (e x)) → (ts : Terms) (qs : List ℕ) → ReachAll M (at e) ts qs
      → ReachAll M At (apply_all s ts) qs
  all_joined M At s e each nil qs h = h
  all_joined M At s e each (cons t ts) [] h = absurd h
  all_joined M At s e each (cons t ts) (q ∷ qs) (h, hs) = (joined M At s e each t q h, all_joined M At s e each ts qs hs)

-- more states for variables
mutual
  pub reach-mono : (M : Moves) (At Bt : ℕ → ℕ → Type 0) → ((x q : ℕ) → At x q → Bt x q) → (t : Term) (q : ℕ) → Reach M At t q → Reach M Bt t q
  reach-mono M At Bt f (var x) q h = f x q h
  reach-mono M At Bt f (app g ts) q (qs, m, h) = (qs, m, reach_all-mono M At Bt f ts qs h)

  reach_all-mono : (M : Moves) (At Bt : ℕ → ℕ → Type 0) → ((x q : ℕ) → At x q → Bt x q) → (ts : Terms) (qs : List ℕ) → ReachAll M At ts qs → ReachAll M Bt ts qs
  reach_all-mono M At Bt f nil qs h = h
  reach_all-mono M At Bt f (cons t ts) [] h = absurd h
  reach_all-mono M At Bt f (cons t ts) (q ∷ qs) (h, hs) = (reach-mono M At Bt f t q h, reach_all-mono M At Bt f ts qs hs)

-- what a term reaches is a state
pub runs_to_state : (symbols : Symbols) (a : Automaton) (t : Term) (q : ℕ) → Runs symbols a t q → IsState a q
runs_to_state symbols a (var x) q h = h.target
runs_to_state symbols a (app f ts) q (qs, m, h) = m.target

-- the states of a run of an instance are a choice
pub choice_of : (symbols : Symbols) (a : Automaton) (s : Substitution) (t : Term) (q : ℕ) (r : Split (Has symbols a) (λ x p. Has symbols a None [] p) s t q) → IsChoice a.states t r.states
choice_of symbols a s t q r =
    record {
      each = length-each (λ x c. Runs symbols a (s x) c) (variable_occurrences t) r.states r.each;
      states = each_all (λ x c. Runs symbols a (s x) c) (λ c. c < a.states) (λ x c h. runs_to_state symbols a (s x) c h) (variable_occurrences t) r.states r.each;
    }
