-- Where runs lead, and the transitions that a term or a right side asks for: they are between the states that are counted, and
-- bring the term to its state.
use Rattle.std.proofs.Common.{ℕ, zero, suc, ◌≡◌, ◌+◌, ◌<◌, ◌≤◌, Bool, true, false, nat_eq, if◌then◌else◌, List, [], ◌∷◌, Option, Some, All, Contains, length, slice_get, refl, sym, ap, ◌∙◌, arith}
use Rattle.std.proofs.lemmas.List.Elements.{All-nil, All-cons, All-head, All-tail, All-append, All-same, Contains-push, Contains-append_left, Contains-append_right}
use Rattle.rewriting.specs.Prelude.{Term, var, app, Terms, nil, cons, count, Signature, IsOver, AreOver, Rule}
use Rattle.certificates.specs.Evidence.{Transition}
use Rattle.automata.specs.Runs.{Moves, IsHead, Reach, ReachAll, at, ReachBy, ReachAllBy}
use Rattle.automata.specs.Closed.{state_of}
use Rattle.automata.specs.Growth.{inner, inner_in, proper, top, tops, inside, inside_all, grown, proper_before, HasStates}

-- what stands in a list
pub contains_head : {A : Type 0} (c : A) (ds : List A) → Contains (c ∷ ds) c
contains_head c ds = Contains-append_left (c ∷ []) ds c (Contains-push [] c)

pub contains_tail : {A : Type 0} (c : A) (ds : List A) (d : A) → Contains ds d → Contains (c ∷ ds) d
contains_tail c ds d h = Contains-append_right (c ∷ []) ds d h

-- runs in a larger set, and where they lead
mutual
  pub by-mono : (M N : Moves) → ((symbol : Option ℕ) (qs : List ℕ) (q : ℕ) → M symbol qs q → N symbol qs q) → (t : Term) (cs : List ℕ) (q : ℕ) → ReachBy M t cs q → ReachBy N t cs q
  by-mono M N f (var x) cs q h = h
  by-mono M N f (app g ts) cs q (qs, m, h) = (qs, f (Some g) qs q m, all_by-mono M N f ts cs qs h)

  all_by-mono : (M N : Moves) → ((symbol : Option ℕ) (qs : List ℕ) (q : ℕ) → M symbol qs q → N symbol qs q) → (ts : Terms) (cs qs : List ℕ) → ReachAllBy M ts cs qs → ReachAllBy N ts cs qs
  all_by-mono M N f nil cs qs h = h
  all_by-mono M N f (cons t ts) cs [] h = absurd h
  all_by-mono M N f (cons t ts) cs (q ∷ qs) (before, after, e, h, hs) = (before, after, e, by-mono M N f t before q h, all_by-mono M N f ts after qs hs)

pub end_below : (n : ℕ) (M : Moves) → ((symbol : Option ℕ) (qs : List ℕ) (q : ℕ) → M symbol qs q → q < n) → (t : Term) (cs : List ℕ) (q : ℕ) → All (λ c. c < n) cs → ReachBy M t cs q → q < n
end_below n M f (var x) cs q all e = All-head (λ c. c < n) q [] (All-same (λ c. c < n) (q ∷ []) cs (sym e) all)
end_below n M f (app g ts) cs q all (qs, m, h) = f (Some g) qs q m

either_below : (n c d : ℕ) → c < n → d < n → (b : Bool) → (if b then c else d) < n
either_below n c d h k true = h
either_below n c d h k false = k

pub state_below : (n : ℕ) → 0 < n → (xs cs : List ℕ) → All (λ c. c < n) cs → (x : ℕ) → state_of xs cs x < n
state_below n pos [] cs all x = pos
state_below n pos (y ∷ ys) [] all x = pos
state_below n pos (y ∷ ys) (c ∷ cs) all x =
    either_below n c (state_of ys cs x) (All-head (λ c. c < n) c cs all) (state_below n pos ys cs (All-tail (λ c. c < n) c cs all) x) (nat_eq x y)

-- the transitions of subterms are between the states, where there are enough
pub top_below : (m : ℕ) (e : ℕ → ℕ) → ((x : ℕ) → e x < m) → (t : Term) (n : ℕ) → n + inner t ≤ m → top e n t < m
top_below m e small (var x) n l = small x
top_below m e small (app f ts) n l = omega arith

tops_below : (m : ℕ) (e : ℕ → ℕ) → ((x : ℕ) → e x < m) → (ts : Terms) (n : ℕ) → n + inner_in ts ≤ m → All (λ q. q < m) (tops e n ts)
tops_below m e small nil n l = All-nil (λ q. q < m)
tops_below m e small (cons t ts) n l =
    All-cons (λ q. q < m) (top e n t) (tops e (n + inner t) ts) (top_below m e small t n (omega arith)) (tops_below m e small ts (n + inner t) (omega arith))

mutual
  pub inside_states : (m : ℕ) (e : ℕ → ℕ) → ((x : ℕ) → e x < m) → (t : Term) (n : ℕ) → n + inner t ≤ m → All (HasStates m) (inside e n t)
  inside_states m e small (var x) n l = All-nil (HasStates m)
  inside_states m e small (app f ts) n l =
      All-cons (HasStates m) (record { symbol = Some f; arguments = tops e (suc n) ts; target = n }) (inside_all e (suc n) ts)
      record { head = tt; arguments = tops_below m e small ts (suc n) (omega arith); target = omega arith }
      (inside_all_states m e small ts (suc n) (omega arith))

  inside_all_states : (m : ℕ) (e : ℕ → ℕ) → ((x : ℕ) → e x < m) → (ts : Terms) (n : ℕ) → n + inner_in ts ≤ m → All (HasStates m) (inside_all e n ts)
  inside_all_states m e small nil n l = All-nil (HasStates m)
  inside_all_states m e small (cons t ts) n l =
      All-append (HasStates m) (inside e n t) (inside_all e (n + inner t) ts) (inside_states m e small t n (omega arith)) (inside_all_states m e small ts (n + inner t) (omega arith))

pub grown_states : (m : ℕ) (e : ℕ → ℕ) → ((x : ℕ) → e x < m) → (t : Term) (n q : ℕ) → q < m → n + proper t ≤ m → All (HasStates m) (grown e n t q)
grown_states m e small (var x) n q k l = All-nil (HasStates m)
grown_states m e small (app f ts) n q k l =
    All-cons (HasStates m) (record { symbol = Some f; arguments = tops e n ts; target = q }) (inside_all e n ts) record { head = tt; arguments = tops_below m e small ts n l; target = k }
    (inside_all_states m e small ts n l)

-- their heads are symbols of a signature, where the term is over it
count_tops : (e : ℕ → ℕ) (ts : Terms) (n : ℕ) → count ts ≡ length (tops e n ts)
count_tops e nil n = refl
count_tops e (cons t ts) n = ap suc (count_tops e ts (n + inner t))

abbrev pub IsUnder : Signature → Transition → Type 0
IsUnder arities d = IsHead (Some arities) d.symbol d.arguments

mutual
  pub inside_under : (arities : Signature) (e : ℕ → ℕ) (t : Term) (n : ℕ) → IsOver arities t → All (IsUnder arities) (inside e n t)
  inside_under arities e (var x) n over = All-nil (IsUnder arities)
  inside_under arities e (app f ts) n (over, all) =
      All-cons (IsUnder arities) (record { symbol = Some f; arguments = tops e (suc n) ts; target = n }) (inside_all e (suc n) ts) (over ∙ ap Some (count_tops e ts (suc n)))
      (inside_all_under arities e ts (suc n) all)

  inside_all_under : (arities : Signature) (e : ℕ → ℕ) (ts : Terms) (n : ℕ) → AreOver arities ts → All (IsUnder arities) (inside_all e n ts)
  inside_all_under arities e nil n over = All-nil (IsUnder arities)
  inside_all_under arities e (cons t ts) n (over, all) =
      All-append (IsUnder arities) (inside e n t) (inside_all e (n + inner t) ts) (inside_under arities e t n over) (inside_all_under arities e ts (n + inner t) all)

pub grown_under : (arities : Signature) (e : ℕ → ℕ) (t : Term) (n q : ℕ) → IsOver arities t → All (IsUnder arities) (grown e n t q)
grown_under arities e (var x) n q over = All-nil (IsUnder arities)
grown_under arities e (app f ts) n q (over, all) =
    All-cons (IsUnder arities) (record { symbol = Some f; arguments = tops e n ts; target = q }) (inside_all e n ts) (over ∙ ap Some (count_tops e ts n)) (inside_all_under arities e ts n all)

-- there are enough states
pub before_count : (rs : List Rule) (i : ℕ) (r : Rule) → slice_get rs i ≡ Some r → proper_before i rs + proper r.right ≤ proper_before (length rs) rs
before_count [] i r e = absurd (cc)
before_count (d ∷ rs) zero r e = let same : proper r.right ≡ proper d.right = (let q : r ≡ d = cc in ap (λ (z : Rule). proper z.right) q) in omega arith
before_count (d ∷ rs) (suc i) r e = let rest = before_count rs i r e in omega arith

-- a set that has the transitions of subterms brings the term to its state
mutual
  pub run_inside : (M : Moves) (e : ℕ → ℕ) (t : Term) (n : ℕ) → ((d : Transition) → Contains (inside e n t) d → M d.symbol d.arguments d.target) → Reach M (at e) t (top e n t)
  run_inside M e (var x) n has = refl
  run_inside M e (app f ts) n has =
      let d : Transition = record { symbol = Some f; arguments = tops e (suc n) ts; target = n } in
      (tops e (suc n) ts, has d (contains_head d (inside_all e (suc n) ts)), run_inside_all M e ts (suc n) (λ c h. has c (contains_tail d (inside_all e (suc n) ts) c h)))

  run_inside_all : (M : Moves) (e : ℕ → ℕ) (ts : Terms) (n : ℕ) → ((d : Transition) → Contains (inside_all e n ts) d → M d.symbol d.arguments d.target) → ReachAll M (at e) ts (tops e n ts)
  run_inside_all M e nil n has = refl
  run_inside_all M e (cons t ts) n has = (
    run_inside M e t n (λ d h. has d (Contains-append_left (inside e n t) (inside_all e (n + inner t) ts) d h)),
    run_inside_all M e ts (n + inner t) (λ d h. has d (Contains-append_right (inside e n t) (inside_all e (n + inner t) ts) d h)),
  )

pub run_grown : (M : Moves) (e : ℕ → ℕ) (f : ℕ) (ts : Terms) (n q : ℕ) → ((d : Transition) → Contains (grown e n (app f ts) q) d → M d.symbol d.arguments d.target) → Reach M (at e) (app f ts) q
run_grown M e f ts n q has =
    let d : Transition = record { symbol = Some f; arguments = tops e n ts; target = q } in
    (tops e n ts, has d (contains_head d (inside_all e n ts)), run_inside_all M e ts n (λ c h. has c (contains_tail d (inside_all e n ts) c h)))
