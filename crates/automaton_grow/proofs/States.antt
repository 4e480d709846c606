-- The numbers of the transitions that are asked for are states.
use Rattle.std.proofs.Common.{◌≡◌, ℕ, zero, suc, ◌+◌, ◌<◌, ◌≤◌, ◌⊎◌, inl, inr, refl, sym, ap, ◌∙◌, subst, List, [], ◌∷◌, Some, Bool, true, false, arith}
use Rattle.std.specs.Prelude.{Contains, All, slice_get, nat_eq, if◌then◌else◌}
use Rattle.std.proofs.lemmas.List.Elements.{All-nil, All-head, All-replicate, All-contains}
use Rattle.rewriting.specs.Prelude.{Term, var, app, Rule, System, variable_occurrences}
use Rattle.certificates.specs.Evidence.{Transition}
use Rattle.automata.specs.Runs.{ReachBy}
use Rattle.automata.specs.Closed.{state_of}
use Rattle.automata.specs.Growth.{proper, inside, grown, proper_before, first_state, state_count, moves, HasStates}
use Rattle.automata.proofs.Asked.{state_below, inside_states, grown_states, before_count, contains_head, contains_tail}
use Rattle.automaton_grow.specs.Growing.{IsBasic, for_symbol, for_variables, for_term, twins, twins_of, IsAskedByRule}
use Rattle.automaton_grow.proofs.Adding.{contains_cases, contains_none}
use Rattle.std.proofs.Common.{eqb-true, eq-eqb}

-- where a twin comes from
pub record IsTwin (p q : ℕ) (ds : List Transition) (d : Transition) : Type 0 where
  pub source : Transition
  pub stands : Contains ds source
  pub leads : source.target ≡ p
  pub same : d ≡ record source { target = q }

later_twin : (p q : ℕ) (c : Transition) (ds : List Transition) (d : Transition) → IsTwin p q ds d → IsTwin p q (c ∷ ds) d
later_twin p q c ds d t = record { source = t.source; stands = contains_tail c ds t.source t.stands; leads = t.leads; same = t.same }

pub twin_from : (p q : ℕ) (ds : List Transition) (d : Transition) → Contains (twins p q ds) d → IsTwin p q ds d
twin_from p q [] d h = absurd (contains_none d h)
twin_from p q (c ∷ ds) d h = go (λ k. later_twin p q c ds d (twin_from p q ds d k)) (nat_eq c.target p) refl h
  where
    first : (Contains (twins p q ds) d → IsTwin p q (c ∷ ds) d) → nat_eq c.target p ≡ true → (d ≡ record c { target = q }) ⊎ Contains (twins p q ds) d → IsTwin p q (c ∷ ds) d
    first rest e (inl same) = record { source = c; stands = contains_head c ds; leads = eqb-true c.target p e; same = same }
    first rest e (inr k) = rest k

    go : (Contains (twins p q ds) d → IsTwin p q (c ∷ ds) d) → (b : Bool) → nat_eq c.target p ≡ b
        → Contains (if b then (record c { target = q }) ∷ twins p q ds else twins p q ds) d → IsTwin p q (c ∷ ds) d
    go rest true e k = first rest e (contains_cases (record c { target = q }) (twins p q ds) d k)
    go rest false e k = rest k

-- a twin at the state itself is the transition
pub own_twin : (p : ℕ) (ds : List Transition) (d : Transition) → Contains (twins p p ds) d → Contains ds d
own_twin p ds d h =
    let t = twin_from p p ds d h in
    subst (Contains ds) (sym (t.same ∙ ap (λ (z : ℕ). record t.source { target = z }) (sym t.leads))) t.stands

pub twin_in : (p q : ℕ) (ds : List Transition) (c : Transition) → Contains ds c → c.target ≡ p → Contains (twins p q ds) (record c { target = q })
twin_in p q [] c h e = absurd (contains_none c h)
twin_in p q (b ∷ ds) c h e = go (λ k. twin_in p q ds c k e) (contains_cases b ds c h)
  where
    rest : (t : Bool) → Contains (twins p q ds) (record c { target = q }) → Contains (if t then (record b { target = q }) ∷ twins p q ds else twins p q ds) (record c { target = q })
    rest true k = contains_tail (record b { target = q }) (twins p q ds) (record c { target = q }) k
    rest false k = k

    go : (Contains ds c → Contains (twins p q ds) (record c { target = q })) → (c ≡ b) ⊎ Contains ds c → Contains (twins p q (b ∷ ds)) (record c { target = q })
    go later (inl same) =
        let leads : nat_eq b.target p ≡ true = eq-eqb b.target p (ap (λ z. z.target) (sym same) ∙ e) in
        subst (λ t. Contains (if t then (record b { target = q }) ∷ twins p q ds else twins p q ds) (record c { target = q })) (sym leads)
        (subst (λ z. Contains ((record b { target = q }) ∷ twins p q ds) (record z { target = q })) (sym same) (contains_head (record b { target = q }) (twins p q ds)))
    go later (inr k) = rest (nat_eq b.target p) (later k)

pub proper_none : (rs : List Rule) → proper_before 0 rs ≡ 0
proper_none [] = refl
proper_none (r ∷ rs) = refl

-- how many states there are before and with a rule
pub proper_at : (rs : List Rule) (i : ℕ) (r : Rule) → slice_get rs i ≡ Some r → proper_before (suc i) rs ≡ proper_before i rs + proper r.right
proper_at [] i r e = absurd (cc)
proper_at (a ∷ rs) zero r e = let same : a ≡ r = cc in let h : proper a.right ≡ proper r.right = ap (λ z. proper z.right) same in omega (arith, proper_none rs)
proper_at (a ∷ rs) (suc i) r e = let rest = proper_at rs i r e in omega arith

pub room_at : (sys : System) (s : Term) (i : ℕ) (r : Rule) → slice_get sys.rules i ≡ Some r → first_state sys s i + proper r.right ≤ state_count sys s
room_at sys s i r e = let h = before_count sys.rules i r e in omega arith

reached_below : (n : ℕ) (ds : List Transition) (t : Term) (cs : List ℕ) (q : ℕ) → ((d : Transition) → Contains ds d → HasStates n d) → All (λ p. p < n) cs → ReachBy (moves ds) t cs q → q < n
reached_below n ds (var x) cs q good all e = All-head (λ p. p < n) q [] (subst (All (λ p. p < n)) e all)
reached_below n ds (app f ts) cs q good all (qs, m, h) = (good (record { symbol = Some f; arguments = qs; target = q }) m).target

-- what state 0 and the term ask for
pub basic_states : (sys : System) (s : Term) (d : Transition) → IsBasic sys s d → HasStates (state_count sys s) d
basic_states sys s d (for_symbol f n arity same) = subst (HasStates (state_count sys s)) (sym same)
    (record { head = tt; arguments = All-replicate (λ q. q < state_count sys s) n 0 (omega arith); target = omega arith })
basic_states sys s d (for_variables same) = subst (HasStates (state_count sys s)) (sym same) (record { head = refl; arguments = All-nil (λ q. q < state_count sys s); target = omega arith })
basic_states sys s d (for_term h) =
    All-contains (HasStates (state_count sys s)) (inside (λ x. 0) 1 s) d (inside_states (state_count sys s) (λ x. 0) (λ x. omega arith) s 1 (omega arith)) h

-- what a rule asks for
pub rule_states : (n k : ℕ) (r : Rule) (ds : List Transition) (d : Transition) → 0 < n → k + proper r.right ≤ n → ((c : Transition) → Contains ds c → HasStates n c)
    → IsAskedByRule n k r ds d → HasStates n d
rule_states n k r ds d some room good a = go a.asked
  where
    e : ℕ → ℕ
    e = state_of (variable_occurrences r.left) a.choice

    low : a.state < n
    low = reached_below n ds r.left a.choice a.state good a.is_choice.states a.reached

    twin : (t : Term) → Contains (twins_of e t a.state ds) d → HasStates n d
    twin (app f ts) h = absurd (contains_none d h)
    twin (var x) h =
        let t = twin_from (e x) a.state ds d h in
        let g = good t.source t.stands in
        subst (HasStates n) (sym t.same) (record { head = g.head; arguments = g.arguments; target = low })

    go : Contains (grown e k r.right a.state) d ⊎ Contains (twins_of e r.right a.state ds) d → HasStates n d
    go (inl h) = All-contains (HasStates n) (grown e k r.right a.state) d (grown_states n e (state_below n some (variable_occurrences r.left) a.choice a.is_choice.states) r.right k a.state low room) h
    go (inr h) = twin r.right h
