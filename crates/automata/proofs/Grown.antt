-- A grown automaton is closed: what each rule asks for is between its states.
use Rattle.std.proofs.Common.{ℕ, zero, suc, ◌≡◌, ◌+◌, ◌<◌, ◌≤◌, List, [], Option, None, Some, All, Contains, replicate, refl, sym, ap, ◌∙◌, subst, arith}
use Rattle.std.proofs.lemmas.List.Elements.{All-nil, All-replicate, All-weaker, All-contains, Contains-push}
use Rattle.std.proofs.lemmas.List.{length-replicate}
use Rattle.rewriting.specs.Prelude.{Term, var, app, Rule, System, rule_at, IsWellFormed, variable_occurrences}
use Rattle.certificates.specs.Evidence.{Transition, Automaton}
use Rattle.automata.specs.Runs.{Symbols, IsHead, Has, ReachBy}
use Rattle.automata.specs.Closed.{IsChoice, state_of, IsKept, HasOver, IsClosed, AcceptsAll}
use Rattle.automata.specs.Growth.{inner, proper, top, inside, grown, first_state, moves, IsGrowthOf, HasStates}
use Rattle.automata.specs.Evidence.{IsAccepted}
use Rattle.automata.specs.Laws.{IsWellGrown}
use Rattle.automata.proofs.Asked.{IsUnder, inside_under, grown_under, by-mono, end_below, state_below, top_below, inside_states, run_inside, grown_states, before_count, run_grown}

-- a transition for a variable has no arguments
plain : (symbols : Symbols) (symbol : Option ℕ) (qs : List ℕ) → IsHead symbols symbol qs → IsHead None symbol qs
plain symbols None qs h = h
plain symbols (Some f) qs h = tt

module _ (sys : System) (s : Term) (a : Automaton) (well : IsWellFormed sys) (growth : IsGrowthOf sys s a) where
  -- there are enough states
  some_state : 0 < a.states
  some_state = let e = growth.states in omega (arith, e)

  enough_states : (i : ℕ) (r : Rule) → rule_at sys (suc i) ≡ Some r → first_state sys s i + proper r.right ≤ a.states
  enough_states i r is =
      let h = before_count sys.rules i r is in
      let e = growth.states in
      omega (arith, h, e)

  -- a transition that is asked for between them
  has : (symbols : Symbols) (d : Transition) → Contains a.transitions d → HasStates a.states d → IsHead symbols d.symbol d.arguments → Has symbols a d.symbol d.arguments d.target
  has symbols d h good head = record { listed = h; head = head; arguments = good.arguments; target = good.target }

  had : (t : Term) (cs : List ℕ) (q : ℕ) → ReachBy (HasOver sys a) t cs q → ReachBy (moves a.transitions) t cs q
  had = by-mono (HasOver sys a) (moves a.transitions) (λ symbol qs q h. h.listed)

  -- where a left side reaches q, the right side is kept
  right_kept : (i : ℕ) (r : Rule) (cs : List ℕ) (q : ℕ) → rule_at sys (suc i) ≡ Some r → IsChoice a.states r.left cs → ReachBy (HasOver sys a) r.left cs q
      → (t : Term) → r.right ≡ t → IsKept (HasOver sys a) (state_of (variable_occurrences r.left) cs) t q
  right_kept i r cs q is choice h (var x) e = λ symbol qs m.
      has (Some sys.arities) (record { symbol = symbol; arguments = qs; target = q })
      (growth.transitions.grown_set.twins i r cs q x symbol qs is e (subst (λ n. IsChoice n r.left cs) growth.states choice) (had r.left cs q h) m.listed)
      record { head = plain (Some sys.arities) symbol qs m.head; arguments = m.arguments; target = end_below a.states (HasOver sys a) (λ symbol qs p k. k.target) r.left cs q choice.states h }
      m.head
  right_kept i r cs q is choice h (app f ts) e =
      let values = state_of (variable_occurrences r.left) cs in
      let n = first_state sys s i in
      let target : q < a.states = end_below a.states (HasOver sys a) (λ symbol qs p k. k.target) r.left cs q choice.states h in
      let good : All (HasStates a.states) (grown values n r.right q) =
      grown_states a.states values (state_below a.states some_state (variable_occurrences r.left) cs choice.states) r.right n q target (enough_states i r is) in
      let under : All (IsUnder sys.arities) (grown values n r.right q) = grown_under sys.arities values r.right n q (well (suc i) r is).over.1.0 in
      let back : (d : Transition) → Contains (grown values n (app f ts) q) d → Contains (grown values n r.right q) d =
      λ d c. subst (λ t. Contains (grown values n t q) d) (sym e) c in
      run_grown (HasOver sys a) values f ts n q
      (λ d c. has (Some sys.arities) d (growth.transitions.grown_set.right i r cs q d is (subst (λ k. IsChoice k r.left cs) growth.states choice) (had r.left cs q h) (back d c))
      (All-contains (HasStates a.states) (grown values n r.right q) d good (back d c)) (All-contains (IsUnder sys.arities) (grown values n r.right q) d under (back d c)))

  grown_closed : IsClosed sys a
  grown_closed zero r cs q is choice h = absurd (cc)
  grown_closed (suc i) r cs q is choice h = right_kept i r cs q is choice h r.right refl

  grown_accepts_all : AcceptsAll sys (HasOver sys a)
  grown_accepts_all =
      record {
        symbols = λ f n e. has (Some sys.arities) (record { symbol = Some f; arguments = replicate n 0; target = 0 }) (growth.transitions.grown_set.symbols f n e)
            record { head = tt; arguments = All-replicate (λ q. q < a.states) n 0 some_state; target = some_state }
            (e ∙ ap Some (sym (length-replicate n 0)));
        variables = has (Some sys.arities) (record { symbol = None; arguments = []; target = 0 }) growth.transitions.grown_set.variables
            record { head = refl; arguments = All-nil (λ q. q < a.states); target = some_state } refl;
      }

  -- the term that it grows from is accepted
  grown_accepts : (symbols : Symbols) → All (λ d. IsHead symbols d.symbol d.arguments) (inside (λ x. 0) 1 s) → IsAccepted symbols a s
  grown_accepts symbols heads =
      let q = top (λ x. 0) 1 s in
      let enough : 1 + inner s ≤ a.states = (let e = growth.states in omega (arith, e)) in
      let state : q < a.states = top_below a.states (λ x. 0) (λ x. some_state) s 1 enough in
      let good = inside_states a.states (λ x. 0) (λ x. some_state) s 1 enough in (
        q,
        (subst (λ qs. Contains qs q) (sym growth.accepting) (Contains-push [] q), state),
        (
          state,
          run_inside (Has symbols a) (λ x. 0) s 1
              (λ d c. has symbols d (growth.transitions.grown_set.start d c) (All-contains (HasStates a.states) (inside (λ x. 0) 1 s) d good c)
              (All-contains (λ d. IsHead symbols d.symbol d.arguments) (inside (λ x. 0) 1 s) d heads c)),
        ),
      )

  pub grown_well : IsWellGrown sys s a
  grown_well =
      let enough : 1 + inner s ≤ a.states = (let e = growth.states in omega (arith, e)) in
      let good = inside_states a.states (λ x. 0) (λ x. some_state) s 1 enough in
      record {
        closed = grown_closed;
        accepts_all = grown_accepts_all;
        accepts = grown_accepts None (All-weaker (HasStates a.states) (λ d. IsHead None d.symbol d.arguments) (λ d g. g.head) (inside (λ x. 0) 1 s) good);
        accepts_over = λ over. grown_accepts (Some sys.arities) (inside_under sys.arities (λ x. 0) s 1 over);
      }
