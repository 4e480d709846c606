-- Whatever is added is asked for, and a set to which a round adds nothing is grown.
use Rattle.std.proofs.Common.{◌≡◌, ℕ, ◌<◌, ◌≤◌, ◌⊎◌, inl, inr, refl, sym, subst, List, [], length, replicate, Option, Some, None, arith}
use Rattle.std.specs.Prelude.{Contains, slice_get}
use Rattle.std.proofs.lemmas.Option.{slice_get_within}
use Rattle.rewriting.specs.Prelude.{Term, var, app, Rule, System, variable_occurrences}
use Rattle.certificates.specs.Evidence.{Transition}
use Rattle.automata.specs.Runs.{Has, ReachBy}
use Rattle.automata.specs.Closed.{state_of}
use Rattle.automata.proofs.Asked.{by-mono}
use Rattle.automata.specs.Growth.{grown, first_state, state_count, moves, IsGrown, IsAsked, AreLeast, AreTransitionsMany, HasStates}
use Rattle.automaton_grow.specs.Growing.{IsBasic, for_symbol, for_variables, for_term, twins_of, IsAskedByRule, IsAskedBelow, IsPartOf, IsAdded, IsPartial}
use Rattle.automaton_grow.proofs.Adding.{contains_none}
use Rattle.automaton_grow.proofs.States.{twin_from, twin_in, basic_states, rule_states, room_at}

-- an automaton with these transitions has them all, and no more
pub moves_had : (n : ℕ) (accepting : List ℕ) (ds : List Transition) → ((d : Transition) → Contains ds d → HasStates n d) → (f : Option ℕ) (qs : List ℕ) (q : ℕ) → moves ds f qs q
    → Has None (record { states = n; accepting = accepting; transitions = ds }) f qs q
moves_had n accepting ds good f qs q h =
    let g = good (record { symbol = f; arguments = qs; target = q }) h in record { listed = h; head = g.head; arguments = g.arguments; target = g.target }

pub basic_asked : (sys : System) (s : Term) (d : Transition) → IsBasic sys s d → IsAsked sys s d
basic_asked sys s d (for_symbol f n arity same) ds g = subst (Contains ds) (sym same) (g.symbols f n arity)
basic_asked sys s d (for_variables same) ds g = subst (Contains ds) (sym same) g.variables
basic_asked sys s d (for_term h) ds g = g.start d h

-- what a rule asks for among transitions that are asked for, is asked for
rule_asked : (sys : System) (s : Term) (i : ℕ) (r : Rule) (ds : List Transition) (d : Transition) → slice_get sys.rules i ≡ Some r → ((c : Transition) → Contains ds c → IsAsked sys s c)
    → IsAskedByRule (state_count sys s) (first_state sys s i) r ds d → IsAsked sys s d
rule_asked sys s i r ds d is_rule all a es g = go a.asked
  where
    e : ℕ → ℕ
    e = state_of (variable_occurrences r.left) a.choice

    reached : ReachBy (moves es) r.left a.choice a.state
    reached = by-mono (moves ds) (moves es) (λ f qs q m. all (record { symbol = f; arguments = qs; target = q }) m es g) r.left a.choice a.state a.reached

    twin : (t : Term) → r.right ≡ t → Contains (twins_of e t a.state ds) d → Contains es d
    twin (app f ts) same h = absurd (contains_none d h)
    twin (var x) same h =
        let t = twin_from (e x) a.state ds d h in
        let there : moves es t.source.symbol t.source.arguments (e x) = subst (moves es t.source.symbol t.source.arguments) t.leads (all t.source t.stands es g) in
        subst (Contains es) (sym t.same) (g.twins i r a.choice a.state x t.source.symbol t.source.arguments is_rule same a.is_choice reached there)

    go : Contains (grown e (first_state sys s i) r.right a.state) d ⊎ Contains (twins_of e r.right a.state ds) d → Contains es d
    go (inl h) = g.right i r a.choice a.state d is_rule a.is_choice reached h
    go (inr h) = twin r.right refl h

pub below_asked : (sys : System) (s : Term) (k : ℕ) (ds : List Transition) (d : Transition) → ((c : Transition) → Contains ds c → IsAsked sys s c) → IsAskedBelow sys s k ds d → IsAsked sys s d
below_asked sys s k ds d all a = rule_asked sys s a.number a.rule ds d a.is_rule all a.by_rule

pub below_states : (sys : System) (s : Term) (k : ℕ) (ds : List Transition) (d : Transition) → ((c : Transition) → Contains ds c → HasStates (state_count sys s) c)
    → IsAskedBelow sys s k ds d → HasStates (state_count sys s) d
below_states sys s k ds d all a = rule_states (state_count sys s) (first_state sys s a.number) a.rule ds d (omega arith) (room_at sys s a.number a.rule a.is_rule) all a.by_rule

asked_after : (sys : System) (s : Term) (k : ℕ) (ds : List Transition) → IsPartial sys s ds → (d : Transition) → Contains ds d ⊎ IsAskedBelow sys s k ds d → IsAsked sys s d
asked_after sys s k ds old d (inl h) = old.asked d h
asked_after sys s k ds old d (inr h) = below_asked sys s k ds d old.asked h

basic_after : (sys : System) (s : Term) (d : Transition) → Contains [] d ⊎ IsBasic sys s d → IsBasic sys s d
basic_after sys s d (inl h) = absurd (contains_none d h)
basic_after sys s d (inr h) = h

-- what a round makes of such a set is such a set again
pub next_partial : (sys : System) (s : Term) (k : ℕ) (ds es : List Transition) → IsPartial sys s ds → IsAdded (IsAskedBelow sys s k ds) ds es → length es ≤ 5000 → IsPartial sys s es
next_partial sys s k ds es old new few = record {
  asked = λ d h. asked_after sys s k ds old d (new.part.only d h);
  states = λ d h. states d (new.part.only d h);
  basic = λ d h. new.kept d (old.basic d h);
  sorted = new.part.sorted;
  few = few;
}
  where
    states : (d : Transition) → Contains ds d ⊎ IsAskedBelow sys s k ds d → HasStates (state_count sys s) d
    states d (inl h) = old.states d h
    states d (inr h) = below_states sys s k ds d old.states h

pub next_many : (sys : System) (s : Term) (k : ℕ) (ds es : List Transition) → IsPartial sys s ds → IsPartOf (IsAskedBelow sys s k ds) ds es → 5000 < length es → AreTransitionsMany sys s
next_many sys s k ds es old new many = record { some = es; many = many; asked = λ d h. asked_after sys s k ds old d (new.only d h); different = new.sorted }

-- the first set
pub first_partial : (sys : System) (s : Term) (ds : List Transition) → IsAdded (IsBasic sys s) [] ds → length ds ≤ 5000 → IsPartial sys s ds
first_partial sys s ds new few = record {
  asked = λ d h. basic_asked sys s d (basic_after sys s d (new.part.only d h));
  states = λ d h. basic_states sys s d (basic_after sys s d (new.part.only d h));
  basic = new.every;
  sorted = new.part.sorted;
  few = few;
}

pub first_many : (sys : System) (s : Term) (ds : List Transition) → IsPartOf (IsBasic sys s) [] ds → 5000 < length ds → AreTransitionsMany sys s
first_many sys s ds new many = record { some = ds; many = many; asked = λ d h. basic_asked sys s d (basic_after sys s d (new.only d h)); different = new.sorted }

-- a set that has what it asks for is the least one
pub least_when_closed : (sys : System) (s : Term) (ds : List Transition) → IsPartial sys s ds → ((d : Transition) → IsAskedBelow sys s (length sys.rules) ds d → Contains ds d) → AreLeast sys s ds
least_when_closed sys s ds part closed = record { grown_set = grown_set; least = part.asked; sorted = part.sorted }
  where
    at : (i : ℕ) (r : Rule) (d : Transition) → slice_get sys.rules i ≡ Some r → IsAskedByRule (state_count sys s) (first_state sys s i) r ds d → Contains ds d
    at i r d is_rule a = closed d (record { number = i; rule = r; below = slice_get_within sys.rules i r is_rule; is_rule = is_rule; by_rule = a })

    grown_set : IsGrown sys s ds
    grown_set = record {
      symbols = λ f n arity. part.basic (record { symbol = Some f; arguments = replicate n 0; target = 0 }) (for_symbol f n arity refl);
      variables = part.basic (record { symbol = None; arguments = []; target = 0 }) (for_variables refl);
      start = λ d h. part.basic d (for_term h);
      right = λ i r cs q d is_rule choice reached h. at i r d is_rule (record { choice = cs; state = q; is_choice = choice; reached = reached; asked = inl h });
      twins = λ i r cs q x symbol qs is_rule var_right choice reached h.
          let c : Transition = record { symbol = symbol; arguments = qs; target = state_of (variable_occurrences r.left) cs x } in
          at i r (record { symbol = symbol; arguments = qs; target = q }) is_rule (record {
            choice = cs;
            state = q;
            is_choice = choice;
            reached = reached;
            asked = inr (subst (λ t. Contains (twins_of (state_of (variable_occurrences r.left) cs) t q ds) (record { symbol = symbol; arguments = qs; target = q }))
                (sym var_right) (twin_in (state_of (variable_occurrences r.left) cs x) q ds c h refl));
          });
    }
