-- The states of pools: those that stand at a place in transitions, in order; and by no other does a term arrive.
use Rattle.std.proofs.Common.{◌≡◌, ◌↔◌, ◌⊎◌, inl, inr, ⊎_elim, ℕ, zero, suc, ◌+◌, ◌<◌, Bool, true, List, [], ◌∷◌, ◌++◌, filter, length, AllPairs, All, Some, slice_get, refl, ap}
use Rattle.std.proofs.Common.{sym, subst, ◌∙◌, length-append, arith}
use Rattle.std.proofs.lemmas.Bool.{false≢true, or_cases, or_right, or_left}
use Rattle.std.proofs.lemmas.List.Elements.{All-head}
use Rattle.std.proofs.lemmas.Option.{get_or_from_slice_get, slice_get_within}
use Rattle.rewriting.specs.Prelude.{Term, Terms, var, app, nil, cons, IsAmong, variable_occurrences, variable_occurrences_of}
use Rattle.rewriting.proofs.Lists.{among_left, among_right, among_either}
use Rattle.certificates.specs.Evidence.{Transition}
use Rattle.automata.specs.Runs.{ReachBy, ReachAllBy}
use Rattle.automata.specs.Closed.{IsChoice}
use Rattle.number_sets.specs.Sets.{below}
use Rattle.number_sets.proofs.Members.{in_below, of_below, below_ascending, filtered_ascending, same_numbers, in_filter, filter_in}
use Rattle.automaton_runs.specs.Counted.{Indexed, Finds}
use Rattle.automaton_runs.specs.Counting.{is_number}
use Rattle.automaton_runs.specs.Choices.{AreOf}
use Rattle.automaton_runs.specs.Pools.{stands_in, with_symbol, states_at, pools_at, pools_from, pools_of}
use Rattle.automaton_runs.proofs.Counted.{number_is, is_the_number, symbol_from, symbol_to}
use Rattle.automaton_runs.proofs.ChoiceLists.{of_both}

-- a transition has the state at the place
stands_from : (place q : ℕ) (ts : List Transition) → stands_in place q ts ≡ true → (t : Transition) × IsAmong t ts × (slice_get t.arguments place ≡ Some q)
stands_from place q [] e = absurd (false≢true e)
stands_from place q (t ∷ ts) e =
    ⊎_elim (λ h. (t, inl refl, number_is (slice_get t.arguments place) q h)) (λ h. let r = stands_from place q ts h in (r.0, inr r.1, r.2))
    (or_cases (is_number (slice_get t.arguments place) q) (stands_in place q ts) e)

stands_to : (place q : ℕ) (ts : List Transition) (t : Transition) → IsAmong t ts → slice_get t.arguments place ≡ Some q → stands_in place q ts ≡ true
stands_to place q [] t h e = absurd h
stands_to place q (u ∷ ts) t (inl same) e =
    or_left (is_number (slice_get u.arguments place) q) (stands_in place q ts) (is_the_number (slice_get u.arguments place) q (ap (λ (v : Transition). slice_get v.arguments place) (sym same) ∙ e))
stands_to place q (u ∷ ts) t (inr h) e = or_right (is_number (slice_get u.arguments place) q) (stands_in place q ts) (stands_to place q ts t h e)

-- one more transition
pub stands_more : (place q : ℕ) (ts : List Transition) (t : Transition) → (stands_in place q (ts ++ t ∷ []) ≡ true) ↔ ((stands_in place q ts ≡ true) ⊎ (slice_get t.arguments place ≡ Some q))
stands_more place q ts t = (into, back)
  where
    into : stands_in place q (ts ++ t ∷ []) ≡ true → (stands_in place q ts ≡ true) ⊎ (slice_get t.arguments place ≡ Some q)
    into e =
        let r = stands_from place q (ts ++ t ∷ []) e in
        ⊎_elim (λ h. inl (stands_to place q ts r.0 h r.2)) (λ h. inr (⊎_elim (λ f. ap (λ (v : Transition). slice_get v.arguments place) (sym f) ∙ r.2) (λ f. absurd f) h))
        (among_either r.0 ts (t ∷ []) r.1)

    back : (stands_in place q ts ≡ true) ⊎ (slice_get t.arguments place ≡ Some q) → stands_in place q (ts ++ t ∷ []) ≡ true
    back (inl e) = let r = stands_from place q ts e in stands_to place q (ts ++ t ∷ []) r.0 (among_left r.0 ts (t ∷ []) r.1) r.2
    back (inr e) = stands_to place q (ts ++ t ∷ []) t (among_right t ts (t ∷ []) (inl refl)) e

-- an argument of a transition that counts
argument_below : (n : ℕ) (qs : List ℕ) (place q : ℕ) → All (λ c. c < n) qs → slice_get qs place ≡ Some q → q < n
argument_below n qs place q all e = subst (λ (c : ℕ). c < n) (get_or_from_slice_get qs place q q e) (all place q (slice_get_within qs place q e))

module _ (a : Indexed) where
  pub stands_at : (f place c : ℕ) (qs : List ℕ) (q : ℕ) → Finds a (Some f) qs q → slice_get qs place ≡ Some c → IsAmong c (states_at a f place)
  stands_at f place c qs q has e =
      filter_in (λ s. stands_in place s (with_symbol a f)) c (below a.automaton.states) (in_below a.automaton.states c (argument_below a.automaton.states qs place c has.arguments e))
      (stands_to place c (with_symbol a f) (record { symbol = Some f; arguments = qs; target = q }) (symbol_to a f qs q has) e)

  -- the states that are put into a set
  pub states_are : (f place : ℕ) (set : List ℕ) → AllPairs ◌<◌ set → ((q : ℕ) → IsAmong q set ↔ (stands_in place q (with_symbol a f) ≡ true)) → set ≡ states_at a f place
  states_are f place set up has = same_numbers set (states_at a f place) up (filtered_ascending (λ q. stands_in place q (with_symbol a f)) a.automaton.states) (λ q. (into q, back q))
    where
      into : (q : ℕ) → IsAmong q set → IsAmong q (states_at a f place)
      into q i =
          let r = stands_from place q (with_symbol a f) ((has q).0 i) in
          stands_at f place q r.0.arguments r.0.target (symbol_from a f r.0 r.1) r.2

      back : (q : ℕ) → IsAmong q (states_at a f place) → IsAmong q set
      back q i = (has q).1 (in_filter (λ q. stands_in place q (with_symbol a f)) q (below a.automaton.states) i).1

  -- the states from a place on
  abbrev AllStand : ℕ → ℕ → List ℕ → Type 0
  AllStand f place qs = (j c : ℕ) → slice_get qs j ≡ Some c → IsAmong c (states_at a f (place + j))

  all_stand : (f : ℕ) (qs : List ℕ) (q : ℕ) → Finds a (Some f) qs q → AllStand f 0 qs
  all_stand f qs q has j c e = let same : j ≡ 0 + j = omega arith in subst (λ (p : ℕ). IsAmong c (states_at a f p)) same (stands_at f j c qs q has e)

  stand_first : (f place q : ℕ) (qs : List ℕ) → AllStand f place (q ∷ qs) → IsAmong q (states_at a f place)
  stand_first f place q qs h = let same : place + 0 ≡ place = omega arith in subst (λ (p : ℕ). IsAmong q (states_at a f p)) same (h 0 q refl)

  stand_rest : (f place q : ℕ) (qs : List ℕ) → AllStand f place (q ∷ qs) → AllStand f (suc place) qs
  stand_rest f place q qs h j c e = let same : place + suc j ≡ suc place + j = omega arith in subst (λ (p : ℕ). IsAmong c (states_at a f p)) same (h (suc j) c e)

  mutual
    complete_at : (f place : ℕ) (t : Term) (cs : List ℕ) (q : ℕ) → ReachBy (Finds a) t cs q → IsAmong q (states_at a f place) → AreOf (pools_at a f place t) cs
    complete_at f place (var x) cs q h i = subst (AreOf (states_at a f place ∷ [])) (sym h) (i, tt)
    complete_at f place (app g ts) cs q (qs, has, r) i = complete_from g zero ts cs qs r (all_stand g qs q has)

    complete_from : (f place : ℕ) (ts : Terms) (cs qs : List ℕ) → ReachAllBy (Finds a) ts cs qs → AllStand f place qs → AreOf (pools_from a f place ts) cs
    complete_from f place nil cs qs h stand = subst (AreOf []) (sym h.0) tt
    complete_from f place (cons t ts) cs [] h stand = absurd h
    complete_from f place (cons t ts) cs (q ∷ qs) (before, after, is, one, others) stand =
        subst (AreOf (pools_at a f place t ++ pools_from a f (suc place) ts)) (sym is)
        (of_both (pools_at a f place t) (pools_from a f (suc place) ts) before after (complete_at f place t before q one (stand_first f place q qs stand))
        (complete_from f (suc place) ts after qs others (stand_rest f place q qs stand)))

  -- by other states the term does not arrive
  pub pools_complete : (t : Term) (cs : List ℕ) (q : ℕ) → IsChoice a.automaton.states t cs → ReachBy (Finds a) t cs q → AreOf (pools_of a t) cs
  pools_complete (var x) cs q choice h =
      let low : q < a.automaton.states = All-head (λ c. c < a.automaton.states) q [] (subst (All (λ c. c < a.automaton.states)) h choice.states) in
      subst (AreOf (below a.automaton.states ∷ [])) (sym h) (in_below a.automaton.states q low, tt)
  pools_complete (app f ts) cs q choice (qs, has, r) = complete_from f zero ts cs qs r (all_stand f qs q has)

  -- a pool for each occurrence
  mutual
    long_at : (f place : ℕ) (t : Term) → length (pools_at a f place t) ≡ length (variable_occurrences t)
    long_at f place (var x) = refl
    long_at f place (app g ts) = long_from g zero ts

    long_from : (f place : ℕ) (ts : Terms) → length (pools_from a f place ts) ≡ length (variable_occurrences_of ts)
    long_from f place nil = refl
    long_from f place (cons t ts) =
        let first = long_at f place t in
        let rest = long_from f (suc place) ts in
        omega (arith, length-append (pools_at a f place t) (pools_from a f (suc place) ts), length-append (variable_occurrences t) (variable_occurrences_of ts))

  pub pools_long : (t : Term) → length (pools_of a t) ≡ length (variable_occurrences t)
  pools_long (var x) = refl
  pools_long (app f ts) = long_from f zero ts

  -- of states, in order
  abbrev pub IsPool : List ℕ → Type 0
  IsPool qs = ((q : ℕ) → IsAmong q qs → q < a.automaton.states) × AllPairs (λ x y. x < y) qs

  is_pool : (p : ℕ → Bool) → IsPool (filter p (below a.automaton.states))
  is_pool p = (λ q i. of_below a.automaton.states q (in_filter p q (below a.automaton.states) i).0, filtered_ascending p a.automaton.states)

  mutual
    pools_at_are : (f place : ℕ) (t : Term) (qs : List ℕ) → IsAmong qs (pools_at a f place t) → IsPool qs
    pools_at_are f place (var x) qs (inl e) = subst IsPool (sym e) (is_pool (λ q. stands_in place q (with_symbol a f)))
    pools_at_are f place (var x) qs (inr h) = absurd h
    pools_at_are f place (app g ts) qs h = pools_from_are g zero ts qs h

    pools_from_are : (f place : ℕ) (ts : Terms) (qs : List ℕ) → IsAmong qs (pools_from a f place ts) → IsPool qs
    pools_from_are f place nil qs h = absurd h
    pools_from_are f place (cons t ts) qs h = ⊎_elim (λ i. pools_at_are f place t qs i) (λ i. pools_from_are f (suc place) ts qs i)
        (among_either qs (pools_at a f place t) (pools_from a f (suc place) ts) h)

  pub pools_are : (t : Term) (qs : List ℕ) → IsAmong qs (pools_of a t) → IsPool qs
  pools_are (var x) qs (inl e) = subst IsPool (sym e) (λ q i. of_below a.automaton.states q i, below_ascending a.automaton.states)
  pools_are (var x) qs (inr h) = absurd h
  pools_are (app f ts) qs h = pools_from_are f zero ts qs h
