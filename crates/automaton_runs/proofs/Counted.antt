-- The transitions that count are those that the automaton has.
use Rattle.std.proofs.Common.{◌≡◌, ℕ, ◌<◌, true, nat_lt, nat_eq, eq-eqb, eqb-true, List, [], ◌∷◌, Option, None, Some, length, slice_get, refl, ap, ◌∙◌, subst}
use Rattle.std.specs.List.{filter, All}
use Rattle.std.proofs.lemmas.Bool.{false≢true, and_parts, and_from, ltb-true, lt-ltb}
use Rattle.std.proofs.lemmas.List.Elements.{All-nil, All-cons, All-head, All-tail}
use Rattle.number_sets.proofs.Members.{in_filter, filter_in}
use Rattle.certificates.specs.Evidence.{Transition}
use Rattle.automata.specs.Runs.{Symbols, HasArity, IsHead}
use Rattle.automaton_runs.specs.Counted.{Indexed, Finds}
use Rattle.rewriting.specs.Lists.{IsAmong}
use Rattle.rewriting.proofs.Members.{among_contained, contained_among}
use Rattle.automaton_runs.specs.Counting.{are_below, has_arity, is_head, counts, is_number, chosen, symbol_key}

states_below : (n : ℕ) (qs : List ℕ) → are_below n qs ≡ true → All (λ q. q < n) qs
states_below n [] e = All-nil (λ q. q < n)
states_below n (q ∷ qs) e =
    let p = and_parts (nat_lt q n) (are_below n qs) e in All-cons (λ r. r < n) q qs (ltb-true q n p.0) (states_below n qs p.1)

below_states : (n : ℕ) (qs : List ℕ) → All (λ q. q < n) qs → are_below n qs ≡ true
below_states n [] h = refl
below_states n (q ∷ qs) h =
    and_from (nat_lt q n) (are_below n qs) (lt-ltb q n (All-head (λ r. r < n) q qs h)) (below_states n qs (All-tail (λ r. r < n) q qs h))

pub number_is : (o : Option ℕ) (q : ℕ) → is_number o q ≡ true → o ≡ Some q
number_is None q e = absurd (false≢true e)
number_is (Some p) q e = ap Some (eqb-true p q e)

pub is_the_number : (o : Option ℕ) (q : ℕ) → o ≡ Some q → is_number o q ≡ true
is_the_number o q e = ap (λ (p : Option ℕ). is_number p q) e ∙ eq-eqb q q refl

arity_from : (symbols : Symbols) (f n : ℕ) → has_arity symbols f n ≡ true → HasArity symbols f n
arity_from None f n e = tt
arity_from (Some arities) f n e = number_is (slice_get arities f) n e

arity_to : (symbols : Symbols) (f n : ℕ) → HasArity symbols f n → has_arity symbols f n ≡ true
arity_to None f n h = refl
arity_to (Some arities) f n h = is_the_number (slice_get arities f) n h

head_from : (symbols : Symbols) (s : Option ℕ) (qs : List ℕ) → is_head symbols s qs ≡ true → IsHead symbols s qs
head_from symbols None [] e = refl
head_from symbols None (q ∷ qs) e = absurd (false≢true e)
head_from symbols (Some f) qs e = arity_from symbols f (length qs) e

head_to : (symbols : Symbols) (s : Option ℕ) (qs : List ℕ) → IsHead symbols s qs → is_head symbols s qs ≡ true
head_to symbols None [] h = refl
head_to symbols None (q ∷ qs) h = absurd (cc)
head_to symbols (Some f) qs h = arity_to symbols f (length qs) h

pub has_from : (a : Indexed) (t : Transition) → IsAmong t a.automaton.transitions → counts a.symbols a.automaton.states t ≡ true → Finds a t.symbol t.arguments t.target
has_from a t i e =
    let p = and_parts _ _ e in
    let r = and_parts _ _ p.1 in record {
      listed = contained_among t a.automaton.transitions i;
      head = head_from a.symbols t.symbol t.arguments p.0;
      arguments = states_below a.automaton.states t.arguments r.0;
      target = ltb-true t.target a.automaton.states r.1;
    }

pub counts_has : (a : Indexed) (s : Option ℕ) (qs : List ℕ) (q : ℕ) → Finds a s qs q → counts a.symbols a.automaton.states (record { symbol = s; arguments = qs; target = q }) ≡ true
counts_has a s qs q h =
    and_from (is_head a.symbols s qs) _ (head_to a.symbols s qs h.head)
    (and_from (are_below a.automaton.states qs) (nat_lt q a.automaton.states) (below_states a.automaton.states qs h.arguments) (lt-ltb q a.automaton.states h.target))

-- what stands at a symbol
pub symbol_from : (a : Indexed) (f : ℕ) (t : Transition) → IsAmong t (filter (chosen a.symbols symbol_key a.automaton.states f) a.automaton.transitions) → Finds a (Some f) t.arguments t.target
symbol_from a f t h =
    let i = in_filter (chosen a.symbols symbol_key a.automaton.states f) t a.automaton.transitions h in
    let p = and_parts (counts a.symbols a.automaton.states t) (is_number t.symbol f) i.1 in
    subst (λ (s : Option ℕ). Finds a s t.arguments t.target) (number_is t.symbol f p.1) (has_from a t i.0 p.0)

pub symbol_to : (a : Indexed) (f : ℕ) (qs : List ℕ) (q : ℕ) → Finds a (Some f) qs q
    → IsAmong (record { symbol = Some f; arguments = qs; target = q }) (filter (chosen a.symbols symbol_key a.automaton.states f) a.automaton.transitions)
symbol_to a f qs q h =
    let t : Transition = record { symbol = Some f; arguments = qs; target = q } in
    filter_in (chosen a.symbols symbol_key a.automaton.states f) t a.automaton.transitions (among_contained t a.automaton.transitions h.listed)
    (and_from (counts a.symbols a.automaton.states t) (nat_eq f f) (counts_has a (Some f) qs q h) (eq-eqb f f refl))
