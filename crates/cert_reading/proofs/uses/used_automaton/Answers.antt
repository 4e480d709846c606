use Rattle.cert_reading.proofs.Lemmas.{read_on, UseFacts, use_facts, number_there, use_line}
use Rattle.cert_reading.proofs.Prelude.{◌≡◌, ◌≤◌, ◌-◌, ℕ, [], ◌∷◌, None, Some, slice_get, map, refl, sym, ap, subst, length-map, automaton_view, space, between, shared_use, then_reads}
use Rattle.cert_reading.proofs.Prelude.{then_nothing, as_marks, framed}
use Rattle.cert_reading.proofs.uses.used_automaton.Goals as goal

pub returns-in-InFull-clause-read : goal.returns-in-InFull-clause-read
returns-in-InFull-clause-read c = rw c.in-InFull.is (read_on (c.text.ensures.read c.args.names.now _ _ refl) c.automaton.ensures.read)

pub returns-in-InFull-clause-plain : goal.returns-in-InFull-clause-plain
returns-in-InFull-clause-plain c = λ none. rw c.in-InFull.is (c.automaton.ensures.plain none)

pub returns-in-ByNumber : goal.returns-in-ByNumber
returns-in-ByNumber c =
    let names = c.args.names.now in
    let known = rw c.in-ByNumber.is at c.requires in
    let all = map automaton_view c.in-ByNumber.automata.now in
    let a = automaton_view c.copied.result in
    let n = c.used-number.result in
    let whole = then_reads (framed (shared_use ∷ []) (c.text-in-ByNumber.ensures.read names (between space) _ refl))
    (then_reads (c.used-number.ensures.read names _ _ refl) (then_nothing (c.text-in-ByNumber-2.ensures.read names _ _ refl) (c.copied.ensures.read names c.args.end []))) in
    let facts : c.copied.new.at.refused ≡ None → UseFacts names all n = λ none. use_facts all n known none whole in
    let stands : c.copied.new.at.refused ≡ None → slice_get all (n - 1) ≡ Some a =
    λ none. c.copied.ensures.copied none (facts none).low (subst (λ (m : ℕ). n ≤ m) (length-map c.in-ByNumber.automata.now automaton_view) (facts none).high) in
    record {
      read = rw c.in-ByNumber.is (as_marks (λ none u. ap use_line (sym (number_there names all a n (facts none) (stands none)))) whole);
      plain = λ none. rw c.in-ByNumber.is (n, (facts none).low, (facts none).high, stands none);
    }
