use Rattle.cert_reading.proofs.Lemmas.{length_grown, next_reads, begun, begun_push, begun_closed}
use Rattle.cert_reading.proofs.Prelude.{◌≡◌, ◌<◌, None, ◌∙◌, suc, refl, sym, ap, length, List, ℕ, [], ◌∷◌, ◌++◌, codes, arith, name_of, is_number, has_arity, fixed, behind}
use Rattle.cert_reading.proofs.Prelude.{states_marks, states_behind, further_states, arity_at, first_pushed, then_reads, as_reads, as_marks, open_before, arity_met}
use Rattle.cert_reading.proofs.automata.arguments.Goals as goal

pub arguments-init : goal.arguments-init
arguments-init c =
    let names = c.args.names.now in
    let name = name_of names c.args.f in
    let one : c.put.new.at.refused ≡ None → c.put.new.list.items ≡ c.number-first.result ∷ [] = λ none. first_pushed _ _ c.number-first.result c.new-args.ensures.items (c.put.ensures.grown none) in
    record {
      read = as_reads (λ none. (ap (λ (qs : List ℕ). further_states c.args.states name (length qs) ∷ []) (sym (one none)), λ u. ap (begun c.args.states) (sym (one none))))
          (then_reads (c.opened.ensures.opened c.if-not-opened.false names c.args.f 0 (states_behind c.args.states name) _ _ refl) (then_reads (c.number-first.ensures.read names _ _ refl)
          (c.put.ensures.read names c.args.end (further_states c.args.states name 1 ∷ []))));
      some = λ none. let e = ap length (one none) in omega (arith, e);
    }

pub arguments-preserved : goal.arguments-preserved
arguments-preserved c =
    let names = c.args.names.now in
    let name = name_of names c.args.f in
    let k = length c.arguments.args.items in
    let there =
    then_reads (c.either.ensures.one c.arguments-test.true names (further_states c.args.states name k) _ _ refl) (then_reads (c.number-next.ensures.read names _ _ refl)
    (c.put-in-arguments.ensures.read names c.args.end (further_states c.args.states name (suc k) ∷ []))) in
    let some : c.put-in-arguments.new.at.refused ≡ None → 0 < k = λ none. c.arguments.invariant.some (open_before there none) in
    record {
      read = next_reads (further_states c.args.states name) (λ u. begun c.args.states) c.arguments.args.items c.number-next.result c.put-in-arguments.ensures.grown
          (λ none u. begun_push c.args.states c.arguments.args.items c.number-next.result (some none)) c.arguments.invariant.read there;
      some = λ none. let e = length_grown c.arguments.args.items c.number-next.result (c.put-in-arguments.ensures.grown none) in omega (arith, e);
    }

pub returns : goal.returns
returns c =
    let names = c.args.names.now in
    let f = c.args.f in
    let name = name_of names f in
    let b = c.args.states in
    let k = length c.arguments.args.items in
    let met = arity_met names f k c.has_so_many-2.result c.requires
    (c.has_so_many-2.ensures ∙ ap (λ (n : ℕ). is_number n (arity_at names f)) (let ok = c.arguments.args.ok.0 in let counted = c.len.ensures in omega (arith, ok, counted))) in
    let there =
    then_reads (c.either.ensures.other c.arguments-test.false names (further_states b name k) _ _ refl)
    (then_reads (c.checked.ensures names f k _ _ refl met) (c.text-2.ensures.read names _ _ refl)) in
    as_marks (λ none u. begun_closed b c.arguments.args.items (behind (has_arity (u f) k) ∷ fixed (codes " ") ∷ []) (c.arguments.invariant.some (open_before there none)))
    (then_reads c.arguments.invariant.read there)

pub returns-then-not-opened : goal.returns-then-not-opened
returns-then-not-opened c =
    let names = c.args.names.now in
    let f = c.args.f in
    let name = name_of names f in
    let b = c.args.states in
    as_marks (λ none u. ap (λ (qs : List ℕ). states_marks b qs ++ (behind (has_arity (u f) (length qs)) ∷ fixed (codes " ") ∷ [])) (sym c.new-args.ensures.items))
    (then_reads (c.opened.ensures.none c.if-not-opened.true names f 0 _ _ _ refl (arity_met names f 0 c.has_so_many.result c.requires c.has_so_many.ensures)) (c.text.ensures.read names _ _ refl))
