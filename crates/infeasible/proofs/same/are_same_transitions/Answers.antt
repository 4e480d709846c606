use Rattle.std.proofs.Common.{◌≡◌, length, map, below_more, refl, sym, ◌∙◌, arith}
use Rattle.std.proofs.lemmas.List.{length-map}
use Rattle.std.proofs.lemmas.Option.{slice_get_read}
use Rattle.cert_model.specs.EvidenceView.{transition_view}
use Rattle.general_lemmas.proofs.Places.{same_lists, same_there}
use Rattle.infeasible.proofs.same.are_same_transitions.Goals as goal

pub transitions-preserved : goal.transitions-preserved
transitions-preserved c =
    let xs = c.args.first.now in
    let ys = c.args.second.now in
    let i = c.transitions.i in
    let a = c.in-Some-Some.a.now in
    let b = c.in-Some-Some.b.now in
    let x = c.in-Some-Some.ensures.lookup.3 in
    let y = c.in-Some-Some.ensures'.lookup.3 in
    let same = c.if-not-is_same_transition.ensures refl in
    below_more _ _ c.transitions.invariant
    (same_there transition_view xs ys i a b (slice_get_read xs (length xs) i a refl x.0 (x.1 a)) (slice_get_read ys (length ys) i b refl y.0 (y.1 b)) same)

pub returns : goal.returns
returns c = λ yes.
    let xs = c.args.first.now in
    let ys = c.args.second.now in
    let e = length-map xs transition_view in
    let same : length (map transition_view xs) ≡ length (map transition_view ys) = e ∙ (c.if-first-second.false ∙ sym (length-map ys transition_view)) in
    same_lists _ _ same (λ k less. c.transitions.invariant k (omega (arith, e, less)))
