use Rattle.std.proofs.Common.{◌≡◌, ◌≤◌, ◌⊎◌, map, IsTrue, ap, ◌∙◌, sym, subst, subst₂, length, take}
use Rattle.std.proofs.lemmas.Bool.{false≢true}
use Rattle.rewriting.specs.Prelude.{size, apply, occurs}
use Rattle.unifier_run.specs.Run.{value, DoAllFit}
use Rattle.term_core.specs.View.{view}
use Rattle.unification.specs.Solving.{shared, bindings, IsNewTo}
use Rattle.unification.proofs.Kept.{kept_fit}
use Rattle.unification.proofs.Found.{length_bindings, first_fit, all_fit, grows}
use Rattle.unification.proofs.solving.bind.Goals as goal

pub do_fit_under-requires-clause-count : goal.do_fit_under-requires-clause-count
do_fit_under-requires-clause-count c =
    subst₂ (λ m fs. m ≤ length fs) (sym (c.len-earlier.ensures ∙ c.args.found.now.ok.0)) (sym c.deref-3.ensures.value) (grows c.args.found.now.items _ _ _ c.in_ok-add.ensures.extended)

pub returns-then-do_fit_under-clause-binds : goal.returns-then-do_fit_under-clause-binds
returns-then-do_fit_under-clause-binds c =
    let es = c.args.found.now.items in
    let same = ap (λ z. occurs c.args.x (apply (value (bindings z)) (view c.args.t.now))) c.deref.ensures.value in
    let earlier : c.len-earlier.result ≡ length (bindings es) = c.len-earlier.ensures ∙ (c.args.found.now.ok.0 ∙ sym (length_bindings es)) in
    let fit = c.do_fit_under.ensures.0 c.if-do_fit_under.true in (
      sym (c.occurs_under.ensures ∙ same) ∙ c.if-occurs_under.false,
      c.in_ok-add.ensures.extended,
      all_fit (bindings es) _ _ _ _ c.in_ok-add.ensures.extended earlier (subst (λ z. DoAllFit (take c.len-earlier.result (bindings z))) c.deref-3.ensures.value fit) c.requires.side,
    )

pub returns-else-do_fit_under-clause-binds : goal.returns-else-do_fit_under-clause-binds
returns-else-do_fit_under-clause-binds c =
    let es = c.args.found.now.items in
    let same = ap (λ z. occurs c.args.x (apply (value (bindings z)) (view c.args.t.now))) c.deref.ensures.value in
    let n = c.len-earlier.result in (
      sym (c.occurs_under.ensures ∙ same) ∙ c.if-occurs_under.false,
      λ h. false≢true (subst IsTrue c.if-do_fit_under.false
          (c.do_fit_under.ensures.1 (subst (λ z. DoAllFit (take n (bindings z))) (sym c.deref-3.ensures.value)
          (subst (λ z. DoAllFit (take n z)) (sym c.in_ok-add.ensures.extended) (first_fit _ n h))))),
    )

pub do_fit_under-requires-clause-known : goal.do_fit_under-requires-clause-known
do_fit_under-requires-clause-known c =
    λ known.
    let es = c.args.found.now.items in
    let earlier : c.len-earlier.result ≡ length (bindings es) = c.len-earlier.ensures ∙ (c.args.found.now.ok.0 ∙ sym (length_bindings es)) in
    let plain = subst (λ z. (size (view c.args.t.now) ≡ 1) ⊎ IsNewTo c.args.x (map shared z)) c.deref-2.ensures.value (c.keeps_sizes-known.ensures known) in
    subst (λ z. DoAllFit (take c.len-earlier.result (bindings z))) (sym c.deref-3.ensures.value)
    (kept_fit (map shared es) _ _ c.args.x (view c.args.t.now) c.requires.turns c.requires.head c.requires.fit earlier c.in_ok-add.ensures.extended plain)
