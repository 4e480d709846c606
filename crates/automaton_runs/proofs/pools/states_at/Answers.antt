use Rattle.std.proofs.Common.{◌≡◌, ◌↔◌, ◌+◌, ◌≤◌, ◌∙◌, inl, inr, ⊎_elim, ℕ, true, List, Bor, Some, length, take, slice_get, ap, sym, subst, arith}
use Rattle.std.proofs.lemmas.Result.{IfOk-weaker}
use Rattle.std.proofs.lemmas.Option.{same_Some, slice_get_within}
use Rattle.std.proofs.lemmas.List.{take_all}
use Rattle.general_lemmas.proofs.Places.{map-take_read}
use Rattle.rewriting.specs.Lists.{IsAmong}
use Rattle.certificates.specs.Evidence as math
use Rattle.cert_model.specs.EvidenceView.{transition_view}
use Rattle.cert_model.specs.declared.evidence.Transition.{Transition}
use Rattle.number_sets.specs.Sets.{members}
use Rattle.number_sets.specs.declared.words.NumberSet.{NumberSet}
use Rattle.number_sets.proofs.Members.{members_ascending}
use Rattle.automaton_runs.specs.Indexed.{pointed}
use Rattle.automaton_runs.specs.Pools.{stands_in}
use Rattle.automaton_runs.proofs.BatchParts.{got, not_got}
use Rattle.automaton_runs.proofs.PoolStates.{stands_more, states_are}
use Rattle.automaton_runs.proofs.pools.states_at.Goals as goal
use Rattle.automaton_runs.proofs.pools.states_at.Goals.{in-Some+in_ok-insert, in_default}

pub loop-transition-preserved : goal.loop-transition-preserved
loop-transition-preserved c q =
    let i = c.loop-transition.transition-index in
    let items = c.with_symbol-transition-items.result.now in
    let x = c.transition-item.result in
    let t = transition_view c.transition-item.result.now in
    let place = c.args.place in
    let ts = pointed (take c.loop-transition.transition-index c.with_symbol-transition-items.result.now) in
    let more = map-take_read (λ (t : Bor Transition). transition_view t.now) c.with_symbol-transition-items.result.now c.loop-transition.transition-index c.transition-item.result
    c.loop-transition-test.true c.transition-item.is in
    let step = stands_more c.args.place q (pointed (take c.loop-transition.transition-index c.with_symbol-transition-items.result.now)) (transition_view c.transition-item.result.now) in
    let front = c.loop-transition.invariant q in
    let whole = λ (set : NumberSet). IsAmong q (members set) ↔ (stands_in c.args.place q (pointed (take (c.loop-transition.transition-index + 1) c.with_symbol-transition-items.result.now)) ≡ true) in
    elim c.match-get.branch [
      | in-Some+in_ok-insert w ↦
          let state = w.in-Some.state.now in
          let e = w.in-Some.ensures.lookup in
          let put = w.in_ok-insert.ensures q in
          let is : slice_get (transition_view c.transition-item.result.now).arguments c.args.place ≡ Some w.in-Some.state.now =
          subst (λ (l : List ℕ). slice_get l c.args.place ≡ Some w.in-Some.state.now) c.deref.ensures.value (got c.deref.result.now c.args.place w.in-Some.state.now e.0 e.1) in
          subst whole (sym w.set-is)
          (subst (λ (us : List math.Transition). IsAmong q (members w.insert.new.self) ↔ (stands_in c.args.place q us ≡ true)) (sym more) (
            λ h. step.1 (⊎_elim (λ o. inl (front.0 o)) (λ o. inr (is ∙ ap Some (sym o))) (put.0 h)),
            λ h. put.1 (⊎_elim (λ o. inl (front.1 o)) (λ o. inr (same_Some q state (sym o ∙ is))) (step.0 h)),
          ))
      | in_default w ↦
          let past = subst (λ (l : List ℕ). length l ≤ c.args.place) c.deref.ensures.value (not_got c.deref.result.now c.args.place w.in_default.ensures.lookup.0) in
          subst whole (sym w.set-is)
          (subst (λ (us : List math.Transition). IsAmong q (members c.loop-transition.set) ↔ (stands_in c.args.place q us ≡ true)) (sym more) (
            λ h. step.1 (inl (front.0 h)),
            λ h. ⊎_elim (λ o. front.1 o) (λ o. let low = slice_get_within (transition_view c.transition-item.result.now).arguments c.args.place q o in absurd (omega arith)) (step.0 h),
          ))
    ]

pub returns : goal.returns
returns c =
    let set = c.loop-transition.set in
    let items = c.with_symbol-transition-items.result.now in
    let whole = take_all c.loop-transition.transition-index c.with_symbol-transition-items.result.now c.loop-transition-test.false in
    let has : (q : ℕ) → IsAmong q (members c.loop-transition.set) ↔ (stands_in c.args.place q (pointed c.with_symbol-transition-items.result.now) ≡ true) =
    subst (λ (l : List (Bor Transition)). (q : ℕ) → IsAmong q (members c.loop-transition.set) ↔ (stands_in c.args.place q (pointed l) ≡ true)) whole c.loop-transition.invariant in
    IfOk-weaker c.numbers.result _ _
    (λ v h. h ∙ states_are c.args.index.now c.args.f c.args.place (members c.loop-transition.set) (members_ascending c.loop-transition.set)
    (subst (λ (ts : List math.Transition). (q : ℕ) → IsAmong q (members c.loop-transition.set) ↔ (stands_in c.args.place q ts ≡ true)) c.with_symbol-transition-items.ensures has)) c.numbers.ensures
