use Rattle.std.proofs.Common.{◌≡◌, sym, subst, inl, IsErrAnd}
use Rattle.term_core.specs.JoinAnswers.{JoinAnswers}
use Rattle.term_core.specs.SystemView.{AreSound}
use Rattle.term_core.specs.declared.joins.JoinError.TheVariants.{Fault}
use Rattle.term_core.proofs.Rules.{handed_on, sound_counted}
use Rattle.term_core.proofs.JoinRules.{sound_is_system}
use Rattle.term_core.proofs.joins.join_system.Goals as goal

pub returns-in_err-first_fault-clause-answer : goal.returns-in_err-first_fault-clause-answer
returns-in_err-first_fault-clause-answer c =
    let fault = c.in_err-first_fault.field-0.0 in
    let same : IsErrAnd c.from_residual.result (λ e. e ≡ Fault fault) = c.from_residual.ensures.1 in
    let found = c.in_err-first_fault.ensures {u = tt} in
    let why = rw (c.deref.ensures.value, c.deref-2.ensures.value) at found in
    subst (JoinAnswers c.args.arities.items c.args.rules.items) (sym (handed_on c.from_residual.result (Fault fault) same)) (inl why)

pub of_sound-requires-clause-sound : goal.of_sound-requires-clause-sound
of_sound-requires-clause-sound c =
    let sound : AreSound c.args.arities.items c.args.rules.items = rw (c.deref.ensures.value, c.deref-2.ensures.value) at c.in_ok-first_fault.ensures in
    sound_is_system c.args.arities.items c.args.rules.items sound c.requires.few_symbols c.requires.few_rules

pub of_sound-requires-clause-counted : goal.of_sound-requires-clause-counted
of_sound-requires-clause-counted c =
    let sound : AreSound c.args.arities.items c.args.rules.items = rw (c.deref.ensures.value, c.deref-2.ensures.value) at c.in_ok-first_fault.ensures in
    sound_counted c.args.arities.items c.args.rules.items sound
