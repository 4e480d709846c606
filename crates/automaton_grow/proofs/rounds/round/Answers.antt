use Rattle.std.proofs.Common.{length, map, ap, subst, Ok, Err}
use Rattle.term_core.specs.View.{view}
use Rattle.term_core.proofs.Rules.{handed_on}
use Rattle.cert_model.specs.EvidenceView.{transition_view}
use Rattle.automaton_grow.specs.Growing.{IsAskedBelow, AddAnswers}
use Rattle.automaton_grow.proofs.Parts.{round_error, round_whole}
use Rattle.automaton_grow.proofs.rounds.round.Goals as goal

pub returns-in_err-grow_rules : goal.returns-in_err-grow_rules
returns-in_err-grow_rules c =
    let ds = map transition_view c.args.current.now.transitions.items in
    let es = map transition_view c.grow_rules.new.next.items in
    rw (handed_on _ _ c.from_residual-in_err-grow_rules.ensures.1)
    (round_error c.args.sys.now (view c.args.s.now) ds es c.in_err-grow_rules.field-0.0 c.requires.partial
    (subst (λ z. AddAnswers (IsAskedBelow c.args.sys.now (view c.args.s.now) (length c.args.sys.now.rules) ds) z es (Err c.in_err-grow_rules.field-0.0))
    (ap (λ z. z.transitions) c.in_ok-copy.ensures) c.in_err-grow_rules.ensures))

pub returns : goal.returns
returns c =
    let ds = map transition_view c.args.current.now.transitions.items in
    let es = map transition_view c.grow_rules.new.next.items in
    round_whole c.args.sys.now (view c.args.s.now) ds es c.requires.partial
    (subst (λ z. AddAnswers (IsAskedBelow c.args.sys.now (view c.args.s.now) (length c.args.sys.now.rules) ds) z es (Ok tt)) (ap (λ z. z.transitions) c.in_ok-copy.ensures) c.in_ok-grow_rules.ensures)
