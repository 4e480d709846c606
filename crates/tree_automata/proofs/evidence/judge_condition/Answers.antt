use Rattle.std.proofs.Common.{◌≡◌, ◌∙◌, true, false, refl, sym, subst, rules}
use Rattle.std.proofs.lemmas.Bool.{false≢true, not-true, not-false}
use Rattle.automata.specs.Closed.{AcceptsAll}
use Rattle.automata.specs.Evidence.{IsAccepted, IsExclusionJudged, not_any, misses}
use Rattle.term_core.specs.RuleView.{condition_view}
use Rattle.term_core.proofs.Rules.{handed_on}
use Rattle.cert_model.specs.EvidenceView.{automaton_view}
use Rattle.automaton_runs.specs.Counted.{Indexed, Finds}
use Rattle.refuter.specs.Answers.{RefutesAnswers}
use Rattle.tree_automata.proofs.Conditions.{not_closed, judged_right}
use Rattle.tree_automata.proofs.evidence.judge_condition.Goals as goal

pub returns-then-not-accepts_all : goal.returns-then-not-accepts_all
returns-then-not-accepts_all c = not_any (λ any. false≢true (c.if-not-accepts_all.ensures.1 (subst (λ (i : Indexed). AcceptsAll c.args.sys.now (Finds i)) (sym c.in_ok-index.ensures) any)))

pub returns-then-not-branch : goal.returns-then-not-branch
returns-then-not-branch c =
    let answer : c.in_ok-is_accepted.field-0 ≡ false = search (rules, not-true) in
    misses (subst (λ (i : Indexed). AcceptsAll c.args.sys.now (Finds i)) c.in_ok-index.ensures (c.if-not-accepts_all.ensures.0 refl))
    (λ acc. false≢true (sym answer ∙ c.in_ok-is_accepted.ensures.1
    (subst (λ (i : Indexed). IsAccepted i.symbols (automaton_view c.args.a.now) (condition_view c.args.cond.now).left) (sym c.in_ok-index.ensures) acc)))

pub returns-in_err-judge_unless_closed : goal.returns-in_err-judge_unless_closed
returns-in_err-judge_unless_closed c =
    let answer : c.in_ok-is_accepted.field-0 ≡ true = search (rules, not-false) in
    rw (handed_on _ _ c.from_residual-in_err-judge_unless_closed.ensures.1)
    (not_closed c.args.sys.now (condition_view c.args.cond.now) (automaton_view c.args.a.now) (subst (λ (i : Indexed). AcceptsAll c.args.sys.now (Finds i)) c.in_ok-index.ensures
    (c.if-not-accepts_all.ensures.0 refl))
    (subst (λ (i : Indexed). IsAccepted i.symbols (automaton_view c.args.a.now) (condition_view c.args.cond.now).left) c.in_ok-index.ensures
    (c.in_ok-is_accepted.ensures.0 answer)) c.in_err-judge_unless_closed.field-0.0 c.in_err-judge_unless_closed.ensures)

pub returns : goal.returns
returns c =
    let answer : c.in_ok-is_accepted.field-0 ≡ true = search (rules, not-false) in
    judged_right c.args.sys.now (condition_view c.args.cond.now) (automaton_view c.args.a.now) (subst (λ (i : Indexed). AcceptsAll c.args.sys.now (Finds i)) c.in_ok-index.ensures
    (c.if-not-accepts_all.ensures.0 refl))
    (subst (λ (i : Indexed). IsAccepted i.symbols (automaton_view c.args.a.now) (condition_view c.args.cond.now).left) c.in_ok-index.ensures (c.in_ok-is_accepted.ensures.0 answer))
    c.judge_exclusion.result c.in_ok-judge_unless_closed.ensures
    (subst (λ (i : Indexed). RefutesAnswers (IsExclusionJudged i.symbols (automaton_view c.args.a.now) (condition_view c.args.cond.now).right) c.judge_exclusion.result)
    c.in_ok-index.ensures c.judge_exclusion.ensures)
