use Rattle.std.proofs.Common.{sym, ap, subst, ◌∙◌, arith}
use Rattle.term_core.proofs.Views.{view-Var, views-drop}
use Rattle.rewriting.specs.Prelude.{var, IsLeastMatch}
use Rattle.term_core.specs.View.{view}
use Rattle.rewriting.proofs.LeastMatches.{bound_least}
use Rattle.matching.proofs.Progress.{advance, lengths_differ}
use Rattle.matching.proofs.finding.+matching.Goals as goal

pub match_all-returns-then-ps-ss : goal.match_all-returns-then-ps-ss
match_all-returns-then-ps-ss t c = λ d e h. c.if-ps-ss.true (lengths_differ d c.args.ps.now c.args.ss.now h)

pub match_all-loop-i-preserved : goal.match_all-loop-i-preserved
match_all-loop-i-preserved t c =
    let i = c.loop-i.i in
    let first = views-drop c.args.ps.now i _ c.loop-i-test.true c.index-ps-i.is in
    let second = views-drop c.args.ss.now i _ (omega arith) c.index-ss-i.is in
    let m = rw c.if-not-branch.false at c.in_ok-match_into.ensures in
    advance c.args.values.now c.loop-i.values c.match_into.new.values _ _ _ _ (view c.index-ps-i.result) (view c.index-ss-i.result) (rw (first, second) at c.loop-i.invariant) m

pub match_into-returns-in_ok-bind_new-in-None : goal.match_into-returns-in_ok-bind_new-in-None
match_into-returns-in_ok-bind_new-in-None t c =
    let b = c.args.values.now in
    let s = view c.args.subject.now in
    let x = c.in-Var.x in
    subst (λ p. IsLeastMatch b c.bind_new.new.values p s) (sym (ap view c.in-Var.is ∙ view-Var x))
    (subst (λ n. IsLeastMatch b n (var x) s) (sym c.in_ok-bind_new-in-None.ensures) (bound_least b x s (sym c.in-None.ensures)))
