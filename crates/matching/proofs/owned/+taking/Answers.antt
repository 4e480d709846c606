use Rattle.std.proofs.Common.{◌≡◌, ◌+◌, drop, get_or, sym, ap, subst, ◌∙◌, arith}
use Rattle.std.proofs.lemmas.List.{drop-set-lt, length-set}
use Rattle.term_core.proofs.Views.{view-Var, views-drop}
use Rattle.rewriting.specs.Prelude.{var, IsLeastMatch}
use Rattle.term_core.specs.View.{view, views}
use Rattle.rewriting.proofs.LeastMatches.{bound_least}
use Rattle.matching.proofs.Progress.{Progress, advance, lengths_differ}
use Rattle.matching.proofs.owned.+taking.Goals as goal

pub take_all-returns-then-patterns-len : goal.take_all-returns-then-patterns-len
take_all-returns-then-patterns-len t c = λ d e h.
    let same = lengths_differ d c.args.patterns.now c.args.subjects.items h in
    c.if-patterns-len.true (omega (arith, same, c.len.ensures, c.args.subjects.ok.0))

pub take_all-loop-i-preserved : goal.take_all-loop-i-preserved
take_all-loop-i-preserved t c =
    let i = c.loop-i.i in
    let left = c.loop-i.left.items in
    let paired = c.loop-i.invariant.paired in
    let here = c.loop-i-test.true in
    let is = subst (λ z. z ≡ get_or left i z) (sym c.replace-subject.ensures.value) c.index_mut.ensures.value in
    let first = views-drop c.args.patterns.now i _ here c.index-patterns-i.is in
    let second = views-drop left i c.replace-subject.result (omega (arith, paired, here)) is in
    let m = rw c.if-not-branch.false at c.in_ok-take_parts.ensures in
    record {
      progress =
          subst (λ rest. Progress c.args.values.now c.take_parts.new.values (views c.args.patterns.now) (views c.args.subjects.items) (views (drop (i + 1) c.args.patterns.now))
          (views rest)) (sym (drop-set-lt (i + 1) left i c.replace-subject.new.dest (omega arith)))
          (advance c.args.values.now c.loop-i.values c.take_parts.new.values _ _ _ _ (view c.index-patterns-i.result) (view c.replace-subject.result)
          (rw (first, second) at c.loop-i.invariant.progress) m);
      paired = length-set left i c.replace-subject.new.dest ∙ paired;
    }

pub take_parts-returns-in_ok-bind-in-None : goal.take_parts-returns-in_ok-bind-in-None
take_parts-returns-in_ok-bind-in-None t c =
    let b = c.args.values.now in
    let s = view c.args.subject in
    let x = c.in-Var.x in
    subst (λ p. IsLeastMatch b c.bind.new.self p s) (sym (ap view c.in-Var.is ∙ view-Var x))
    (subst (λ n. IsLeastMatch b n (var x) s) (sym c.in_ok-bind-in-None.ensures.ok) (bound_least b x s (sym c.in-None.ensures)))
