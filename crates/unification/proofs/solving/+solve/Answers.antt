use Rattle.std.proofs.Common.{List, ◌≡◌, sym, ap, ◌∙◌, length, subst, subst₂, ◌<◌, ◌+◌, ◌^◌, IsTrue}
use Rattle.std.proofs.lemmas.Bool.{false≢true}
use Rattle.rewriting.specs.Prelude.{Fits, size, size_all, Each, apply, apply_all}
use Rattle.unifier_run.specs.Run.{value, DoFit}
use Rattle.term_core.specs.View.{view, views}
use Rattle.term_core.specs.declared.terms.Term.{Term}
use Rattle.unification.specs.declared.bound.Bound.{Bound}
use Rattle.unification.specs.Solving.{bindings, SolveAnswers}
use Rattle.unification.proofs.Measure.{weight}
use Rattle.unification.proofs.Meet.{other_symbols, other_lengths, same_arguments, left_fit, right_fit, arguments_weigh_less, same_variables, binds_variable, binds_application, binds_right}
use Rattle.unification.proofs.Solve.{ends_large, seen_as, remain_end, remain_next}
use Rattle.unification.proofs.Terms.{still_there, still_fits, one_weighs_less}
use Rattle.unification.proofs.Found.{length_bindings}
use Rattle.unification.proofs.solving.+solve.Goals as goal
use Rattle.unification.proofs.solving.+solve.Goals.{meet-then-f-g-via-then-f-g, meet-then-f-g-via-else-f-g+then-len}

pub meet-returns-then-f-g-clause-solves : goal.meet-returns-then-f-g-clause-solves
meet-returns-then-f-g-clause-solves t c =
    let b = bindings c.args.found.now.items in
    let w = c.in-Fun-Fun in
    elim c.then-f-g.branch [
      | meet-then-f-g-via-then-f-g k ↦ other_symbols b b _ _ c.requires.good c.requires.fit w.f w.g w.xs w.ys w.is-0 w.is-1 k.if-f-g.true
      | meet-then-f-g-via-else-f-g+then-len k ↦ other_lengths b b _ _ c.requires.good c.requires.fit w.f w.g w.xs w.ys w.is-0 w.is-1
          (λ e. k.if-len.true (k.len.ensures ∙ (w.xs.ok.0 ∙ (e ∙ (sym w.ys.ok.0 ∙ sym k.len-else-f-g.ensures)))))
    ]

pub meet-solve_all-requires : goal.meet-solve_all-requires
meet-solve_all-requires t c =
    let b = bindings c.args.found.now.items in
    let w = c.in-Fun-Fun in
    let xs = c.deref.ensures.value in
    let ys = c.deref-in-Fun-Fun.ensures.value in
    let lengths : length w.xs.items ≡ length w.ys.items = sym w.xs.ok.0 ∙ (sym c.len.ensures ∙ (c.if-len.false ∙ (c.len-else-f-g.ensures ∙ w.ys.ok.0))) in
    let left = left_fit b b _ _ c.requires.good c.requires.fit w.f w.g w.xs w.ys w.is-0 w.is-1 in
    let right = right_fit b b _ _ c.requires.good c.requires.fit w.f w.g w.xs w.ys w.is-0 w.is-1 in (
      subst (λ z. weight (length b) (size_all (apply_all (value b) (views c.deref.result.now)) + size_all (apply_all (value b) (views c.deref-in-Fun-Fun.result.now))) 3 < z) c.decreases
          (subst₂ (λ x y. weight (length b) (size_all (apply_all (value b) (views x)) + size_all (apply_all (value b) (views y))) 3 < weight (length b)
          (size (apply (value b) (view c.args.a.now)) + size (apply (value b) (view c.args.b.now))) 1) (sym xs) (sym ys)
          (arguments_weigh_less b b _ _ c.requires.good c.requires.fit w.f w.g w.xs w.ys w.is-0 w.is-1 (length b))),
      (
        ap length xs ∙ (lengths ∙ sym (ap length ys)),
        (
          c.requires.turns,
          (
            c.requires.good,
            (
              (λ _. subst (λ z. Each Fits (apply_all (value b) (views z))) (sym xs) left),
              (λ _. subst (λ z. Each Fits (apply_all (value b) (views z))) (sym ys) right),
            ),
          ),
        ),
      ),
    )

pub meet-returns-then-x-y-clause-solves : goal.meet-returns-then-x-y-clause-solves
meet-returns-then-x-y-clause-solves t c =
    let b = bindings c.args.found.now.items in
    let w = c.in-Var-Var in
    same_variables b b _ _ c.requires.good c.requires.fit w.x w.is-0 c.requires.left w.y w.is-1 c.if-x-y.true

pub meet-returns-else-x-y-clause-solves : goal.meet-returns-else-x-y-clause-solves
meet-returns-else-x-y-clause-solves t c =
    let b = bindings c.args.found.now.items in
    let w = c.in-Var-Var in
    binds_variable b (bindings c.bind.new.found.items) _ _ c.requires.good c.requires.fit w.x w.is-0 c.requires.left w.y w.is-1 c.requires.right c.if-x-y.false c.bind.result c.bind.ensures.binds

pub meet-returns-in-Var-Fun-clause-solves : goal.meet-returns-in-Var-Fun-clause-solves
meet-returns-in-Var-Fun-clause-solves t c =
    let b = bindings c.args.found.now.items in
    let w = c.in-Var-Fun in
    let k = c.bind-in-Var-Fun in
    binds_application b (bindings k.new.found.items) _ _ c.requires.good c.requires.fit w.x w.is-0 c.requires.left w.field-0-1 w.field-1-1 w.is-1 k.result k.ensures.binds

pub meet-returns-in-Fun-Var-clause-solves : goal.meet-returns-in-Fun-Var-clause-solves
meet-returns-in-Fun-Var-clause-solves t c =
    let b = bindings c.args.found.now.items in
    let w = c.in-Fun-Var in
    let k = c.bind-in-Fun-Var in
    binds_right b (bindings k.new.found.items) _ _ c.requires.good c.requires.fit w.field-0-0 w.field-1-0 w.y w.is-0 w.is-1 c.requires.right k.result k.ensures.binds

pub meet-returns-else-len-clause-solves : goal.meet-returns-else-len-clause-solves
meet-returns-else-len-clause-solves t c =
    let b = bindings c.args.found.now.items in
    let w = c.in-Fun-Fun in
    same_arguments b (bindings c.solve_all.new.found.items) _ _ c.requires.good c.requires.fit w.f w.g w.xs w.ys w.is-0 w.is-1 c.if-f-g.false
    (sym w.xs.ok.0 ∙ (sym c.len.ensures ∙ (c.if-len.false ∙ (c.len-else-f-g.ensures ∙ w.ys.ok.0)))) c.solve_all.result
    (subst₂ (λ x y. SolveAnswers b (bindings c.solve_all.new.found.items) (views x) (views y) c.solve_all.result) c.deref.ensures.value c.deref-in-Fun-Fun.ensures.value c.solve_all.ensures.solves)

pub solve-returns-then-not-do_fit-clause-solves : goal.solve-returns-then-not-do_fit-clause-solves
solve-returns-then-not-do_fit-clause-solves t c =
    let b = bindings c.args.found.now.items in
    ends_large b b _ _ (λ f. false≢true (subst IsTrue c.if-not-do_fit.true
    (c.do_fit.ensures.1 (subst (λ z. DoFit (apply (value (bindings z)) (view c.args.a.now)) (apply (value (bindings z)) (view c.args.b.now))) (sym c.deref.ensures.value) f))))

pub solve-returns-clause-solves : goal.solve-returns-clause-solves
solve-returns-clause-solves t c =
    let b = bindings c.args.found.now.items in
    let d = bindings c.meet.new.found.items in
    let Same : List Bound → Term → Term → Type 0 = λ es h u. apply (value (bindings es)) (view h) ≡ apply (value (bindings es)) (view u) in
    seen_as b d _ _ _ _ c.meet.result
    (subst (λ es. Same es c.head-left.result.now c.args.a.now) c.deref-2.ensures.value c.head-left.ensures.same)
    (subst (λ es. Same es c.head-right.result.now c.args.b.now) c.deref-3.ensures.value c.head-right.ensures.same)
    c.meet.ensures.solves

pub solve_all-solve-requires : goal.solve_all-solve-requires
solve_all-solve-requires t c =
    let b = bindings c.args.found.now.items in
    let d = bindings c.loop-i.found.items in
    let left = c.index-xs-i.is in
    let right = c.index-ys-i.is in
    let i = c.loop-i-test.true in
    let other : c.loop-i.i < length c.args.ys.now = subst (λ n. c.loop-i.i < n) c.requires.lengths i in
    let count : length d ≡ c.len.result = length_bindings c.loop-i.found.items ∙ (sym c.loop-i.found.ok.0 ∙ sym c.len.ensures) in
    let start : length b ≡ c.len-count.result = length_bindings c.args.found.now.items ∙ (sym c.args.found.now.ok.0 ∙ sym c.len-count.ensures) in (
      subst (λ z. weight (length d) (size (apply (value d) (view c.index-xs-i.result)) + size (apply (value d) (view c.index-ys-i.result))) 2 < z) c.decreases
          (one_weighs_less b d _ _ c.loop-i.i _ _ c.loop-i.invariant.remain.grown (subst (λ n. n < 2 ^ 64) (sym count) c.len.type_inv) i other left right),
      (
        c.loop-i.invariant.turns,
        (
          c.loop-i.invariant.remain.good,
          λ k. (
            still_fits b d _ c.loop-i.i _ c.loop-i.invariant.remain.grown (start ∙ ((c.is_known-known.ensures k).1 ∙ sym count)) (c.requires.left (c.is_known-known.ensures k).0) i left,
            still_fits b d _ c.loop-i.i _ c.loop-i.invariant.remain.grown (start ∙ ((c.is_known-known.ensures k).1 ∙ sym count)) (c.requires.right (c.is_known-known.ensures k).0) other right,
          ),
        ),
      ),
    )

pub solve_all-returns-in_default : goal.solve_all-returns-in_default
solve_all-returns-in_default t c =
    let b = bindings c.args.found.now.items in
    let d = bindings c.loop-i.found.items in
    let i = c.loop-i-test.true in
    let other : c.loop-i.i < length c.args.ys.now = subst (λ n. c.loop-i.i < n) c.requires.lengths i in
    record {
      turns = c.in_ok-other.ensures.turns;
      solves = remain_end b d (bindings c.solve.new.found.items) _ _ _ _ _ _ c.in_ok-other.other
          (still_there b d _ _ c.loop-i.i _ _ i other c.index-xs-i.is c.index-ys-i.is c.loop-i.invariant.remain) c.in_default.not-Solved c.in_ok-other.ensures.solves;
    }

pub solve_all-loop-i-preserved : goal.solve_all-loop-i-preserved
solve_all-loop-i-preserved t c =
    let b = bindings c.args.found.now.items in
    let d = bindings c.loop-i.found.items in
    let i = c.loop-i-test.true in
    let other : c.loop-i.i < length c.args.ys.now = subst (λ n. c.loop-i.i < n) c.requires.lengths i in
    record {
      turns = c.in_ok-other.ensures.turns;
      remain = remain_next b d (bindings c.solve.new.found.items) _ _ _ _ _ _ c.in_ok-other.other c.in-Solved.is
          (still_there b d _ _ c.loop-i.i _ _ i other c.index-xs-i.is c.index-ys-i.is c.loop-i.invariant.remain) c.in_ok-other.ensures.solves;
    }
