use Rattle.std.proofs.Common.{◌≤◌, ◌∙◌, inl, inr, length, ap, sym, subst, arith}
use Rattle.rewriting.specs.Substitutions.{apply, values_of}
use Rattle.term_core.specs.View.{view}
use Rattle.reach.proofs.Cells.{one_a_node}
use Rattle.reach.proofs.splices.new_key.Goals as goal

pub has-requires : goal.has-requires
has-requires c =
    let short = rw c.in-Some.is at c.in_ok-key.ensures in
    let few = short.1 in
    let low : length c.in-Some.key.items ≤ 10000 = omega (arith, few) in
    subst (λ ks. length ks ≤ 10000) (sym c.deref.ensures.value) low

pub returns-in_default : goal.returns-in_default
returns-in_default c u e =
    let big = rw c.in_default.is at c.in_ok-key.ensures in
    let whole = ap length (c.around.ensures.cells (apply (values_of c.args.values.now) (view c.args.t.now)) u e) in
    let one = one_a_node u in
    inr (omega (arith, big, whole, one))

pub returns-then-has : goal.returns-then-has
returns-then-has c u e =
    let short = rw c.in-Some.is at c.in_ok-key.ensures in
    let key = short.0 ∙ c.around.ensures.cells (apply (values_of c.args.values.now) (view c.args.t.now)) u e in
    inl (sym (c.has.ensures u (c.deref.ensures.value ∙ key)) ∙ c.if-has.true)

pub returns : goal.returns
returns c u e =
    let short = rw c.in-Some.is at c.in_ok-key.ensures in
    let key = short.0 ∙ c.around.ensures.cells (apply (values_of c.args.values.now) (view c.args.t.now)) u e in
    (key, (short.1, sym (c.has.ensures u (c.deref.ensures.value ∙ key)) ∙ c.if-has.false))
