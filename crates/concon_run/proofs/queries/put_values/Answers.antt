use Rattle.std.proofs.Common.{◌++◌, ◌+◌, ◌∙◌, List, ℕ, Vec, refl, sym, ap}
use Rattle.std.proofs.lemmas.List.{append-nil}
use Rattle.std.specs.Global.{Global}
use Rattle.std.specs.String.{string_bytes}
use Rattle.cops_names.specs.NamesView.{texts_of}
use Rattle.term_core.specs.View.{view}
use Rattle.concon_run.proofs.ValueLines.{no_values, grown, stayed}
use Rattle.concon_run.proofs.queries.put_values.Goals as goal
use Rattle.concon_run.proofs.queries.put_values.Goals.{in-Some+in_ok-put_value, in_default}

pub values-init : goal.values-init
values-init c = (refl, sym (ap (λ (l : List ℕ). c.args.out.now.items ++ l) (no_values c.args.names.now (texts_of c.args.variables.now)) ∙ append-nil c.args.out.now.items))

pub values-preserved : goal.values-preserved
values-preserved c = (
  ap (λ n. n + 1) c.values.invariant.0,
  elim c.match-get.branch [
    | in-Some+in_ok-put_value w ↦
        grown view string_bytes c.args.names.now c.args.variables.now c.args.values.now c.values.number c.values.value-index c.args.out.now.items c.values.out.items c.match-get.out.items
        c.values.invariant.0 c.values.invariant.1 w.in-Some.variable.now c.value-item.result w.deref.result.now w.in-Some.ensures.lookup.3.0 c.values-test.true w.in-Some.ensures.lookup.1
        c.value-item.is w.deref.ensures (ap (λ (o : Vec ℕ Global). o.items) w.out-is ∙ w.in_ok-put_value.ensures)
    | in_default w ↦
        stayed view string_bytes c.args.names.now c.args.variables.now c.args.values.now c.values.number c.values.value-index c.args.out.now.items c.values.out.items c.match-get.out.items
        c.values.invariant.0 c.values.invariant.1 w.in_default.ensures.lookup.3 (ap (λ (o : Vec ℕ Global). o.items) w.out-is)
  ],
)
