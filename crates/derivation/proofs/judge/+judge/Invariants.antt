use Rattle.std.proofs.Common.{◌≡◌, ◌+◌, ◌<◌, ◌^◌, length, map, drop}
use Rattle.certificates.specs.Prelude.{derivation_of, derivations_of, AreStepsShort, AreShort, DoConditionsFit}
use Rattle.term_core.specs.Prelude.{view, condition_view}
use Rattle.cert_model.specs.DerivationView.{derivation_view, step_view}
use Rattle.derivation.specs.Judged.{IsCounted}
use Rattle.derivation.proofs.Progress.{Running, Meeting}
use Rattle.derivation.proofs.judge.+judge.Given as goal

abbrev pub invariant-run-loop-step : goal.invariant-run-loop-step
invariant-run-loop-step l = record {
  running : Running l.sys (map condition_view l.hyps) (l.step-index + 1) (view l.t.term) (derivation_of (map step_view (drop l.step-index l.steps)))
      (view l.fn.start.term) (derivation_of (map step_view l.steps));
  counted : IsCounted l.t;
  number : l.number ≡ l.step-index;
  few : length l.steps < 2 ^ 32;
  short : AreStepsShort (derivation_of (map step_view (drop l.step-index l.steps)));
}

abbrev pub invariant-values_met-loop-k : goal.invariant-values_met-loop-k
invariant-values_met-loop-k l = record {
  meeting :
      Meeting l.sys (map condition_view l.hyps) (l.k + 1) l.values (map condition_view (drop l.k l.conds)) (derivations_of (map derivation_view (drop l.k l.ds)))
      l.fn.start (map condition_view l.conds) (derivations_of (map derivation_view l.ds));
  fits : DoConditionsFit (map condition_view (drop l.k l.conds));
  short : AreShort (derivations_of (map derivation_view (drop l.k l.ds)));
}
