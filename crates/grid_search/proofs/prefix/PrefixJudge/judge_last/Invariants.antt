use Rattle.std.proofs.Common.{map, length}
use Rattle.cert_model.specs.CertificateView.{linear_entry_view}
use Rattle.grid_search.proofs.JudgedRules.{AreWalked, DoFallSoFar}
use Rattle.grid_search.proofs.prefix.PrefixJudge.judge_last.Given as goal

abbrev pub invariant-completed : goal.invariant-completed
invariant-completed l = record {
  walked : AreWalked l.self (length (map linear_entry_view l.prefix)) l.rules l.number-items;
  fall : DoFallSoFar l.self (map linear_entry_view l.prefix) l.number-items l.number-index;
}
