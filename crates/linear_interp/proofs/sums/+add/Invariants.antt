use Rattle.std.proofs.Common.{◌≡◌, ◌+◌, ◌*◌, ℕ, map, length, drop}
use Rattle.rewriting.specs.Terms.{app, size, size_all}
use Rattle.term_core.specs.View.{view, views}
use Rattle.cert_model.specs.CertificateView.{linear_entry_view}
use Rattle.interpretations.specs.Linear.{numbers_of}
use Rattle.linear_interp.specs.Parts.{AreSmall}
use Rattle.linear_interp.proofs.Adding.{SoFar}
use Rattle.linear_interp.proofs.sums.+add.Given as goal

abbrev pub decreases-add : goal.decreases-add
decreases-add l = 2 * size (view l.t.now)

abbrev pub decreases-add_symbol : goal.decreases-add_symbol
decreases-add_symbol l = 2 * size_all (views l.args.now) + 1

abbrev pub invariant-add_symbol-loop-k : goal.invariant-add_symbol-loop-k
invariant-add_symbol-loop-k l = record {
  added : (f : ℕ) → numbers_of (map linear_entry_view l.entries) f ≡ l.numbers
      → SoFar (map linear_entry_view l.entries) l.factor f (l.k + 1) (views (drop l.k l.args)) (app f (views l.args)) l.fn.sums l.sums;
  as_many : length l.sums ≡ length l.fn.sums;
  small : AreSmall l.sums;
}
