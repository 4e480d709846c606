use Rattle.std.proofs.Common.{drop, map}
use Rattle.cops_write.specs.Text.{spaced}
use Rattle.cops_write.proofs.Growing.{Leads}
use Rattle.cops_write.proofs.writer.put_names.Given as goal

abbrev pub invariant-names : goal.invariant-names
invariant-names l = Leads l.fn.out.items (spaced (map (λ k. k.now) l.names)) l.out.items (spaced (map (λ k. k.now) (drop l.name-index l.names)))
