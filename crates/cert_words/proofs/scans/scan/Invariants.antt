use Rattle.cert_words.proofs.Prelude.{mode_view}
use Rattle.cert_words.proofs.Scanning.{ScansOn}
use Rattle.cert_words.proofs.scans.scan.Given as goal

abbrev pub invariant-bytes : goal.invariant-bytes
invariant-bytes l = ScansOn (mode_view l.fn.begins) l.fn.bytes (mode_view l.mode) l.size
