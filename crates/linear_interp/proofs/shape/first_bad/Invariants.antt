use Rattle.std.proofs.Common.{ℕ, ◌≡◌, ◌<◌, map, length, slice_get, Some}
use Rattle.certificates.specs.Certificates as math
use Rattle.cert_model.specs.CertificateView.{linear_entry_view}
use Rattle.linear_interp.specs.Entries.{AreGoodBelow}
use Rattle.linear_interp.proofs.shape.first_bad.Given as goal

abbrev pub invariant-loop-k : goal.invariant-loop-k
invariant-loop-k l = (j : ℕ) (d : math.LinearEntry) → j < l.k → slice_get (map linear_entry_view l.entries) j ≡ Some d → AreGoodBelow l.symbols j d.coefficients (length d.coefficients)
