-- Terms whose variables are bound, part by part.
use Rattle.std.proofs.Common.{◌≡◌, ℕ, true, IsSome}
use Rattle.std.specs.FinMap.{get}
use Rattle.rewriting.specs.Prelude.{Terms, occurs_in, Bindings}

-- every variable of some terms is bound
abbrev pub CoversAll : Bindings → Terms → Type 0
CoversAll b ts = (x : ℕ) → occurs_in x ts ≡ true → IsSome (get b x)
