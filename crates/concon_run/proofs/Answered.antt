-- What is said is one answer, or that memory was refused.
use Rattle.std.proofs.Common.{◌≡◌, ◌⊎◌, Option, Some, None, inl, inr}
use Rattle.std.specs.Prelude.{IfSome}
use Rattle.concon_run.specs.Run.{Run}
use Rattle.concon_run.specs.Said.{Said, IsSaidIfMemory, TellsIfMemory, IsUnlessHindered, no_memory_said}
use Rattle.concon_run.specs.Replies.{said_if_any}

pub answered : {A : Type 0} (P : A → Type 0) (said_of : A → Said) (said : Said) (o : Option A) → IfSome o P → IsSaidIfMemory (said_if_any said_of o) said
    → ((answer : A) × P answer × (said ≡ said_of answer)) ⊎ (said ≡ no_memory_said)
answered P said_of said (Some a) p (inl s) = inl (a, p, s)
answered P said_of said (Some a) p (inr s) = inr s
answered P said_of said None p (inl s) = inr s
answered P said_of said None p (inr s) = inr s

-- the status of what is told is that of what is said, or of what took its place
pub told_or_wanting : (run : Run) (said : Said) → TellsIfMemory run said → IsUnlessHindered said.status run.status
told_or_wanting run said (inl (inl whole)) = inl whole.0
told_or_wanting run said (inl (inr part)) = inr (inr part.0)
told_or_wanting run said (inr (inl whole)) = inr (inl whole.0)
told_or_wanting run said (inr (inr part)) = inr (inr part.0)
