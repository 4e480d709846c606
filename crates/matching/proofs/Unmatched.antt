-- Where the subject is no instance, no extension matches.
use Rattle.rewriting.specs.Prelude.{Term, Bindings, Matches, values_of, HasNoMatch}
use Rattle.rewriting.proofs.Matching.{solved_instance}

pub no_instance : (b : Bindings) (p s : Term) → (Matches p s → ⊥) → HasNoMatch b p s
no_instance b p s h d e k = h (values_of d, solved_instance d p s k)
