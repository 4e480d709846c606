-- The overlaps of a generated system, and its certificate: for each k the two rules of fk overlap at the root, and their
-- conditions ask for two results of pk(x).
use Rattle.std.specs.Prelude.{ℕ, ◌+◌, ◌*◌, List, [], ◌∷◌, map}
use Rattle.std.specs.List.{range_with_len}
use Rattle.rewriting.specs.Prelude.{Term, var, apply, odd}
use Rattle.unifier_run.specs.Overlaps.{Overlap}
use Rattle.certificates.specs.Prelude.{PairEvidence, conflicting_pair, PairEntry, Certificate, ortho_certificate}
use Rattle.search_spaces.specs.Entries.{entry_for}
use Rattle.generated_systems.specs.Generated.{true, false, p_of, f_of, next_of}

-- the variable of the second rule, renamed apart, to which that of the first is bound
abbrev pub y : Term
y = var 1

-- the third of the rules for k with the fourth
abbrev pub overlap_for : ℕ → Overlap
overlap_for k =
    record {
      inner = 4 * k + 3;
      position = [];
      outer = 4 * k + 4;
      pair =
          record {
            source = f_of k y;
            left = y;
            right = apply odd (next_of k);
            conditions = record { left = p_of k y; right = true } ∷ record { left = p_of k y; right = false } ∷ [];
          };
      inner_conditions = 1;
    }

abbrev pub generated_overlaps : ℕ → List Overlap
generated_overlaps n = map overlap_for (range_with_len 0 n)

-- the first condition of the inner rule against the first of the outer
abbrev pub conflict : PairEvidence
conflict = conflicting_pair 1 1

abbrev pub generated_entries : ℕ → List PairEntry
generated_entries n = map (λ k. entry_for (overlap_for k) conflict) (range_with_len 0 n)

abbrev pub generated_certificate : ℕ → Certificate
generated_certificate n = ortho_certificate (generated_entries n)
