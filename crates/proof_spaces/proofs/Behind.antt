-- How searches of the spaces of the last system end behind the steps.
use Rattle.std.proofs.Common.{ℕ, ◌≡◌, ◌+◌, List, arith}
use Rattle.rewriting.specs.Rules.{System}
use Rattle.certificates.specs.Certificates.{Simplification, Certificate, simplified_certificate}
use Rattle.cops_names.specs.NameTable.{NameTable}
use Rattle.first_found.specs.Spaces.{Space, Ending, found, nothing, spent, MayEnd, MayEndExactly}
use Rattle.first_found.proofs.Spaces.{ends_so, second_ends}
use Rattle.search_spaces.specs.Texts.{HasText}
use Rattle.search_spaces.specs.Laws.{IsSearchable}
use Rattle.search_spaces.specs.Ortho.{ortho_space}
use Rattle.search_spaces.specs.Peak.{peak_space}
use Rattle.search_spaces.proofs.OrthoThenPeak.{ortho_searchable, peak_searchable, whole_searchable}
use Rattle.quasi_space.specs.Endings.{MayEndLast}
use Rattle.quasi_space.specs.Measures.{pruned_measures}
use Rattle.quasi_space.specs.Quasi.{quasi_space_by}
use Rattle.quasi_space.proofs.AllSpaces.{pruned_searchable}
use Rattle.quasi_space.proofs.Endings.{last_ends}
use Rattle.proof_spaces.specs.Proofs.{with_steps, two_with_steps, three_with_steps}
use Rattle.proof_spaces.proofs.Costs.{ortho_cost, peak_cost}
use Rattle.proof_spaces.proofs.Ends.{kept_found, nothing_kept, last_nothing_kept, spent_kept, lost_found, last_lost}

-- what is found is kept behind the steps where it can be written, and else there is nothing
pub record StandsBehind (names : NameTable) (steps : List Simplification) (Ends Behinds : ℕ → ℕ → Ending Certificate → Type 0) : Type 0 where
  pub kept : (left paid : ℕ) (c : Certificate) → Ends left paid (found c) → HasText names (simplified_certificate steps c) → Behinds left paid (found (simplified_certificate steps c))
  pub lost : (left paid : ℕ) (c : Certificate) → Ends left paid (found c) → (HasText names (simplified_certificate steps c) → ⊥) → Behinds left paid nothing
  pub none : (left paid : ℕ) → Ends left paid nothing → Behinds left paid nothing
  pub out : (left paid : ℕ) → Ends left paid spent → Behinds left paid spent

module _ (names : NameTable) (steps : List Simplification) (last : System) where
  module _ (S : Space Certificate) (s : IsSearchable last S) where
    -- a space with a cost
    pub stands_behind : (cost : ℕ) → S.Costs cost → StandsBehind names steps (MayEndExactly S) (MayEnd (with_steps names steps S))
    stands_behind cost x =
        record {
          kept = λ left paid c h text. kept_found (simplified_certificate steps) (HasText names) S left paid c text (ends_so S left paid (found c) h);
          lost = λ left paid c h out. lost_found (simplified_certificate steps) (HasText names) S s.finds_within s.finds_once left paid c out (ends_so S left paid (found c) h) cost x;
          none = nothing_kept (simplified_certificate steps) (HasText names) S;
          out = spent_kept (simplified_certificate steps) (HasText names) S s.finds_within;
        }

    -- the last space, where no more is known of its cost than that it is no less than what was paid
    pub last_behind : StandsBehind names steps (MayEndLast S) (MayEndLast (with_steps names steps S))
    last_behind =
        record {
          kept = λ left paid c h text. kept_found (simplified_certificate steps) (HasText names) S left paid c text h;
          lost = λ left paid c h out. last_lost (simplified_certificate steps) (HasText names) S s.finds_within s.finds_once left paid c out h;
          none = last_nothing_kept (simplified_certificate steps) (HasText names) S;
          out = spent_kept (simplified_certificate steps) (HasText names) S s.finds_within;
        }

  pub ortho_behind : StandsBehind names steps (MayEndExactly (ortho_space names last)) (MayEnd (with_steps names steps (ortho_space names last)))
  ortho_behind = stands_behind (ortho_space names last) (ortho_searchable names last) (ortho_cost last).0 (ortho_cost last).1

  pub peak_behind : StandsBehind names steps (MayEndExactly (peak_space names last)) (MayEnd (with_steps names steps (peak_space names last)))
  peak_behind = stands_behind (peak_space names last) (peak_searchable names last) (peak_cost last).0 (peak_cost last).1

  pub quasi_behind : StandsBehind names steps (MayEndLast (quasi_space_by (pruned_measures last) names last)) (MayEndLast (with_steps names steps (quasi_space_by (pruned_measures last) names last)))
  quasi_behind = last_behind (quasi_space_by (pruned_measures last) names last) (pruned_searchable names last)

  -- one behind the other
  pub second_ends_two : (left paid rest more : ℕ) (e : Ending Certificate) → MayEnd (with_steps names steps (ortho_space names last)) left paid nothing → left ≡ paid + rest
      → MayEnd (with_steps names steps (peak_space names last)) rest more e → MayEnd (two_with_steps names steps last) left (paid + more) e
  second_ends_two left paid rest more e none l h =
      second_ends (with_steps names steps (ortho_space names last)) (with_steps names steps (peak_space names last)) (ortho_searchable names last).costs_once left paid none
      (omega (arith, l)) rest more e l h

  pub last_ends_three : (left paid rest more : ℕ) (e : Ending Certificate) → MayEnd (two_with_steps names steps last) left paid nothing → left ≡ paid + rest
      → MayEndLast (with_steps names steps (quasi_space_by (pruned_measures last) names last)) rest more e
      → MayEndLast (three_with_steps pruned_measures names steps last) left (paid + more) e
  last_ends_three left paid rest more e none l h =
      last_ends (two_with_steps names steps last) (with_steps names steps (quasi_space_by (pruned_measures last) names last)) (whole_searchable names last).costs_once left paid
      none (omega (arith, l)) rest more e l h
