use Rattle.std.proofs.Common.{ℕ, drop, map}
use Rattle.valid_certificates.specs.Kinds.{ortho}
use Rattle.critical_pairs.specs.View.{overlap_view}
use Rattle.cc_count.specs.Counts.{Spends}
use Rattle.first_found.specs.Items.{one}
use Rattle.search_spaces.specs.PairItems.{GivesEvidence}
use Rattle.pair_search.specs.Grown.{IsGrown}
use Rattle.search_answers.proofs.Walking.{Walking}
use Rattle.ortho_search.specs.ItemView.{item_view}
use Rattle.ortho_search.proofs.trying.try_items.Given as goal

abbrev pub invariant-items : goal.invariant-items
invariant-items l = record {
  walking : Walking one (GivesEvidence ortho l.sys (overlap_view l.overlap)) (map item_view l.items) l.fn.budget l.budget (map item_view (drop l.item-index l.items));
  kept : (n : ℕ) × Spends l.fn.budget n l.budget;
  knows : IsGrown l.grown l.sys;
}
