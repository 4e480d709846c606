-- Listings under the conditions of an overlap.
use Rattle.std.specs.Prelude.{ℕ, ◌≡◌, ◌<◌, Option, None, Some, Result, Ok, Err, Vec}
use Rattle.std.specs.Global.{Global}
use Rattle.rewriting.specs.Prelude.{Term, System}
use Rattle.unifier_run.specs.Overlaps.{Overlap}
use Rattle.term_core.specs.declared.terms.NoMemory.{NoMemory}
use Rattle.cc_count.specs.Counts.{Counts, Spends}
use Rattle.search_spaces.specs.declared.TheConstants.{STEPS, COND_DEPTH}
use Rattle.reach_lists.specs.Lists.{reach_list, reach_cost}
use Rattle.reach.specs.EntryView.{table_view}
use Rattle.reach.specs.declared.listed.Entry.{Entry}

-- the list of so many steps, for its cost; none, with nothing left, where that is greater than what was left
abbrev pub ReachedAnswers : System → Overlap → ℕ → ℕ → Term → Counts → Counts → Result (Option (Vec Entry Global)) NoMemory → Type 0
ReachedAnswers sys o d c t before after (Ok (Some l)) = (table_view l.items ≡ reach_list sys o.pair.conditions d c t) × Spends before (reach_cost sys o.pair.conditions d c t) after
ReachedAnswers sys o d c t before after (Ok None) = (before.left < reach_cost sys o.pair.conditions d c t) × Spends before before.left after
ReachedAnswers sys o d c t before after (Err e) = (n : ℕ) × Spends before n after

-- the same of a listing
abbrev pub ListedAnswers : System → Overlap → Term → Counts → Counts → Result (Option (Vec Entry Global)) NoMemory → Type 0
ListedAnswers sys o = ReachedAnswers sys o STEPS COND_DEPTH
