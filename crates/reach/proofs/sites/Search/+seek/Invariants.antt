use Rattle.std.proofs.Common.{◌≡◌, ◌+◌, ◌*◌, option_map, length, flat_map, drop}
use Rattle.flatterm.specs.Work.{HasRisen}
use Rattle.reach_lists.specs.Lists.{total}
use Rattle.reach.specs.EntryView.{table_view}
use Rattle.reach.specs.Ready.{HasKept, price}
use Rattle.reach.specs.Seeks.{goal_finds, goal_asks}
use Rattle.reach.specs.PathView.{path_view, IsSamePath}
use Rattle.reach.specs.SolutionView.{solution_view, or_first}
use Rattle.reach.proofs.Paying.{Paying}
use Rattle.reach.proofs.sites.Search.+seek.Given as goal

abbrev pub decreases-seek : goal.decreases-seek
decreases-seek l = 4 * length l.conds.now

abbrev pub decreases-seek_condition : goal.decreases-seek_condition
decreases-seek_condition l = 4 * length l.goal.later.now + 3

abbrev pub decreases-seek_entries : goal.decreases-seek_entries
decreases-seek_entries l = 4 * length l.goal.later.now + 2

abbrev pub decreases-seek_entry : goal.decreases-seek_entry
decreases-seek_entry l = 4 * length l.goal.later.now + 1

abbrev pub invariant-seek_entries-entries : goal.invariant-seek_entries-entries
invariant-seek_entries-entries l = record {
  found :
      or_first (option_map solution_view l.first) (flat_map (goal_finds l.self l.goal (path_view l.fn.path)) (table_view (drop l.w-index l.entries)))
      ≡ or_first (option_map solution_view l.fn.first) (flat_map (goal_finds l.self l.goal (path_view l.fn.path)) (table_view l.entries));
  paying :
      Paying
      (total (price l.self) (flat_map (goal_asks l.self l.goal (path_view l.fn.path)) (table_view l.entries)))
      l.fn.means.budget l.means.budget
      (total (price l.self) (flat_map (goal_asks l.self l.goal (path_view l.fn.path)) (table_view (drop l.w-index l.entries))));
  path : IsSamePath l.fn.path l.path;
  never_less : HasRisen l.fn.means.work 0 l.means.work;
  keeps : HasKept l.self l.means;
}
