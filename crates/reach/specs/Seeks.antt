-- What seeking a first solution finds and asks for.
use Rattle.std.specs.Prelude.{List, ◌∷◌, Option, flat_map, map, Result}
use Rattle.cc_count.specs.Counts.{Counts}
use Rattle.rewriting.specs.Prelude.{Term, Condition}
use Rattle.term_core.specs.RuleView.{condition_view}
use Rattle.reach_lists.specs.Lists.{total}
use Rattle.reach_lists.specs.Solutions as math
use Rattle.reach_lists.specs.Paths.{followed, asked_on_paths}
use Rattle.reach.specs.declared.listed.ReachStop.{ReachStop}
use Rattle.reach.specs.declared.seeking.Goal.{Goal}
use Rattle.reach.specs.declared.seeking.Solution.{Solution}
use Rattle.reach.specs.declared.sites.Search.{Search}
use Rattle.reach.specs.Costs.{Costs}
use Rattle.reach.specs.Follows.{behind, asked_behind}
use Rattle.reach.specs.Ready.{inner, price}
use Rattle.reach.specs.SolutionView.{IsSought}

-- the first of some solutions is known, and the lists that were asked for are paid
abbrev pub Finds : Search → List math.Solution → List Term → Option Solution → Option Solution → Counts → Counts → Result (Unit {0}) ReachStop → Type 0
Finds s found asked first new before after result = Costs (λ _. IsSought first new found) (total (price s) asked) before after result

-- the solutions of conditions in which one goes on
abbrev pub Seeks : Search → List Condition → math.Solution → Option Solution → Option Solution → Counts → Counts → Result (Unit {0}) ReachStop → Type 0
Seeks s cs p first new before after result = Finds s (followed (inner s) cs p) (asked_on_paths (inner s) cs p) first new before after result

-- the conditions behind that of a goal
abbrev pub behind_goal : Goal → List Condition
behind_goal g = map condition_view g.later.now

-- the solutions where a listed term meets its condition, and the lists that are asked for behind it
abbrev pub goal_finds : Search → Goal → math.Solution → math.Reached → List math.Solution
goal_finds s g = behind s (condition_view g.cond.now) (behind_goal g)

abbrev pub goal_asks : Search → Goal → math.Solution → math.Reached → List Term
goal_asks s g = asked_behind s (condition_view g.cond.now) (behind_goal g)

-- the solutions of a goal's conditions; those where listed terms are to meet the first; and where one is
abbrev pub SeeksGoal : Search → Goal → math.Solution → Option Solution → Option Solution → Counts → Counts → Result (Unit {0}) ReachStop → Type 0
SeeksGoal s g p first new before after result = Seeks s (condition_view g.cond.now ∷ behind_goal g) p first new before after result

abbrev pub SeeksTerms : Search → Goal → math.Solution → List math.Reached → Option Solution → Option Solution → Counts → Counts → Result (Unit {0}) ReachStop → Type 0
SeeksTerms s g p ws first new before after result = Finds s (flat_map (goal_finds s g p) ws) (flat_map (goal_asks s g p) ws) first new before after result

abbrev pub SeeksTerm : Search → Goal → math.Solution → math.Reached → Option Solution → Option Solution → Counts → Counts → Result (Unit {0}) ReachStop → Type 0
SeeksTerm s g p w first new before after result = Finds s (goal_finds s g p w) (goal_asks s g p w) first new before after result
