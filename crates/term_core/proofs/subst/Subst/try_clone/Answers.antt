use Rattle.std.proofs.Common.{ap, ◌∙◌}
use Rattle.std.specs.FinMap as map
use Rattle.term_core.proofs.Entries.{with_entries, with_entries-empty}
use Rattle.term_core.proofs.subst.Subst.try_clone.Goals as goal

pub returns : goal.returns
returns c =
    let given = c.into_iter-x-iterator.ensures.into_iter_gives in
    let ends = c.in-None.ensures {u = tt} in
    let done = rw ends.steps.0 at c.loop-x.invariant in
    done ∙ ap (with_entries map.empty) given.0 ∙ with_entries-empty _ given.5 ∙ c.self.view_is
