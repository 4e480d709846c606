use Rattle.std.proofs.Common.{◌≡◌, ◌<◌, length, Some, slice_get, refl, ap, subst, arith}
use Rattle.std.proofs.lemmas.Option.{slice_get_read}
use Rattle.automaton_runs.specs.Choices.{Tails}
use Rattle.automaton_runs.specs.Leaves.{AreStatesIn}
use Rattle.automaton_runs.proofs.tails.Tails.leaf.Goals as goal

pub returns-clause-states : goal.returns-clause-states
returns-clause-states c =
    let i = c.self.inside in
    let r = c.index.result.now in
    let width : length c.self.inside.leaves.items ≡ c.args.self.now.width = ap (λ (t : Tails). t.width) c.self.view_is in
    let inside : c.args.place < length c.self.inside.leaves.items = omega (arith, c.requires) in
    let at : slice_get c.self.inside.leaves.items c.args.place ≡ Some c.index.result.now = slice_get_read c.self.inside.leaves.items (length c.self.inside.leaves.items)
    c.args.place c.index.result.now refl inside c.index.ensures in
    subst (λ (t : Tails). AreStatesIn t.lists c.args.place c.index.result.now) c.self.view_is (c.self.invariant.leaves c.args.place c.index.result.now at)
