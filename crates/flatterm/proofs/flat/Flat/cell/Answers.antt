use Rattle.std.proofs.Common.{◌∙◌, ap, slice_get, subst, ◌≤◌, length}
use Rattle.flatterm.proofs.Seen.{cell_at_place, place_within, some_is_below, below_is_some}
use mathlib.Core.Bool.{true}
use Rattle.std.proofs.Common.{sym}
use Rattle.flatterm.proofs.Preorder.{laid_cells}
use Rattle.flatterm.proofs.Replaced.{is_preorder}
use Rattle.flatterm.proofs.flat.Flat.cell.Goals as goal

pub returns-clause-cell : goal.returns-clause-cell
returns-clause-cell c = let chain = c.self.inside.chain in cell_at_place chain.before chain.items (chain.after, true) chain.place c.read.result c.read.ensures c.self.invariant.0.1
    ∙ ap (λ v. slice_get v.0 v.1) c.self.view_is

pub returns-clause-whole : goal.returns-clause-whole
returns-clause-whole c = let w = c.self.invariant.0.0 in is_preorder c.args.self.now.0 w.0 (sym (ap (λ v. v.0) c.self.view_is) ∙ laid_cells w.0 c.self.inside.chain.items w.1)

pub returns-clause-place : goal.returns-clause-place
returns-clause-place c = let d = c.self.inside.chain in subst (λ v. v.1 ≤ length v.0) c.self.view_is (place_within d.items d.place)

pub returns-clause-at_cell : goal.returns-clause-at_cell
returns-clause-at_cell c = let v = c.args.self.now in let o = c.read.result.body.cell in
    (λ h. some_is_below v.0 v.1 o (returns-clause-cell c) h, λ h. below_is_some v.0 v.1 o (returns-clause-cell c) h)
