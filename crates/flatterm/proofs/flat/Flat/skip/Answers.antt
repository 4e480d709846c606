use Rattle.std.proofs.Common.{refl, sym, ◌≡◌, ◌∙◌, ap, subst, ◌+◌, slice_get}
use mathlib.Core.Bool.{true}
use lib.ListN.{length}
use Rattle.flatterm.specs.Place.{place_in, preorder, Stands}
use Rattle.flatterm.proofs.Focus.{focus}
use Rattle.flatterm.proofs.Preorder.{begins_where_cell, subterm_stands, place_behind_subterm}
use Rattle.flatterm.proofs.Seen.{cell_at_place, below_where_some, not_below_where_none}
use Rattle.flatterm.proofs.flat.Flat.skip.Goals as goal

pub jump-requires : goal.jump-requires
jump-requires c = let d = c.self.inside.chain in let w = c.self.invariant.0.0 in
    (focus w.0 d.items w.1 d.place (begins_where_cell d.before d.items (d.after, true) d.place c.read.result c.in-Some.field-0 c.read.ensures c.in-Some.is)).within

pub returns-in-Some-clause-answer : goal.returns-in-Some-clause-answer
returns-in-Some-clause-answer c = let d = c.self.inside.chain in
    let at = cell_at_place d.before d.items (d.after, true) d.place c.read.result c.read.ensures c.self.invariant.0.1 ∙ ap (λ v. slice_get v.0 v.1) c.self.view_is in
    let less = below_where_some c.args.self.now.0 c.args.self.now.1 c.in-Some.field-0 (sym at ∙ c.in-Some.is) in
    (λ _. less, λ _. refl)

pub returns-in-Some-clause-place : goal.returns-in-Some-clause-place
returns-in-Some-clause-place c = let d = c.self.inside.chain in let s = c.jump.ensures in let t = c.settle.ensures in
    let w = s.1.0 in
    let e = ap (λ cs. place_in cs c.settle.new.chain.place) t.0 ∙ t.1.2 ∙ ap (λ cs. place_in cs c.jump.new.self.place) s.0
    ∙ place_behind_subterm d.items d.place c.jump.new.self.place d.at d.here w s.1.1 in
    (λ _. (w.tree, subst (λ v. Stands v.0 v.1 w.tree) c.self.view_is (subterm_stands d.items d.place w), e ∙ ap (λ v. v.1 + length (preorder w.tree)) c.self.view_is), λ (h : _ ≡ _). cc)

pub returns-in-None-clause-answer : goal.returns-in-None-clause-answer
returns-in-None-clause-answer c = let d = c.self.inside.chain in
    let at = cell_at_place d.before d.items (d.after, true) d.place c.read.result c.read.ensures c.self.invariant.0.1 ∙ ap (λ v. slice_get v.0 v.1) c.self.view_is in
    (λ (h : _ ≡ _). cc, λ h. absurd (not_below_where_none c.args.self.now.0 c.args.self.now.1 (sym at ∙ c.in-None.is) h))
