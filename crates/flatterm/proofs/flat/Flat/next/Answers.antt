use Rattle.std.proofs.Common.{refl, sym, ◌≡◌, ◌∙◌, ap, arith, ◌+◌, slice_get}
use Prim.Native.Nat.{suc}
use mathlib.Core.Bool.{true}
use Rattle.flatterm.specs.Place.{place_in}
use Rattle.flatterm.proofs.Seen.{next_of_cell, place_past_cell, cell_at_place, below_where_some, not_below_where_none, none_where_not_some}
use Rattle.flatterm.proofs.flat.Flat.next.Goals as goal

pub step-requires : goal.step-requires
step-requires c = let d = c.self.inside.chain in next_of_cell d.before d.items (d.after, true) d.place c.read.result c.in-Some.field-0 c.self.invariant.0.0 c.read.ensures c.in-Some.is

pub returns-clause-answer : goal.returns-clause-answer
returns-clause-answer c = let d = c.self.inside.chain in
    let at = cell_at_place d.before d.items (d.after, true) d.place c.read.result c.read.ensures c.self.invariant.0.1 ∙ ap (λ v. slice_get v.0 v.1) c.self.view_is in
    let less = below_where_some c.args.self.now.0 c.args.self.now.1 c.in-Some.field-0 (sym at ∙ c.in-Some.is) in
    (λ _. less, λ _. refl)

pub returns-clause-place : goal.returns-clause-place
returns-clause-place c = let d = c.self.inside.chain in let s = c.step.ensures in let t = c.settle.ensures in
    let same : d.place + 1 ≡ suc d.place = omega arith in
    let e = ap (λ cs. place_in cs c.settle.new.chain.place) t.0 ∙ t.1.2 ∙ ap (λ cs. place_in cs c.step.new.self.place) s.0 ∙ ap (place_in d.items) (s.1 ∙ same)
    ∙ place_past_cell d.before d.items (d.after, true) d.place c.read.result c.in-Some.field-0 c.read.ensures c.in-Some.is in
    let v = ap (λ v. v.1) c.self.view_is in
    (λ _. omega (arith, e, v), λ (h : _ ≡ _). cc)

pub returns-in_default-clause-answer : goal.returns-in_default-clause-answer
returns-in_default-clause-answer c = let d = c.self.inside.chain in
    let at = cell_at_place d.before d.items (d.after, true) d.place c.read.result c.read.ensures c.self.invariant.0.1 ∙ ap (λ v. slice_get v.0 v.1) c.self.view_is in
    (λ (h : _ ≡ _). cc, λ h. absurd (not_below_where_none c.args.self.now.0 c.args.self.now.1 (sym at ∙ none_where_not_some c.read.result.body.cell c.in_default.not-Some) h))
