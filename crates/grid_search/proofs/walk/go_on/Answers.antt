use Rattle.std.proofs.Common.{◌∙◌, sym}
use Rattle.grid_search.proofs.Standing.{goes_across, goes_up, ends}
use Rattle.grid_search.proofs.walk.go_on.Goals as goal

pub returns-then-advance : goal.returns-then-advance
returns-then-advance c =
    λ sys n h. goes_across c.args.prefix.now.items c.back.prefix.items c.back.invariant c.pop.new.self.items c.in-Some.entry c.advance.new.entry c.in-Some.ensures.items sys n h
    c.push.new.self.items c.in_ok-push.ensures.items c.if-advance.ensures.next

pub back-preserved : goal.back-preserved
back-preserved c =
    λ sys n h. goes_up c.args.prefix.now.items c.back.prefix.items c.back.invariant c.pop.new.self.items c.in-Some.entry c.advance.new.entry c.in-Some.ensures.items sys n h c.if-advance.ensures.next

pub returns : goal.returns
returns c = ends c.args.prefix.now.items c.back.prefix.items c.back.invariant (sym c.back.prefix.ok.0 ∙ c.in_default.ensures.cases.0)
