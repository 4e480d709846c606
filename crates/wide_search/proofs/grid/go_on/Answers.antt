use Rattle.wide_search.proofs.Prefixes.{up, across}
use Rattle.wide_search.proofs.grid.go_on.Goals as goal

pub returns-then-advance : goal.returns-then-advance
returns-then-advance c =
    λ sys h. across c.back.prefix.items c.pop.new.self.items c.in-Some.entry c.in-Some.ensures.items sys (c.back.invariant sys h) c.push.new.self.items c.advance.new.entry c.in_ok-push.ensures.items
    c.if-advance.ensures.head c.if-advance.ensures.count c.if-advance.ensures.tried

pub back-preserved : goal.back-preserved
back-preserved c = λ sys h. up c.back.prefix.items c.pop.new.self.items c.in-Some.entry c.in-Some.ensures.items sys (c.back.invariant sys h)
