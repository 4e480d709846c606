use Rattle.std.proofs.Common.{List, ◌++◌, subst}
use Rattle.term_core.specs.View.{view}
use Rattle.noncon_search.specs.declared.ends.End.{End}
use Rattle.noncon_search.specs.Ends.{AreEnds}
use Rattle.wide_search.proofs.Some.{without}
use Rattle.wide_search.proofs.listed.refuted.Goals as goal

pub ends-preserved-else-end : goal.ends-preserved-else-end
ends-preserved-else-end c =
    let sys = c.args.sys.now in
    let t = view c.args.start.now in
    let some = c.ends.some.items in
    without sys t some c.in-Some.end c.next.new.self.rest.items (subst (λ (z : List End). AreEnds sys t (some ++ z)) c.in-Some.ensures.steps.0 c.ends.invariant)

pub ends-preserved-else-end-2 : goal.ends-preserved-else-end-2
ends-preserved-else-end-2 c =
    let sys = c.args.sys.now in
    let t = view c.args.start.now in
    let some = c.ends.some.items in
    without sys t some c.in-Some.end c.next.new.self.rest.items (subst (λ (z : List End). AreEnds sys t (some ++ z)) c.in-Some.ensures.steps.0 c.ends.invariant)

pub ends-preserved : goal.ends-preserved
ends-preserved c =
    let sys = c.args.sys.now in
    let t = view c.args.start.now in
    let some = c.ends.some.items in
    without sys t some c.in-Some.end c.next.new.self.rest.items (subst (λ (z : List End). AreEnds sys t (some ++ z)) c.in-Some.ensures.steps.0 c.ends.invariant)
