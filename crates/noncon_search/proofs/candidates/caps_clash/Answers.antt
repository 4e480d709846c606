use Rattle.std.proofs.Common.{subst}
use Rattle.std.specs.Prelude.{IfSome}
use Rattle.term_core.specs.View.{view}
use Rattle.noncon_search.specs.Ends.{StandsForCap}
use Rattle.noncon_search.proofs.Clashing.{caps_answer}
use Rattle.noncon_search.proofs.candidates.caps_clash.Goals as goal

pub returns-in-Some-Some : goal.returns-in-Some-Some
returns-in-Some-Some c =
    let sys = c.args.sys.now in
    let u = view c.args.first.now.listed.now.term in
    let v = view c.args.second.now.listed.now.term in
    caps_answer sys u v (view c.in-Some-Some.cap) (view c.in-Some-Some.other) (subst (λ o. IfSome o (λ t. StandsForCap sys u (view t))) c.in-Some-Some.is-0 c.requires.first.capped)
    (subst (λ o. IfSome o (λ t. StandsForCap sys v (view t))) c.in-Some-Some.is-1 c.requires.second.capped) c.made_caps_clash.result c.made_caps_clash.ensures.walk
