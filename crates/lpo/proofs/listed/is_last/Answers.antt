use Rattle.std.proofs.Common.{◌-◌, length, Some, sym, ap, ◌∙◌, eqb-true}
use Rattle.rewriting.proofs.Members.{place_among}
use Rattle.lpo.proofs.listed.is_last.Goals as goal

pub returns-in-Some : goal.returns-in-Some
returns-in-Some c =
    λ same.
    place_among c.args.list.now (length c.args.list.now - 1) c.args.number (sym c.in-Some.ensures.value ∙ ap Some (eqb-true c.in-Some.last.now c.args.number same))
