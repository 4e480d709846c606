use Rattle.std.proofs.Common.{refl}
use Rattle.std.proofs.lemmas.Bool.{false≢true}
use Rattle.critical_pairs.proofs.Runs.{has_position, refused_there}
use Rattle.critical_pairs.proofs.Spot.{measured_there, pair_too_large}
use Rattle.critical_pairs.proofs.spots.UnitMade.make_by.Goals as goal

pub does_pair_fit-requires : goal.does_pair_fit-requires
does_pair_fit-requires c = has_position _ _ _ _ c.requires.spot _ _ c.rules_at.ensures.renamed

pub returns-then-does_pair_fit : goal.returns-then-does_pair_fit
returns-then-does_pair_fit c =
    let rules = c.rules_at.ensures.renamed c.requires.spot in
    let (o, there) = measured_there c.args.sys.now _ _ _ c.args.m.now c.requires _ _ rules.0 rules.1 (λ pair made. (c.if-does_pair_fit.ensures pair made).0 refl) in (o, tt, there)

pub returns-else-does_pair_fit : goal.returns-else-does_pair_fit
returns-else-does_pair_fit c =
    let rules = c.rules_at.ensures.renamed c.requires.spot in
    refused_there _ _ _ _ c.too_large.result (pair_too_large c.args.sys.now _ _ _ c.args.m.now c.requires _ _ rules.0 rules.1
    (λ pair made fit. false≢true ((c.if-does_pair_fit.ensures pair made).1 fit)))
    c.too_large.ensures
