use Rattle.cert_text.proofs.Prelude.{measure_view, ortho_opening, quasi_opening}
use Rattle.cert_text.specs.OpenedText.{steps_view}
use Rattle.cert_text.proofs.OpenedViews.{ortho_opened, quasi_opened}
use Rattle.cert_text.proofs.Openings.{ready}
use Rattle.cert_text.proofs.opening.entries.Goals as goal

pub returns-in-Some : goal.returns-in-Some
returns-in-Some c = c.requires.refused c.in-Some.refused c.in-Some.is

pub behind-pairs-requires : goal.behind-pairs-requires
behind-pairs-requires c = c.requires.up_to c.in_default.is

pub returns-in-None : goal.returns-in-None
returns-in-None c = c.behind_steps.ensures c.args.names.now c.args.bytes.now (rw ortho_opened (ready c.args.names.now c.args.bytes.now c.args.at.left.now (steps_view c.args.ahead.steps)
    ortho_opening c.behind-pairs.result c.behind-pairs.ensures (rw c.in-None.is at (c.requires.opened c.in_default.is))))

pub returns-in-Some-measure : goal.returns-in-Some-measure
returns-in-Some-measure c =
    c.behind_steps-in-Some-measure.ensures c.args.names.now c.args.bytes.now (rw quasi_opened (ready c.args.names.now c.args.bytes.now c.args.at.left.now (steps_view c.args.ahead.steps)
    (quasi_opening (measure_view c.in-Some-measure.measure)) c.behind-pairs.result c.behind-pairs.ensures (rw c.in-Some-measure.is at (c.requires.opened c.in_default.is))))
