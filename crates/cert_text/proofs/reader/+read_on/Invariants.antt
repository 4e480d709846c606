use Rattle.cert_text.specs.OpenedText.{depth}
use Rattle.cert_text.proofs.reader.+read_on.Given as goal

abbrev pub decreases-read_on : goal.decreases-read_on
decreases-read_on l = depth l.opened
