use Rattle.std.proofs.Common.{inr}
use Rattle.cert_check.proofs.Bounds.{within_can_be_judged}
use Rattle.lens_run.proofs.Unread.{cert_since}
use Rattle.lens_run.proofs.pages.told.Goals as goal

pub returns-in-Err-certificate_of : goal.returns-in-Err-certificate_of
returns-in-Err-certificate_of g c =
    let found = c.in-Ok.found in
    let before = c.in-Ok.ensures in
    let none = cert_since _ _ found.1 c.args.cert.now _ _ _ _ before.contents (before.never_falls c.args.cert.now) c.in-Err-certificate_of.ensures.none in
    inr (found.0, found.1, before.found, inr none)

pub judged_page-requires : goal.judged_page-requires
judged_page-requires g c =
    let file = c.in-Ok.ensures.found in
    within_can_be_judged c.in-Ok.found.0 c.in-Ok.found.1 _ (c.one_reading.ensures.sound file.0 _ _ file.3) (c.one_reading.ensures.named file.0 _ _ file.3)
    c.in-Ok-certificate_of.ensures.found.3.1.spelt.1
