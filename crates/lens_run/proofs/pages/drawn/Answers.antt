use Rattle.std.proofs.Common.{inr}
use Rattle.lens_run.proofs.Unread.{cert_since}
use Rattle.lens_run.proofs.pages.drawn.Goals as goal

pub returns-in-Err-certificate_of : goal.returns-in-Err-certificate_of
returns-in-Err-certificate_of g c =
    let found = c.in-Ok.found in
    let before = c.in-Ok.ensures in
    let none = cert_since _ _ found.1 c.args.cert.now _ _ _ _ before.contents (before.never_falls c.args.cert.now) c.in-Err-certificate_of.ensures.none in
    inr (found.0, found.1, before.found, inr none)
