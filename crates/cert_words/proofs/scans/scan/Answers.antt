use Rattle.cert_words.proofs.Scanning.{scan_stops, scan_goes_on, digits_on}
use Rattle.cert_words.proofs.Prelude.{sym, ap, ◌∙◌, ◌+◌, drop, scan, Mode, mode_view}
use Rattle.cert_words.proofs.scans.scan.Goals as goal

pub returns-in-None-clause-size : goal.returns-in-None-clause-size
returns-in-None-clause-size c = (scan_stops _ _ c.args.bytes.now _ _ c.bytes.invariant c.bytes-test.true c.next.ensures c.in-None.is).0

pub returns-in-None-clause-mode : goal.returns-in-None-clause-mode
returns-in-None-clause-mode c = (scan_stops _ _ c.args.bytes.now _ _ c.bytes.invariant c.bytes-test.true c.next.ensures c.in-None.is).1

pub bytes-preserved : goal.bytes-preserved
bytes-preserved c = scan_goes_on _ _ c.args.bytes.now _ _ _ c.bytes.invariant c.bytes-test.true c.next.ensures c.in-Some.is

pub returns-in-Some-NumberMore-clause-mode : goal.returns-in-Some-NumberMore-clause-mode
returns-in-Some-NumberMore-clause-mode c =
    let on = scan_goes_on _ _ c.args.bytes.now _ _ _ c.bytes.invariant c.bytes-test.true c.next.ensures c.in-Some-NumberMore.is in
    sym (on.mode ∙ ap (λ (m : Mode). (scan m (drop (c.bytes.size + 1) c.args.bytes.now)).mode) (ap mode_view c.in-Some-NumberMore.field-0-is) ∙ digits_on (drop (c.bytes.size + 1) c.args.bytes.now))
