use Rattle.cert_text.proofs.Prelude.{rules, ◌≡◌, ◌<◌, length, nil_from_length, not_nil, [], Some, None, refl, measure_view, peak_view, between, line, Peak}
use Rattle.cert_text.proofs.OpenedViews.{peak_opened}
use Rattle.cert_text.proofs.Fronts.{line_of}
use Rattle.cert_text.proofs.Openings.{opening_read, peak_read}
use Rattle.cert_text.proofs.opening.open_body.Goals as goal

pub entries-requires : goal.entries-requires
entries-requires c = opening_read None c.in-Ortho.is refl c.requires (c.text.ensures.read c.args.names.now (between line) [] refl) (c.entries_begin.ensures.read c.args.names.now _)
    c.entries_begin.ensures.begins tt

pub entries-requires-in-Quasi : goal.entries-requires-in-Quasi
entries-requires-in-Quasi c =
    let m = c.measure-measure.ensures in
    opening_read (Some (measure_view c.measure-measure.result)) c.in-Quasi.is c.uses_of.ensures.version c.requires (c.text.ensures.read c.args.names.now (between line) [] refl)
    m.read m.begins m.first

-- ---- a peak

pub peak-peak-requires : goal.peak-peak-requires
peak-peak-requires c =
    let front = line_of Peak c.in-Peak.is c.uses_of-in-Peak.ensures.version c.uses_of-in-Peak.ensures.automata c.requires (c.text.ensures.read c.args.names.now (between line) [] refl) in
    front.known

pub returns-in-Some : goal.returns-in-Some
returns-in-Some c =
    let front = line_of Peak c.in-Peak.is c.uses_of-in-Peak.ensures.version c.uses_of-in-Peak.ensures.automata c.requires (c.text.ensures.read c.args.names.now (between line) [] refl) in
    (peak_read (peak_view c.peak-peak.result) front c.peak-peak.ensures.plain c.peak-peak.ensures.read).refused c.in-Some.refused c.in-Some.is

pub returns-then-not-is_empty : goal.returns-then-not-is_empty
returns-then-not-is_empty c =
    let long : 0 < length c.peak-peak.new.at.left.now = search (rules, c.is_empty.ensures, c.if-not-is_empty.true) in
    let front = line_of Peak c.in-Peak.is c.uses_of-in-Peak.ensures.version c.uses_of-in-Peak.ensures.automata c.requires (c.text.ensures.read c.args.names.now (between line) [] refl) in
    (peak_read (peak_view c.peak-peak.result) front c.peak-peak.ensures.plain c.peak-peak.ensures.read).goes_on c.in_default.is
    (not_nil c.peak-peak.new.at.left.now long) c.saturating_sub.result c.saturating_sub.ensures

pub returns : goal.returns
returns c =
    let front = line_of Peak c.in-Peak.is c.uses_of-in-Peak.ensures.version c.uses_of-in-Peak.ensures.automata c.requires (c.text.ensures.read c.args.names.now (between line) [] refl) in
    let zero : length c.peak-peak.new.at.left.now ≡ 0 = search rules in
    c.behind_steps.ensures c.args.names.now c.args.bytes.now (rw peak_opened ((peak_read (peak_view c.peak-peak.result) front c.peak-peak.ensures.plain c.peak-peak.ensures.read).there
    c.in_default.is (nil_from_length c.peak-peak.new.at.left.now zero)))
