use Rattle.std.proofs.Common.{[], ◌∷◌, ◌++◌, refl, sym, ap, ◌∙◌, arith}
use Rattle.term_core.proofs.Rules.{handed_on}
use Rattle.certificates.specs.Certificates.{MeasureCertificate, quasi_certificate}
use Rattle.cert_model.specs.CertificateView.{measure_view, pair_entry_view}
use Rattle.cert_check.specs.declared.measures.NamedMeasure.{NamedMeasure}
use Rattle.cert_openings.specs.Openings.{quasi_opening}
use Rattle.cert_check.proofs.Reading.{never_more, next_short, one_taken, all_read}
use Rattle.cert_check.proofs.Texts.{tally_there, valid_there, rejected_there, rejected_answer, refused_answer}
use Rattle.cert_check.proofs.entries.judge_quasi.Goals as goal

-- the measure's certificate
abbrev certificate_of : NamedMeasure → MeasureCertificate
certificate_of m = measure_view m.measure.now

pub entries-init : goal.entries-init
entries-init c =
    let same = ap certificate_of (sym c.in_ok-run.ensures.measure) in
    record {
      names = refl;
      bytes = refl;
      system = c.in_ok-run.ensures.system ∙ (c.in_ok-prepared.ensures ∙ c.in_ok-indexed.ensures);
      measure = same;
      taken = λ o h. record {
        entries = [];
        read = h;
        counted = refl;
        tally = tally_there c.in_ok-run.run'.system c.in_ok-prepared.prepared (certificate_of c.in_ok-run.run'.measure) _ [] c.in_ok-run.run'.tally (sym c.in_ok-run.ensures.system)
            same c.in_ok-run.ensures.tally;
      };
    }

pub entries-preserved : goal.entries-preserved
entries-preserved c =
    let before = c.entries.invariant in
    let same = ap certificate_of (sym c.in_ok-take_quasi.ensures.measure) in
    record {
      names = c.next.ensures.text.0 ∙ before.names;
      bytes = c.next.ensures.text.1 ∙ before.bytes;
      system = c.in_ok-take_quasi.ensures.system ∙ before.system;
      measure = before.measure ∙ same;
      taken = λ o h.
          one_taken c.entries.pairs c.next.new.self o c.entries.counter _ _ c.in_ok-entry.field-0 c.in-Some.entry c.in-Some.is c.in_ok-entry.ensures.entry
          (λ es t. tally_there c.take_quasi.new.run.system c.entries.run.system (certificate_of c.take_quasi.new.run.measure) (certificate_of c.entries.run.measure)
          (es ++ pair_entry_view c.in-Some.entry ∷ []) _
          (sym c.in_ok-take_quasi.ensures.system) same (c.in_ok-take_quasi.ensures.tally es t))
          (before.taken o h);
    }

pub take_quasi-requires : goal.take_quasi-requires
take_quasi-requires c =
    let taken = c.entries.invariant.taken c.requires.0 c.requires.1 in
    next_short c.entries.pairs c.next.new.self c.requires.0 taken.entries c.in_ok-entry.field-0 c.in-Some.entry c.in-Some.is c.in_ok-entry.ensures.entry taken.read

pub returns-in_err-entry-clause-answers : goal.returns-in_err-entry-clause-answers
returns-in_err-entry-clause-answers c = λ o h.
    let before = c.entries.invariant in
    refused_answer c.args.sys.now c.args.pairs.now.names c.args.pairs.now.bytes o (quasi_opening (measure_view c.args.measure.now)) c.entries.pairs before.names before.bytes
    c.in_err-entry.field-0.0 c.in_err-entry.ensures.refused
    _ (handed_on _ _ c.from_residual-in_err-entry.ensures.1)

pub returns-in_err-finish-clause-answers : goal.returns-in_err-finish-clause-answers
returns-in_err-finish-clause-answers c = λ o h.
    let before = c.entries.invariant in
    let taken = before.taken o h in
    let measure = measure_view c.args.measure.now in
    rejected_answer c.args.sys.now c.args.pairs.now.names c.args.pairs.now.bytes o (quasi_opening measure) taken.entries _ _ (handed_on _ _ c.from_residual-in_err-finish.ensures.1)
    (all_read c.args.pairs.now.names c.args.pairs.now.bytes c.entries.pairs o taken.entries before.names before.bytes c.in_ok-entry.field-0 c.in_default.not-Some c.in_ok-entry.ensures.none taken.read)
    (rejected_there c.args.sys.now c.entries.run.system (quasi_certificate measure taken.entries)
    (quasi_certificate (certificate_of c.entries.run.measure) taken.entries) _ before.system
    (ap (λ m. quasi_certificate m taken.entries) (sym before.measure)) (c.in_err-finish.ensures.judged taken.entries taken.tally))

pub returns-in_default-clause-answers : goal.returns-in_default-clause-answers
returns-in_default-clause-answers c = λ o h.
    let before = c.entries.invariant in
    let taken = before.taken o h in
    let measure = measure_view c.args.measure.now in (
      taken.entries,
      all_read c.args.pairs.now.names c.args.pairs.now.bytes c.entries.pairs o taken.entries before.names before.bytes c.in_ok-entry.field-0 c.in_default.not-Some
          c.in_ok-entry.ensures.none taken.read,
      valid_there c.args.sys.now c.entries.run.system (quasi_certificate measure taken.entries)
          (quasi_certificate (certificate_of c.entries.run.measure) taken.entries) before.system
          (ap (λ m. quasi_certificate m taken.entries) (sym before.measure)) (c.in_ok-finish.ensures.judged taken.entries taken.tally),
      refl,
    )

pub unreachable-requires : goal.unreachable-requires
unreachable-requires c =
    let out = c.entries-test.false in
    never_more c.entries.pairs c.requires.0 c.entries.counter _ (c.entries.invariant.taken c.requires.0 c.requires.1) (omega (arith, out))
