use Rattle.std.proofs.Common.{[], ◌∷◌, ◌++◌, refl, sym, subst, ◌∙◌, arith}
use Rattle.term_core.proofs.Rules.{handed_on}
use Rattle.certificates.specs.Certificates.{ortho_certificate}
use Rattle.cert_model.specs.CertificateView.{pair_entry_view}
use Rattle.tallies.specs.Tally.{IsOrthoTally}
use Rattle.cert_openings.specs.Openings.{ortho_opening}
use Rattle.cert_check.proofs.Reading.{never_more, next_short, one_taken, all_read}
use Rattle.cert_check.proofs.Texts.{valid_there, rejected_there, rejected_answer, refused_answer}
use Rattle.cert_check.proofs.entries.judge_ortho.Goals as goal

pub entries-init : goal.entries-init
entries-init c = record {
  names = refl;
  bytes = refl;
  system = c.in_ok-run.ensures.system ∙ (c.in_ok-prepared.ensures ∙ c.in_ok-indexed.ensures);
  taken = λ o h. record {
    entries = [];
    read = h;
    counted = refl;
    tally = subst (λ s. IsOrthoTally s [] c.in_ok-run.run'.tally) (sym c.in_ok-run.ensures.system) c.in_ok-run.ensures.tally;
  };
}

pub entries-preserved : goal.entries-preserved
entries-preserved c =
    let before = c.entries.invariant in
    record {
      names = c.next.ensures.text.0 ∙ before.names;
      bytes = c.next.ensures.text.1 ∙ before.bytes;
      system = c.in_ok-take_ortho.ensures.system ∙ before.system;
      taken = λ o h.
          one_taken c.entries.pairs c.next.new.self o c.entries.counter _ _ c.in_ok-entry.field-0 c.in-Some.entry c.in-Some.is c.in_ok-entry.ensures.entry
          (λ es t. subst (λ s. IsOrthoTally s (es ++ pair_entry_view c.in-Some.entry ∷ []) c.take_ortho.new.run.tally) (sym c.in_ok-take_ortho.ensures.system) (c.in_ok-take_ortho.ensures.tally es t))
          (before.taken o h);
    }

pub take_ortho-requires : goal.take_ortho-requires
take_ortho-requires c =
    let taken = c.entries.invariant.taken c.requires.0 c.requires.1 in
    next_short c.entries.pairs c.next.new.self c.requires.0 taken.entries c.in_ok-entry.field-0 c.in-Some.entry c.in-Some.is c.in_ok-entry.ensures.entry taken.read

pub returns-in_err-entry-clause-answers : goal.returns-in_err-entry-clause-answers
returns-in_err-entry-clause-answers c = λ o h.
    let before = c.entries.invariant in
    refused_answer c.args.sys.now c.args.pairs.now.names c.args.pairs.now.bytes o ortho_opening c.entries.pairs before.names before.bytes c.in_err-entry.field-0.0 c.in_err-entry.ensures.refused
    _ (handed_on _ _ c.from_residual-in_err-entry.ensures.1)

pub returns-in_err-finish-clause-answers : goal.returns-in_err-finish-clause-answers
returns-in_err-finish-clause-answers c = λ o h.
    let before = c.entries.invariant in
    let taken = before.taken o h in
    rejected_answer c.args.sys.now c.args.pairs.now.names c.args.pairs.now.bytes o ortho_opening taken.entries _ _ (handed_on _ _ c.from_residual-in_err-finish.ensures.1)
    (all_read c.args.pairs.now.names c.args.pairs.now.bytes c.entries.pairs o taken.entries before.names before.bytes c.in_ok-entry.field-0 c.in_default.not-Some c.in_ok-entry.ensures.none taken.read)
    (rejected_there c.args.sys.now c.entries.run.system (ortho_certificate taken.entries) (ortho_certificate taken.entries) _ before.system refl
    (c.in_err-finish.ensures.judged taken.entries taken.tally))

pub returns-in_default-clause-answers : goal.returns-in_default-clause-answers
returns-in_default-clause-answers c = λ o h.
    let before = c.entries.invariant in
    let taken = before.taken o h in (
      taken.entries,
      all_read c.args.pairs.now.names c.args.pairs.now.bytes c.entries.pairs o taken.entries before.names before.bytes c.in_ok-entry.field-0 c.in_default.not-Some
          c.in_ok-entry.ensures.none taken.read,
      valid_there c.args.sys.now c.entries.run.system (ortho_certificate taken.entries) (ortho_certificate taken.entries) before.system refl (c.in_ok-finish.ensures.judged taken.entries taken.tally),
      refl,
    )

pub unreachable-requires : goal.unreachable-requires
unreachable-requires c =
    let out = c.entries-test.false in
    never_more c.entries.pairs c.requires.0 c.entries.counter _ (c.entries.invariant.taken c.requires.0 c.requires.1) (omega (arith, out))
