use Rattle.std.proofs.Common.{◌≡◌, ◌+◌, suc, sym, subst, map, arith}
use Rattle.std.proofs.lemmas.Bool.{false≢true}
use Rattle.std.proofs.lemmas.List.{length-map}
use Rattle.rewriting.proofs.Laws.{well_formed}
use Rattle.certificates.specs.Certificates.{by_normal_forms}
use Rattle.term_core.specs.View.{view}
use Rattle.term_core.proofs.Rules.{handed_on}
use Rattle.cert_model.specs.CertificateView.{redex_view}
use Rattle.noncon_check.specs.Ends.{ApartAnswers}
use Rattle.noncon_check.proofs.Apart.{first_fails_so, second_fails_so, extra, shown}
use Rattle.redex_conditions.proofs.Ends.{rules_sound}
use Rattle.noncon_check.proofs.ends.check_normal.Goals as goal

pub judge_end-requires-clause-ready : goal.judge_end-requires-clause-ready
judge_end-requires-clause-ready c =
    record {
      system = c.rules.ensures.sound;
      rules = c.rules.ensures.rules;
      sound = rules_sound c.args.sys.now _ c.rules.ensures.sound c.rules.ensures.rules c.rules.ensures.counted;
      few = c.requires.few;
      own = omega arith;
    }

pub judge_end-requires-2-clause-ready : goal.judge_end-requires-2-clause-ready
judge_end-requires-2-clause-ready c =
    record {
      system = c.rules.ensures.sound;
      rules = c.rules.ensures.rules;
      sound = rules_sound c.args.sys.now _ c.rules.ensures.sound c.rules.ensures.rules c.rules.ensures.counted;
      few = c.requires.few;
      own = omega arith;
    }

pub returns-in_err-next : goal.returns-in_err-next
returns-in_err-next c =
    subst (ApartAnswers c.args.sys.now (view c.args.first.now) (view c.args.second.now) (by_normal_forms (map redex_view c.args.entries.now))) (sym (handed_on _ _ c.from_residual.ensures.1))
    (first_fails_so c.args.sys.now _ _ _ (λ e. false≢true (c.if-equal.ensures.1 e)) (well_formed c.args.sys.now c.rules.ensures.sound) c.in_err-next.field-0.0 c.in_err-next.ensures)

pub returns-in_err-next-2 : goal.returns-in_err-next-2
returns-in_err-next-2 c =
    subst (ApartAnswers c.args.sys.now (view c.args.first.now) (view c.args.second.now) (by_normal_forms (map redex_view c.args.entries.now)))
    (sym (handed_on _ _ c.from_residual-in_err-next-2.ensures.1))
    (second_fails_so c.args.sys.now (view c.args.first.now) (view c.args.second.now) (map redex_view c.args.entries.now) (λ e. false≢true (c.if-equal.ensures.1 e))
    c.in_ok-next.next c.in_ok-next.ensures c.in_err-next-2.field-0.0 c.in_err-next-2.ensures)

pub returns-then-next-entries : goal.returns-then-next-entries
returns-then-next-entries c =
    let one : c.in_ok-next-2.next + 1 ≡ suc c.in_ok-next-2.next = omega arith in
    let less = c.if-next-entries.true in
    let long = length-map c.args.entries.now redex_view in
    extra c.args.sys.now (view c.args.first.now) (view c.args.second.now) (map redex_view c.args.entries.now) (λ e. false≢true (c.if-equal.ensures.1 e)) c.in_ok-next.next
    c.in_ok-next.ensures c.in_ok-next-2.next c.in_ok-next-2.ensures
    (c.in_ok-next-2.next + 1) one (omega (arith, less, long))

pub returns : goal.returns
returns c =
    let high = c.if-next-entries.false in
    let long = length-map c.args.entries.now redex_view in
    shown c.args.sys.now (view c.args.first.now) (view c.args.second.now) (map redex_view c.args.entries.now) (λ e. false≢true (c.if-equal.ensures.1 e)) c.in_ok-next.next
    c.in_ok-next.ensures c.in_ok-next-2.next c.in_ok-next-2.ensures
    (omega (arith, high, long))
