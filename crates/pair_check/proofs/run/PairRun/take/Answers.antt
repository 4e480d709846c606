use Rattle.std.proofs.Common.{subst, sym, Ok, arith}
use Rattle.cert_model.specs.CertificateView.{pair_entry_view}
use Rattle.validity.specs.KindView.{kind_view}
use Rattle.pair_check.specs.Steps.{EntryAnswers}
use Rattle.pair_check.proofs.Stands.{kept_failed, not_failed, next_there, few_taken, taken_failing, taken_settling, list_ahead, goes_on_to, keeps_on}
use Rattle.pair_check.proofs.run.PairRun.take.Goals as goal

pub returns-then-is_some-clause-taken : goal.returns-then-is_some-clause-taken
returns-then-is_some-clause-taken c = kept_failed c.self.inside c.args.self.now c.self.view_is (sym c.if-is_some.ensures) (pair_entry_view c.args.entry.now)

pub judge_entry-requires-clause-next : goal.judge_entry-requires-clause-next
judge_entry-requires-clause-next c = next_there c.self.inside c.self.invariant (not_failed c.self.inside.failed (sym c.if-is_some.ensures))

pub judge_entry-requires-clause-few : goal.judge_entry-requires-clause-few
judge_entry-requires-clause-few c = few_taken c.self.inside c.self.invariant (not_failed c.self.inside.failed (sym c.if-is_some.ensures))

pub returns-in-Some-clause-taken : goal.returns-in-Some-clause-taken
returns-in-Some-clause-taken c =
    let none = not_failed c.self.inside.failed (sym c.if-is_some.ensures) in
    let e = pair_entry_view c.args.entry.now in
    let fails = subst (λ z. EntryAnswers (kind_view c.self.inside.kind) c.self.inside.sys.now c.self.inside.taken c.self.inside.next e (Ok z)) c.in-Some.is c.in_ok-judged.ensures.answer in
    taken_failing c.self.inside c.self.invariant none c.args.self.now c.self.view_is e c.in-Some.reason fails c.fail.new.failed c.fail.ensures

pub next_overlap-requires : goal.next_overlap-requires
next_overlap-requires c =
    let none = not_failed c.self.inside.failed (sym c.if-is_some.ensures) in
    let e = pair_entry_view c.args.entry.now in
    let settles = subst (λ z. EntryAnswers (kind_view c.self.inside.kind) c.self.inside.sys.now c.self.inside.taken c.self.inside.next e (Ok z)) c.in-None.is c.in_ok-judged.ensures.answer in
    record { list = list_ahead c.self.inside c.self.invariant none e settles }

pub invariant_of-self-in_err-self-inside-in-None : goal.invariant_of-self-in_err-self-inside-in-None
invariant_of-self-in_err-self-inside-in-None c =
    let none = not_failed c.self.inside.failed (sym c.if-is_some.ensures) in
    let e = pair_entry_view c.args.entry.now in
    let settles = subst (λ z. EntryAnswers (kind_view c.self.inside.kind) c.self.inside.sys.now c.self.inside.taken c.self.inside.next e (Ok z)) c.in-None.is c.in_ok-judged.ensures.answer in
    let same = c.in_ok-judged.ensures.settled c.in-None.is in
    record {
      stands = λ _. keeps_on c.self.inside c.self.invariant none e settles c.next_overlap.new.search c.next_overlap.ensures.system
          c.in_err-self-inside-in-None.ensures.answer c.judge_entry.new.next same;
    }

pub overflow_add-self : goal.overflow_add-self
overflow_add-self c =
    let few = few_taken c.self.inside c.self.invariant (not_failed c.self.inside.failed (sym c.if-is_some.ensures)) in
    omega (arith, few)

pub invariant_of-self-in-None : goal.invariant_of-self-in-None
invariant_of-self-in-None c =
    let none = not_failed c.self.inside.failed (sym c.if-is_some.ensures) in
    let e = pair_entry_view c.args.entry.now in
    let settles = subst (λ z. EntryAnswers (kind_view c.self.inside.kind) c.self.inside.sys.now c.self.inside.taken c.self.inside.next e (Ok z)) c.in-None.is c.in_ok-judged.ensures.answer in
    record {
      stands = λ _. goes_on_to c.self.inside c.self.invariant none e settles c.next_overlap.new.search c.next_overlap.ensures.system c.in_ok-self-inside-in-None.field-0
          c.in_ok-self-inside-in-None.ensures.answer;
    }

pub returns-in_ok-self-inside-in-None-clause-taken : goal.returns-in_ok-self-inside-in-None-clause-taken
returns-in_ok-self-inside-in-None-clause-taken c =
    let none = not_failed c.self.inside.failed (sym c.if-is_some.ensures) in
    let e = pair_entry_view c.args.entry.now in
    let settles = subst (λ z. EntryAnswers (kind_view c.self.inside.kind) c.self.inside.sys.now c.self.inside.taken c.self.inside.next e (Ok z)) c.in-None.is c.in_ok-judged.ensures.answer in
    taken_settling c.self.inside c.self.invariant none c.args.self.now c.self.view_is e settles
