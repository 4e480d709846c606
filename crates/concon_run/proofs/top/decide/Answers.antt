use Rattle.std.proofs.Common.{inl, inr, refl, subst}
use Rattle.run_parts.specs.Words.{texts}
use Rattle.concon_run.specs.Commands.{check, prove, selftest, query, command_view, IsCommand}
use Rattle.concon_run.proofs.top.decide.Goals as goal

pub returns-in-Some-Check : goal.returns-in-Some-Check
returns-in-Some-Check g c =
    inr (
      check c.in-Some-Check.check.file.now c.in-Some-Check.check.cert.now,
      subst (λ asked. IsCommand (texts c.args.words.now) (command_view asked)) c.in-Some-Check.field-0-is c.in-Some-Check.ensures.found,
      c.check_reply.ensures,
    )

pub returns-in-Some-Prove : goal.returns-in-Some-Prove
returns-in-Some-Prove g c =
    inr (
      prove c.in-Some-Prove.prove.file.now c.in-Some-Prove.prove.budget,
      subst (λ asked. IsCommand (texts c.args.words.now) (command_view asked)) c.in-Some-Prove.field-0-is c.in-Some-Prove.ensures.found,
      c.prove_reply.ensures,
    )

pub returns-in-Some-Query : goal.returns-in-Some-Query
returns-in-Some-Query g c =
    inr (
      query c.in-Some-Query.question.file.now c.in-Some-Query.question.query.now c.in-Some-Query.question.budget,
      subst (λ asked. IsCommand (texts c.args.words.now) (command_view asked)) c.in-Some-Query.field-0-is c.in-Some-Query.ensures.found,
      c.query_reply.ensures,
    )

pub selftest_reply-requires-clause-least : goal.selftest_reply-requires-clause-least
selftest_reply-requires-clause-least g c =
    let form = subst (λ asked. IsCommand (texts c.args.words.now) (command_view asked)) c.in-Some-Selftest.field-0-is c.in-Some-Selftest.ensures.found in form.3

pub selftest_reply-requires-clause-most : goal.selftest_reply-requires-clause-most
selftest_reply-requires-clause-most g c =
    let form = subst (λ asked. IsCommand (texts c.args.words.now) (command_view asked)) c.in-Some-Selftest.field-0-is c.in-Some-Selftest.ensures.found in form.4

pub returns-in-Some-Selftest : goal.returns-in-Some-Selftest
returns-in-Some-Selftest g c =
    inr (
      selftest c.in-Some-Selftest.n,
      subst (λ asked. IsCommand (texts c.args.words.now) (command_view asked)) c.in-Some-Selftest.field-0-is c.in-Some-Selftest.ensures.found,
      record { asks = record { begun = refl; given = refl }; says = elim c.selftest_reply.ensures [ inl same ↦ inl (tt, tt, same) | inr none ↦ inr none ] },
    )

pub returns-in-None : goal.returns-in-None
returns-in-None g c = inl (c.in-None.ensures.none, record { begun = refl; given = refl }, c.usage.ensures)
