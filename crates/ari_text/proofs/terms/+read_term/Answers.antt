use Rattle.std.proofs.Common.{arith, refl, ◌∙◌}
use Rattle.ari_text.proofs.Lists.{no_terms, one_term_more, bare_read, call_read}
use Rattle.ari_text.proofs.terms.+read_term.Goals as goal

pub read_call-arguments-init : goal.read_call-arguments-init
read_call-arguments-init t c = record { read = no_terms _ _; onward = omega arith; functions = refl }

pub read_call-arguments-preserved : goal.read_call-arguments-preserved
read_call-arguments-preserved t c = record {
  read = one_term_more c.name.new.self c.arguments.reader c.read_term.new.reader c.push.new.self.items c.arguments.nodes.items c.read_term.new.nodes.items c.arguments.counter
      c.arguments.invariant.read c.in_ok-read_term.ensures.term;
  onward = omega (arith, c.arguments.invariant.onward, c.in_ok-read_term.ensures.onward);
  functions = c.in_ok-read_term.ensures.functions ∙ c.arguments.invariant.functions;
}

pub read_call-returns-clause-term : goal.read_call-returns-clause-term
read_call-returns-clause-term t c =
    let test = c.arguments-test.false in
    let end = c.arguments.auto.counter-end in
    call_read c.args.reader.now c.name.new.self c.arguments.reader c.close_call.new.reader c.args.nodes.now.items c.push.new.self.items c.arguments.nodes.items c.in_ok-name.name
    c.in-Some.arity c.arguments.counter
    c.in_ok-name.ensures.word c.in_ok-push.ensures.items c.arguments.invariant.read (omega (arith, test, end)) c.in_ok-close_call.ensures.word

pub read_term-returns-in_ok-put_bare-in-Some-Id-clause-term : goal.read_term-returns-in_ok-put_bare-in-Some-Id-clause-term
read_term-returns-in_ok-put_bare-in-Some-Id-clause-term t c =
    bare_read c.args.reader.now c.next.new.self c.args.nodes.now.items c.put_bare.new.nodes.items c.in-Some-Id.name (rw c.in-Some-Id.field-0-is at c.in-Some-Id.ensures.word)
    c.in_ok-put_bare-in-Some-Id.ensures.node
