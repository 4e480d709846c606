use Rattle.std.proofs.Common.{refl}
use Rattle.ari_text.proofs.Conditions.{condition_read}
use Rattle.ari_text.proofs.rules.read_condition.Goals as goal

pub returns-clause-condition : goal.returns-clause-condition
returns-clause-condition c =
    condition_read c.args.reader.now c.name.new.self c.read_term.new.reader c.read_term-2.new.reader c.close.new.self c.in_ok-sign.sign.text.now _ _ _ _ _
    c.new-left.ensures.items c.new-right.ensures.items c.in_ok-sign.ensures.word c.if-not-is.ensures c.in_ok-read_term.ensures.term c.in_ok-read_term-2.ensures.term
    c.in_ok-close.ensures.word refl refl
