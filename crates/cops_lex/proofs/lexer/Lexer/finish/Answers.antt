use Rattle.std.proofs.Common.{sym, ◌∙◌}
use Rattle.cops_lex.proofs.Leads.{leads_on, leads_to_end}
use Rattle.cops_lex.proofs.lexer.Lexer.finish.Goals as goal

pub rest-preserved : goal.rest-preserved
rest-preserved c = leads_on _ c.rest.self c.next.new.self c.in_ok-next.field-0 c.in_ok-next.ensures.answer c.in_ok-next.ensures.text (sym c.is_some.ensures ∙ c.if-is_some.true) c.rest.invariant

pub returns : goal.returns
returns c = leads_to_end _ c.rest.self c.next.new.self c.in_ok-next.field-0 c.in_ok-next.ensures.answer (sym c.is_some.ensures ∙ c.if-is_some.false) c.rest.invariant
