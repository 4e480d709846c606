use Rattle.std.proofs.Common.{drop}
use Rattle.term_core.specs.View.{views}
use Rattle.cops_write.specs.Text.{arguments_text, further_text}
use Rattle.cops_write.proofs.Growing.{Leads}
use Rattle.cops_write.proofs.terms.+put_term.Given as goal

abbrev pub invariant-put_arguments-further : goal.invariant-put_arguments-further
invariant-put_arguments-further l = Leads l.fn.out.items (arguments_text l.names l.rule (views l.args)) l.out.items (further_text l.names l.rule (views (drop l.arg-index l.rest)))
