use Rattle.cert_writing.proofs.Prelude.{views, arguments_text, further_text, Leads}
use Rattle.cert_writing.proofs.written_terms.+term.Given as goal

abbrev pub invariant-put_arguments-further : goal.invariant-put_arguments-further
invariant-put_arguments-further g l = Leads g.O.Output.took (arguments_text l.names (views l.args)) (λ xs. further_text l.names (views xs)) l.rest l.arg-index l.fn.to l.to
