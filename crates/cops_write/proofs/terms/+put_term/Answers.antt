use Rattle.std.proofs.Common.{◌++◌, List, codes, refl}
use Rattle.term_core.specs.declared.terms.Term.{Term}
use Rattle.term_core.specs.View.{view, views}
use Rattle.cops_write.specs.Text.{term_text, further_text}
use Rattle.cops_write.proofs.Growing.{both, next_of, none_left, ends}
use Rattle.cops_write.proofs.Members.{arguments_begin}
use Rattle.cops_write.proofs.terms.+put_term.Goals as goal

pub put_arguments-further-init : goal.put_arguments-further-init
put_arguments-further-init t c = arguments_begin _ _ _ _ c.in-len1-up.len_at_least c.first-item.is c.in_ok-put.ensures c.in_ok-put_term.ensures

pub put_arguments-further-preserved : goal.put_arguments-further-preserved
put_arguments-further-preserved t c =
    let text = λ (xs : List Term). further_text c.args.names.now c.args.rule (views xs) in
    next_of text text (λ (x : Term). codes "," ++ term_text c.args.names.now c.args.rule (view x)) (λ x xs. refl) _ _ _ c.further-test.true c.arg-item.is c.further.invariant
    (both c.in_ok-put-2.ensures c.in_ok-put_term-2.ensures)

pub put_arguments-returns-in_ok-put-3 : goal.put_arguments-returns-in_ok-put-3
put_arguments-returns-in_ok-put-3 t c = ends (none_left (λ (xs : List Term). further_text c.args.names.now c.args.rule (views xs)) _ _ c.further-test.false c.further.invariant) c.in_ok-put-3.ensures
