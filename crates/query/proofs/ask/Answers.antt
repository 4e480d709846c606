use Rattle.std.proofs.Common.{ℕ, map, List, sym, subst, ◌∙◌, arith}
use Rattle.std.proofs.lemmas.List.{length-map}
use Rattle.std.specs.Prelude.{string_bytes}
use Rattle.certificates.specs.Soundness.{AreConditionsOver}
use Rattle.term_core.specs.RuleView.{condition_view}
use Rattle.query_text.proofs.Queries.{queries_within_limits}
use Rattle.cops_names.specs.NamesView.{texts_of}
use Rattle.query.proofs.Asking.{same_within, refused_answer}
use Rattle.query.proofs.ask.Goals as goal

pub answer-requires-clause-over : goal.answer-requires-clause-over
answer-requires-clause-over c =
    subst (λ (arities : List ℕ). AreConditionsOver arities (map condition_view c.in_ok-query.query.conds.items)) (sym c.requires) (queries_within_limits _ _ _ _ _ c.in_ok-query.ensures).over

pub answer-requires-clause-few : goal.answer-requires-clause-few
answer-requires-clause-few c =
    let few = (queries_within_limits _ _ _ _ _ c.in_ok-query.ensures).few_conditions in omega (arith, few, length-map c.in_ok-query.query.conds.items condition_view)

pub answer-requires-clause-fit : goal.answer-requires-clause-fit
answer-requires-clause-fit c = (queries_within_limits _ _ _ _ _ c.in_ok-query.ensures).fit

pub answer-requires-clause-numbered : goal.answer-requires-clause-numbered
answer-requires-clause-numbered c = (queries_within_limits _ _ _ _ _ c.in_ok-query.ensures).numbered

pub answer-requires-clause-named : goal.answer-requires-clause-named
answer-requires-clause-named c = sym (length-map c.in_ok-query.query.names.items string_bytes) ∙ (queries_within_limits _ _ _ _ _ c.in_ok-query.ensures).named

pub returns-in_err-query-clause-enough : goal.returns-in_err-query-clause-enough
returns-in_err-query-clause-enough c h =
    refused_answer c.args.sys.now c.args.names.now.symbols c.args.bytes.now c.args.budget.now.left h c.from_residual.result c.in_err-query.field-0.0 c.from_residual.ensures.0 c.from_residual.ensures.1
    c.in_err-query.ensures

pub returns-in-Ok-clause-enough : goal.returns-in-Ok-clause-enough
returns-in-Ok-clause-enough c h =
    c.in-Ok.ensures.enough
    (same_within c.args.sys.now c.args.names.now.symbols c.args.bytes.now c.args.budget.now.left (map condition_view c.in_ok-query.query.conds.items)
    (texts_of c.in_ok-query.query.names.items) h c.in_ok-query.ensures)
