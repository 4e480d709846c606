-- A text that is a query is refused for want of memory alone, and it is one query.
use Rattle.std.proofs.Common.{ℕ, ◌≡◌, List, Result, Ok, Err, IsErr, IsErrAnd, refl, subst, ◌∙◌}
use Rattle.std.proofs.lemmas.Bool.{false≢true}
use Rattle.file_text.specs.Tokens.{bad_byte, long_id, open_comment}
use Rattle.rewriting.specs.Rules.{Condition, System}
use Rattle.cops_read.specs.declared.errors.Count.{Count}
use Rattle.cops_read.specs.declared.errors.Count.TheVariants.{Rules, Conditions, Arity, Nodes, Variables, Symbols}
use Rattle.query_text.specs.Meaning.{too_many_conditions, too_deep, too_many_nodes, variable_with_arguments, unknown_name, too_many_variables, arity_differs}
use Rattle.query_text.specs.Query.{IsQuery, join_system, no_tokens, wrong_syntax, no_meaning}
use Rattle.query_text.proofs.Queries.{one_query, never_both}
use Rattle.query_terms.specs.Queries.{HasTooMany, IsRefused}
use Rattle.query_terms.specs.declared.reader.QueryError.{QueryError}
use Rattle.query_terms.specs.declared.reader.QueryError.TheVariants.{JoinSystem, BadByte, IdTooLong, CommentNotClosed, Syntax, TooMany, TooDeep, VariableWithArguments, UnknownName}
use Rattle.query_terms.specs.declared.reader.QueryError.TheVariants.{ArityDiffers, NoMemory}
use Rattle.query_terms.specs.declared.reader.Query.{Query}
use Rattle.query_search.specs.Answers.{HasAnswerWithin}
use Rattle.query_search.specs.declared.reply.Reply.{Reply}
use Rattle.query.specs.Answers.{IsAnswerable, IsAnswerTo}

module _ (sys : System) (symbols : List (List ℕ × ℕ)) (bytes : List ℕ) where
  module _ (cs : List Condition) (names : List (List ℕ)) (is : IsQuery sys symbols bytes cs names) where
    never_too_many : (what : Count) (at : ℕ) → HasTooMany sys symbols bytes what at → ⊥
    never_too_many Rules at h = h
    never_too_many Conditions at h = never_both sys symbols bytes cs names (no_meaning too_many_conditions) at is h
    never_too_many Arity at h = h
    never_too_many Nodes at h = never_both sys symbols bytes cs names (no_meaning too_many_nodes) at is h
    never_too_many Variables at h = never_both sys symbols bytes cs names (no_meaning too_many_variables) at is h
    never_too_many Symbols at h = h

    pub no_refusal : (e : QueryError) → IsRefused sys symbols bytes e → e ≡ NoMemory
    no_refusal (JoinSystem at) h = absurd (never_both sys symbols bytes cs names join_system at is h)
    no_refusal (BadByte at) h = absurd (never_both sys symbols bytes cs names (no_tokens bad_byte) at is h)
    no_refusal (IdTooLong at) h = absurd (never_both sys symbols bytes cs names (no_tokens long_id) at is h)
    no_refusal (CommentNotClosed at) h = absurd (never_both sys symbols bytes cs names (no_tokens open_comment) at is h)
    no_refusal (Syntax at) h = absurd (never_both sys symbols bytes cs names wrong_syntax at is h)
    no_refusal (TooMany what limit at) h = absurd (never_too_many what at h.0)
    no_refusal (TooDeep at) h = absurd (never_both sys symbols bytes cs names (no_meaning too_deep) at is h)
    no_refusal (VariableWithArguments at) h = absurd (never_both sys symbols bytes cs names (no_meaning variable_with_arguments) at is h)
    no_refusal (UnknownName at) h = absurd (never_both sys symbols bytes cs names (no_meaning unknown_name) at is h)
    no_refusal (ArityDiffers at) h = absurd (never_both sys symbols bytes cs names (no_meaning arity_differs) at is h)
    no_refusal NoMemory h = refl

  pub same_within : (left : ℕ) (cs : List Condition) (names : List (List ℕ)) → IsAnswerable sys symbols bytes left → IsQuery sys symbols bytes cs names → HasAnswerWithin sys cs left
  same_within left cs names h is = subst (λ (ds : List Condition). HasAnswerWithin sys ds left) (one_query sys symbols bytes h.conditions cs h.names names h.query is).0 h.within

  pub refused_answer : (left : ℕ) → IsAnswerable sys symbols bytes left → (r : Result (Query × Reply) QueryError) (e : QueryError) → IsErr r → IsErrAnd r (λ x. x ≡ e)
      → IsRefused sys symbols bytes e → IsAnswerTo r
  refused_answer left h (Ok a) e is same refused = absurd (false≢true is)
  refused_answer left h (Err x) e is same refused = same ∙ no_refusal h.conditions h.names h.query e refused
