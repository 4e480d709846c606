use Rattle.std.proofs.Common.{sym, arith, ◌∙◌}
use Rattle.cops_lex.specs.ReadingView.{reading_view}
use Rattle.cops_lex.proofs.Pieces.{place_is, skip_comment}
use Rattle.cops_lex.proofs.Fronts.{open_there, none_before_open}
use Rattle.cops_lex.proofs.lexer.Lexer.front.Goals as goal

pub returns-in_default-clause-answer : goal.returns-in_default-clause-answer
returns-in_default-clause-answer c = rw (← c.self.view_is) (open_there _ _ _ _ _ c.self.invariant.tokens (c.comments.invariant.reads _ c.self.invariant.read)
    (place_is _ _ _ _ c.skip_white.ensures.len c.split_at.ensures.back)
    c.split_at-in-comments.ensures.back (sym c.if-not-is_comment_at.false ∙ c.is_comment_at.ensures) (sym c.in_default.is ∙ c.skip_comment.ensures.len))

pub returns-in_default-clause-none_ready : goal.returns-in_default-clause-none_ready
returns-in_default-clause-none_ready c = rw (← c.self.view_is)
    (none_before_open (reading_view c.self.inside) _ _ _ _ c.self.invariant.read (c.comments.invariant.reads _ c.self.invariant.read)
    (place_is _ _ _ _ c.skip_white.ensures.len c.split_at.ensures.back)
    c.split_at-in-comments.ensures.back (sym c.if-not-is_comment_at.false ∙ c.is_comment_at.ensures) (sym c.in_default.is ∙ c.skip_comment.ensures.len))

pub comments-preserved : goal.comments-preserved
comments-preserved c = record {
  reads = λ ts h. skip_comment _ _ _ _ _ _ _ (place_is _ _ _ _ c.skip_white.ensures.len c.split_at.ensures.back) c.split_at-in-comments.ensures.back c.is_comment_at.ensures
      c.if-not-is_comment_at.false c.in-Some.ensures.len ts (c.comments.invariant.reads ts h);
  onward = omega (arith, c.comments.invariant.onward);
  within = omega (arith, c.in-Some.ensures.within, c.split_at-in-comments.ensures.back_len);
}
