use Rattle.std.proofs.Common.{◌∙◌, arith, rules}
use Rattle.cops_lex.proofs.Runs.{comment_more, comment_ends, comment_never}
use Rattle.cops_lex.proofs.scan.skip_comment.Goals as goal

pub returns-then-count-eq0-clause-len : goal.returns-then-count-eq0-clause-len
returns-then-count-eq0-clause-len c = comment_ends c.args.bytes.now c.comment.n c.comment.count _ c.comment-test.true c.count_after-count.ensures c.if-count-eq0.true ∙ c.comment.invariant.counted

pub comment-preserved : goal.comment-preserved
comment-preserved c = record {
  counted = comment_more c.args.bytes.now c.comment.n c.comment.count _ c.comment-test.true c.count_after-count.ensures c.if-count-eq0.false ∙ c.comment.invariant.counted;
  within = omega arith;
  few = search rules;
}

pub returns-clause-len : goal.returns-clause-len
returns-clause-len c = comment_never c.args.bytes.now c.comment.n c.comment.count c.comment-test.false ∙ c.comment.invariant.counted
