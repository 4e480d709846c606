use Rattle.run_parts.specs.Devices.{shelf_run}
use Rattle.concon_run.specs.Query.{said_of_query, IsQueryReply}
use Rattle.concon_run.specs.Querying.{query_reply}
use Rattle.concon_run.specs.Replies.{reply_said}
use Rattle.concon_run.proofs.Answered.{answered}
use Rattle.concon_run.proofs.queries.query_reply.Goals as goal

pub returns : goal.returns
returns g c =
    let shelf = shelf_run g.S.Shelf c.args.shelf.now c.answer_to-answered.new.shelf in
    record {
      asks = c.answer_to-answered.ensures.begins;
      says =
          answered (IsQueryReply shelf c.args.question.file.now c.args.question.query.now c.args.question.budget) (said_of_query c.args.question.file.now c.args.question.query.now)
          (reply_said c.answered_reply.result) (query_reply c.answer_to-answered.result) c.answer_to-answered.ensures.answers c.answered_reply.ensures;
    }
