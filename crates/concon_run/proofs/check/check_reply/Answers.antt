use Rattle.run_parts.specs.Devices.{shelf_run}
use Rattle.concon_run.specs.Check.{said_of_check, IsCheckAnswer}
use Rattle.concon_run.specs.Checking.{check_answer}
use Rattle.concon_run.specs.Replies.{reply_said}
use Rattle.concon_run.proofs.Answered.{answered}
use Rattle.concon_run.proofs.check.check_reply.Goals as goal

pub returns : goal.returns
returns g c =
    record {
      asks = c.judge-judged.ensures.begins;
      says =
          answered (IsCheckAnswer (shelf_run g.S.Shelf c.args.shelf.now c.judge-judged.new.shelf) c.args.check.file.now c.args.check.cert.now)
          (said_of_check c.args.check.file.now c.args.check.cert.now) (reply_said c.judged_reply.result)
          (check_answer c.judge-judged.result) c.judge-judged.ensures.answers c.judged_reply.ensures;
    }
