use Rattle.run_parts.specs.Devices.{shelf_run}
use Rattle.concon_run.specs.Prove.{said_of_prove, IsProveAnswer}
use Rattle.concon_run.specs.Proving.{prove_answer}
use Rattle.concon_run.specs.Replies.{reply_said}
use Rattle.concon_run.proofs.Answered.{answered}
use Rattle.concon_run.proofs.prove.prove_reply.Goals as goal

pub returns : goal.returns
returns g c =
    record {
      asks = c.search-searched.ensures.begun;
      says =
          answered (IsProveAnswer (shelf_run g.S.Shelf c.args.shelf.now c.search-searched.new.shelf) c.args.prove.file.now c.args.prove.budget)
          (said_of_prove c.args.prove.file.now) (reply_said c.searched_reply.result)
          (prove_answer c.search-searched.result) c.search-searched.ensures.answers c.searched_reply.ensures;
    }
