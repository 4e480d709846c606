use Rattle.std.proofs.Common.{refl, sym, subst}
use Rattle.run_parts.specs.Devices.{sink_run}
use Rattle.run_parts.specs.Taken.{IsTaken}
use Rattle.lens_run.specs.Said.{IsTold, reply_said, usage_said, no_memory_said}
use Rattle.lens_run.specs.declared.status.Status.TheVariants as status
use Rattle.lens_run.proofs.Told.{told_on_err}
use Rattle.lens_run.proofs.reply.deliver.Goals as goal

pub returns-in-Usage : goal.returns-in-Usage
returns-in-Usage g c =
    subst (λ r. IsTold (reply_said r) c.written-in-Usage.result (sink_run g.K.Sink c.args.out.now c.args.out.now) (sink_run g.E.Sink c.args.err.now c.written-in-Usage.new.sink)) (sym c.in-Usage.is)
    (told_on_err _ _ usage_said.err _ _ refl c.written-in-Usage.ensures)

pub returns-in-NoMemory : goal.returns-in-NoMemory
returns-in-NoMemory g c =
    subst (λ r. IsTold (reply_said r) c.written-in-NoMemory.result (sink_run g.K.Sink c.args.out.now c.args.out.now)
    (sink_run g.E.Sink c.args.err.now c.written-in-NoMemory.new.sink)) (sym c.in-NoMemory.is)
    (told_on_err _ _ no_memory_said.err _ _ refl
    (subst (λ t. IsTaken t status.NoMemory status.WriteFault c.written-in-NoMemory.result (sink_run g.E.Sink c.args.err.now c.written-in-NoMemory.new.sink))
    c.no_memory_text.ensures c.written-in-NoMemory.ensures))
