use Rattle.std.proofs.Common.{◌∙◌}
use Rattle.concon_run.proofs.Tests.{written_file, never_refused}
use Rattle.concon_run.proofs.selftest.read_back.Goals as goal

pub unreachable-requires : goal.unreachable-requires
unreachable-requires c =
    never_refused c.one_reading.ensures.either c.deref.result.now _ _
    (written_file c.args.n _ c.deref.result.now c.in_ok-made.made c.in_ok-made.names c.new-text.ensures.items (c.deref.ensures.value ∙ c.in_ok-write_system.ensures.written)
    c.in_ok-made.ensures.system c.in_ok-made.ensures.names (c.written_is_read.ensures.read c.args.n c.requires.least c.requires.most))
    c.in-Err.error c.in_default.not-NoMemory c.in-Err.ensures
