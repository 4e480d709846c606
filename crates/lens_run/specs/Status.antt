-- The exit codes.
use Rattle.std.specs.Prelude.{ℕ}
use Rattle.lens_run.specs.declared.status.Status.{Status}
use Rattle.lens_run.specs.declared.status.Status.TheVariants.{Done, Nothing, Usage, FileRefused, CertRefused, ReadFault, WriteFault, NoMemory}

abbrev pub exit_code : Status → ℕ
exit_code Done = 0
exit_code Nothing = 1
exit_code Usage = 2
exit_code FileRefused = 3
exit_code CertRefused = 3
exit_code ReadFault = 4
exit_code WriteFault = 5
exit_code NoMemory = 6
