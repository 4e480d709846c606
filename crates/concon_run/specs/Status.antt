-- The exit codes.
use Rattle.std.specs.Prelude.{ℕ}
use Rattle.concon_run.specs.declared.status.Status.{Status}
use Rattle.concon_run.specs.declared.status.Status.TheVariants.{Yes, No, Maybe, Rejected, Usage, FileRefused, CertRefused, QueryRefused, ReadFault, WriteFault, NoMemory}

abbrev pub exit_code : Status → ℕ
exit_code Yes = 0
exit_code No = 0
exit_code Maybe = 1
exit_code Rejected = 1
exit_code Usage = 2
exit_code FileRefused = 3
exit_code CertRefused = 3
exit_code QueryRefused = 3
exit_code ReadFault = 4
exit_code WriteFault = 5
exit_code NoMemory = 6
