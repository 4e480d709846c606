-- A yes to the system is one to its file.
use Rattle.std.proofs.Common.{Result, Ok, Err}
use Rattle.rewriting.specs.Prelude.{System, IsConfluent}
use Rattle.join_systems.specs.FileRelation.{IsFromFile, IsFileConfluent}
use Rattle.join_systems.specs.Laws.{FilesAreConfluent}
use Rattle.cert_check.specs.Answers.{OnYes}
use Rattle.cert_check.specs.declared.Verdict.{Verdict}
use Rattle.cert_check.specs.declared.Verdict.TheVariants.{Yes, No}

pub file_yes : {E : Type 0} → FilesAreConfluent → (sys : System) (r : Result Verdict E) → OnYes r (IsConfluent sys) → OnYes r (IsFromFile sys → IsFileConfluent sys)
file_yes law sys (Ok Yes) h = λ from. law sys from h
file_yes law sys (Ok No) h = tt
file_yes law sys (Err e) h = tt
