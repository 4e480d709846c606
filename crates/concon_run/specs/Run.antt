-- What is observed of a run: its words and its status, and what the shelf and the two sinks tell before it and after it.
use Rattle.std.specs.Prelude.{ℕ, List}
use Rattle.std.specs.Borrow.{Bor}
use Rattle.cc_io.specs.declared.shelf.Shelf as shelves
use Rattle.cc_io.specs.declared.sink.Sink as sinks
use Rattle.run_parts.specs.Words.{texts}
use Rattle.run_parts.specs.Devices.{ShelfRun, SinkRun, shelf_run, sink_run}
use Rattle.concon_run.specs.declared.status.Status.{Status}

pub record Run : Type 0 where
  pub words : List (List ℕ)
  pub status : Status
  pub shelf : ShelfRun
  pub out : SinkRun
  pub err : SinkRun

-- by the words and the status, and by the shelf, out and err, each before and now
abbrev pub run_of : {S K E : Type 0} → shelves.Ghosts S → sinks.Ghosts K → sinks.Ghosts E → List (Bor (List ℕ)) → Status → S → S → K → K → E → E → Run
run_of s k e words status shelf_old shelf_new out_old out_new err_old err_new =
    record {
      words = texts words;
      status = status;
      shelf = shelf_run s shelf_old shelf_new;
      out = sink_run k out_old out_new;
      err = sink_run e err_old err_new;
    }
