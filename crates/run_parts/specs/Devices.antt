-- What a shelf and a sink tell before a run and after it.
use Rattle.std.specs.Prelude.{◌≡◌, ℕ, List, Option}
use Rattle.cc_io.specs.Faults.{Rose}
use Rattle.cc_io.specs.Errors.{IsBegunIfAny}
use Rattle.cc_io.specs.declared.shelf.Shelf as shelves
use Rattle.cc_io.specs.declared.sink.Sink as sinks

-- what the shelf tells of its files; how often it had failed at each name, which file was begun, and how many bytes it had given, before and now
pub record ShelfRun : Type 0 where
  pub contents : List ℕ → Option (List ℕ)
  pub faults_before : List ℕ → ℕ
  pub faults_now : List ℕ → ℕ
  pub begun_before : Option (List ℕ)
  pub begun_now : Option (List ℕ)
  pub given_before : ℕ
  pub given_now : ℕ

-- what a sink had taken, and how often it had failed, before and now
pub record SinkRun : Type 0 where
  pub written_before : Option (List ℕ)
  pub written_now : Option (List ℕ)
  pub faults_before : ℕ
  pub faults_now : ℕ

abbrev pub shelf_run : {S : Type 0} → shelves.Ghosts S → S → S → ShelfRun
shelf_run s old new =
    record {
      contents = s.contents old;
      faults_before = s.faults old;
      faults_now = s.faults new;
      begun_before = s.begun old;
      begun_now = s.begun new;
      given_before = s.given old;
      given_now = s.given new;
    }

abbrev pub sink_run : {K : Type 0} → sinks.Ghosts K → K → K → SinkRun
sink_run k old new =
    record {
      written_before = k.written old;
      written_now = k.written new;
      faults_before = k.faults old;
      faults_now = k.faults new;
    }

-- the faults at a name rose
abbrev pub HasFailed : ShelfRun → List ℕ → Type 0
HasFailed shelf name = Rose (shelf.faults_before name) (shelf.faults_now name)

-- no other file was begun, if one is begun now
abbrev pub BeginsAtMost : List ℕ → ShelfRun → Type 0
BeginsAtMost name shelf = IsBegunIfAny name shelf.begun_now

-- the shelf was asked nothing
pub record AsksNothing (shelf : ShelfRun) : Type 0 where
  pub begun : shelf.begun_now ≡ shelf.begun_before
  pub given : shelf.given_now ≡ shelf.given_before
