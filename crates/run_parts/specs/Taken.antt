-- How much of a text a sink takes.
use Rattle.std.specs.Prelude.{◌≡◌, ◌⊎◌, ◌<◌, ℕ, List, [], length, take}
use Rattle.cc_io.specs.Faults.{Rose}
use Rattle.cc_io.specs.Bytes.{appended}
use Rattle.run_parts.specs.Devices.{SinkRun}

-- the sink took a text whole
abbrev pub TakesWhole : List ℕ → SinkRun → Type 0
TakesWhole text sink = sink.written_now ≡ appended sink.written_before text

-- A text that goes to a sink was not taken whole: a proper front of it was, and the faults rose. Of no text nothing was taken.
abbrev pub TakesPart : List ℕ → SinkRun → Type 0
TakesPart text sink =
    ((text ≡ []) × (sink.written_now ≡ sink.written_before))
    ⊎ (Rose sink.faults_before sink.faults_now × ((n : ℕ) × (n < length text) × (sink.written_now ≡ appended sink.written_before (take n text))))

-- with one status the sink took a text whole; or with another, where its faults rose, a proper front of it
abbrev pub IsTaken : {S : Type 0} → List ℕ → S → S → S → SinkRun → Type 0
IsTaken text whole cut status sink = ((status ≡ whole) × TakesWhole text sink) ⊎ ((status ≡ cut) × TakesPart text sink)
