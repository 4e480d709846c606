-- What the devices in memory tell and count.
use Rattle.std.specs.Prelude.{ℕ, List, Option, Some}
use Rattle.cc_io.specs.declared.memory.MemoryShelf.{MemoryShelf}
use Rattle.cc_io.specs.declared.memory.MemorySink.{MemorySink}
use Rattle.cc_io.specs.Memory.{first_named, file_name_at, unread_at}

-- the bytes of each file that a shelf has
abbrev pub shelf_contents : MemoryShelf → List ℕ → Option (List ℕ)
shelf_contents m = first_named m.files.items

-- the name of the file that is begun
abbrev pub shelf_begun : MemoryShelf → Option (List ℕ)
shelf_begun m = file_name_at m.files.items m.begun

-- what is unread of the file that is begun
abbrev pub shelf_rest : MemoryShelf → Option (List ℕ)
shelf_rest m = unread_at m.files.items m.begun m.at

-- how often a shelf has failed, at any name
abbrev pub shelf_faults : MemoryShelf → List ℕ → ℕ
shelf_faults m name = m.faults

-- how many bytes a shelf has given
abbrev pub shelf_given : MemoryShelf → ℕ
shelf_given m = m.given

-- how often a shelf was read
abbrev pub shelf_reads : MemoryShelf → ℕ
shelf_reads m = m.reads.number

-- how many calls of a shelf were counted
abbrev pub shelf_calls : MemoryShelf → ℕ
shelf_calls m = m.calls

-- the numbers of the calls at which a shelf fails
abbrev pub shelf_fails : MemoryShelf → List ℕ
shelf_fails m = m.fails.items

-- how many bytes a shelf gives at a call
abbrev pub shelf_piece : MemoryShelf → ℕ
shelf_piece m = m.piece

-- all bytes that a sink has taken
abbrev pub sink_written : MemorySink → Option (List ℕ)
sink_written m = Some m.bytes.items

-- how often a sink has failed
abbrev pub sink_faults : MemorySink → ℕ
sink_faults m = m.faults

-- how often a sink was written to
abbrev pub sink_writes : MemorySink → ℕ
sink_writes m = m.writes.number

-- how many calls of a sink were counted
abbrev pub sink_calls : MemorySink → ℕ
sink_calls m = m.calls

-- the numbers of the calls at which a sink fails
abbrev pub sink_fails : MemorySink → List ℕ
sink_fails m = m.fails.items

-- how many bytes a sink takes in all
abbrev pub sink_room : MemorySink → ℕ
sink_room m = m.room

-- how many bytes a sink takes at a call
abbrev pub sink_piece : MemorySink → ℕ
sink_piece m = m.piece
