-- What a contract sees of a source and a sink in memory.
use Rattle.std.specs.Prelude.{ℕ, List, [], ◌∷◌, take, drop, Some}
use Rattle.sdb_io.specs.Output.{Output}
use Rattle.sdb_io.specs.declared.memory.MemSource.{MemSource}
use Rattle.sdb_io.specs.declared.memory.MemSink.{MemSink}

-- the bytes that a source has left
abbrev pub left_of : MemSource → List ℕ
left_of s = drop s.at s.bytes.items

-- the calls of `take` that are to fail, counted from 0
abbrev pub takes_to_fail : MemSource → List ℕ
takes_to_fail s = s.failing.items

-- how many calls of `take` there were
abbrev pub takes : MemSource → ℕ
takes s = s.calls

-- how many calls of `take` failed
abbrev pub failed_takes : MemSource → ℕ
failed_takes s = s.faults

-- the bytes that a sink has got
abbrev pub got_by : MemSink → List ℕ
got_by k = k.bytes.items

-- bytes cut into pieces of these lengths
abbrev pub pieces : List ℕ → List ℕ → List (List ℕ)
pieces bytes [] = []
pieces bytes (n ∷ ns) = take n bytes ∷ pieces (drop n bytes) ns

-- the pieces that a sink has got
abbrev pub pieces_of : MemSink → List (List ℕ)
pieces_of k = pieces k.bytes.items k.lengths.items

abbrev pub output_of : MemSink → Output
output_of k = record { bytes = Some (got_by k); pieces = Some (pieces_of k) }

-- the calls of `put` that are to fail, counted from 0
abbrev pub puts_to_fail : MemSink → List ℕ
puts_to_fail k = k.failing.items

-- how many calls of `put` there were
abbrev pub puts : MemSink → ℕ
puts k = k.calls

-- how many calls of `put` failed
abbrev pub failed_puts : MemSink → ℕ
failed_puts k = k.faults
