-- Files and a sink in memory, and which of their calls fail.
use Rattle.std.specs.Prelude.{ℕ, ◌-◌, List, [], min, length, Bool, nat_eq, if◌then◌else◌}
use Rattle.std.specs.List.{list_any}
use Rattle.vata_outside.specs.Outside.{File, next_count}

-- files in memory, one of which is selected
pub record MemoryFiles : Type 0 where
  -- each file's name and bytes
  pub files : List File
  -- the bytes left of the selected file
  pub left : List ℕ
  -- the most bytes that one read gives
  pub chunk : ℕ
  -- the numbers of the calls that fail
  pub failing : List ℕ
  -- the number of the last call of select or read
  pub calls : ℕ
  -- the count of faults
  pub faults : ℕ

-- what was written into a sink in memory
pub record MemorySink : Type 0 where
  pub written : List ℕ
  -- the most bytes that it holds
  pub room : ℕ
  -- the most bytes that one write takes
  pub chunk : ℕ
  -- the numbers of the calls that fail
  pub failing : List ℕ
  -- the number of the last call
  pub calls : ℕ
  -- the count of faults
  pub faults : ℕ

-- no files, and no call so far
abbrev pub new_files : ℕ → List ℕ → MemoryFiles
new_files most numbers = record { files = []; left = []; chunk = most; failing = numbers; calls = 0; faults = 0 }

-- nothing written, and no call so far
abbrev pub new_sink : ℕ → ℕ → List ℕ → MemorySink
new_sink space most numbers = record { written = []; room = space; chunk = most; failing = numbers; calls = 0; faults = 0 }

-- the number of the call after that many is among the failing ones
abbrev pub is_failing : List ℕ → ℕ → Bool
is_failing numbers before = list_any (λ n. nat_eq n (next_count before)) numbers

-- the files after one more call, which leaves these bytes: the count rose where its number is a failing one
abbrev pub after_call : MemoryFiles → List ℕ → MemoryFiles
after_call s rest = record s { left = rest; calls = next_count s.calls; faults = if is_failing s.failing s.calls then next_count s.faults else s.faults }

-- the sink after one more call, with these bytes: the count rose where the call failed
abbrev pub after_write : MemorySink → Bool → List ℕ → MemorySink
after_write s failed bytes = record s { written = bytes; calls = next_count s.calls; faults = if failed then next_count s.faults else s.faults }

-- how many bytes a read into a buffer of this length gives
abbrev pub read_count : MemoryFiles → ℕ → ℕ
read_count s len = min s.chunk (min len (length s.left))

-- how many bytes of a piece of this length a write takes
abbrev pub write_count : MemorySink → ℕ → ℕ
write_count s len = min s.chunk (min len (s.room - length s.written))
