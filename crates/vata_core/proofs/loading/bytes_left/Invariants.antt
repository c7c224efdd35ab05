use Rattle.std.proofs.Common.{◌≡◌, ◌≤◌, ◌-◌, length, vec_len}
use Rattle.std.specs.Io.KnownBytes.{Consumes}
use Rattle.vata_core.proofs.loading.bytes_left.Given as goal

-- what was read so far is the text, and the file goes on with what is left
abbrev pub invariant-loop-count : goal.invariant-loop-count
invariant-loop-count g l = record {
  short : length l.text.items ≤ 134217728;
  buffer : vec_len l.buffer ≡ 65536;
  text : Consumes (g.F.Files.left l.fn.files) (g.F.Files.left l.files) l.text.items;
  same : g.F.Files.files l.files ≡ g.F.Files.files l.fn.files;
  later : g.F.Files.faults l.fn.files ≤ g.F.Files.faults l.files;
}

abbrev pub decreases-loop-count : goal.decreases-loop-count
decreases-loop-count g l = 134217728 - length l.text.items
