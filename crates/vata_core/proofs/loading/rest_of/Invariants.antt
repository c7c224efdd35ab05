use Rattle.std.proofs.Common.{◌≡◌, ◌≤◌, ◌-◌, false, length, vec_len}
use Rattle.std.specs.Io.KnownBytes.{Consumes}
use Rattle.vata_core.proofs.loading.rest_of.Given as goal

-- what was read so far is the text, and the file goes on with what is left
abbrev pub invariant-loop-count : goal.invariant-loop-count
invariant-loop-count g l = record {
  short : l.total ≤ 33554432;
  fresh : l.reader.failed ≡ false;
  size : length l.reader.text ≡ l.total;
  buffer : vec_len l.buffer ≡ 65536;
  text : Consumes (g.F.Files.left l.fn.files) (g.F.Files.left l.files) l.reader.text;
  same : g.F.Files.files l.files ≡ g.F.Files.files l.fn.files;
  later : g.F.Files.faults l.fn.files ≤ g.F.Files.faults l.files;
}

abbrev pub decreases-loop-count : goal.decreases-loop-count
decreases-loop-count g l = 33554432 - l.total
