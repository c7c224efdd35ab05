use Rattle.std.proofs.Common.{◌≡◌, ◌+◌, vec_len}
use Rattle.word_table.specs.Index.{IsIndex, place_in, word_at}
use Rattle.word_table.proofs.index.indexed.Given as goal

-- the places so far are in the index
abbrev pub invariant-loop-place : goal.invariant-loop-place
invariant-loop-place l = record {
  wide : vec_len l.slots ≡ l.buckets + 64;
  index : IsIndex (word_at l.words) l.buckets l.slots.items (place_in l.overflow) l.place;
}
