use Rattle.std.proofs.Common.{◌≡◌, length, take}
use Rattle.timbuk_text.proofs.placed_names.PlacedNames.of.Given as goal

abbrev pub invariant-loop-name : goal.invariant-loop-name
invariant-loop-name l = record {
  block : l.block ≡ take l.name-index l.names;
  count : length l.block ≡ l.name-index;
}
