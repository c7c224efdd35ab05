use Rattle.std.proofs.Common.{◌≡◌, take}
use Rattle.timbuk_text.proofs.tables.names_of.Given as goal

abbrev pub invariant-loop-place : goal.invariant-loop-place
invariant-loop-place l = l.names.items ≡ take l.place l.words
