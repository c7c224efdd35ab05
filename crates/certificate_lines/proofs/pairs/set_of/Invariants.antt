use Rattle.std.proofs.Common.{◌≡◌, ℕ, Contains, length, take}
use Rattle.std.specs.Prelude.{◌↔◌}
use Rattle.tree_definitions.specs.Relation.{Has}
use Rattle.certificate_lines.proofs.pairs.set_of.Given as goal

-- the set has the places before this one
abbrev pub invariant-loop-place : goal.invariant-loop-place
invariant-loop-place l = record {
  long : length l.set ≡ l.n;
  members : (s : ℕ) → Has l.set s ↔ Contains (take l.place-index l.places) s;
}
