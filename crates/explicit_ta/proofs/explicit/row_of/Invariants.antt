use Rattle.std.proofs.Common.{◌≡◌, ◌↔◌, ℕ, length, take}
use Rattle.std.specs.Prelude.{Contains}
use Rattle.tree_definitions.specs.Relation.{Has}
use Rattle.explicit_ta.proofs.explicit.row_of.Given as goal

-- the members so far
abbrev pub invariant-loop-q : goal.invariant-loop-q
invariant-loop-q l = record { width : length l.row ≡ l.states; members : (p : ℕ) → Has l.row p ↔ Contains (take l.q-index l.members) p }
