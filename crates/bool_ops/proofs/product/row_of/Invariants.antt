use Rattle.std.proofs.Common.{◌≡◌, ℕ, take, length}
use Rattle.std.specs.Prelude.{Contains, ◌↔◌}
use Rattle.tree_definitions.specs.Relation.{Has}
use Rattle.bool_ops.proofs.product.row_of.Given as goal

-- the places before this one are set
abbrev pub invariant-loop-q : goal.invariant-loop-q
invariant-loop-q l = record {
  size : length l.row ≡ l.n;
  members : (q : ℕ) → Has l.row q ↔ Contains (take l.q-index l.list) q;
}
