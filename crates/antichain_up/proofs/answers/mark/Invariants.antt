use Rattle.std.proofs.Common.{◌≡◌, ◌⊎◌, ℕ, take, length}
use Rattle.std.specs.Prelude.{◌↔◌, Contains}
use Rattle.tree_definitions.specs.Relation.{Has}
use Rattle.antichain_up.proofs.answers.mark.Given as goal

-- the marks from before, and those on the first children
abbrev pub invariant-loop-j : goal.invariant-loop-j
invariant-loop-j l = record {
  many : length l.marks ≡ length l.initial.marks;
  set : (j : ℕ) → Has l.marks j ↔ (Has l.initial.marks j ⊎ Contains (take l.j-index l.kids) j);
}
