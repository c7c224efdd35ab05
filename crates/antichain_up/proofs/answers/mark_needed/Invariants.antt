use Rattle.std.proofs.Common.{◌≡◌, ◌⊎◌, ◌≤◌, ◌+◌, ℕ, length}
use Rattle.std.specs.Prelude.{Contains}
use Rattle.tree_definitions.specs.Relation.{Has, IsAt}
use Rattle.antichain_up.specs.Entries.{EntryRow}
use Rattle.antichain_up.proofs.answers.mark_needed.Given as goal

-- the last entry is marked, and the children of the marked ones from k on, and nothing else
abbrev pub invariant-loop-k : goal.invariant-loop-k
invariant-loop-k l = record {
  within : l.k ≤ length l.entries;
  many : length l.marks ≡ length l.entries;
  last : Has l.marks l.last;
  kids : (i j : ℕ) (e : EntryRow) → l.k ≤ i → IsAt l.entries i e → Has l.marks i → Contains e.kids j → Has l.marks j;
  only : (i : ℕ) → Has l.marks i → (length l.entries ≡ i + 1) ⊎ ((j : ℕ) × (e : EntryRow) × IsAt l.entries j e × Has l.marks j × Contains e.kids i);
}

abbrev pub decreases-loop-k : goal.decreases-loop-k
decreases-loop-k l = l.k
