use Rattle.std.proofs.Common.{◌≡◌, ◌++◌, ◌∷◌, take}
use Rattle.std.specs.List.{flat_map}
use Rattle.witness_trees.specs.NodesText.{number_text}
use Rattle.down_entry_lines.proofs.printer.put_choice.Given as goal

-- the numbers so far are written
abbrev pub invariant-loop-place : goal.invariant-loop-place
invariant-loop-place l = l.out.items ≡ l.initial.out.items ++ flat_map (λ place. 32 ∷ number_text place) (take l.place-index l.choice)
