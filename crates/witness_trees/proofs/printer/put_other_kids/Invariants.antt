use Rattle.std.proofs.Common.{◌≡◌, ◌++◌, ◌∷◌, take}
use Rattle.std.specs.List.{flat_map}
use Rattle.witness_trees.specs.NodesText.{number_text}
use Rattle.witness_trees.proofs.printer.put_other_kids.Given as goal

-- the children so far are written
abbrev pub invariant-loop-kid : goal.invariant-loop-kid
invariant-loop-kid l = l.out.items ≡ l.fn.out.items ++ flat_map (λ j. 44 ∷ number_text j) (take l.kid-index l.kids)
