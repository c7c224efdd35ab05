use Rattle.std.proofs.Common.{◌≡◌, map, take}
use Rattle.std.specs.Prelude.{All}
use Rattle.tree_definitions.specs.Name.{IsName}
use Rattle.tree_definitions.specs.Product.{pair_name}
use Rattle.bool_ops.proofs.product.names.Given as goal

-- the names of the pairs before this one
abbrev pub invariant-loop-x : goal.invariant-loop-x
invariant-loop-x l = record {
  value : l.names.items ≡ map pair_name (take l.x-index l.x-items);
  named : All IsName l.names.items;
}
