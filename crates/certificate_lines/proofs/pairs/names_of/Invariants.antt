use Rattle.std.proofs.Common.{◌≡◌, true, take}
use Rattle.std.specs.Prelude.{map}
use Rattle.std.specs.List.{list_all}
use Rattle.tree_definitions.specs.Name.{is_name}
use Rattle.certificate_lines.proofs.pairs.names_of.Given as goal

-- the words before this one are names
abbrev pub invariant-loop-k : goal.invariant-loop-k
invariant-loop-k l = record {
  names : l.names.items ≡ map (λ x. x.now) (take l.k l.words);
  right : list_all is_name (map (λ x. x.now) (take l.k l.words)) ≡ true;
}
