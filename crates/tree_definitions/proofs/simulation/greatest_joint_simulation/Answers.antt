use Rattle.std.proofs.Common.{◌+◌, length}
use Rattle.tree_definitions.specs.Joint.{JointRule}
use Rattle.tree_definitions.proofs.Joins.{joint_kids}
use Rattle.tree_definitions.proofs.Greatest.{greatest_is_down, greatest_reflexive, greatest_transitive}
use Rattle.tree_definitions.proofs.simulation.greatest_joint_simulation.Goals as goal

pub returns : goal.returns
returns c = record {
  simulation = λ A B. greatest_is_down (length A.states + length B.states) (JointRule A B);
  reflexive = λ A B left right q l. greatest_reflexive (length A.states + length B.states) (JointRule A B) (joint_kids A B left right) q l;
  transitive = λ A B q r s h g. greatest_transitive (length A.states + length B.states) (JointRule A B) q r s h g;
}
