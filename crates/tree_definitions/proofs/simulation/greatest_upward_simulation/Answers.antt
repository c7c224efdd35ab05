use Rattle.tree_definitions.proofs.Greatest.{greatest_is_up, greatest_up_reflexive, greatest_up_transitive}
use Rattle.tree_definitions.proofs.simulation.greatest_upward_simulation.Goals as goal

pub returns : goal.returns
returns c = record {
  simulation = greatest_is_up;
  reflexive = greatest_up_reflexive;
  transitive = λ A fits q r s h g. greatest_up_transitive A q r s h g;
}
