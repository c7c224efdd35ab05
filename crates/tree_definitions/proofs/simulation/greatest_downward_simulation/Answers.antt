use Rattle.std.proofs.Common.{length}
use Rattle.tree_definitions.specs.Automaton.{HasRule}
use Rattle.tree_definitions.proofs.Listing.{kid_states}
use Rattle.tree_definitions.proofs.Greatest.{greatest_is_down, greatest_reflexive, greatest_transitive}
use Rattle.tree_definitions.proofs.simulation.greatest_downward_simulation.Goals as goal

pub returns : goal.returns
returns c = record {
  simulation = λ A. greatest_is_down (length A.states) (HasRule A);
  reflexive = λ A fits q l. greatest_reflexive (length A.states) (HasRule A) (kid_states A fits) q l;
  transitive = λ A q r s h g. greatest_transitive (length A.states) (HasRule A) q r s h g;
}
