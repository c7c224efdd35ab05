use Rattle.std.proofs.Common.{length, subst}
use Rattle.tree_definitions.specs.Automaton.{Automaton, HasRule}
use Rattle.tree_definitions.specs.Quotient.{IsGreatestDown}
use Rattle.tree_definitions.proofs.Greatest.{greatest_reflexive}
use Rattle.tree_definitions.proofs.Listing.{kid_states}
use Rattle.simulations.proofs.Bridge.{greatest_of_canon, down_is_simulation, down_is_transitive}
use Rattle.simulations.proofs.ops.down.Goals as goal

pub returns-clause-greatest : goal.returns-clause-greatest
returns-clause-greatest g c =
    greatest_of_canon (g.T.Table.automaton c.args.t.now) c.in_ok-sim.sim (subst (λ (A : Automaton). IsGreatestDown A c.in_ok-sim.sim) c.in_ok-a.ensures.value c.in_ok-sim.ensures)

pub returns-clause-simulation : goal.returns-clause-simulation
returns-clause-simulation g c = down_is_simulation (g.T.Table.automaton c.args.t.now) c.in_ok-sim.sim (returns-clause-greatest g c)

pub returns-clause-reflexive : goal.returns-clause-reflexive
returns-clause-reflexive g c q l =
    let A = g.T.Table.automaton c.args.t.now in
    ((returns-clause-greatest g c).pairs q q).1 (greatest_reflexive (length A.states) (HasRule A) (kid_states A c.states.ensures.listed.automaton) q l)

pub returns-clause-transitive : goal.returns-clause-transitive
returns-clause-transitive g c = down_is_transitive (g.T.Table.automaton c.args.t.now) c.in_ok-sim.sim (returns-clause-greatest g c)
