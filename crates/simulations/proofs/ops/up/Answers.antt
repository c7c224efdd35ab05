use Rattle.std.proofs.Common.{subst}
use Rattle.tree_definitions.specs.Automaton.{Automaton}
use Rattle.tree_definitions.proofs.Greatest.{greatest_up_reflexive}
use Rattle.simulations.specs.Relations.{IsGreatestUp}
use Rattle.simulations.proofs.Bridge.{greatest_up_of_canon, up_is_simulation, up_is_transitive}
use Rattle.simulations.proofs.ops.up.Goals as goal

pub returns-clause-greatest : goal.returns-clause-greatest
returns-clause-greatest g c =
    greatest_up_of_canon (g.T.Table.automaton c.args.t.now) c.in_ok-sim.sim (subst (λ (A : Automaton). IsGreatestUp A c.in_ok-sim.sim) c.in_ok-a.ensures.value c.in_ok-sim.ensures)

pub returns-clause-simulation : goal.returns-clause-simulation
returns-clause-simulation g c = up_is_simulation (g.T.Table.automaton c.args.t.now) c.in_ok-sim.sim (returns-clause-greatest g c)

pub returns-clause-reflexive : goal.returns-clause-reflexive
returns-clause-reflexive g c q l =
    let A = g.T.Table.automaton c.args.t.now in
    ((returns-clause-greatest g c).pairs q q).1 (greatest_up_reflexive A c.states.ensures.listed.automaton q l)

pub returns-clause-transitive : goal.returns-clause-transitive
returns-clause-transitive g c = up_is_transitive (g.T.Table.automaton c.args.t.now) c.in_ok-sim.sim (returns-clause-greatest g c)
