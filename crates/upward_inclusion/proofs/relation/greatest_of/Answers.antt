use Rattle.std.proofs.Common.{ℕ, subst}
use Rattle.tree_definitions.specs.Automaton.{Automaton, IsState}
use Rattle.tree_definitions.specs.Relation.{Holds}
use Rattle.tree_definitions.specs.Simulation.{IsUp}
use Rattle.simulations.specs.Relations.{IsGreatestUp}
use Rattle.simulations.proofs.Bridge.{greatest_up_of_canon}
use Rattle.upward_inclusion.proofs.relation.greatest_of.Goals as goal

pub returns-in-Ok-up_of-clause-searched : goal.returns-in-Ok-up_of-clause-searched
returns-in-Ok-up_of-clause-searched c =
    let m = c.in-Ok-up_of.relation in
    greatest_up_of_canon c.args.a.now m (subst (λ (t : Automaton). IsGreatestUp t m) c.in-Ok.ensures c.in-Ok-up_of.ensures.greatest)

pub returns-in-Ok-up_of-clause-order : goal.returns-in-Ok-up_of-clause-order
returns-in-Ok-up_of-clause-order c =
    let m = c.in-Ok-up_of.relation in
    let greatest = subst (λ (t : Automaton). IsGreatestUp t m) c.in-Ok.ensures c.in-Ok-up_of.ensures.greatest in
    record {
      square = greatest.square;
      simulation = subst (λ (t : Automaton). IsUp t (Holds m)) c.in-Ok.ensures c.in-Ok-up_of.ensures.simulation;
      order = record {
        reflexive = subst (λ (t : Automaton). (q : ℕ) → IsState t q → Holds m q q) c.in-Ok.ensures c.in-Ok-up_of.ensures.reflexive;
        transitive = c.in-Ok-up_of.ensures.transitive;
      };
    }
