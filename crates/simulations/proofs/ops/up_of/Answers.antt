use Rattle.std.proofs.Common.{◌≡◌, ◌↔◌, List, length, ap, ◌∙◌, subst}
use Rattle.tree_definitions.specs.Automaton.{Rule}
use Rattle.tree_definitions.specs.Relation.{Holds, IsSquare}
use Rattle.simulations.specs.UpCases.{GreatestUpBy}
use Rattle.simulations.proofs.Bridge.{greatest_up_by_lines}
use Rattle.simulations.proofs.ops.up_of.Goals as goal

pub returns : goal.returns
returns c =
    let A = c.args.a.now in
    let m = c.in_ok-sim.sim in
    let n = length A.states in
    let size : length c.in_ok-by_child.by_child ≡ n = c.in_ok-by_child.ensures.size ∙ ap length c.states-states.ensures.value in
    record {
      square = subst (λ k. IsSquare k m) size c.in_ok-sim.ensures.square;
      pairs = λ q r.
          let h : Holds m q r ↔ GreatestUpBy n A.finals A.rules q r =
          subst (λ fs. Holds m q r ↔ GreatestUpBy n fs A.rules q r) c.finals.ensures.value
          (subst (λ (rs : List Rule). Holds m q r ↔ GreatestUpBy n c.finals.result.now rs q r) c.rules-rules.ensures.value
          (subst (λ k. Holds m q r ↔ GreatestUpBy k c.finals.result.now c.rules-rules.result.now q r) size (c.in_ok-sim.ensures.pairs q r))) in
          let g = greatest_up_by_lines A c.rules-rules.ensures.listed.automaton c.rules-rules.ensures.listed.narrow q r in
          (λ k. g.0 (h.0 k), λ k. h.1 (g.1 k));
    }
