use Rattle.std.proofs.Common.{◌≡◌, ◌↔◌, List, length, ap, ◌∙◌, subst}
use Rattle.tree_definitions.specs.Automaton.{Rule}
use Rattle.tree_definitions.specs.Relation.{Holds, IsSquare}
use Rattle.simulations.specs.DownCases.{GreatestBy}
use Rattle.simulations.proofs.Bridge.{greatest_by_lines}
use Rattle.simulations.proofs.ops.down_of.Goals as goal

pub returns : goal.returns
returns c =
    let A = c.args.a.now in
    let m = c.in_ok-sim.sim in
    let size : length c.in_ok-by_parent.by_parent ≡ length A.states = c.in_ok-by_parent.ensures.size ∙ ap length c.states-states.ensures.value in
    record {
      square = subst (λ n. IsSquare n m) size c.in_ok-sim.ensures.square;
      pairs = λ q r.
          let h : Holds m q r ↔ GreatestBy (length A.states) A.rules q r =
          subst (λ (rs : List Rule). Holds m q r ↔ GreatestBy (length A.states) rs q r) c.rules-rules.ensures.value
          (subst (λ n. Holds m q r ↔ GreatestBy n c.rules-rules.result.now q r) size (c.in_ok-sim.ensures.pairs q r)) in
          let g = greatest_by_lines A c.rules-rules.ensures.listed.automaton c.rules-rules.ensures.listed.narrow q r in
          (λ k. g.0 (h.0 k), λ k. h.1 (g.1 k));
    }
