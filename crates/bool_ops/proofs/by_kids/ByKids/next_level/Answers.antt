use Rattle.std.proofs.Common.{ℕ, Contains}
use Rattle.tree_definitions.specs.Relation.{IsAt}
use Rattle.bool_ops.specs.Paths.{step_of}
use Rattle.bool_ops.proofs.Paths.{place_more, place_all}
use Rattle.bool_ops.proofs.by_kids.ByKids.next_level.Goals as goal

pub loop-node-preserved : goal.loop-node-preserved
loop-node-preserved c =
    let Next : ℕ → Type 0 = λ node. (q n : ℕ) → Contains c.args.states.now q → IsAt c.args.self.now.nodes n (step_of node q) → Contains c.add_steps.new.level.items n in
    place_more Next c.args.level.now c.loop-node.node-index c.loop-node-test.true
    (λ k node m kat q n h nat. c.in_ok-add_steps.ensures.kept n (c.loop-node.invariant k node m kat q n h nat)) c.in_ok-add_steps.ensures.steps

pub returns : goal.returns
returns c node q n h =
    let Next : ℕ → Type 0 = λ node. (q n : ℕ) → Contains c.args.states.now q → IsAt c.args.self.now.nodes n (step_of node q) → Contains c.loop-node.next.items n in
    place_all Next c.args.level.now c.loop-node.node-index c.loop-node-test.false c.loop-node.invariant node h q n
