use Rattle.std.proofs.Common.{◌≡◌, ◌+◌, inl, arith, true, false, length, sym, ◌∙◌, subst}
use Rattle.std.specs.Prelude.{All}
use Rattle.tree_definitions.specs.Relation.{Has, Matrix}
use Rattle.simulations.specs.UpCases.{ClearsOutside}
use Rattle.simulations.proofs.FinalSteps.{outside_cleared, outside_past}
use Rattle.simulations.proofs.upward.clear_outside.Goals as goal
use Rattle.simulations.proofs.upward.clear_outside.Goals.{then-not-get, else-not-get}

pub loop-r-init : goal.loop-r-init
loop-r-init c = record {
  square = c.requires.square;
  fewer = λ x y h. h;
  only = λ x y h. inl h;
  judged = λ y l h. absurd (omega arith);
}

pub loop-r-preserved : goal.loop-r-preserved
loop-r-preserved c =
    let q = c.args.q in
    let r = c.loop-r.r in
    let is_final = c.args.is_final.now in
    let inv = c.loop-r.invariant in
    let P : Matrix → Type 0 = λ x. ClearsOutside q (r + 1) is_final c.args.sim.now x in
    elim c.if-not-get.branch [
      | then-not-get w ↦
          let off : ¬ Has is_final r = λ h. let b : true ≡ false = sym (c.get.ensures.set.1 h) ∙ w.if-not-get.true in cc in
          let rows = inv.square.rows in
          subst P (sym w.sim-is) (outside_cleared q r is_final c.args.sim.now c.loop-r.sim w.clear.new.self inv off
          (record { rows = w.clear.ensures.square.rows ∙ rows; columns = subst (λ k. All (λ row. length row ≡ k) w.clear.new.self) rows w.clear.ensures.square.columns })
          w.clear.ensures.pairs)
      | else-not-get w ↦
          subst P (sym w.sim-is) (outside_past q r is_final c.args.sim.now c.loop-r.sim inv (c.get.ensures.set.0 w.if-not-get.false))
    ]
