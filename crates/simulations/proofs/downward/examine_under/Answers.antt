use Rattle.std.proofs.Common.{◌≡◌, ◌+◌, length, get_or, refl, sym, ap, ◌∙◌, subst}
use Rattle.std.proofs.lemmas.Option.{slice_get_read, slice_get-get_or}
use Rattle.tree_definitions.specs.Automaton.{Rule}
use Rattle.tree_definitions.specs.Relation.{Row, Matrix, IsAt}
use Rattle.simulations.specs.Clearing.{Clearing}
use Rattle.simulations.specs.DownCases.{IsDownMatrix, AreAnswered, IsUnder, IsCase}
use Rattle.simulations.proofs.ClearingSteps.{clearing_then}
use Rattle.simulations.proofs.DownSteps.{answered_then, answered_past, under_next, under_past}
use Rattle.simulations.proofs.downward.examine_under.Goals as goal
use Rattle.simulations.proofs.downward.examine_under.Goals.{then-over-rule, else-over-rule}

pub loop-s-preserved : goal.loop-s-preserved
loop-s-preserved c =
    let rules = c.args.rules.now in
    let above = c.args.above.now in
    let n = length c.args.to.now in
    let i = c.args.i in
    let k = c.loop-s.s-index in
    let s = get_or above k 0 in
    let low = c.index-rules-i.result in
    let over = c.index-rules-s.result in
    let sim0 = c.args.sim.now in
    let inv = c.loop-s.invariant in
    let iat : IsAt rules i low = slice_get_read rules (length rules) i low refl c.requires.rule c.index-rules-i.is in
    let kat : IsAt above k s = slice_get-get_or above k 0 c.loop-s-test.true in
    let sat : IsAt rules s over = slice_get_read rules (length rules) s over refl (c.requires.above k 0 c.loop-s-test.true) c.index-rules-s.is in
    let p : over.parent ≡ c.over.inside.parent = sym (ap (λ (o : Rule). o.parent) c.over.view_is) in
    elim c.if-over-rule.branch [
      | then-over-rule w ↦
          let v = w.examine.ensures in
          let one = clearing_then n (IsDownMatrix rules) sim0 c.args.marks.now c.loop-s.sim c.loop-s.marks w.examine.new.sim w.examine.new.marks inv.clearing v.clearing in
          let two = answered_then rules (IsUnder rules i above k) (IsCase rules i c.over.inside.parent) (IsUnder rules i above (k + 1)) sim0 c.loop-s.sim w.examine.new.sim
          inv.answered v.answered inv.clearing.fewer v.clearing.fewer (under_next rules i above k s over c.over.inside.parent kat sat p) in
          record {
            clearing = subst (λ (x : Matrix). Clearing n (IsDownMatrix rules) sim0 c.args.marks.now x c.if-over-rule.marks) (sym w.sim-is)
                (subst (λ (x : Row). Clearing n (IsDownMatrix rules) sim0 c.args.marks.now w.examine.new.sim x) (sym w.marks-is) one);
            answered = subst (λ (x : Matrix). AreAnswered rules (IsUnder rules i above (k + 1)) sim0 x) (sym w.sim-is) two;
          }
      | else-over-rule w ↦
          let differ : ¬ (over.symbol ≡ low.symbol) =
          λ e. w.if-over-rule.false (ap (λ (o : Rule). o.symbol) c.over.view_is ∙ e ∙ sym (ap (λ (o : Rule). o.symbol) c.rule.view_is)) in
          let two = answered_past rules (IsUnder rules i above k) (IsUnder rules i above (k + 1)) sim0 c.loop-s.sim inv.answered
          (under_past rules i low above k s over iat kat sat differ) in
          record {
            clearing = subst (λ (x : Matrix). Clearing n (IsDownMatrix rules) sim0 c.args.marks.now x c.if-over-rule.marks) (sym w.sim-is)
                (subst (λ (x : Row). Clearing n (IsDownMatrix rules) sim0 c.args.marks.now c.loop-s.sim x) (sym w.marks-is) inv.clearing);
            answered = subst (λ (x : Matrix). AreAnswered rules (IsUnder rules i above (k + 1)) sim0 x) (sym w.sim-is) two;
          }
    ]
