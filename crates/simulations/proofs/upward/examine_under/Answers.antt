use Rattle.std.proofs.Common.{◌+◌, length, get_or, refl}
use Rattle.std.proofs.lemmas.Option.{slice_get_read, slice_get-get_or}
use Rattle.tree_definitions.specs.Relation.{IsAt}
use Rattle.simulations.specs.UpCases.{IsUpMatrix, IsUpUnder, IsExchangeOf}
use Rattle.simulations.proofs.ClearingSteps.{clearing_then}
use Rattle.simulations.proofs.UpSteps.{exchanged_then, exchanged_past, up_under_next, up_under_whole}
use Rattle.simulations.proofs.upward.examine_under.Goals as goal

pub loop-s-preserved : goal.loop-s-preserved
loop-s-preserved c =
    let rules = c.args.rules.now in
    let above = c.args.above.now in
    let n = length c.args.by_child.now in
    let rule = c.args.rule.now in
    let k = c.loop-s.s-index in
    let s = get_or above k 0 in
    let over = c.index-rules-s.result in
    let kat : IsAt above k s = slice_get-get_or above k 0 c.loop-s-test.true in
    let sat : IsAt rules s over = slice_get_read rules (length rules) s over refl (c.requires.above k 0 c.loop-s-test.true) c.index-rules-s.is in
    let inv = c.loop-s.invariant in
    let e = c.examine_exchange.ensures in
    record {
      clearing = clearing_then n (IsUpMatrix rules) c.args.sim.now c.args.marks.now c.loop-s.sim c.loop-s.marks c.examine_exchange.new.sim c.examine_exchange.new.marks inv.clearing e.clearing;
      exchanged = exchanged_then rules (IsUpUnder rules rule above k) (IsExchangeOf rule over) (IsUpUnder rules rule above (k + 1)) c.args.sim.now c.loop-s.sim c.examine_exchange.new.sim
          inv.exchanged e.exchanged inv.clearing.fewer e.clearing.fewer (up_under_next rules rule above k s over kat sat);
    }

pub returns-clause-exchanged : goal.returns-clause-exchanged
returns-clause-exchanged c =
    let rules = c.args.rules.now in
    let above = c.args.above.now in
    let rule = c.args.rule.now in
    let k = c.loop-s.s-index in
    exchanged_past rules (IsUpUnder rules rule above k) (IsUpUnder rules rule above (length above)) c.args.sim.now c.loop-s.sim c.loop-s.invariant.exchanged
    (up_under_whole rules rule above (length above) k c.loop-s-test.false)
