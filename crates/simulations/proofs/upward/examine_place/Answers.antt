use Rattle.std.proofs.Common.{◌≡◌, true, length, get_or, refl, ap, ◌∙◌, arith}
use Rattle.std.proofs.lemmas.Option.{slice_get_within}
use Rattle.tree_definitions.specs.Automaton.{Rule}
use Rattle.simulations.specs.UpCases.{IsUpMatrix}
use Rattle.simulations.proofs.ClearingSteps.{clearing_then}
use Rattle.child_exchange.proofs.Exchanges.{kid_at}
use Rattle.simulations.proofs.UpSteps.{kid_next, kid_ends}
use Rattle.simulations.proofs.upward.examine_place.Goals as goal

pub loop-r-preserved : goal.loop-r-preserved
loop-r-preserved c =
    let rules = c.args.rules.now in
    let n = length c.args.by_child.now in
    let rule = c.args.rule.now in
    let p = c.args.p in
    let kids : c.as_slice.result.now ≡ rule.kids = c.as_slice.ensures ∙ ap (λ (o : Rule). o.kids) c.rule.view_is in
    let q = get_or c.as_slice.result.now p 0 in
    let kat = kid_at c.as_slice.result.now rule p kids c.requires.place in
    let inv = c.loop-r.invariant in
    let w = slice_get_within c.row.result.now c.in-Some.r true c.in-Some.ensures.least.set in
    let long = c.row.ensures.long in
    let rows = inv.clearing.now.square.rows in
    record {
      up = omega (arith, w, long, rows);
      clearing = clearing_then n (IsUpMatrix rules) c.args.sim.now c.args.marks.now c.loop-r.sim c.loop-r.marks c.examine.new.sim c.examine.new.marks inv.clearing c.examine.ensures.clearing;
      exchanged = kid_next rules rule p q kat c.row.result.now c.args.sim.now c.loop-r.sim c.row.ensures.members c.loop-r.from inv.exchanged
          c.in-Some.r c.examine.new.sim c.in-Some.ensures.least inv.clearing.fewer c.examine.ensures.clearing.fewer c.examine.ensures.exchanged;
    }

pub returns-clause-exchanged : goal.returns-clause-exchanged
returns-clause-exchanged c =
    let rules = c.args.rules.now in
    let n = length c.args.by_child.now in
    let rule = c.args.rule.now in
    let p = c.args.p in
    let kids : c.as_slice.result.now ≡ rule.kids = c.as_slice.ensures ∙ ap (λ (o : Rule). o.kids) c.rule.view_is in
    let q = get_or c.as_slice.result.now p 0 in
    let kat = kid_at c.as_slice.result.now rule p kids c.requires.place in
    kid_ends rules rule p q kat c.row.result.now c.args.sim.now c.loop-r.sim c.row.ensures.members c.loop-r.from c.loop-r.invariant.exchanged n (c.in_default.ensures.none.0 refl)
