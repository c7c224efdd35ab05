use Rattle.std.proofs.Common.{true, length, refl, subst, arith}
use Rattle.std.proofs.lemmas.Option.{slice_get_within}
use Rattle.simulations.specs.Clearing.{Catches}
use Rattle.simulations.specs.UpCases.{IsUpMatrix}
use Rattle.simulations.proofs.Held.{held_less}
use Rattle.simulations.proofs.ClearingSteps.{seen_next, seen_falls}
use Rattle.simulations.proofs.UpSteps.{up_settled_next, up_settled_alone}
use Rattle.simulations.proofs.upward.refine.Goals as goal

pub loop-q-smaller : goal.loop-q-smaller
loop-q-smaller c =
    let n = length c.args.by_child.now in
    let q = c.in-Some.q in
    let s = c.loop-q.invariant.seen in
    let k : Catches n c.loop-q.sim q c.loop-q.seen c.in_ok-lost.lost c.catch_up.new.seen =
    subst (λ z. Catches z c.loop-q.sim q c.loop-q.seen c.in_ok-lost.lost c.catch_up.new.seen) s.now.square.rows c.in_ok-lost.ensures in
    let f = seen_falls n c.loop-q.seen c.loop-q.sim c.loop-q.marks q c.catch_up.new.seen c.in_ok-lost.lost s c.in-Some.ensures.some k in
    held_less n c.loop-q.seen c.catch_up.new.seen s.square k.square k.fewer q f.0 f.1 f.2

pub loop-q-preserved : goal.loop-q-preserved
loop-q-preserved c =
    let n = length c.args.by_child.now in
    let rules = c.args.rules.now in
    let q = c.in-Some.q in
    let s = c.loop-q.invariant.seen in
    let lost = c.in_ok-lost.lost in
    let seen2 = c.catch_up.new.seen in
    let k : Catches n c.loop-q.sim q c.loop-q.seen lost seen2 = subst (λ z. Catches z c.loop-q.sim q c.loop-q.seen lost seen2) s.now.square.rows c.in_ok-lost.ensures in
    let w = slice_get_within c.loop-q.marks q true c.in-Some.ensures.some in
    let long = s.now.long in
    record {
      up = omega (arith, w, long);
      seen = seen_next n (IsUpMatrix rules) c.loop-q.seen c.loop-q.sim c.loop-q.marks q c.clear.new.self seen2 lost c.spread.new.sim c.spread.new.marks s c.clear.ensures.members k c.spread.ensures.clearing;
      fewer = λ x y h. c.loop-q.invariant.fewer x y (c.spread.ensures.clearing.fewer x y h);
      each = λ m k w. c.spread.ensures.clearing.each m k (c.loop-q.invariant.each m k w);
      settled = up_settled_next n rules c.args.by_parent.now c.requires.by_parent_size c.requires.by_parent c.loop-q.seen c.loop-q.sim c.loop-q.marks q c.at.result.now c.at.ensures c.clear.new.self
          seen2 lost c.spread.new.sim c.spread.new.marks s k c.spread.ensures.clearing c.spread.ensures.exchanged c.loop-q.invariant.settled;
    }

pub returns-clause-settled : goal.returns-clause-settled
returns-clause-settled c =
    let inv = c.loop-q.invariant in
    up_settled_alone (length c.args.by_child.now) c.args.rules.now c.loop-q.seen c.loop-q.sim c.loop-q.marks inv.seen (λ x m. c.in_default.ensures.none refl x (omega arith) m) inv.settled
