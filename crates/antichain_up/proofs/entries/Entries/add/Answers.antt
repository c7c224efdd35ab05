use Rattle.std.proofs.Common.{refl, arith}
use Rattle.antichain_up.proofs.Covered.{out_more, pushed}
use Rattle.antichain_up.proofs.entries.Entries.add.Goals as goal

pub loop-r-preserved : goal.loop-r-preserved
loop-r-preserved c =
    let w = c.in-Some.ensures.within in
    let square = c.requires.orders.left_square.rows in
    record {
      within = omega (arith, w, square);
      out = out_more c.args.store.now c.args.orders.now c.args.state c.args.set c.loop-r.from c.in-Some.r c.args.self.now c.loop-r.self c.take_out.new.self
          c.in-Some.ensures.least c.loop-r.invariant.out c.take_out.ensures;
    }

pub returns : goal.returns
returns c =
    pushed c.args.store.now c.args.orders.now c.args.state c.args.set c.loop-r.from c.args.symbol c.args.kids.now c.args.self.now c.loop-r.self c.push.new.self
    c.len-entries.ensures.list.flags (c.in_default.ensures.none.0 refl) c.loop-r.invariant.out c.in_ok-push.ensures
