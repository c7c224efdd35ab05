use Rattle.std.proofs.Common.{get_or, ◌∙◌}
use Rattle.explicit_ta.proofs.Lists.{item_is, all_of, row_more}
use Rattle.explicit_ta.proofs.explicit.row_of.Goals as goal

pub set-requires : goal.set-requires
set-requires c = rw c.loop-q.invariant.width (c.requires c.loop-q.q-index 0 c.loop-q-test.true)

pub loop-q-preserved : goal.loop-q-preserved
loop-q-preserved c =
    let members = c.args.members.now in
    let i = c.loop-q.q-index in
    record {
      width = c.set.ensures.long ∙ c.loop-q.invariant.width;
      members = row_more members i (get_or members i 0) c.loop-q.row c.set.new.self c.loop-q-test.true (item_is members i 0 c.loop-q-test.true) c.loop-q.invariant.members c.set.ensures.members;
    }

pub returns-clause-members : goal.returns-clause-members
returns-clause-members c = λ q.
    let all = all_of c.args.members.now c.loop-q.q-index q c.loop-q-test.false in
    (λ h. all.0 ((c.loop-q.invariant.members q).0 h), λ m. (c.loop-q.invariant.members q).1 (all.1 m))
