use Rattle.std.proofs.Common.{arith}
use Rattle.word_table.proofs.Grown.{grown, place_below}
use Rattle.word_table.proofs.table.WordTable.intern_by_hash.Goals as goal

pub put-requires : goal.put-requires
put-requires c = record { few = omega (arith, place_below c.self.inside.slots c.intern.new.self c.args.word.now c.in_ok-place.place c.in_ok-place.ensures.ok, c.len.ensures.few) }

pub invariant_of-self-then-len-count : goal.invariant_of-self-then-len-count
invariant_of-self-then-len-count c = c.put.ensures c.intern.new.self
    (grown c.self.inside.slots c.intern.new.self c.args.word.now c.in_ok-place.place c.in_ok-place.ensures.ok c.self.inside.numbered c.self.invariant)
    c.in_ok-place.ensures.ok.stands

pub invariant_of-self-else-len-count : goal.invariant_of-self-else-len-count
invariant_of-self-else-len-count c =
    grown c.self.inside.slots c.intern.new.self c.args.word.now c.in_ok-place.place c.in_ok-place.ensures.ok c.self.inside.numbered c.self.invariant
