use Rattle.std.proofs.Common.{◌-◌, ◌<◌, ℕ, List, Option, IfSome, vec_len, subst, arith}
use Rattle.word_table.specs.declared.index.Slot.{Slot}
use Rattle.word_table.specs.Index.{IsSlotFor, bucket_of, hash_of}
use Rattle.word_table.proofs.Indexing.{index_filled, index_overflows}
use Rattle.word_table.proofs.index.enter.Goals as goal

pub returns-in-Some-clause-index : goal.returns-in-Some-clause-index
returns-in-Some-clause-index c f buckets listed is at old =
    let slots : List Slot = c.args.slots.now.items in
    let last : List ℕ = f (c.args.slot.count - 1) in
    let low : c.in-Some.at < vec_len c.args.slots.now = subst (λ (o : Option ℕ). IfSome o (λ s. s < vec_len c.args.slots.now)) c.in-Some.is c.requires.within in
    index_filled f buckets slots listed c.args.slot c.requires.some is old c.in-Some.at (omega (arith, low, c.args.slots.now.ok.0))
    (subst (IsSlotFor slots (bucket_of buckets (hash_of last)) (listed last) (c.args.slot.count - 1)) c.in-Some.is at)

pub returns-in_default-clause-index : goal.returns-in_default-clause-index
returns-in_default-clause-index c f buckets listed is at old =
    let last : List ℕ = f (c.args.slot.count - 1) in
    index_overflows f buckets c.args.slots.now.items listed c.args.slot c.requires.some is old
    (subst (IsSlotFor c.args.slots.now.items (bucket_of buckets (hash_of last)) (listed last) (c.args.slot.count - 1)) c.in_default.is at)
