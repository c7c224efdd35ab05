use Rattle.std.proofs.Common.{◌≡◌, ◌≢◌, ◌-◌, ◌<◌, ◌≤◌, ℕ, List, [], Option, Some, None, IfNone, length, get_or, ap, sym, ◌∙◌, subst, arith}
use Rattle.std.specs.Prelude.{Contains}
use Rattle.std.proofs.lemmas.List.{get_or_read}
use Rattle.std.proofs.lemmas.Option.{slice_get-get_or}
use Rattle.tree_definitions.specs.Relation.{IsAt}
use Rattle.word_table.specs.declared.index.Slot.{Slot}
use Rattle.word_table.specs.Index.{IsSlotOf, bucket_of, count_at, empty, place_in, word_at}
use Rattle.word_table.proofs.Searching.{empty_ends, overflow_ends}
use Rattle.word_table.proofs.slots.SlotTable.place_of.Goals as goal
use Rattle.word_table.proofs.slots.SlotTable.place_of.Goals.{Else-slot-eq0}

pub returns-then-slot-eq0-clause-none : goal.returns-then-slot-eq0-clause-none
returns-then-slot-eq0-clause-none c =
    let slots : List Slot = c.self.inside.slots.items in
    let l : c.loop-at.at < length slots = omega (arith, c.loop-at-test.true, c.bucket_of-bucket.ensures.within, c.self.invariant.indexed.wide) in
    let free : count_at slots c.loop-at.at ≡ 0 =
    sym (ap (λ (slot : Slot). slot.count) (get_or_read slots c.loop-at.at c.index-slot.result.now l c.index-slot.ensures empty)) ∙ c.if-slot-eq0.true in
    subst (λ (words : List (List ℕ)). ¬ Contains words c.args.word.now) c.self.view_is
    (empty_ends c.self.inside.words c.args.word.now c.self.inside.buckets slots (place_in c.self.inside.overflow) c.bucket_of-bucket.result c.loop-at.at c.self.invariant.indexed
    (c.bucket_of-bucket.ensures.value ∙ ap (bucket_of c.self.inside.buckets) c.requires.hash) c.loop-at.invariant c.loop-at.auto.at c.loop-at-test.true free)

held : (c : Else-slot-eq0) → IsSlotOf (word_at c.self.inside.words) (length c.self.inside.words) c.index-slot.result.now
held c =
    let slots : List Slot = c.self.inside.slots.items in
    let l : c.loop-at.at < length slots = omega (arith, c.loop-at-test.true, c.bucket_of-bucket.ensures.within, c.self.invariant.indexed.wide) in
    let read : c.index-slot.result.now ≡ get_or slots c.loop-at.at empty = get_or_read slots c.loop-at.at c.index-slot.result.now l c.index-slot.ensures empty in
    let some : 0 < count_at slots c.loop-at.at = omega (arith, ap (λ (slot : Slot). slot.count) read, c.if-slot-eq0.false) in
    subst (IsSlotOf (word_at c.self.inside.words) (length c.self.inside.words)) (sym read) (c.self.invariant.indexed.index.slotted c.loop-at.at l some)

pub is_slot_of-requires-clause-slot : goal.is_slot_of-requires-clause-slot
is_slot_of-requires-clause-slot c = held c

pub is_slot_of-requires-clause-short : goal.is_slot_of-requires-clause-short
is_slot_of-requires-clause-short c =
    c.self.invariant.indexed.short (c.index-slot.result.now.count - 1) (omega (arith, (held c).within, c.if-slot-eq0.false))

pub returns-then-is_slot_of-clause-some : goal.returns-then-is_slot_of-clause-some
returns-then-is_slot_of-clause-some c =
    let place : ℕ = c.index-slot.result.now.count - 1 in
    let slots : List Slot = c.self.inside.slots.items in
    let l : c.loop-at.at < length slots = omega (arith, c.loop-at-test.true, c.bucket_of-bucket.ensures.within, c.self.invariant.indexed.wide) in
    let read : c.index-slot.result.now ≡ get_or slots c.loop-at.at empty = get_or_read slots c.loop-at.at c.index-slot.result.now l c.index-slot.ensures empty in
    let some : 0 < count_at slots c.loop-at.at = omega (arith, ap (λ (slot : Slot). slot.count) read, c.if-slot-eq0.false) in
    let known : count_at slots c.loop-at.at ≤ length c.self.inside.words = (c.self.invariant.indexed.index.slotted c.loop-at.at l some).within in
    let within : place < length c.self.inside.words = omega (arith, known, ap (λ (slot : Slot). slot.count) read, c.if-slot-eq0.false) in
    subst (λ (words : List (List ℕ)). IsAt words place c.args.word.now) c.self.view_is
    (slice_get-get_or c.self.inside.words place [] within ∙ ap (λ (w : List ℕ). Some w) (c.is_slot_of.ensures.0 c.if-is_slot_of.true))

if_none : (found : Option ℕ) (P Q : Type 0) → (P → Q) → IfNone found P → IfNone found Q
if_none None P Q f h = f h
if_none (Some x) P Q f h = h

pub returns-clause-none : goal.returns-clause-none
returns-clause-none c =
    let words : List (List ℕ) = c.self.inside.words in
    let listed : List ℕ → Option ℕ = place_in c.self.inside.overflow in
    let none : Type 0 = (k : ℕ) → IsAt words k c.args.word.now → listed c.args.word.now ≢ Some k in
    if_none c.place_in_overflow.result none (¬ Contains c.args.self.now c.args.word.now)
    (λ (h : none).
    subst (λ (ws : List (List ℕ)). ¬ Contains ws c.args.word.now) c.self.view_is
    (overflow_ends words c.args.word.now c.self.inside.buckets c.self.inside.slots.items listed c.bucket_of-bucket.result c.loop-at.at c.self.invariant.indexed
    (c.bucket_of-bucket.ensures.value ∙ ap (bucket_of c.self.inside.buckets) c.requires.hash) c.loop-at.invariant c.loop-at-test.false h))
    c.place_in_overflow.ensures.none
