use Rattle.std.proofs.Common.{◌≡◌, ◌+◌, ◌-◌, ◌<◌, ℕ, List, [], Option, length, refl, sym, ap, ◌∙◌, subst, arith}
use Rattle.std.proofs.lemmas.Option.{get_or_from_slice_get}
use Rattle.word_table.specs.declared.index.Slot.{Slot}
use Rattle.word_table.specs.Index.{IsIndex, IsSlotFor, bucket_of, hash_of, key_of, place_in, word_at}
use Rattle.word_table.proofs.Indexing.{index_alike, slot_for_same}
use Rattle.word_table.proofs.index.indexed.Goals as goal

pub loop-place-preserved : goal.loop-place-preserved
loop-place-preserved c =
    let words : List (List ℕ) = c.args.words.now in
    let word : List ℕ = c.word-word.result.now in
    let buckets : ℕ = c.args.buckets in
    let bucket : ℕ = c.bucket_of-bucket.result in
    let slots : List Slot = c.loop-place.slots.items in
    let place : ℕ = c.loop-place.place in
    let listed : List ℕ → Option ℕ = place_in c.slot_for.new.overflow in
    let here : place + 1 - 1 ≡ place = omega arith in
    let read : word_at words place ≡ word = get_or_from_slice_get words place word [] c.word-word.ensures in
    let same : word_at words (place + 1 - 1) ≡ word = ap (word_at words) here ∙ read in
    let home : bucket ≡ bucket_of buckets (hash_of word) = c.bucket_of-bucket.ensures.value ∙ ap (bucket_of buckets) c.hash_of.ensures in
    let within : place < length words = omega (arith, c.loop-place-test.true, c.len-place-end.ensures.value) in
    let old : IsIndex (word_at words) buckets slots listed place =
    index_alike (word_at words) (word_at words) buckets slots (place_in c.loop-place.overflow) listed place (λ k l. refl)
    (λ k l. c.slot_for.ensures.others (word_at words k) (λ e. c.requires.distinct k place [] l within (e ∙ sym read))) c.loop-place.invariant.index in
    record {
      wide = omega (arith, c.enter.ensures.len, c.loop-place.invariant.wide);
      index =
          c.enter.ensures.index (word_at words) buckets listed (record { within = omega arith; len = ap length (sym same); key = c.key_of.ensures ∙ ap key_of (sym same) })
          (slot_for_same slots buckets bucket listed word (word_at words (place + 1 - 1)) place (place + 1 - 1) c.in_ok-at.at home same here
          (subst (λ (xs : List Slot). IsSlotFor xs bucket (listed word) place c.in_ok-at.at) c.deref.ensures.value c.in_ok-at.ensures.slot))
          (subst (IsIndex (word_at words) buckets slots listed) (sym here) old);
    }
