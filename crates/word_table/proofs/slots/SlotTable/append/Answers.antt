use Rattle.std.proofs.Common.{◌≡◌, ◌+◌, ◌-◌, ◌++◌, ◌∷◌, [], ℕ, List, Option, length, sym, ap, ◌∙◌, subst, arith}
use Rattle.std.specs.Prelude.{Contains}
use Rattle.std.proofs.lemmas.List.{get_or_append_left, get_or_push}
use Rattle.word_table.specs.declared.index.Slot.{Slot}
use Rattle.word_table.specs.Index.{IsIndex, IsIndexOf, IsShort, IsSlotFor, bucket_of, hash_of, key_of, place_in, word_at}
use Rattle.word_table.specs.Table.{IsTable}
use Rattle.word_table.proofs.Indexing.{index_alike, other_at, slot_for_same, table_longer, table_relisted}
use Rattle.word_table.proofs.slots.SlotTable.append.Goals as goal

pub invariant_of-self-in_err-push : goal.invariant_of-self-in_err-push
invariant_of-self-in_err-push c =
    let words : List (List ℕ) = c.self.inside.words in
    let slots : List Slot = c.make_room.new.slots.items in
    let listed : List ℕ → Option ℕ = place_in c.slot_for.new.overflow in
    let lacks : ¬ Contains words c.args.word.now = subst (λ (ws : List (List ℕ)). ¬ Contains ws c.args.word.now) (sym c.self.view_is) c.requires.fresh in
    subst (λ (ws : List (List ℕ)). IsTable ws c.make_room.new.buckets slots listed) (sym c.in_err-push.ensures.err)
    (table_relisted words c.args.word.now c.make_room.new.buckets slots c.self.invariant.distinct lacks (place_in c.make_room.new.overflow) listed
    c.slot_for.ensures.others c.in_ok-make_room.ensures.index)

pub invariant_of-self-2 : goal.invariant_of-self-2
invariant_of-self-2 c =
    let words : List (List ℕ) = c.self.inside.words in
    let word : List ℕ = c.args.word.now in
    let longer : List (List ℕ) = words ++ word ∷ [] in
    let buckets : ℕ = c.make_room.new.buckets in
    let bucket : ℕ = c.bucket_of-bucket.result in
    let slots : List Slot = c.make_room.new.slots.items in
    let listed : List ℕ → Option ℕ = place_in c.slot_for.new.overflow in
    let made : IsIndexOf words buckets slots (place_in c.make_room.new.overflow) = c.in_ok-make_room.ensures.index in
    let place : ℕ = c.len-place.result in
    let last : ℕ = place + 1 - 1 in
    let here : last ≡ length words = omega (arith, c.len-place.ensures.value) in
    let same : word_at longer last ≡ word = get_or_push words word [] last (sym here) in
    let home : bucket ≡ bucket_of buckets (hash_of word) = c.bucket_of-bucket.ensures.value ∙ ap (bucket_of buckets) c.requires.hash in
    let lacks : ¬ Contains words word = subst (λ (ws : List (List ℕ)). ¬ Contains ws word) (sym c.self.view_is) c.requires.fresh in
    let old : IsIndex (word_at longer) buckets slots listed (length words) =
    index_alike (word_at words) (word_at longer) buckets slots (place_in c.make_room.new.overflow) listed (length words) (λ k l. get_or_append_left words (word ∷ []) [] k l)
    (λ k l. c.slot_for.ensures.others (word_at words k) (other_at words word lacks k l)) made.index in
    let entered : IsIndex (word_at longer) buckets c.enter.new.slots.items listed (place + 1) =
    c.enter.ensures.index (word_at longer) buckets listed (record { within = omega arith; len = ap length (sym same); key = c.requires.key ∙ ap key_of (sym same) })
    (slot_for_same slots buckets bucket listed word (word_at longer last) place last c.in_ok-at.at home same (omega arith)
    (subst (λ (xs : List Slot). IsSlotFor xs bucket (listed word) place c.in_ok-at.at) c.deref.ensures.value c.in_ok-at.ensures.slot))
    (subst (IsIndex (word_at longer) buckets slots listed) (sym here) old) in
    let short : IsShort word = record { few = c.requires.short; bytes = λ k l. omega (arith, c.type_inv.word k) } in
    subst (λ (ws : List (List ℕ)). IsTable ws buckets c.enter.new.slots.items listed) (sym c.in_ok-push.ensures.ok)
    (table_longer words word buckets c.enter.new.slots.items c.self.invariant.distinct lacks listed made.power
    (λ some. omega (arith, made.wide some, c.enter.ensures.len, c.make_room.new.slots.ok.0, c.enter.new.slots.ok.0)) c.in_ok-make_room.ensures.room made.short short
    (subst (IsIndex (word_at longer) buckets c.enter.new.slots.items listed) (let next : place + 1 ≡ length words + 1 = omega (arith, c.len-place.ensures.value) in next) entered))
