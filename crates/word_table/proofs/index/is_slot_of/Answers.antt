use Rattle.std.proofs.Common.{rules, ◌≡◌, ◌-◌, [], length, sym, ◌∙◌}
use Rattle.std.proofs.lemmas.Bool.{eqb-true}
use Rattle.std.proofs.lemmas.Option.{get_or_from_slice_get}
use Rattle.std.proofs.lemmas.Slice.Eq.{bytes_eq-Decides}
use Rattle.word_table.specs.Index.{word_at}
use Rattle.word_table.proofs.Keys.{same_key}
use Rattle.word_table.proofs.index.is_slot_of.Goals as goal
use Rattle.word_table.proofs.index.is_slot_of.Goals.{Then-word-le-KEY_LEN, then-slot-key, else-slot-key}

alike : (c : Then-word-le-KEY_LEN) → (c.args.slot.key ≡ c.args.key) × (c.args.slot.len ≡ length c.args.word.now)
alike c =
    elim c.if-slot-key.branch [
      | then-slot-key w ↦ (w.if-slot-key.true, eqb-true c.args.slot.len (length c.args.word.now) (sym w.value-is ∙ c.if-slot-word.true))
      | else-slot-key w ↦ absurd (w.if-slot-key.false (eqb-true c.args.slot.key c.args.key (sym w.value-is ∙ c.if-slot-word.true)))
    ]

pub returns-then-word-le-KEY_LEN : goal.returns-then-word-le-KEY_LEN
returns-then-word-le-KEY_LEN c =
    let held = c.requires.slot in (
      λ _.
          same_key (word_at c.args.words.now (c.args.slot.count - 1)) c.args.word.now (sym held.len ∙ (alike c).1) c.if-word-le-KEY_LEN.true c.requires.short.bytes c.requires.bytes
          (sym held.key ∙ (alike c).0 ∙ c.requires.key),
      λ _. search rules,
    )

pub returns-else-word-le-KEY_LEN : goal.returns-else-word-le-KEY_LEN
returns-else-word-le-KEY_LEN c =
    let read : word_at c.args.words.now (c.args.slot.count - 1) ≡ c.word.result.now =
    get_or_from_slice_get c.args.words.now (c.args.slot.count - 1) c.word.result.now [] c.word.ensures in (
      λ yes. read ∙ (bytes_eq-Decides c.word.result.now c.args.word.now).0 (sym c.eq.ensures ∙ yes),
      λ same. c.eq.ensures ∙ (bytes_eq-Decides c.word.result.now c.args.word.now).1 (sym read ∙ same),
    )
