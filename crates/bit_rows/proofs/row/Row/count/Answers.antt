use Rattle.std.proofs.Common.{◌≤◌, arith, ap, ◌∙◌}
use Rattle.std.specs.List.{sum_by, count_by}
use Rattle.std.specs.Int.RustNames.{count_ones}
use Rattle.std.proofs.lemmas.List.{take_all}
use Rattle.std.proofs.lemmas.List.Sums.{sum_by_more_le}
use Rattle.bit_rows.proofs.BitLemmas.{ones-bits, ones_le_len}
use Rattle.bit_rows.proofs.row.Row.count.Goals as goal

pub overflow_add-n : goal.overflow_add-n
overflow_add-n c =
    let ws = c.deref-word-items.result.now in
    let le : sum_by count_ones ws ≤ c.self.inside.len = rw c.deref-word-items.ensures.value (ones_le_len c.self.inside.len c.self.inside.words.items c.self.invariant) in
    record { fits = omega (arith, sum_by_more_le count_ones ws c.loop-word.word-index 0 c.loop-word-test.true, le) }

pub returns : goal.returns
returns c =
    let ws = c.deref-word-items.result.now in
    c.loop-word.invariant ∙ ap (sum_by count_ones) (take_all c.loop-word.word-index ws c.loop-word-test.false ∙ c.deref-word-items.ensures.value)
    ∙ ones-bits c.self.inside.len c.self.inside.words.items c.self.invariant ∙ ap (count_by (λ b. b)) c.self.view_is
