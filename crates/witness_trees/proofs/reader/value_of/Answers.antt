use Rattle.std.proofs.Common.{◌≡◌, ◌+◌, ◌-◌, ◌*◌, take, get_or, ap, sym, ◌∙◌}
use Rattle.witness_trees.specs.Judged.{number_of}
use Rattle.witness_trees.specs.Answers.{capped}
use Rattle.witness_trees.proofs.Cuts.{number_more, capped_step}
use Rattle.witness_trees.proofs.reader.value_of.Goals as goal

pub loop-d-preserved : goal.loop-d-preserved
loop-d-preserved c =
    let digits = c.args.digits.now in
    let i = c.loop-d.d-index in
    let added : c.from.result ≡ get_or digits i 0 - 48 = c.from.ensures ∙ c.saturating_sub.ensures in
    let more : number_of (take (i + 1) digits) ≡ 10 * number_of (take i digits) + (get_or digits i 0 - 48) = number_more digits i c.loop-d-test.true in
    c.min-value.ensures ∙ capped_step (number_of (take i digits)) c.from.result c.loop-d.value c.loop-d.invariant ∙ ap (λ d. capped (10 * number_of (take i digits) + d)) added ∙ ap capped (sym more)
