use Rattle.std.proofs.Common.{◌≡◌, ◌<◌, ◌-◌, length, sym, ◌∙◌, subst, arith}
use Rattle.std.specs.Prelude.{slice_index}
use Rattle.std.proofs.lemmas.Grind.{get_or_default_zero}
use Rattle.tree_definitions.specs.Relation.{IsAt}
use Rattle.word_table.proofs.Numbers.{same_word}
use Rattle.word_table.proofs.numbered.Numbered.find.Goals as goal

pub returns-then-index-gt0 : goal.returns-then-index-gt0
returns-then-index-gt0 c = λ words known.
    let counts = c.args.self.now.counts.items in
    let number = c.in-Some.number in
    let inside : number < length counts = omega (arith, c.if-number-len.true, c.len.ensures) in
    let first : c.index.result.now ≡ slice_index counts number = c.index.ensures ∙ get_or_default_zero _ _ _ inside in
    let count : c.index-then-index-gt0.result.now ≡ slice_index counts number = c.index-then-index-gt0.ensures ∙ get_or_default_zero _ _ _ inside in
    let there = known.at number inside (omega (arith, first, c.if-index-gt0.true)) in
    subst (λ n. IsAt words (n - 1) c.args.word.now) (sym count)
    (subst (IsAt words (slice_index counts number - 1)) (same_word c.args.self.now.prefix.items there.0 c.args.word.now number there.1 c.in-Some.ensures) there.2)
