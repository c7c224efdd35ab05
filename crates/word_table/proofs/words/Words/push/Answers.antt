use Rattle.std.proofs.Common.{◌≡◌, ◌+◌, ◌<◌, ◌∷◌, ◌++◌, [], ℕ, List, length, ap, ◌∙◌, arith}
use Rattle.word_table.specs.Words.{AreWords, words_from}
use Rattle.word_table.proofs.Ends.{bytes_bounded, ends_as_words, pushed_words}
use Rattle.word_table.proofs.words.Words.push.Goals as goal
use Rattle.word_table.proofs.words.Words.push.Goals.{After-push_reserved}

pub overflow_cast-end : goal.overflow_cast-end
overflow_cast-end c =
    let many = bytes_bounded c.self.inside.bytes.items c.self.inside.ends.items c.self.invariant in
    omega (arith, c.len.ensures, c.self.inside.bytes.ok.0, c.self.invariant.few, many, c.requires.short)

after :
    (c : After-push_reserved)
    → AreWords c.extend_from_slice.new.self.items c.push_reserved.new.self.items
    × (words_from 0 c.extend_from_slice.new.self.items c.push_reserved.new.self.items ≡ words_from 0 c.self.inside.bytes.items c.self.inside.ends.items ++ c.args.word.now ∷ [])
after c =
    let old : List ℕ = c.self.inside.ends.items in
    let end : ℕ = c.len.result + length c.args.word.now in
    let few : length old < 1000000 = omega (arith, c.requires.few, ends_as_words c.self.inside.bytes.items old c.args.self.now c.self.view_is) in
    let at : end ≡ length c.self.inside.bytes.items + length c.args.word.now = omega (arith, c.len.ensures, c.self.inside.bytes.ok.0) in
    let longer : c.push_reserved.new.self.items ≡ old ++ end ∷ [] = c.push_reserved.ensures.items ∙ ap (λ es. es ++ end ∷ []) c.in_ok-reserve.ensures.items in
    pushed_words c.self.inside.bytes.items old c.args.word.now c.extend_from_slice.new.self.items c.push_reserved.new.self.items end c.self.invariant few c.requires.short
    c.in_ok-extend_from_slice.ensures.items at longer

pub invariant_of-self-2 : goal.invariant_of-self-2
invariant_of-self-2 c = (after c).0

pub returns-clause-ok : goal.returns-clause-ok
returns-clause-ok c = (after c).1 ∙ ap (λ ws. ws ++ c.args.word.now ∷ []) c.self.view_is
