use Rattle.std.proofs.Common.{ℕ, List, Bor, map, sym, ap, ◌∙◌, arith}
use Rattle.certificate_lines.specs.Pairs.{spelled_words}
use Rattle.certificate_lines.specs.Telling.{span}
use Rattle.certificate_lines.proofs.Paired.{words_span}
use Rattle.certificate_lines.proofs.pairs.read_pair.Goals as goal

pub named_of-requires-clause-place : goal.named_of-requires-clause-place
named_of-requires-clause-place c =
    let texts : List (Bor (List ℕ)) → List (List ℕ) = map (λ x. x.now) in
    let said = ap spelled_words (sym c.in-Ok.ensures ∙ ap texts (sym c.deref.ensures.value)) ∙ c.in-Ok-spelled_of.ensures in
    let wide = words_span c.args.line.now c.in-Ok-spelled_of.state c.in-Ok-spelled_of.members.items said in
    let same = ap span c.deref-in-Ok-spelled_of.ensures.value in
    let room = c.requires.place in
    omega (arith, wide, same, room)
