use Rattle.std.proofs.Common.{◌≡◌, List, ℕ, Bor, Some, ◌-◌, take, map, ap, sym, ◌∙◌}
use Rattle.certificate_lines.specs.Pairs.{spelled_words}
use Rattle.certificate_lines.proofs.Spans.{pair_span}
use Rattle.entry_lines.proofs.written.written_of.Goals as goal

pub returns-in-Ok-call_of-clause-names : goal.returns-in-Ok-call_of-clause-names
returns-in-Ok-call_of-clause-names c =
    let front : List (Bor (List ℕ)) → List (List ℕ) = λ words. map (λ x. x.now) (take (c.len-count.result - 2) words) in
    let said : spelled_words (front c.in-Ok.words.items) ≡ Some (c.in-Ok-spelled_of.pair.0, c.in-Ok-spelled_of.pair.1.items) =
    ap (λ words. spelled_words (front words)) (sym c.deref.ensures.value) ∙ c.in-Ok-spelled_of.ensures in
    pair_span c.args.line.now c.in-Ok-spelled_of.pair.0 c.in-Ok-spelled_of.pair.1.items c.in-Ok.words.items (c.len-count.result - 2) c.in-Ok.ensures said
