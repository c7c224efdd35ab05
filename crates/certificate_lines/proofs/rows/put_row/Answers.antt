use Rattle.std.proofs.Common.{◌++◌, ◌∷◌, [], map, ap, sym, ◌∙◌}
use Rattle.std.specs.List.{range_with_len}
use Rattle.std.proofs.lemmas.List.{append_assoc}
use Rattle.certificate_lines.specs.Relations.{digit_at}
use Rattle.certificate_lines.proofs.Digits.{one_more}
use Rattle.certificate_lines.proofs.rows.put_row.Goals as goal

pub loop-k-preserved : goal.loop-k-preserved
loop-k-preserved c =
    let row = c.args.row.now in
    let k = c.loop-k.k in
    let old = c.args.out.now.items in
    c.in_ok-push.ensures.items ∙ ap (λ xs. xs ++ c.digit.result ∷ []) c.loop-k.invariant ∙ append_assoc old (map (digit_at row) (range_with_len 0 k)) (c.digit.result ∷ [])
    ∙ ap (λ d. old ++ (map (digit_at row) (range_with_len 0 k) ++ d ∷ [])) c.digit.ensures ∙ ap (λ xs. old ++ xs) (sym (one_more (digit_at row) k))
