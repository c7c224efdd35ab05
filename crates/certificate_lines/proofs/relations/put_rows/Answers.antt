use Rattle.std.proofs.Common.{◌≡◌, ◌++◌, ◌∷◌, [], take, get_or, sym, ap, ◌∙◌, arith}
use Rattle.std.specs.List.{flat_map}
use Rattle.std.proofs.lemmas.Grind.{flat_map-append}
use Rattle.std.proofs.lemmas.List.{append_assoc, append-nil, take_more}
use Rattle.std.proofs.lemmas.Option.{get_or_from_slice_get}
use Rattle.certificate_lines.specs.Relations.{row_text}
use Rattle.certificate_lines.proofs.relations.put_rows.Goals as goal

pub loop-i-preserved : goal.loop-i-preserved
loop-i-preserved c =
    let m = c.args.relation.now in
    let i = c.loop-i.i in
    let old = c.args.out.now.items in
    let row = c.row.result.now in
    let size = c.size-i-end.ensures.value in
    let lt = c.loop-i-test.true in
    let more = take_more m i [] (omega (arith, lt, size)) in
    let here : get_or m i [] ≡ row = get_or_from_slice_get m i row [] c.row.ensures.value in
    let last : flat_map row_text (row ∷ []) ≡ row_text row = append-nil (row_text row) in
    c.in_ok-put_row.ensures ∙ ap (λ xs. xs ++ row_text row) c.loop-i.invariant ∙ append_assoc old (flat_map row_text (take i m)) (row_text row)
    ∙ ap (λ xs. old ++ xs) (ap (λ xs. flat_map row_text (take i m) ++ xs) (sym last) ∙ sym (flat_map-append row_text (take i m) (row ∷ []))
    ∙ ap (λ x. flat_map row_text (take i m ++ x ∷ [])) (sym here) ∙ ap (flat_map row_text) (sym more))
