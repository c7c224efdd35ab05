use Rattle.std.proofs.Common.{Some, sym, ap, ◌∙◌}
use Rattle.std.proofs.lemmas.Option.{slice_get-get_or}
use Rattle.vata_core.proofs.RelationLines.{row_more}
use Rattle.vata_core.proofs.matrix_text.put_rows.Goals as goal

pub loop-i-preserved : goal.loop-i-preserved
loop-i-preserved c =
    let states = c.args.states.now in
    let i = c.loop-i.i in
    let state = c.index-states-i.result in
    row_more states c.args.m.now i state c.row.result.now c.args.out.now.items c.loop-i.out.items c.put_row.new.out.items
    (slice_get-get_or states i state c.loop-i-test.true ∙ ap Some (sym c.index-states-i.is)) c.row.ensures.value c.loop-i.invariant c.in_ok-put_row.ensures
