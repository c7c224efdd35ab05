use Rattle.std.proofs.Common.{◌≡◌, ◌∙◌, false, Some, get_or, ap}
use Rattle.std.proofs.lemmas.Option.{get_or_from_slice_get}
use Rattle.trim_ops.proofs.Marked.{marks_step}
use Rattle.trim_ops.proofs.marking.mark.Goals as goal

pub returns-in_ok-push : goal.returns-in_ok-push
returns-in_ok-push c =
    let off : get_or c.args.row.now c.args.q false ≡ false = get_or_from_slice_get c.args.row.now c.args.q false false (c.get.ensures.value ∙ ap Some c.if-not-get.true) in
    marks_step c.args.row.now c.args.todo.now.items c.args.q c.set.new.self c.push.new.self.items c.requires off c.set.ensures.value c.set.ensures.members c.in_ok-push.ensures.items
