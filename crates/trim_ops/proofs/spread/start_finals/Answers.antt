use Rattle.std.proofs.Common.{◌≡◌, ◌+◌, true, false, length, take, get_or, sym, ap, ◌∙◌, subst}
use Rattle.tree_definitions.specs.Relation.{Has}
use Rattle.trim_ops.specs.Usefulness.{Starting}
use Rattle.trim_ops.proofs.UsefulSteps.{starting_more, starting_past}
use Rattle.trim_ops.proofs.spread.start_finals.Goals as goal
use Rattle.trim_ops.proofs.spread.start_finals.Goals.{then-get+in_ok-mark, else-get}

pub loop-q-preserved : goal.loop-q-preserved
loop-q-preserved c =
    let finals = c.args.finals.now in
    let reached = c.args.reached.now in
    let i = c.loop-q.q-index in
    let inv = c.loop-q.invariant in
    elim c.if-get.branch [
      | then-get+in_ok-mark w ↦
          let on : Has reached (get_or finals i 0) = c.get.ensures.set.0 w.if-get.true in
          let s = starting_more finals i reached c.loop-q.row c.loop-q.todo.items w.mark.new.row w.mark.new.todo.items c.loop-q-test.true inv.starting on w.in_ok-mark.ensures in
          record {
            size = ap length w.row-is ∙ w.in_ok-mark.ensures.size ∙ inv.size;
            starting = subst (λ r. Starting (take (i + 1) finals) reached r c.if-get.todo.items) (sym w.row-is)
                (subst (λ t. Starting (take (i + 1) finals) reached w.mark.new.row t) (sym (ap (λ t. t.items) w.todo-is)) s);
          }
      | else-get w ↦
          let off : ¬ Has reached (get_or finals i 0) = λ h. let e : true ≡ false = sym (c.get.ensures.set.1 h) ∙ w.if-get.false in cc in
          let s = starting_past finals i reached c.loop-q.row c.loop-q.todo.items c.loop-q-test.true inv.starting off in
          record {
            size = ap length w.row-is ∙ inv.size;
            starting = subst (λ r. Starting (take (i + 1) finals) reached r c.if-get.todo.items) (sym w.row-is)
                (subst (λ t. Starting (take (i + 1) finals) reached c.loop-q.row t) (sym (ap (λ t. t.items) w.todo-is)) s);
          }
    ]
