use Rattle.std.proofs.Common.{◌≡◌, ◌<◌, ◌+◌, true, false, not, All, length, get_or, refl, sym, ap, ◌∙◌, subst, arith}
use Rattle.std.specs.Prelude.{count_by}
use Rattle.std.proofs.lemmas.Option.{slice_get_read, slice_get_within, slice_get-get_or}
use Rattle.tree_definitions.specs.Relation.{Has}
use Rattle.tree_definitions.specs.Automaton.{Rule}
use Rattle.tree_definitions.specs.Relation.{IsAt}
use Rattle.trim_ops.specs.Marking.{IsLater, Nothing}
use Rattle.trim_ops.specs.Usefulness.{Spreading, MarksEach}
use Rattle.trim_ops.proofs.Marked.{later_in}
use Rattle.trim_ops.proofs.UsefulSteps.{spread_step, spread_skip, spread_end}
use Rattle.trim_ops.proofs.spread.spread.Goals as goal
use Rattle.trim_ops.proofs.spread.spread.Goals.{then-all_set+in_ok-mark_each, else-all_set}

pub loop-r-preserved : goal.loop-r-preserved
loop-r-preserved c =
    let rules = c.args.rules.now in
    let finals = c.args.finals.now in
    let reached = c.args.reached.now in
    let list = c.args.list.now in
    let j = c.loop-r.r-index in
    let r = get_or list j 0 in
    let rule = c.index-rules-r.result in
    let inv = c.loop-r.invariant in
    let there : IsAt list j r = slice_get-get_or list j 0 c.loop-r-test.true in
    let lr : r < length rules = c.requires.list j 0 c.loop-r-test.true in
    let at : IsAt rules r rule = slice_get_read rules (length rules) r rule refl lr c.index-rules-r.is in
    let parent : rule.parent ≡ c.args.parent = c.requires.parents j r rule there at in
    let marked : Has c.loop-r.row rule.parent = subst (Has c.loop-r.row) (sym parent) inv.marked in
    let kids : c.as_slice.result.now ≡ rule.kids = c.as_slice.ensures ∙ ap (λ (o : Rule). o.kids) c.rule.view_is in
    elim c.if-all_set.branch [
      | then-all_set+in_ok-mark_each w ↦
          let all : All (Has reached) rule.kids = subst (λ ks. All (Has reached) ks) kids (w.if-all_set.ensures.0 refl) in
          let kids2 : w.as_slice-then-all_set.result.now ≡ rule.kids = w.as_slice-then-all_set.ensures ∙ ap (λ (o : Rule). o.kids) c.rule.view_is in
          let e : MarksEach c.loop-r.row c.loop-r.todo.items rule.kids w.mark_each.new.row w.mark_each.new.todo.items =
          subst (λ ks. MarksEach c.loop-r.row c.loop-r.todo.items ks w.mark_each.new.row w.mark_each.new.todo.items) kids2 w.in_ok-mark_each.ensures in
          let s = spread_step rules finals reached (IsLater list j) (IsLater list (j + 1)) r rule c.loop-r.row c.loop-r.todo.items at inv.spreading (λ x. later_in list j r x there)
          w.mark_each.new.row w.mark_each.new.todo.items all marked e in
          let ts = ap (λ t. t.items) w.todo-is in
          record {
            size = ap length w.row-is ∙ e.size ∙ inv.size;
            work = subst (λ x. count_by not x + length c.if-all_set.todo.items ≡ count_by not c.args.row.now + length c.args.todo.now.items) (sym w.row-is)
                (subst (λ t. count_by not w.mark_each.new.row + length t ≡ count_by not c.args.row.now + length c.args.todo.now.items) (sym ts) (e.work ∙ inv.work));
            marked = subst (λ x. Has x c.args.parent) (sym w.row-is) (e.kept c.args.parent inv.marked);
            spreading = subst (λ x. Spreading rules finals reached (IsLater list (j + 1)) x c.if-all_set.todo.items) (sym w.row-is)
                (subst (λ t. Spreading rules finals reached (IsLater list (j + 1)) w.mark_each.new.row t) (sym ts) s);
          }
      | else-all_set w ↦
          let none : ¬ All (Has reached) rule.kids =
          λ h. let b : false ≡ true = w.if-all_set.ensures.1 (subst (λ ks. All (Has reached) ks) (sym kids) h) in cc in
          let s = spread_skip rules finals reached (IsLater list j) (IsLater list (j + 1)) r rule c.loop-r.row c.loop-r.todo.items at inv.spreading (λ x. later_in list j r x there) none in
          let ts = ap (λ t. t.items) w.todo-is in
          record {
            size = ap length w.row-is ∙ inv.size;
            work = subst (λ x. count_by not x + length c.if-all_set.todo.items ≡ count_by not c.args.row.now + length c.args.todo.now.items) (sym w.row-is)
                (subst (λ t. count_by not c.loop-r.row + length t ≡ count_by not c.args.row.now + length c.args.todo.now.items) (sym ts) inv.work);
            marked = subst (λ x. Has x c.args.parent) (sym w.row-is) inv.marked;
            spreading = subst (λ x. Spreading rules finals reached (IsLater list (j + 1)) x c.if-all_set.todo.items) (sym w.row-is)
                (subst (λ t. Spreading rules finals reached (IsLater list (j + 1)) c.loop-r.row t) (sym ts) s);
          }
    ]

pub returns-clause-spreading : goal.returns-clause-spreading
returns-clause-spreading c =
    let list = c.args.list.now in
    spread_end c.args.rules.now c.args.finals.now c.args.reached.now (IsLater list c.loop-r.r-index) Nothing c.loop-r.row c.loop-r.todo.items
    (λ x l. let w = slice_get_within list l.0 x l.2 in omega (arith, w, c.loop-r-test.false, l.1)) c.loop-r.invariant.spreading
