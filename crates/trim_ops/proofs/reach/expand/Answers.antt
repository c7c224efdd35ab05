use Rattle.std.proofs.Common.{◌<◌, ◌+◌, length, get_or, refl, sym, ◌∙◌, subst, arith}
use Rattle.std.proofs.lemmas.Option.{slice_get_read, slice_get_within, slice_get-get_or}
use Rattle.tree_definitions.specs.Relation.{IsAt}
use Rattle.trim_ops.specs.Marking.{AreWithin, IsLater, Nothing}
use Rattle.trim_ops.proofs.Marked.{visited, visits_size, visits_work, parent_within, later_in, marking_end}
use Rattle.trim_ops.proofs.reach.expand.Goals as goal

pub loop-r-preserved : goal.loop-r-preserved
loop-r-preserved c =
    let rules = c.args.rules.now in
    let list = c.args.list.now in
    let j = c.loop-r.r-index in
    let r = get_or list j 0 in
    let rule = c.index-rules-at.result in
    let there : IsAt list j r = slice_get-get_or list j 0 c.loop-r-test.true in
    let lr : r < length rules = c.requires.list j 0 c.loop-r-test.true in
    let at : IsAt rules r rule = slice_get_read rules (length rules) r rule refl lr c.index-rules-at.is in
    let v = c.in_ok-visit.ensures in
    let size = visits_size _ _ _ _ _ _ _ v in
    let work = visits_work _ _ _ _ _ _ _ v in
    let inv = c.loop-r.invariant in
    record {
      within = subst (λ n. AreWithin n rules) (sym size) inv.within;
      size = size ∙ inv.size;
      work = work ∙ inv.work;
      marking = visited rules (IsLater list j) (IsLater list (j + 1)) _ _ c.loop-r.places r rule _ _ _ at inv.marking v
          (parent_within (length c.loop-r.row) rules r rule inv.within at) (λ x. later_in list j r x there);
    }

pub returns : goal.returns
returns c =
    let rules = c.args.rules.now in
    let list = c.args.list.now in
    let inv = c.loop-r.invariant in (
      marking_end rules (IsLater list c.loop-r.r-index) Nothing c.loop-r.row c.loop-r.todo.items c.loop-r.places
          (λ r rule at l. let w = slice_get_within list l.0 r l.2 in omega (arith, w, c.loop-r-test.false, l.1)) inv.marking,
      inv.size,
      inv.work,
    )
