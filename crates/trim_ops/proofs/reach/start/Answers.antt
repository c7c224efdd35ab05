use Rattle.std.proofs.Common.{◌+◌, length, refl, sym, ◌∙◌, subst, arith}
use Rattle.std.proofs.lemmas.Option.{slice_get_read, slice_get_within}
use Rattle.tree_definitions.specs.Relation.{IsAt}
use Rattle.trim_ops.specs.Marking.{AreWithin, IsFrom, Nothing}
use Rattle.trim_ops.proofs.Marked.{visited, visits_size, parent_within, later_from, marking_end}
use Rattle.trim_ops.proofs.reach.start.Goals as goal

pub loop-at-preserved : goal.loop-at-preserved
loop-at-preserved c =
    let rules = c.args.rules.now in
    let i = c.loop-at.at in
    let rule = c.index-rules-at.result in
    let at : IsAt rules i rule = slice_get_read rules (length rules) i rule refl c.loop-at-test.true c.index-rules-at.is in
    let v = c.in_ok-visit.ensures in
    let size = visits_size _ _ _ _ _ _ _ v in
    let inv = c.loop-at.invariant in
    record {
      within = subst (λ n. AreWithin n rules) (sym size) inv.within;
      size = size ∙ inv.size;
      marking = visited rules (IsFrom i) (IsFrom (i + 1)) _ _ c.loop-at.places i rule _ _ _ at inv.marking v
          (parent_within (length c.loop-at.row) rules i rule inv.within at) (later_from i);
    }

pub returns : goal.returns
returns c =
    let rules = c.args.rules.now in
    let inv = c.loop-at.invariant in (
      marking_end rules (IsFrom c.loop-at.at) Nothing c.loop-at.row c.loop-at.todo.items c.loop-at.places
          (λ r rule at l. let w = slice_get_within rules r rule at in omega (arith, w, c.loop-at-test.false, l)) inv.marking,
      inv.size,
    )
