use Rattle.std.proofs.Common.{◌+◌, ℕ, List, sym, subst, arith}
use Rattle.tree_definitions.specs.Relation.{Holds, Row}
use Rattle.down_conditions.specs.Choosing.{AreSized}
use Rattle.down_conditions.proofs.Sets.{empty_push, sized_push}
use Rattle.down_conditions.proofs.search.empty_sets.Goals as goal

pub loop-preserved : goal.loop-preserved
loop-preserved c =
    let sets = c.loop.sets.items in
    let row = c.in_ok-zeros.field-0 in
    let items = c.in_ok-push.ensures.items in
    record {
      sized = subst (AreSized (c.loop.counter + 1) c.args.places) (sym {A = List Row} items) (sized_push c.loop.counter c.args.places sets row c.loop.invariant.sized c.in_ok-zeros.ensures.long);
      empty = subst (λ (xs : List Row). (i s : ℕ) → Holds xs i s → ⊥) (sym {A = List Row} items) (empty_push sets row c.loop.invariant.empty (λ s h. c.in_ok-zeros.ensures.members s (omega arith) h));
    }
