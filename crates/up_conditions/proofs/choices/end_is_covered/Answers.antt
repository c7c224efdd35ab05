use Rattle.std.proofs.Common.{length}
use Rattle.tree_definitions.specs.Cover.{Post}
use Rattle.tree_definitions.specs.Relation.{Has, Holds}
use Rattle.up_conditions.proofs.Chosen.{ends_post}
use Rattle.up_conditions.proofs.Covered.{covered_up, up_covered}
use Rattle.up_conditions.proofs.choices.end_is_covered.Goals as goal

pub returns : goal.returns
returns c a sets size leaves =
    let RA = Holds c.args.left.now in
    let RB = Holds c.args.right.now in
    let X = c.args.pairs.now in
    let B = c.args.b.now in
    let list = c.args.places.now in
    let row = c.in_ok-row.row in
    let Step = Post B a sets in
    let members = ends_post B c.rules.result.now c.rules.ensures.value a sets c.args.count size list row leaves c.in_ok-row.ensures.members in (
      λ t. covered_up RA RB X c.args.parent (Has row) Step (λ s. (members s).0) (length X) (c.is_covered.ensures.0 t),
      λ h. c.is_covered.ensures.1 (up_covered RA RB X c.args.parent Step (Has row) (λ s. (members s).1) h),
    )
