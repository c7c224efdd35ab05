use Rattle.std.proofs.Common.{length, refl}
use Rattle.std.proofs.lemmas.Option.{slice_get_read}
use Rattle.tree_definitions.specs.Relation.{IsAt}
use Rattle.down_conditions.proofs.Sets.{put_holds}
use Rattle.down_conditions.proofs.search.put.Goals as goal

pub returns-clause-members : goal.returns-clause-members
returns-clause-members c =
    let sets = c.args.sets.now.items in
    let row = c.index_mut.result.now in
    let at : IsAt sets c.args.i row = slice_get_read sets (length sets) c.args.i row refl c.requires.set c.index_mut.ensures.value in
    put_holds sets c.args.i c.args.s row c.set.new.self at c.set.ensures.members
