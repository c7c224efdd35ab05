use Rattle.std.proofs.Common.{◌∙◌, List, map, sym, ap, subst}
use Rattle.tree_definitions.specs.Witness.{AreNodes}
use Rattle.antichain_up.specs.Answers.{node_of}
use Rattle.antichain_up.specs.Entries.{EntryList, EntryRow}
use Rattle.antichain_up.proofs.entries.Entries.tree.Goals as goal

pub tree_of-requires-clause-nodes : goal.tree_of-requires-clause-nodes
tree_of-requires-clause-nodes c =
    let P : List EntryRow → Type 0 = λ rows. AreNodes c.args.symbols.now (map node_of rows) in
    subst P (sym (c.deref.ensures.value ∙ ap (λ (s : EntryList). s.rows) c.self.view_is)) c.requires.nodes
