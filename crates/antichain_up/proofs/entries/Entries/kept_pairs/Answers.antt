use Rattle.std.specs.Prelude.{IfOk}
use Rattle.std.proofs.Common.{◌∙◌, List, map, ap, subst}
use Rattle.tree_definitions.specs.Relation.{Has, Row}
use Rattle.upward_search.specs.Search.{ListsKept}
use Rattle.antichain_up.specs.Entries.{EntryList, EntryRow, up_entry}
use Rattle.antichain_up.proofs.entries.Entries.kept_pairs.Goals as goal

pub returns-clause-kept : goal.returns-clause-kept
returns-clause-kept c =
    let P : List EntryRow → Row → Type 0 = λ rows kept. IfOk c.kept_pairs_of.result (λ v. ListsKept (map (up_entry c.args.store.now) rows) (Has kept) v.items) in
    subst (λ kept. P c.args.self.now.rows kept) (c.deref-2.ensures.value ∙ ap (λ (s : EntryList). s.kept) c.self.view_is)
    (subst (λ rows. P rows c.deref-2.result.now) (c.deref.ensures.value ∙ ap (λ (s : EntryList). s.rows) c.self.view_is) c.kept_pairs_of.ensures.kept)
