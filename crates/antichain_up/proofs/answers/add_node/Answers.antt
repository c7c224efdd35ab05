use Rattle.std.proofs.Common.{◌≡◌, ◌∙◌, ◌<◌, Err, length, map, sym, ap, subst}
use Rattle.std.specs.Prelude.{slice_index}
use Rattle.std.proofs.lemmas.List.Elements.{All-map}
use Rattle.witness_trees.specs.Nodes.{AreEarlier}
use Rattle.antichain_up.specs.Entries.{EntryRow}
use Rattle.antichain_up.proofs.answers.add_node.Goals as goal

pub unreachable-requires-in-Err-BadKid : goal.unreachable-requires-in-Err-BadKid
unreachable-requires-in-Err-BadKid c =
    let numbers = c.args.numbers.now in
    let n = length c.args.nodes.now.rows in
    let entry : c.as_slice.result.now ≡ c.args.entry.now.kids = c.as_slice.ensures ∙ ap (λ (x : EntryRow). x.kids) c.entry.view_is in
    let kids : c.as_slice-2.result.now ≡ map (slice_index numbers) c.args.entry.now.kids =
    c.as_slice-2.ensures ∙ c.in_ok-kids.ensures ∙ ap (map (slice_index numbers)) entry in
    let earlier : AreEarlier n c.as_slice-2.result.now = subst (AreEarlier n) (sym kids) (All-map (λ j. j < n) (slice_index numbers) c.args.entry.now.kids c.requires.earlier) in
    let bad : AreEarlier n c.as_slice-2.result.now → ⊥ = (c.add.ensures.bad_kid.0 (c.in-Err-BadKid.is ∙ ap Err c.in-Err-BadKid.field-0-is)).1 in
    bad earlier
