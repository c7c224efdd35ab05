use Rattle.std.proofs.Common.{◌≡◌, List, [], None, length, replicate, take, sym, ap, ◌∙◌, subst, arith}
use Rattle.std.specs.List.{AllZip}
use Rattle.std.proofs.lemmas.Option.{slice_get_within}
use Rattle.tree_definitions.specs.Tree.{Symbol}
use Rattle.witness_trees.specs.Marking.{IsPlaceOf}
use Rattle.witness_trees.proofs.Labels.{no_places, placed_none, placed_some}
use Rattle.witness_trees.proofs.Rows.{zip_length}
use Rattle.witness_trees.proofs.states.places_of.Goals as goal
use Rattle.witness_trees.proofs.states.places_of.Goals.{in-Some, in_default}

pub loop-i-init : goal.loop-i-init
loop-i-init c =
    let wanted = c.args.nodes.now.symbols in
    let same : c.in_ok-places.places.items ≡ replicate (length wanted) None = c.in_ok-places.ensures.items_if_clones_equal (λ y h. grind arith) ∙ ap (λ (l : List Symbol). replicate (length l) None) c.symbols.ensures.value in
    subst (AllZip (IsPlaceOf []) wanted) (sym same) (no_places wanted)

pub index_mut-requires : goal.index_mut-requires
index_mut-requires c =
    let within = slice_get_within c.args.nodes.now.symbols c.in-Some.k c.index-symbols-i.result c.in-Some.ensures.found in
    let same = zip_length (IsPlaceOf (take c.loop-i.i c.args.symbols.now)) c.args.nodes.now.symbols c.loop-i.places.items c.loop-i.invariant in
    let held = c.loop-i.places.ok.0 in
    omega (arith, within, same, held)

pub loop-i-preserved : goal.loop-i-preserved
loop-i-preserved c =
    elim c.match-find.branch [
      | in-Some w ↦
          rw w.places-is
          (placed_some c.args.symbols.now c.args.nodes.now.symbols c.loop-i.places.items c.loop-i.i c.index-symbols-i.result c.loop-i-test.true c.index-symbols-i.is c.loop-i.invariant w.in-Some.k c.symbols.ensures.list.distinct w.in-Some.ensures.found)
      | in_default w ↦
          rw w.places-is
          (placed_none c.args.symbols.now c.args.nodes.now.symbols c.loop-i.places.items c.loop-i.i c.index-symbols-i.result c.loop-i-test.true c.index-symbols-i.is c.loop-i.invariant w.in_default.ensures.none)
    ]
