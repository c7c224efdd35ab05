use Rattle.std.proofs.Common.{◌≡◌, ◌<◌, ◌+◌, ℕ, List, length, take, get_or, sym, subst, arith}
use Rattle.std.specs.List.{AllZip}
use Rattle.std.proofs.lemmas.Option.{slice_get-get_or}
use Rattle.tree_definitions.specs.Relation.{IsAt}
use Rattle.bool_ops.specs.Joined.{pairs_of}
use Rattle.bool_ops.proofs.Parts.{places_more}
use Rattle.bool_ops.proofs.product.places.Goals as goal

pub place_of-requires-clause-there : goal.place_of-requires-clause-there
place_of-requires-clause-there c =
    let ps = c.args.left.now in
    let qs = c.args.right.now in
    let i = c.loop-i.i in
    let l : i < length ps = c.loop-i-test.true in
    let e : length ps ≡ length qs = c.requires.lengths in
    c.requires.held i (get_or ps i 0) (get_or qs i 0) (slice_get-get_or ps i 0 l) (slice_get-get_or qs i 0 (omega arith))

pub loop-i-preserved : goal.loop-i-preserved
loop-i-preserved c =
    let ps = c.args.left.now in
    let qs = c.args.right.now in
    let i = c.loop-i.i in
    let P : List ℕ → Type 0 = λ ks. AllZip (IsAt c.args.states.now) ks (pairs_of (take (i + 1) ps) (take (i + 1) qs)) in
    subst P (sym c.in_ok-push.ensures.ok)
    (places_more c.args.states.now ps qs c.loop-i.places.items i c.place_of.result c.loop-i-test.true c.requires.lengths c.loop-i.invariant c.place_of.ensures)
