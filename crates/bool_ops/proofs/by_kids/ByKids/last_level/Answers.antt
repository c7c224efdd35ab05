use Rattle.std.proofs.Common.{◌≡◌, ◌<◌, ◌≤◌, ◌∙◌, eqb-true, [], ◌∷◌, length, get_or, Contains, sym, ap, subst, arith}
use Rattle.std.proofs.lemmas.Option.{slice_get-get_or}
use Rattle.tree_definitions.specs.Automaton.{Rule}
use Rattle.tree_definitions.specs.Relation.{IsAt}
use Rattle.tree_definitions.proofs.Members.{at_unique, contains_head}
use Rattle.bool_ops.proofs.Paths.{level_step, level_end}
use Rattle.bool_ops.proofs.by_kids.ByKids.last_level.Goals as goal

pub loop-i-preserved : goal.loop-i-preserved
loop-i-preserved c states end m way =
    let i = c.loop-i.i in
    let place = c.args.place in
    let state = c.args.state in
    let items = c.as_slice-k-items.result.now in
    let kids : items ≡ c.args.left.now.kids = c.as_slice-k-items.ensures ∙ ap (λ (o : Rule). o.kids) c.left.view_is in
    let sizes : length items ≡ length states = ap length kids ∙ m.lengths in
    let l : i < length states = omega (arith, c.loop-i-test.true, sizes) in
    let k = get_or items i 0 in
    let q = get_or states i 0 in
    let kat : IsAt c.args.left.now.kids i k = subst (λ xs. IsAt xs i k) kids (slice_get-get_or items i 0 c.loop-i-test.true) in
    let qat : IsAt states i q = slice_get-get_or states i 0 l in
    let there : Contains c.states_at-states.result.now q = c.states_at-states.ensures q (m.held i k q kat qat)
    (λ t. subst (Contains (state ∷ [])) (at_unique states place state q m.here (subst (λ z. IsAt states z q) (eqb-true i place t) qat)) (contains_head state [])) in
    level_step c.args.self.now.nodes c.loop-i.level.items c.in_ok-level.level.items states i end l
    (λ node n h nat. c.in_ok-level.ensures node q n (subst (λ xs. Contains xs node) (sym c.deref.ensures.value) h) there nat)
    (c.loop-i.invariant states end m way)

pub returns : goal.returns
returns c states end m way =
    let items = c.as_slice-k-items.result.now in
    let kids : items ≡ c.args.left.now.kids = c.as_slice-k-items.ensures ∙ ap (λ (o : Rule). o.kids) c.left.view_is in
    let sizes : length items ≡ length states = ap length kids ∙ m.lengths in
    level_end c.args.self.now.nodes c.loop-i.level.items states c.loop-i.i end (omega (arith, c.loop-i-test.false, sizes)) (c.loop-i.invariant states end m way)
