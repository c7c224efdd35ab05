use Rattle.std.proofs.Common.{◌↔◌, ℕ, List, subst, arith}
use Rattle.tree_definitions.specs.Relation.{Row, Has}
use Rattle.witness_trees.specs.Marking.{IsPlaceOf, Steps}
use Rattle.witness_trees.proofs.Rows.{zip_length}
use Rattle.witness_trees.proofs.Reaching.{reached_step, symbol_within}
use Rattle.witness_trees.proofs.states.reach.Goals as goal

pub index-label-requires : goal.index-label-requires
index-label-requires c =
    let within = symbol_within c.args.nodes.now c.loop-k.k c.symbol.result c.in_ok-labels.ensures.list.nodes c.symbol.ensures in
    let same = zip_length (IsPlaceOf c.symbols.result.now) c.args.nodes.now.symbols c.in_ok-labels.labels.items c.in_ok-labels.ensures.places in
    let held = c.in_ok-labels.labels.ok.0 in
    omega (arith, within, same, held)

pub loop-k-preserved : goal.loop-k-preserved
loop-k-preserved c =
    let A = c.args.a.now in
    let nodes = c.args.nodes.now in
    let zipped = rw c.symbols.ensures.value at c.in_ok-labels.ensures.places in
    let exact = subst (λ (rows : List Row). (q : ℕ) → Has c.in_ok-row.row q ↔ Steps A.rules rows c.index-label.result.now c.kids.result.now q) c.deref-in-loop-k.ensures.value c.in_ok-row.ensures.states in
    reached_step A nodes c.loop-k.k c.loop-k.reached.items c.push.new.self.items c.in_ok-row.row c.symbol.result c.kids.result.now c.in_ok-labels.labels.items c.index-label.result.now
    c.symbols.ensures.listed.narrow c.symbols.ensures.listed.automaton.symbols c.in_ok-labels.ensures.list.nodes c.loop-k.invariant c.symbol.ensures c.kids.ensures zipped c.index-label.ensures
    c.in_ok-row.ensures.each_state exact c.in_ok-push.ensures.items
