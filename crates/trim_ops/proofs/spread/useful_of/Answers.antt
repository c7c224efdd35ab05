use Rattle.std.proofs.Common.{◌≡◌, ◌<◌, [], sym, ◌∙◌, subst, arith}
use Rattle.std.specs.Prelude.{Contains}
use Rattle.std.proofs.lemmas.List.Elements.{Contains-push}
use Rattle.tree_definitions.proofs.Members.{contains_at}
use Rattle.tree_definitions.specs.Relation.{Has}
use Rattle.trim_ops.specs.Marking.{Nothing}
use Rattle.trim_ops.specs.Usefulness.{Spreading}
use Rattle.trim_ops.proofs.Marked.{no_items, set_within}
use Rattle.trim_ops.proofs.UsefulSteps.{spread_start, spread_taken, spread_exactly}
use Rattle.trim_ops.proofs.spread.useful_of.Goals as goal

pub loop-q-init : goal.loop-q-init
loop-q-init c = record {
  size = c.in_ok-start_finals.ensures.size ∙ c.in_ok-row.ensures.long ∙ c.len.ensures;
  spreading = spread_start c.args.rules.now c.args.finals.now c.args.reached.now c.start_finals.new.row c.start_finals.new.todo.items c.in_ok-start_finals.ensures.starting;
}

pub at-requires : goal.at-requires
at-requires c =
    let q = c.in-Some.q in
    let inv = c.loop-q.invariant in
    let on : Has c.loop-q.row q = inv.spreading.waiting q (subst (λ t. Contains t q) (sym c.in-Some.ensures.items) (Contains-push c.pop.new.self.items q)) in
    subst (λ n. q < n) (inv.size ∙ sym c.requires.by_parent_size) (set_within c.loop-q.row q on)

pub spread-requires-clause-marked : goal.spread-requires-clause-marked
spread-requires-clause-marked c =
    let q = c.in-Some.q in
    c.loop-q.invariant.spreading.waiting q (subst (λ t. Contains t q) (sym c.in-Some.ensures.items) (Contains-push c.pop.new.self.items q))

pub spread-requires-clause-parents : goal.spread-requires-clause-parents
spread-requires-clause-parents c k r rule lat rat =
    c.requires.by_parent.parent c.in-Some.q c.at.result.now r rule c.at.ensures (contains_at c.at.result.now k r lat) rat

pub spread-requires-clause-spreading : goal.spread-requires-clause-spreading
spread-requires-clause-spreading c =
    spread_taken c.args.rules.now c.args.finals.now c.args.reached.now c.args.by_parent.now c.at.result.now c.loop-q.row c.loop-q.todo.items c.pop.new.self.items c.in-Some.q
    c.requires.by_parent c.at.ensures c.in-Some.ensures.items c.loop-q.invariant.spreading

pub returns-clause-exact : goal.returns-clause-exact
returns-clause-exact c =
    let inv = c.loop-q.invariant in
    let v = c.in_default.ensures.cases in
    let e : c.loop-q.todo.items ≡ [] = no_items c.loop-q.todo.items (omega (arith, c.loop-q.todo.ok.0, v.0)) in
    spread_exactly c.args.rules.now c.args.finals.now c.args.reached.now c.loop-q.row
    (subst (λ t. Spreading c.args.rules.now c.args.finals.now c.args.reached.now Nothing c.loop-q.row t) e inv.spreading)
