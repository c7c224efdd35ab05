use Rattle.std.proofs.Common.{◌≡◌, ◌<◌, [], sym, subst, arith}
use Rattle.std.proofs.lemmas.List.Elements.{Contains-push}
use Rattle.std.specs.Prelude.{Contains}
use Rattle.trim_ops.specs.Marking.{Marking, Nothing}
use Rattle.trim_ops.proofs.Marked.{marking_taken, marked_exactly, no_items}
use Rattle.trim_ops.proofs.reach.derived.Goals as goal

pub at-requires : goal.at-requires
at-requires c =
    let inv = c.loop-q.invariant in
    let items = c.in-Some.ensures.items in
    let l = inv.marking.waiting c.in-Some.q (subst (λ t. Contains t c.in-Some.q) (sym items) (Contains-push c.pop.new.self.items c.in-Some.q)) in
    subst (λ n. c.in-Some.q < n) inv.size l

pub expand-requires-clause-marking : goal.expand-requires-clause-marking
expand-requires-clause-marking c =
    marking_taken c.args.rules.now c.args.by_child.now c.at.result.now c.loop-q.row c.loop-q.todo.items c.pop.new.self.items c.loop-q.places c.in-Some.q
    c.requires.by_child c.at.ensures c.in-Some.ensures.items c.loop-q.invariant.marking

pub returns : goal.returns
returns c =
    let inv = c.loop-q.invariant in
    let v = c.in_default.ensures.cases in
    let e : c.loop-q.todo.items ≡ [] = no_items c.loop-q.todo.items (omega (arith, c.loop-q.todo.ok.0, v.0)) in
    record { exact = (inv.size, marked_exactly c.args.rules.now c.loop-q.row c.loop-q.places (subst (λ t. Marking c.args.rules.now Nothing c.loop-q.row t c.loop-q.places) e inv.marking)) }
