use Rattle.std.proofs.Common.{◌≡◌, List, ◌+◌, ◌-◌, ◌<◌, length, take, drop, ap, ◌∙◌, subst, arith, Some, None}
use Rattle.std.proofs.lemmas.List.{take_rest}
use Rattle.tree_definitions.specs.Witness.{NodeRow}
use Rattle.witness_trees.specs.Judged.{cut_at, node_in, Is}
use Rattle.witness_trees.proofs.Lines.{read_none, read_more, read_cut, read_fails, read_beyond, read_all}
use Rattle.witness_trees.proofs.reader.lines_of.Goals as goal

pub loop-i-preserved : goal.loop-i-preserved
loop-i-preserved c =
    let text = c.args.text.now in
    let at = c.loop-i.at in
    let end = c.in-Some.end in
    let whole = take_rest text at in
    let inside : end < length (drop at text) = rw whole at c.in-Some.ensures.0 in
    let cut : cut_at 10 (drop at text) ≡ Some (take end (drop at text), drop (end + 1) (drop at text)) = rw whole at c.in-Some.ensures.1 in
    let size : at + end - at ≡ end = omega arith in
    let is = ap (λ n. take n (drop at text)) size in
    let count : c.len.result ≡ length c.loop-i.nodes.items = c.len.ensures ∙ c.loop-i.nodes.ok.0 in
    let said = subst (λ k. node_in c.args.symbols.now k at (take (at + end - at) (drop at text)) ≡ Is c.in-Ok.node) count c.in-Ok.ensures in
    read_more c.args.symbols.now c.args.due c.args.from text c.loop-i._i at end c.loop-i.nodes.items c.push.new.self.items (take (at + end - at) (drop at text)) c.in-Ok.node c.loop-i-test.true c.loop-i.invariant inside cut is said c.in-Ok-push.ensures.items

pub loop-i-init : goal.loop-i-init
loop-i-init c = read_none c.args.symbols.now c.args.due c.args.from c.args.text.now c.new-nodes.result.items c.new-nodes.ensures.items c.requires.from

pub returns-in_default-clause-judged : goal.returns-in_default-clause-judged
returns-in_default-clause-judged c =
    let whole = take_rest c.args.text.now c.loop-i.at in
    let none : cut_at 10 (drop c.loop-i.at c.args.text.now) ≡ None = rw whole at c.in_default.ensures in
    read_cut c.args.symbols.now c.args.due c.args.from c.args.text.now c.loop-i._i c.loop-i.at c.loop-i.nodes.items c.loop-i-test.true c.loop-i.invariant none

pub returns-in-Err-clause-judged : goal.returns-in-Err-clause-judged
returns-in-Err-clause-judged c =
    let text = c.args.text.now in
    let at = c.loop-i.at in
    let end = c.in-Some.end in
    let whole = take_rest text at in
    let cut : cut_at 10 (drop at text) ≡ Some (take end (drop at text), drop (end + 1) (drop at text)) = rw whole at c.in-Some.ensures.1 in
    let size : at + end - at ≡ end = omega arith in
    let is = ap (λ n. take n (drop at text)) size in
    let count : c.len.result ≡ length c.loop-i.nodes.items = c.len.ensures ∙ c.loop-i.nodes.ok.0 in
    let said = rw count at c.in-Err.ensures in
    read_fails c.args.symbols.now c.args.due c.args.from text {X = List NodeRow} (λ ns. ns) c.loop-i._i at end c.loop-i.nodes.items (take (at + end - at) (drop at text)) c.in-Err.error c.loop-i-test.true c.loop-i.invariant cut is said

pub returns-then-at-text-clause-judged : goal.returns-then-at-text-clause-judged
returns-then-at-text-clause-judged c = read_beyond c.args.symbols.now c.args.due c.args.from c.args.text.now c.loop-i._i c.loop-i.at c.loop-i.nodes.items c.loop-i-test.false c.loop-i.invariant c.if-at-text.true

pub returns-clause-judged : goal.returns-clause-judged
returns-clause-judged c = read_all c.args.symbols.now c.args.due c.args.from c.args.text.now c.loop-i._i c.loop-i.at c.loop-i.nodes.items c.loop-i-test.false c.loop-i.invariant c.if-at-text.false
