use Rattle.std.proofs.Common.{◌+◌, ◌-◌, List, Err, Vec, Global, take, drop, subst, sym, ap, ◌∙◌}
use Rattle.tree_definitions.specs.Cover.{Pair}
use Rattle.witness_trees.specs.Answers.{Answers}
use Rattle.certificate_lines.specs.Pairs.{pair_in}
use Rattle.certificate_lines.specs.Telling.{piece_of}
use Rattle.certificate_lines.proofs.Reading.{read_cut, read_more, read_fails, read_all}
use Rattle.certificate_lines.proofs.pairs.read_lines.Goals as goal

pub returns-in_default : goal.returns-in_default
returns-in_default c =
    read_cut (pair_in c.args.a.now c.args.b.now) c.args.text.now c.args.due c.args.from c.loop-i._i c.loop-i.at c.loop-i.pairs.items c.loop-i-test.true c.loop-i.invariant c.in_default.ensures

pub returns-in-Err : goal.returns-in-Err
returns-in-Err c =
    let A = c.args.a.now in
    let B = c.args.b.now in
    let text = c.args.text.now in
    let at = c.loop-i.at in
    let end = c.in-Some.end in
    let line = take (at + end - at) (drop at text) in
    let said = subst (λ (xs : List Pair). Answers {X = Pair} (λ p. p) (Err c.in-Err.error) (pair_in A B xs at line)) c.deref.ensures.value c.in-Err.ensures in
    read_fails (pair_in A B) text c.args.due c.args.from c.loop-i._i at end c.loop-i.pairs.items line c.loop-i-test.true c.loop-i.invariant c.in-Some.ensures.0 c.in-Some.ensures.1 (λ i. line)
    (piece_of {X = Vec Pair Global} {Y = List Pair} (λ v. v.items)) c.in-Err.error said

pub loop-i-preserved : goal.loop-i-preserved
loop-i-preserved c =
    let A = c.args.a.now in
    let B = c.args.b.now in
    let text = c.args.text.now in
    let at = c.loop-i.at in
    let end = c.in-Some.end in
    let line = take (at + end - at) (drop at text) in
    let said = ap (λ (xs : List Pair). pair_in A B xs at line) (sym c.deref.ensures.value) ∙ c.in-Ok.ensures in
    read_more (pair_in A B) text c.args.due c.args.from c.loop-i._i at end c.loop-i.pairs.items line c.loop-i-test.true c.loop-i.invariant c.in-Some.ensures.0 c.in-Some.ensures.1 (λ i. line)
    c.in-Ok.pair c.push.new.self.items said c.in-Ok-push.ensures.items

pub returns : goal.returns
returns c =
    read_all (pair_in c.args.a.now c.args.b.now) c.args.text.now c.args.due c.args.from c.loop-i._i c.loop-i.at c.loop-i.pairs.items c.loop-i-test.false c.loop-i.invariant
