use Rattle.std.proofs.Common.{◌+◌, ◌-◌, ◌∙◌, sym, arith}
use Rattle.std.proofs.lemmas.Grind.{get_or_default_zero}
use Rattle.rule_order.proofs.fingerprints.has_equal_neighbours.Goals as goal

pub returns-clause-no : goal.returns-clause-no
returns-clause-no c = λ no i j d before inside same.
    let xs = c.args.numbers.now in
    let up = c.requires i (i + 1) 0 (omega arith) (omega arith) in
    let on = c.requires (i + 1) j 0 (omega arith) inside in
    let first = get_or_default_zero xs i d (omega arith) in
    let second = get_or_default_zero xs j d inside in
    c.loop-i.invariant i (omega (arith, c.loop-i-test.false)) (omega (arith, up, on, sym first ∙ same ∙ second))

pub returns-then-numbers-i-clause-yes : goal.returns-then-numbers-i-clause-yes
returns-then-numbers-i-clause-yes c = λ _ apart. apart (c.loop-i.i - 1) c.loop-i.i 0 (omega (arith, c.loop-i.auto.i)) c.loop-i-test.true (sym c.if-numbers-i.true)
