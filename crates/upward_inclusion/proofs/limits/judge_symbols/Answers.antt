use Rattle.std.proofs.Common.{List, length, arith, ap}
use Rattle.tree_definitions.specs.Tree.{Symbol}
use Rattle.upward_inclusion.proofs.Counted.{joint_few}
use Rattle.upward_inclusion.proofs.limits.judge_symbols.Goals as goal

pub returns-then-symbols-le-MOST_SYMBOLS-clause-few : goal.returns-then-symbols-le-MOST_SYMBOLS-clause-few
returns-then-symbols-le-MOST_SYMBOLS-clause-few c =
    let ours = ap (λ (xs : List Symbol). length xs) c.symbols.ensures.value in
    let theirs = ap (λ (xs : List Symbol). length xs) c.symbols-2.ensures.value in
    omega (arith, joint_few c.args.a.now.symbols c.args.b.now.symbols, c.if-symbols-le-MOST_SYMBOLS.true, ours, theirs)
