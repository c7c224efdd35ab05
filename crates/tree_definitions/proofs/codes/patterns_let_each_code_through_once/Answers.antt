use Rattle.tree_definitions.proofs.Cubes.{lets_each, lets_once, lets_only, cubes_distinct, cubes_same}
use Rattle.tree_definitions.proofs.codes.patterns_let_each_code_through_once.Goals as goal

pub returns-clause-once : goal.returns-clause-once
returns-clause-once c w codes code is m =
    let p = lets_each w codes code is m in (p.0, p.1, p.2, λ q k h. lets_once w codes q p.0 code k p.1 h p.2)

pub returns-clause-no_other : goal.returns-clause-no_other
returns-clause-no_other c = lets_only

pub returns-clause-distinct : goal.returns-clause-distinct
returns-clause-distinct c = cubes_distinct

pub returns-clause-set : goal.returns-clause-set
returns-clause-set c = cubes_same
