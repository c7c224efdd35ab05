use Rattle.std.proofs.Common.{◌<◌, List, length, sym, subst}
use Rattle.std.specs.Prelude.{All, IfNone, IfOk, IfSome}
use Rattle.std.proofs.lemmas.List.Elements.{All-weaker}
use Rattle.std.proofs.lemmas.Option.{slice_get_within}
use Rattle.tree_definitions.specs.Automaton.{Automaton, Rule, FitsRule}
use Rattle.tree_definitions.specs.Relation.{Holds}
use Rattle.listed_pairs.specs.Places.{IsFirst, IsNth}
use Rattle.up_conditions.specs.Covering.{AreLabelled, IsPartCovered, IsUncoveredPart}
use Rattle.up_conditions.proofs.covering.first_uncovered.Goals as goal

pub first_of_part-requires-clause-labels : goal.first_of_part-requires-clause-labels
first_of_part-requires-clause-labels c =
    let O = c.in_ok-ours.ours in
    let n = length O.symbols in
    let within : AreLabelled n O.rules = All-weaker (FitsRule O) (λ (r : Rule). r.symbol < n)
    (λ r f. slice_get_within O.symbols r.symbol f.symbol.0 f.symbol.1) O.rules c.rules.ensures.listed.automaton.fitting in
    subst (AreLabelled n) (sym c.rules.ensures.value) within

pub returns-clause-none : goal.returns-clause-none
returns-clause-none c =
    let RA = Holds c.args.left.now in
    let RB = Holds c.args.right.now in
    let P : Automaton → List Rule → Type 0 = λ A rules.
    IfOk c.first_of_part.result (λ first. IfNone first (All (IsPartCovered c.args.leaves A c.args.b.now RA RB c.args.pairs.now) rules)) in
    subst (λ A. P A A.rules) c.in_ok-ours.ensures (subst (P c.in_ok-ours.ours) c.rules.ensures.value c.first_of_part.ensures.none)

pub returns-clause-some : goal.returns-clause-some
returns-clause-some c =
    let RA = Holds c.args.left.now in
    let RB = Holds c.args.right.now in
    let P : Automaton → List Rule → Type 0 = λ A rules.
    IfOk c.first_of_part.result (λ first. IfSome first (IsFirst (IsNth rules (IsUncoveredPart c.args.leaves A c.args.b.now RA RB c.args.pairs.now)))) in
    subst (λ A. P A A.rules) c.in_ok-ours.ensures (subst (P c.in_ok-ours.ours) c.rules.ensures.value c.first_of_part.ensures.some)
