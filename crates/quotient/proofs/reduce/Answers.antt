use Rattle.std.proofs.Common.{◌<◌, ap, Err, subst}
use Rattle.tree_definitions.specs.Trim.{IsTrim}
use Rattle.quotient.specs.Merged.{IsCanonicalQuotient}
use Rattle.quotient.proofs.Useful.{restriction_trims, greatest_joined, quotient_of, quotient_language, few_useful, many_useful}
use Rattle.quotient.proofs.reduce.Goals as goal

pub returns-in-Err-TooLarge-clause-large : goal.returns-in-Err-TooLarge-clause-large
returns-in-Err-TooLarge-clause-large g c e =
    let A = g.T.Table.automaton c.args.t.now in
    let T = g.T.Table.automaton c.in_ok-part.part in
    many_useful A T 20000 (restriction_trims A T c.in_ok-keep.keep c.in_ok-keep.ensures.exact c.in_ok-part.ensures) (c.in-Err-TooLarge.ensures.large (ap Err c.in-Err-TooLarge.field-0-is))

pub collapse-requires-clause-transitive : goal.collapse-requires-clause-transitive
collapse-requires-clause-transitive g c =
    let T = g.T.Table.automaton c.in_ok-part.part in
    greatest_joined T c.in-Ok.below c.in-Ok.ensures.greatest

pub returns-clause-automaton : goal.returns-clause-automaton
returns-clause-automaton g c =
    let A = g.T.Table.automaton c.args.t.now in
    let T = g.T.Table.automaton c.in_ok-part.part in
    let trims : IsTrim A T = restriction_trims A T c.in_ok-keep.keep c.in_ok-keep.ensures.exact c.in_ok-part.ensures in
    quotient_of A T c.in_ok-list.list c.in_ok-merged.merged c.in-Ok.below trims c.in-Ok.ensures.greatest c.in_ok-list.ensures.value c.in_ok-merged.ensures.automaton

pub returns-clause-language : goal.returns-clause-language
returns-clause-language g c =
    let A = g.T.Table.automaton c.args.t.now in
    let T = g.T.Table.automaton c.in_ok-part.part in
    let trims : IsTrim A T = restriction_trims A T c.in_ok-keep.keep c.in_ok-keep.ensures.exact c.in_ok-part.ensures in
    let quotient : IsCanonicalQuotient A c.in_ok-merged.merged =
    quotient_of A T c.in_ok-list.list c.in_ok-merged.merged c.in-Ok.below trims c.in-Ok.ensures.greatest c.in_ok-list.ensures.value c.in_ok-merged.ensures.automaton in
    quotient_language A c.in_ok-merged.merged quotient

pub returns-clause-few : goal.returns-clause-few
returns-clause-few g c =
    let A = g.T.Table.automaton c.args.t.now in
    let T = g.T.Table.automaton c.in_ok-part.part in
    few_useful A T 20000 (restriction_trims A T c.in_ok-keep.keep c.in_ok-keep.ensures.exact c.in_ok-part.ensures) c.in-Ok.ensures.few

pub collapse-requires-clause-reflexive : goal.collapse-requires-clause-reflexive
collapse-requires-clause-reflexive g c q l = c.in-Ok.ensures.reflexive q (subst (λ n. q < n) c.in-Ok.ensures.greatest.square.rows l)
