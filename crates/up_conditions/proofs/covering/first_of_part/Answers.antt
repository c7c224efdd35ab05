use Rattle.std.proofs.Common.{◌≡◌, true, false, length, get_or, refl, sym, ◌∙◌, arith}
use Rattle.std.proofs.lemmas.Option.{slice_get-get_or, slice_get_read}
use Rattle.tree_definitions.specs.Relation.{Holds, IsAt}
use Rattle.up_conditions.specs.Covering.{IsPartCovered, IsRuleCovered}
use Rattle.up_conditions.proofs.Covered.{before_next, part_apart}
use Rattle.up_conditions.proofs.covering.first_of_part.Goals as goal

pub returns-in-Ok-false-clause-some : goal.returns-in-Ok-false-clause-some
returns-in-Ok-false-clause-some c =
    let rules = c.args.rules.now in
    let i = c.loop-i.i in
    let rule = c.index-rules-i.result in
    let at : IsAt rules i rule = slice_get_read rules (length rules) i rule refl c.loop-i-test.true c.index-rules-i.is in
    record {
      here = (
        i,
        rule,
        omega arith,
        at,
        part_apart c.args.leaves (IsRuleCovered c.args.a.now c.args.b.now (Holds c.args.left.now) (Holds c.args.right.now) c.args.pairs.now rule) rule
            (λ good. let b : true ≡ false = sym (c.in-Ok-false.ensures.1 good) ∙ c.in-Ok-false.field-0-test in cc),
      );
      none_before = λ k l h. let e = h.2 in h.4.1 (c.loop-i.invariant h.0 h.1 (omega (arith, l, e)) h.3 h.4.0);
    }

pub loop-i-preserved : goal.loop-i-preserved
loop-i-preserved c =
    let rules = c.args.rules.now in
    let i = c.loop-i.i in
    let rule = c.index-rules-i.result in
    let at : IsAt rules i rule = slice_get_read rules (length rules) i rule refl c.loop-i-test.true c.index-rules-i.is in
    before_next rules (IsPartCovered c.args.leaves c.args.a.now c.args.b.now (Holds c.args.left.now) (Holds c.args.right.now) c.args.pairs.now) i rule c.loop-i.invariant at
    (c.in-Ok-true.ensures.0 c.in-Ok-true.field-0-test)

pub returns-clause-none : goal.returns-clause-none
returns-clause-none c k d l = c.loop-i.invariant k (get_or c.args.rules.now k d) (omega (arith, l, c.loop-i-test.false)) (slice_get-get_or c.args.rules.now k d l)
