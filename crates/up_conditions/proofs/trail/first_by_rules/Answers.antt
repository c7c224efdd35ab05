use Rattle.std.proofs.Common.{◌≡◌, true, false, sym, ◌∙◌, arith}
use Rattle.std.proofs.lemmas.Option.{slice_get_within}
use Rattle.tree_definitions.specs.UpTrail.{IsUpStep}
use Rattle.tree_definitions.proofs.Members.{at_within}
use Rattle.up_conditions.proofs.Named.{all_at_next}
use Rattle.up_conditions.proofs.trail.first_by_rules.Goals as goal

pub returns-in-Ok-false-clause-some : goal.returns-in-Ok-false-clause-some
returns-in-Ok-false-clause-some c =
    let here = at_within c.args.entries.now c.loop-i.i c.loop-i-test.true in
    record {
      here = (c.loop-i.i, here.0, omega arith, here.1, λ up. let b : true ≡ false = sym ((c.in-Ok-false.ensures here.0 here.1).1 up) ∙ c.in-Ok-false.field-0-test in cc);
      none_before = λ k l h. let e = h.2 in h.4 (c.loop-i.invariant h.0 h.1 (omega (arith, l, e)) h.3);
    }

pub loop-i-preserved : goal.loop-i-preserved
loop-i-preserved c =
    let here = at_within c.args.entries.now c.loop-i.i c.loop-i-test.true in
    all_at_next c.args.entries.now (IsUpStep c.args.a.now c.args.b.now c.args.entries.now) c.loop-i.i here.0 c.loop-i.invariant here.1
    ((c.in-Ok-true.ensures here.0 here.1).0 c.in-Ok-true.field-0-test)

pub returns-clause-none : goal.returns-clause-none
returns-clause-none c i entry at =
    let w = slice_get_within c.args.entries.now i entry at in
    c.loop-i.invariant i entry (omega (arith, w, c.loop-i-test.false)) at
