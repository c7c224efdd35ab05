use Rattle.std.proofs.Common.{Err, ap, subst}
use Rattle.explicit_ta.specs.Pair.{Two}
use Rattle.bool_ops.specs.Results.{IsCanonicalProduct}
use Rattle.vata_core.proofs.Measures.{pair_halt, past_pairs, past_rules, product_within}
use Rattle.bool_ops.proofs.CanonicalProduct.{product_out}
use Rattle.vata_core.proofs.answering.product_of.Goals as goal

pub returns-in-Ok-isect-clause-ok : goal.returns-in-Ok-isect-clause-ok
returns-in-Ok-isect-clause-ok c =
    let h = subst (λ (p : Two). IsCanonicalProduct p.left p.right c.in-Ok-isect.p) c.in-Ok.ensures.ok c.in-Ok-isect.ensures.automaton in
    (h.0, product_out c.args.a.now c.args.b.now h.0 h.1, h.2)

pub returns-in-Ok-isect-clause-within : goal.returns-in-Ok-isect-clause-within
returns-in-Ok-isect-clause-within c =
    product_within c.args.a.now c.args.b.now c.in-Ok.pair c.in-Ok.ensures.ok c.in-Ok.ensures.few c.in-Ok-isect.ensures.fewer_states c.in-Ok-isect.ensures.fewer_rules

pub returns-in-Err-TooManyStates-clause-err : goal.returns-in-Err-TooManyStates-clause-err
returns-in-Err-TooManyStates-clause-err c =
    past_pairs c.args.a.now c.args.b.now c.in-Ok.pair c.in-Ok.ensures.ok c.in-Ok.ensures.few (c.in-Err-TooManyStates.ensures.states (ap Err c.in-Err-TooManyStates.field-0-is))

pub returns-in-Err-TooManyRules-clause-err : goal.returns-in-Err-TooManyRules-clause-err
returns-in-Err-TooManyRules-clause-err c =
    past_rules c.args.a.now c.args.b.now c.in-Ok.pair c.in-Ok.ensures.ok c.in-Ok.ensures.few (c.in-Err-TooManyRules.ensures.states_first (ap Err c.in-Err-TooManyRules.field-0-is)) (c.in-Err-TooManyRules.ensures.rules (ap Err c.in-Err-TooManyRules.field-0-is))

pub returns-in-Err-clause-err : goal.returns-in-Err-clause-err
returns-in-Err-clause-err c = pair_halt c.args.a.now c.args.b.now c.in-Err.halt c.in-Err.ensures.err
