use Rattle.std.proofs.Common.{◌≡◌, ◌++◌, ◌∷◌, [], ap, ◌∙◌, take, map}
use Rattle.std.proofs.Common.{append_assoc}
use Rattle.explicit_ta.specs.Pair.{moved}
use Rattle.explicit_ta.proofs.Lists.{map_more}
use Rattle.explicit_ta.proofs.pair.rules_of_both.Goals as goal

pub loop-rule-preserved : goal.loop-rule-preserved
loop-rule-preserved c =
    let A = c.args.left.now in
    let places = c.args.places.now in
    let items = c.rules-rule-items.result.now in
    let i = c.loop-rule.rule-index in
    let x = c.rule-item.result in
    let new : c.in_ok-moved_rule.field-0 ≡ moved A places x = rw c.states.ensures.value at c.in_ok-moved_rule.ensures in
    c.in_ok-push.ensures.items ∙ ap (λ l. l ++ c.in_ok-moved_rule.field-0 ∷ []) c.loop-rule.invariant ∙ append_assoc A.rules (map (moved A places) (take i items)) (c.in_ok-moved_rule.field-0 ∷ [])
    ∙ ap (λ r. A.rules ++ (map (moved A places) (take i items) ++ r ∷ [])) new ∙ ap (λ l. A.rules ++ l) (map_more (moved A places) items i x c.loop-rule-test.true c.rule-item.is)
