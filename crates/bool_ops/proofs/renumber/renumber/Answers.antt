use Rattle.std.proofs.Common.{◌≡◌, ◌+◌, ◌<◌, ◌∙◌, ℕ, List, [], ◌∷◌, ◌++◌, map, take, get_or, length, sym, ap}
use Rattle.std.proofs.lemmas.List.{take_more, map-append}
use Rattle.tree_definitions.specs.Automaton.{Rule}
use Rattle.bool_ops.specs.Joined.{renumbered}
use Rattle.bool_ops.proofs.renumber.renumber.Goals as goal

same_parts : (numbers : List ℕ) (rule : Rule) (symbol : ℕ) (kids : List ℕ) (parent : ℕ) → symbol ≡ rule.symbol → kids ≡ rule.kids → parent ≡ rule.parent
    → record { symbol = get_or numbers symbol 0; kids = kids; parent = parent } ≡ renumbered numbers rule
same_parts numbers rule symbol kids parent e f g =
    ap (λ z. record { symbol = get_or numbers z 0; kids = kids; parent = parent }) e
    ∙ ap (λ z. record { symbol = get_or numbers rule.symbol 0; kids = z; parent = parent }) f
    ∙ ap (λ z. record { symbol = get_or numbers rule.symbol 0; kids = rule.kids; parent = z }) g

one_more : (numbers : List ℕ) (rules : List Rule) (i : ℕ) (rule : Rule) (new old : List Rule) (made : Rule) → i < length rules → rule ≡ get_or rules i rule
    → new ≡ old ++ made ∷ [] → old ≡ map (renumbered numbers) (take i rules) → made ≡ renumbered numbers rule
    → new ≡ map (renumbered numbers) (take (i + 1) rules)
one_more numbers rules i rule new old made l at e f g =
    e ∙ ap (λ xs. xs ++ made ∷ []) f ∙ ap (λ x. map (renumbered numbers) (take i rules) ++ x ∷ []) g
    ∙ sym (map-append (renumbered numbers) (take i rules) (rule ∷ []))
    ∙ ap (map (renumbered numbers)) (ap (λ x. take i rules ++ x ∷ []) at ∙ sym (take_more rules i rule l))

pub loop-rule-preserved : goal.loop-rule-preserved
loop-rule-preserved c =
    let rule = c.rule-item.result in
    let kids = c.in_ok-from_slice.field-0.items in
    one_more c.args.numbers.now c.args.rules.now c.loop-rule.rule-index rule c.push.new.self.items c.loop-rule.renumbered.items
    (record { symbol = get_or c.args.numbers.now c.rule.inside.symbol 0; kids = kids; parent = c.rule.inside.parent })
    c.loop-rule-test.true c.rule-item.is c.in_ok-push.ensures.items c.loop-rule.invariant
    (same_parts c.args.numbers.now rule c.rule.inside.symbol kids c.rule.inside.parent (ap (λ (o : Rule). o.symbol) c.rule.view_is)
    (c.in_ok-from_slice.ensures.ok ∙ c.as_slice.ensures ∙ ap (λ (o : Rule). o.kids) c.rule.view_is) (ap (λ (o : Rule). o.parent) c.rule.view_is))
