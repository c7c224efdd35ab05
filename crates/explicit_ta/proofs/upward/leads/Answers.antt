use Rattle.std.proofs.Common.{◌≡◌, ◌≢◌, ◌∙◌, ◌++◌, ◌∷◌, [], map, take, ap, sym, subst}
use Rattle.std.proofs.lemmas.List.{take_all}
use Rattle.std.specs.Prelude.{AllPairs}
use Rattle.std.specs.List.Sorted.{IsNonDecreasingBy}
use Rattle.explicit_ta.specs.Index.{AreLeads}
use Rattle.explicit_ta.proofs.Indexing.{lead_of, leads_are, leads_rise}
use Rattle.explicit_ta.proofs.Lists.{map_more}
use Rattle.explicit_ta.proofs.Stepping.{leads_apart}
use Rattle.explicit_ta.proofs.upward.leads.Goals as goal

pub loop-rule-preserved : goal.loop-rule-preserved
loop-rule-preserved c =
    let here = c.at-rule-items.result.now in
    let i = c.loop-rule.rule-index in
    let rule = c.rule-item.result in
    let lead : (c.rule.inside.symbol, c.rule.inside.parent) ≡ lead_of rule = ap lead_of c.rule.view_is in
    c.in_ok-push.ensures.items ∙ ap (λ l. l ++ (c.rule.inside.symbol, c.rule.inside.parent) ∷ []) c.loop-rule.invariant ∙ ap (λ x. map lead_of (take i here) ++ x ∷ []) lead
    ∙ map_more lead_of here i rule c.loop-rule-test.true c.rule-item.is

pub returns-clause-members : goal.returns-clause-members
returns-clause-members c =
    subst (AreLeads c.args.rules.now c.args.kids.now) (sym (c.loop-rule.invariant ∙ ap (map lead_of) (take_all c.loop-rule.rule-index c.at-rule-items.result.now c.loop-rule-test.false)))
    (leads_are c.args.rules.now c.at-rule-items.result.now c.args.kids.now c.at-rule-items.ensures.members)

pub returns-clause-rising : goal.returns-clause-rising
returns-clause-rising c =
    subst (IsNonDecreasingBy (λ x. x.0)) (sym (c.loop-rule.invariant ∙ ap (map lead_of) (take_all c.loop-rule.rule-index c.at-rule-items.result.now c.loop-rule-test.false)))
    (leads_rise c.at-rule-items.result.now c.at-rule-items.ensures.rising)

pub returns-clause-distinct : goal.returns-clause-distinct
returns-clause-distinct c apart =
    subst (AllPairs ◌≢◌) (sym (c.loop-rule.invariant ∙ ap (map lead_of) (take_all c.loop-rule.rule-index c.at-rule-items.result.now c.loop-rule-test.false)))
    (leads_apart c.args.kids.now c.at-rule-items.result.now (λ r m. ((c.at-rule-items.ensures.members r).0 m).1) (c.at-rule-items.ensures.distinct apart))
