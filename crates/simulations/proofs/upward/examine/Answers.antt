use Rattle.std.proofs.Common.{◌≡◌, ◌<◌, true, false, length, get_or, sym, ap, ◌∙◌, subst, arith}
use Rattle.std.proofs.lemmas.List.Elements.{All-weaker}
use Rattle.std.specs.Prelude.{All}
use Rattle.tree_definitions.specs.Automaton.{Rule}
use Rattle.tree_definitions.specs.Relation.{Holds, IsAt}
use Rattle.tree_definitions.proofs.Members.{at_unique, place_of}
use Rattle.trim_ops.specs.Marking.{IsWithin}
use Rattle.child_exchange.specs.Exchanging.{IsExchanged}
use Rattle.simulations.specs.UpCases.{IsUpMatrix}
use Rattle.simulations.proofs.ClearingSteps.{clearing_one}
use Rattle.child_exchange.proofs.Exchanges.{kid_at}
use Rattle.simulations.proofs.UpSteps.{up_not_within}
use Rattle.simulations.proofs.upward.examine.Goals as goal

pub exchanged-requires-clause-parents : goal.exchanged-requires-clause-parents
exchanged-requires-clause-parents c =
    let n = length c.args.by_child.now in
    All-weaker (IsWithin n) (λ (over : Rule). over.parent < length c.args.sim.now) (λ x w. let l = w.parent in let e = c.requires.state.square.rows in omega (arith, l, e)) c.args.rules.now c.requires.within

pub exchanged-requires-clause-whole : goal.exchanged-requires-clause-whole
exchanged-requires-clause-whole c s over at kat = c.requires.by_child.whole c.args.r c.at.result.now s over c.args.p c.at.ensures at kat

pub returns-clause-clearing : goal.returns-clause-clearing
returns-clause-clearing c =
    let rules = c.args.rules.now in
    let n = length c.args.by_child.now in
    let sim = c.args.sim.now in
    let rule = c.args.rule.now in
    let p = c.args.p in
    let r = c.args.r in
    let kids : c.as_slice.result.now ≡ rule.kids = c.as_slice.ensures ∙ ap (λ (o : Rule). o.kids) c.rule.view_is in
    let q = get_or c.as_slice.result.now p 0 in
    let kat = kid_at c.as_slice.result.now rule p kids c.requires.place in
    let place = place_of rules rule c.requires.rule in
    let on : Holds sim q r = c.get.ensures.0 c.if-not-get.false in
    let fails : ¬ IsExchanged rules (Holds sim) rule p r =
    λ a. let t : false ≡ true = sym c.if-exchanged.false ∙ c.exchanged.ensures.1 a in cc in
    let rows = c.requires.state.square.rows in
    clearing_one n (IsUpMatrix rules) sim c.args.marks.now q r c.clear.new.self c.set.new.self c.requires.state on
    (up_not_within rules sim place.0 rule p q r place.1 kat fails)
    (record { rows = c.clear.ensures.square.rows ∙ rows; columns = subst (λ k. All (λ row. length row ≡ k) c.clear.new.self) rows c.clear.ensures.square.columns })
    c.clear.ensures.pairs c.set.ensures.long c.set.ensures.members

pub returns-clause-exchanged : goal.returns-clause-exchanged
returns-clause-exchanged c x y q r d at ne h =
    let rule = c.args.rule.now in
    let p = c.args.p in
    let kids : c.as_slice.result.now ≡ rule.kids = c.as_slice.ensures ∙ ap (λ (o : Rule). o.kids) c.rule.view_is in
    let kat = kid_at c.as_slice.result.now rule p kids c.requires.place in
    let there : IsAt rule.kids p q = subst (λ z. IsAt rule.kids z q) d.1 (subst (λ (o : Rule). IsAt o.kids y q) d.0 at) in
    absurd (((c.clear.ensures.pairs q r).0 h).1 (at_unique rule.kids p q (get_or c.as_slice.result.now p 0) there kat, d.2))
