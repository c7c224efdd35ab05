use Rattle.std.proofs.Common.{◌≡◌, true, false, length, refl, sym, ap, ◌∙◌, subst}
use Rattle.std.specs.Prelude.{All}
use Rattle.std.proofs.lemmas.Option.{slice_get_read}
use Rattle.tree_definitions.specs.Automaton.{Rule}
use Rattle.tree_definitions.specs.Relation.{Holds, IsAt}
use Rattle.tree_definitions.proofs.Members.{at_unique}
use Rattle.simulations.specs.DownCases.{IsAnswered, IsDownMatrix}
use Rattle.simulations.proofs.ClearingSteps.{clearing_one}
use Rattle.simulations.proofs.DownSteps.{not_within}
use Rattle.simulations.proofs.downward.examine.Goals as goal

pub returns-clause-clearing : goal.returns-clause-clearing
returns-clause-clearing c =
    let rules = c.args.rules.now in
    let n = length c.args.to.now in
    let sim = c.args.sim.now in
    let rule = c.index-rules-i.result in
    let at : IsAt rules c.args.i rule = slice_get_read rules (length rules) c.args.i rule refl c.requires.rule c.index-rules-i.is in
    let e : c.rule.inside.parent ≡ rule.parent = ap (λ (o : Rule). o.parent) c.rule.view_is in
    let on : Holds sim c.rule.inside.parent c.args.r = c.get.ensures.0 c.if-not-get.false in
    let fails : ¬ IsAnswered rules (Holds sim) rule c.args.r =
    λ a. let t : false ≡ true = sym c.if-answered.false ∙ (c.answered.ensures c.args.r c.args.to.now c.requires.to c.at.ensures).1 a in cc in
    let rows = c.requires.state.square.rows in
    clearing_one n (IsDownMatrix rules) sim c.args.marks.now c.rule.inside.parent c.args.r c.clear.new.self c.set.new.self c.requires.state on
    (λ m down within h. not_within rules sim c.args.i rule c.args.r at fails m down within (subst (λ z. Holds m z c.args.r) e h))
    (record { rows = c.clear.ensures.square.rows ∙ rows; columns = subst (λ k. All (λ row. length row ≡ k) c.clear.new.self) rows c.clear.ensures.square.columns })
    c.clear.ensures.pairs c.set.ensures.long c.set.ensures.members

pub returns-clause-answered : goal.returns-clause-answered
returns-clause-answered c rule r d h =
    let rules = c.args.rules.now in
    let here = c.index-rules-i.result in
    let at : IsAt rules c.args.i here = slice_get_read rules (length rules) c.args.i here refl c.requires.rule c.index-rules-i.is in
    let e : c.rule.inside.parent ≡ here.parent = ap (λ (o : Rule). o.parent) c.rule.view_is in
    let same : rule ≡ here = at_unique rules c.args.i rule here d.0 at in
    absurd (((c.clear.ensures.pairs rule.parent r).0 h).1 (ap (λ (o : Rule). o.parent) same ∙ sym e, d.1))
