use Rattle.std.proofs.Common.{◌≡◌, true, false, length, refl, sym, ap, ◌∙◌, subst}
use Rattle.std.specs.Prelude.{All}
use Rattle.std.proofs.lemmas.Option.{slice_get_read}
use Rattle.tree_definitions.specs.Automaton.{Rule}
use Rattle.tree_definitions.specs.Relation.{Matrix, Has, Holds, IsAt}
use Rattle.simulations.specs.Clearing.{IsPartOf}
use Rattle.simulations.specs.DownCases.{IsDownMatrix}
use Rattle.simulations.proofs.ClearingSteps.{clearing_one}
use Rattle.simulations.proofs.symbols.judge.Goals as goal

pub returns : goal.returns
returns c =
    let rules = c.args.rules.now in
    let has = c.args.has.now in
    let sim = c.args.sim.now in
    let r = c.args.r in
    let rule = c.index-rules-i.result in
    let q = c.rule.inside.parent in
    let at : IsAt rules c.args.i rule = slice_get_read rules (length rules) c.args.i rule refl c.requires.rule c.index-rules-i.is in
    let e : q ≡ rule.parent = ap (λ (o : Rule). o.parent) c.rule.view_is in
    let on : Holds sim q r = c.get-2.ensures.0 c.if-not-get.false in
    let lacks : ¬ Has has r = λ h. let b : true ≡ false = sym (c.get.ensures.set.1 h) ∙ c.if-get.false in cc in
    let outside : (m : Matrix) → IsDownMatrix rules m → IsPartOf m sim → ¬ Holds m q r =
    λ m down within h.
    let x = down c.args.i rule r at (subst (λ z. Holds m z r) e h) in
    lacks (subst (Has has) x.4 (c.requires.whole rule x.1 x.0 at x.2 x.3)) in
    let rows = c.requires.state.square.rows in
    clearing_one (length has) (IsDownMatrix rules) sim c.args.marks.now q r c.clear.new.self c.set.new.self c.requires.state on outside
    (record { rows = c.clear.ensures.square.rows ∙ rows; columns = subst (λ k. All (λ row. length row ≡ k) c.clear.new.self) rows c.clear.ensures.square.columns })
    c.clear.ensures.pairs c.set.ensures.long c.set.ensures.members
