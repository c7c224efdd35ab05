use Rattle.std.proofs.Common.{◌≡◌, ◌<◌, ◌+◌, ℕ, List, [], ◌∷◌, ◌++◌, length, get_or, set, sym, ap, ◌∙◌, subst, refl, arith}
use Rattle.std.proofs.lemmas.List.Elements.{All-contains}
use Rattle.std.proofs.lemmas.Option.{slice_get_read, slice_get_within}
use Rattle.tree_definitions.specs.Automaton.{Rule}
use Rattle.tree_definitions.specs.Relation.{IsAt}
use Rattle.tree_definitions.proofs.Members.{contains_at}
use Rattle.down_conditions.specs.Filing.{Filing}
use Rattle.down_conditions.proofs.Filed.{filing_add}
use Rattle.down_conditions.proofs.downs.rules_by_symbol.Goals as goal

pub loop-r-preserved : goal.loop-r-preserved
loop-r-preserved c =
    let rules = c.args.rules.now in
    let i = c.loop-r.r in
    let lists = c.loop-r.index in
    let rule = c.index-rules-r.result in
    let at : IsAt rules i rule = slice_get_read rules (length rules) i rule refl c.loop-r-test.true c.index-rules-r.is in
    let e : c.rule.inside.symbol ≡ rule.symbol = ap (λ (o : Rule). o.symbol) c.rule.view_is in
    let l : rule.symbol < c.args.symbols = All-contains (λ (p : Rule). p.symbol < c.args.symbols) rules rule c.requires.within (contains_at rules i rule at) in
    let m = filing_add (λ (o : Rule). o.symbol) rules c.args.symbols i lists rule at l c.loop-r.invariant in
    let P : List (List ℕ) → Type 0 = λ u. Filing (λ (o : Rule). o.symbol) rules c.args.symbols (i + 1) u in
    subst P (ap (λ q. set lists q (get_or lists q [] ++ i ∷ [])) (sym e) ∙ sym c.in_ok-add.ensures) m

pub returns-clause-index : goal.returns-clause-index
returns-clause-index c = record {
  within = c.loop-r.invariant.within;
  whole = λ k rule list at lat. c.loop-r.invariant.whole k rule list at lat (let w = slice_get_within c.args.rules.now k rule at in omega (arith, w, c.loop-r-test.false));
}
