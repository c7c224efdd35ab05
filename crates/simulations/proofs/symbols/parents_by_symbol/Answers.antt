use Rattle.std.proofs.Common.{◌≡◌, ◌≢◌, ◌<◌, [], length, get_or, set, refl, sym, ap, ◌∙◌, subst, arith, ⊎_elim}
use Rattle.std.proofs.lemmas.Bool.{cases_eq}
use Rattle.std.proofs.lemmas.List.{get_or_default, length-set}
use Rattle.std.proofs.lemmas.List.Elements.{All-contains}
use Rattle.std.proofs.lemmas.Option.{slice_get_read, slice_get_within}
use Rattle.tree_definitions.specs.Automaton.{Rule}
use Rattle.tree_definitions.specs.Relation.{Holds, IsAt}
use Rattle.tree_definitions.proofs.Members.{at_unique, contains_at}
use Rattle.simulations.proofs.SymbolSteps.{place_set, places_kept, rows_long}
use Rattle.simulations.proofs.symbols.parents_by_symbol.Goals as goal

pub loop-rule-preserved : goal.loop-rule-preserved
loop-rule-preserved c =
    let rules = c.args.rules.now in
    let n = c.args.states in
    let rows = c.loop-rule.rows.items in
    let k = c.loop-rule.rule-index in
    let item = c.rule-item.result in
    let s = c.rule.inside.symbol in
    let p = c.rule.inside.parent in
    let at : IsAt rules k item = slice_get_read rules (length rules) k item refl c.loop-rule-test.true c.rule-item.is in
    let se : s ≡ item.symbol = ap (λ (o : Rule). o.symbol) c.rule.view_is in
    let pe : p ≡ item.parent = ap (λ (o : Rule). o.parent) c.rule.view_is in
    let inv = c.loop-rule.invariant in
    let below = All-contains (λ (o : Rule). o.symbol < c.args.symbols) rules item c.requires.symbols (contains_at rules k item at) in
    let count = inv.count in
    let l : s < length rows = omega (arith, below, count, se) in
    let row = c.index_mut-row.result.now in
    let row2 = c.set.new.self in
    let is : row ≡ get_or rows s [] = c.index_mut-row.ensures.value ∙ get_or_default rows s row [] l in
    let kept = places_kept n rows s row row2 p l is c.set.ensures.long c.set.ensures.members in
    let here = place_set n rows s row row2 p l is c.set.ensures.long c.set.ensures.members in
    record {
      count = length-set rows s row2 ∙ count;
      long = rows_long n rows s row row2 p l is c.set.ensures.long c.set.ensures.members inv.long;
      whole = λ i rule w iat. ⊎_elim
          (λ (e : i ≡ k).
          let same : rule ≡ item = at_unique rules k rule item (subst (λ z. IsAt rules z rule) e iat) at in
          subst (λ (o : Rule). Holds (set rows s row2) o.symbol o.parent) (sym same)
          (subst (λ z. Holds (set rows s row2) z item.parent) se (subst (Holds (set rows s row2) s) pe here)))
          (λ (d : i ≢ k). kept rule.symbol rule.parent (inv.whole i rule (omega (arith, w, d)) iat))
          (cases_eq i k);
    }

pub returns-clause-whole : goal.returns-clause-whole
returns-clause-whole c i rule at =
    let w = slice_get_within c.args.rules.now i rule at in
    c.loop-rule.invariant.whole i rule (omega (arith, w, c.loop-rule-test.false)) at
