use Rattle.std.proofs.Common.{◌≡◌, List, length, refl, ap, subst, arith}
use Rattle.std.proofs.lemmas.Option.{slice_get_read}
use Rattle.tree_definitions.specs.Tree.{Symbol}
use Rattle.tree_definitions.specs.Automaton.{Rule}
use Rattle.tree_definitions.specs.Relation.{Holds, IsAt}
use Rattle.tree_definitions.proofs.Listing.{at_label, label_at}
use Rattle.tree_definitions.proofs.Members.{at_unique}
use Rattle.down_conditions.specs.Between.{IsStateDown}
use Rattle.down_conditions.proofs.Blocks.{sought}
use Rattle.down_conditions.proofs.between.rule_is_down.Goals as goal

pub returns : goal.returns
returns c =
    let L = c.args.low.now in
    let H = c.args.high.now in
    let R = Holds c.args.both.now in
    let rule = c.args.rule.now in
    let its = ap (λ (o : Rule). o.symbol) c.rule.view_is in
    let label = c.index-symbols-rule.result in
    let list = c.symbols.result.now in
    let long = ap (λ (xs : List Symbol). length xs) c.symbols.ensures.value in
    let at : IsAt list c.rule.inside.symbol label = slice_get_read list (length list) c.rule.inside.symbol label refl (let l = c.requires.symbol in omega (arith, l, its, long)) c.index-symbols-rule.is in
    let there : IsAt L.symbols rule.symbol label = subst (λ i. IsAt L.symbols i label) its (subst (λ (xs : List Symbol). IsAt xs c.rule.inside.symbol label) c.symbols.ensures.value at) in
    let symbol = c.find-symbol.result in
    let ours = c.symbols.ensures.listed.narrow in
    let so = sought H c.symbols-symbols.ensures.listed.narrow c.args.alphabet.now label symbol c.requires.alphabet c.find-symbol.ensures.found c.find-symbol.ensures.none in (
      λ t a its_label.
          let same : label ≡ a = at_unique L.symbols rule.symbol label a there (at_label L rule.symbol a ours its_label) in
          subst (λ (x : Symbol). IsStateDown H R c.args.l c.args.h x rule.kids rule.parent) same ((c.answered_all.ensures label so).0 t),
      λ down. (c.answered_all.ensures label so).1 (down label (label_at L rule.symbol label ours there)),
    )
