use Rattle.std.proofs.Common.{◌≡◌, ◌↔◌, ℕ, List, [], length, refl, sym, ap, ◌∙◌, subst, arith}
use Rattle.std.specs.Prelude.{IsTrue}
use Rattle.std.proofs.lemmas.Option.{slice_get_read}
use Rattle.std.proofs.lemmas.Result.{IfOk-weaker}
use Rattle.tree_definitions.specs.Tree.{Symbol}
use Rattle.tree_definitions.specs.Automaton.{Rule}
use Rattle.tree_definitions.specs.Cover.{Post}
use Rattle.tree_definitions.specs.Relation.{Row, Holds, IsAt}
use Rattle.tree_definitions.specs.UpCert.{IsCoveredUp, AreListed}
use Rattle.tree_definitions.proofs.Listing.{at_label, label_at}
use Rattle.tree_definitions.proofs.Members.{at_unique}
use Rattle.up_conditions.specs.Choosing.{AreOpen, IsChoiceCovered}
use Rattle.up_conditions.specs.Covering.{IsRuleCovered}
use Rattle.up_conditions.proofs.Looked.{under_open}
use Rattle.up_conditions.proofs.Chosen.{choice_by_each, each_choice}
use Rattle.up_conditions.proofs.covering.rule_is_covered.Goals as goal

pub returns : goal.returns
returns c =
    let RA = Holds c.args.left.now in
    let RB = Holds c.args.right.now in
    let X = c.args.pairs.now in
    let A = c.args.a.now in
    let B = c.args.b.now in
    let rule = c.args.rule.now in
    let i = c.rule.inside.symbol in
    let p = c.rule.inside.parent in
    let its : i ≡ rule.symbol = ap (λ (o : Rule). o.symbol) c.rule.view_is in
    let parent = ap (λ (o : Rule). o.parent) c.rule.view_is in
    let listed = c.as_slice-kids.result.now in
    let kids : listed ≡ rule.kids = c.as_slice-kids.ensures ∙ ap (λ (o : Rule). o.kids) c.rule.view_is in
    let open_rules = c.under-places.result.now in
    let label = c.index-symbols-rule.result in
    let narrow = c.symbols.ensures.listed.narrow in
    let all = c.symbols.result.now in
    let long : length all ≡ length A.symbols = ap (λ (xs : List Symbol). length xs) c.symbols.ensures.value in
    let inside : IsAt all i label = slice_get_read all (length A.symbols) i label (sym long) (let l = c.requires.label in omega (arith, l, its)) c.index-symbols-rule.is in
    let at : IsAt A.symbols rule.symbol label = subst (λ k. IsAt A.symbols k label) its (subst (λ (xs : List Symbol). IsAt xs i label) c.symbols.ensures.value inside) in
    let starts : AreOpen B label [] open_rules = under_open B c.place_of-symbol.ensures.listed label c.place_of-symbol.result open_rules c.place_of-symbol.ensures.place c.under-places.ensures.under in
    IfOk-weaker c.choices_are_covered.result
    (λ yes. (a : Symbol) (sets : List Row) → length sets ≡ 0 → AreOpen B a sets open_rules → IsTrue yes ↔ IsChoiceCovered B RA RB X a p sets listed)
    (λ yes. IsTrue yes ↔ IsRuleCovered A B RA RB X rule)
    (λ yes exact.
    let h = exact label [] refl starts in (
      λ t a labelled sets named.
          let same : label ≡ a = at_unique A.symbols rule.symbol label a at (at_label A rule.symbol a narrow labelled) in
          let by_label = each_choice B RA RB X label p [] listed (h.0 t) sets (subst (λ (ks : List ℕ). AreListed X ks sets) (sym kids) named) in
          let by_a = subst (λ (x : Symbol). IsCoveredUp RA RB X p (Post B x sets)) same by_label in
          subst (λ q. IsCoveredUp RA RB X q (Post B a sets)) parent by_a,
      λ covered. h.1 (choice_by_each B RA RB X label p [] listed
          (λ more named.
          let k = covered label (label_at A rule.symbol label narrow at) more (subst (λ (ks : List ℕ). AreListed X ks more) kids named) in
          subst (λ q. IsCoveredUp RA RB X q (Post B label more)) (sym parent) k)),
    ))
    c.choices_are_covered.ensures
