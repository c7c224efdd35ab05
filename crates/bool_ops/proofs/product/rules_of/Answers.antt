use Rattle.std.proofs.Common.{◌≡◌, ◌<◌, ◌+◌, ◌∙◌, ℕ, List, [], ◌∷◌, ◌++◌, length, take, get_or, refl, sym, ap, subst, arith}
use Rattle.std.specs.Prelude.{All, Contains}
use Rattle.std.specs.List.{AllZip}
use Rattle.std.proofs.lemmas.List.{take_more, take_all}
use Rattle.std.proofs.lemmas.Option.{slice_get_read}
use Rattle.indexmap.proofs.SetLemmas.{AllZip-push}
use Rattle.tree_definitions.specs.Automaton.{Rule}
use Rattle.tree_definitions.specs.Product.{Both}
use Rattle.tree_definitions.specs.Relation.{IsAt}
use Rattle.bool_ops.specs.Closing.{both, AreHeld}
use Rattle.bool_ops.specs.Joined.{FitTogether, IsPairOf, pairs_of}
use Rattle.bool_ops.proofs.product.rules_of.Goals as goal

fit_at : (ours theirs : List Rule) (states items found : List Both) (i : ℕ) (y : Both) → items ≡ found → All (FitTogether ours theirs states) found → i < length items
    → y ≡ get_or items i y → FitTogether ours theirs states y
fit_at ours theirs states items found i y e fits l at =
    let all : All (FitTogether ours theirs states) items = subst (All (FitTogether ours theirs states)) (sym e) fits in
    subst (FitTogether ours theirs states) (sym at) (all i y l)

rule_at : (rules : List Rule) (q r : ℕ) (rule : Rule) → q ≡ r → r < length rules → rule ≡ get_or rules q rule → IsAt rules r rule
rule_at rules q r rule e l is =
    let m : q < length rules = omega arith in
    subst (λ z. IsAt rules z rule) e (slice_get_read rules (length rules) q rule refl m is)

pub places-requires-clause-lengths : goal.places-requires-clause-lengths
places-requires-clause-lengths c =
    let ours = c.args.ours.now in
    let theirs = c.args.theirs.now in
    let y = c.y-item.result in
    let left = c.index-ours-y.result in
    let right = c.index-theirs-y.result in
    let fit = fit_at ours theirs c.args.states.now c.list-y-items.result.now c.args.found.now c.loop-y.y-index y c.list-y-items.ensures.value c.requires.fits c.loop-y-test.true c.y-item.is in
    let lat = rule_at ours c.y.inside.left y.left left (ap (λ (o : Both). o.left) c.y.view_is) fit.left c.index-ours-y.is in
    let rat = rule_at theirs c.y.inside.right y.right right (ap (λ (o : Both). o.right) c.y.view_is) fit.right c.index-theirs-y.is in
    let ks : c.as_slice.result.now ≡ left.kids = c.as_slice.ensures ∙ ap (λ (o : Rule). o.kids) c.left.view_is in
    let ls : c.as_slice-in-loop-y.result.now ≡ right.kids = c.as_slice-in-loop-y.ensures ∙ ap (λ (o : Rule). o.kids) c.right.view_is in
    ap length ks ∙ fit.kids left right lat rat ∙ sym (ap length ls)

pub places-requires-clause-held : goal.places-requires-clause-held
places-requires-clause-held c =
    let ours = c.args.ours.now in
    let theirs = c.args.theirs.now in
    let states = c.args.states.now in
    let y = c.y-item.result in
    let left = c.index-ours-y.result in
    let right = c.index-theirs-y.result in
    let fit = fit_at ours theirs states c.list-y-items.result.now c.args.found.now c.loop-y.y-index y c.list-y-items.ensures.value c.requires.fits c.loop-y-test.true c.y-item.is in
    let lat = rule_at ours c.y.inside.left y.left left (ap (λ (o : Both). o.left) c.y.view_is) fit.left c.index-ours-y.is in
    let rat = rule_at theirs c.y.inside.right y.right right (ap (λ (o : Both). o.right) c.y.view_is) fit.right c.index-theirs-y.is in
    let ks : c.as_slice.result.now ≡ left.kids = c.as_slice.ensures ∙ ap (λ (o : Rule). o.kids) c.left.view_is in
    let ls : c.as_slice-in-loop-y.result.now ≡ right.kids = c.as_slice-in-loop-y.ensures ∙ ap (λ (o : Rule). o.kids) c.right.view_is in
    subst (λ zs. AreHeld states zs c.as_slice-in-loop-y.result.now) (sym ks) (subst (AreHeld states left.kids) (sym ls) (fit.held left right lat rat))

pub place_of-parent-requires-clause-there : goal.place_of-parent-requires-clause-there
place_of-parent-requires-clause-there c =
    let ours = c.args.ours.now in
    let theirs = c.args.theirs.now in
    let states = c.args.states.now in
    let y = c.y-item.result in
    let left = c.index-ours-y.result in
    let right = c.index-theirs-y.result in
    let fit = fit_at ours theirs states c.list-y-items.result.now c.args.found.now c.loop-y.y-index y c.list-y-items.ensures.value c.requires.fits c.loop-y-test.true c.y-item.is in
    let lat = rule_at ours c.y.inside.left y.left left (ap (λ (o : Both). o.left) c.y.view_is) fit.left c.index-ours-y.is in
    let rat = rule_at theirs c.y.inside.right y.right right (ap (λ (o : Both). o.right) c.y.view_is) fit.right c.index-theirs-y.is in
    subst (λ (o : Rule). Contains states (both o.parent c.right.inside.parent)) (sym c.left.view_is)
    (subst (λ (o : Rule). Contains states (both left.parent o.parent)) (sym c.right.view_is) (fit.parent left right lat rat))

pub loop-y-preserved : goal.loop-y-preserved
loop-y-preserved c =
    let ours = c.args.ours.now in
    let theirs = c.args.theirs.now in
    let states = c.args.states.now in
    let items = c.list-y-items.result.now in
    let i = c.loop-y.y-index in
    let y = c.y-item.result in
    let left = c.index-ours-y.result in
    let right = c.index-theirs-y.result in
    let fit = fit_at ours theirs states items c.args.found.now i y c.list-y-items.ensures.value c.requires.fits c.loop-y-test.true c.y-item.is in
    let lat = rule_at ours c.y.inside.left y.left left (ap (λ (o : Both). o.left) c.y.view_is) fit.left c.index-ours-y.is in
    let rat = rule_at theirs c.y.inside.right y.right right (ap (λ (o : Both). o.right) c.y.view_is) fit.right c.index-theirs-y.is in
    let ks : c.as_slice.result.now ≡ left.kids = c.as_slice.ensures ∙ ap (λ (o : Rule). o.kids) c.left.view_is in
    let ls : c.as_slice-in-loop-y.result.now ≡ right.kids = c.as_slice-in-loop-y.ensures ∙ ap (λ (o : Rule). o.kids) c.right.view_is in
    let made : Rule = record { symbol = c.left.inside.symbol; kids = c.in_ok-kids.kids.items; parent = c.place_of-parent.result } in
    let pair : IsPairOf ours theirs states y made = record {
      left = left;
      right = right;
      left_at = lat;
      right_at = rat;
      symbol = ap (λ (o : Rule). o.symbol) c.left.view_is;
      kids = subst (λ zs. AllZip (IsAt states) c.in_ok-kids.kids.items (pairs_of left.kids zs)) ls
          (subst (λ zs. AllZip (IsAt states) c.in_ok-kids.kids.items (pairs_of zs c.as_slice-in-loop-y.result.now)) ks c.in_ok-kids.ensures);
      parent = subst (λ (o : Rule). IsAt states c.place_of-parent.result (record { left = left.parent; right = o.parent })) c.right.view_is
          (subst (λ (o : Rule). IsAt states c.place_of-parent.result (record { left = o.parent; right = c.right.inside.parent })) c.left.view_is c.place_of-parent.ensures);
    } in
    let more : take (i + 1) items ≡ take i items ++ y ∷ [] = take_more items i y c.loop-y-test.true ∙ ap (λ z. take i items ++ z ∷ []) (sym c.y-item.is) in
    let P : List Both → List Rule → Type 0 = λ ys rs. AllZip (IsPairOf ours theirs states) ys rs in
    subst (λ ys. P ys c.push.new.self.items) (sym more)
    (subst (P (take i items ++ y ∷ [])) (sym c.in_ok-push.ensures.items) (AllZip-push (IsPairOf ours theirs states) (take i items) c.loop-y.rules.items y made c.loop-y.invariant pair))

pub returns : goal.returns
returns c =
    let items = c.list-y-items.result.now in
    let P : List Both → Type 0 = λ ys. AllZip (IsPairOf c.args.ours.now c.args.theirs.now c.args.states.now) ys c.loop-y.rules.items in
    subst P (take_all c.loop-y.y-index items c.loop-y-test.false ∙ c.list-y-items.ensures.value) c.loop-y.invariant
