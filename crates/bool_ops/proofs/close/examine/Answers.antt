use Rattle.std.proofs.Common.{◌≡◌, length, refl, ap, ◌∙◌, subst}
use Rattle.std.proofs.lemmas.Option.{slice_get_read}
use Rattle.std.proofs.lemmas.Result.{IfOk-weaker}
use Rattle.tree_definitions.specs.Automaton.{Rule}
use Rattle.tree_definitions.specs.Relation.{IsAt}
use Rattle.bool_ops.specs.Closing.{both, AreAlike, AreHeld, AddsBelow, Grows, Settled}
use Rattle.bool_ops.proofs.Closed.{grows_none, taken_grows, taken_settled}
use Rattle.bool_ops.proofs.close.examine.Goals as goal

pub returns-clause-grows : goal.returns-clause-grows
returns-clause-grows c =
    let ours = c.args.ours.now in
    let theirs = c.args.theirs.now in
    let left = c.index-ours-r.result in
    let right = c.index-theirs-s.result in
    let p = c.args.pairs.now in
    let p2 = c.add_state.new.list in
    let f = c.args.found.now in
    let rat : IsAt ours c.args.r left = slice_get_read ours (length ours) c.args.r left refl c.requires.left c.index-ours-r.is in
    let sat : IsAt theirs c.args.s right = slice_get_read theirs (length theirs) c.args.s right refl c.requires.right c.index-theirs-s.is in
    let alike : AreAlike left right = c.are_alike.ensures.0 c.if-not-are_alike.false in
    let ks : c.as_slice.result.now ≡ left.kids = c.as_slice.ensures ∙ ap (λ (o : Rule). o.kids) c.left.view_is in
    let ls : c.as_slice-2.result.now ≡ right.kids = c.as_slice-2.ensures ∙ ap (λ (o : Rule). o.kids) c.right.view_is in
    let held : AreHeld p left.kids right.kids =
    subst (AreHeld p left.kids) ls (subst (λ k. AreHeld p k c.as_slice-2.result.now) ks (c.are_held.ensures.0 c.if-not-are_held.false)) in
    let states : AddsBelow p 1000000 (both left.parent right.parent) p2 =
    subst (λ (o : Rule). AddsBelow p 1000000 (both left.parent o.parent) p2) c.right.view_is
    (subst (λ (o : Rule). AddsBelow p 1000000 (both o.parent c.right.inside.parent) p2) c.left.view_is c.in_ok-add_state.ensures) in
    IfOk-weaker c.add_rules.result _ (λ _. Grows ours theirs p f p2 c.add_rules.new.list)
    (λ _ rules. taken_grows ours theirs p f p2 c.add_rules.new.list c.args.r c.args.s left right rat sat alike held states rules) c.add_rules.ensures

pub returns-clause-settled : goal.returns-clause-settled
returns-clause-settled c =
    let ours = c.args.ours.now in
    let theirs = c.args.theirs.now in
    let left = c.index-ours-r.result in
    let right = c.index-theirs-s.result in
    let p = c.args.pairs.now in
    let p2 = c.add_state.new.list in
    let f = c.args.found.now in
    let rat : IsAt ours c.args.r left = slice_get_read ours (length ours) c.args.r left refl c.requires.left c.index-ours-r.is in
    let sat : IsAt theirs c.args.s right = slice_get_read theirs (length theirs) c.args.s right refl c.requires.right c.index-theirs-s.is in
    let alike : AreAlike left right = c.are_alike.ensures.0 c.if-not-are_alike.false in
    let ks : c.as_slice.result.now ≡ left.kids = c.as_slice.ensures ∙ ap (λ (o : Rule). o.kids) c.left.view_is in
    let ls : c.as_slice-2.result.now ≡ right.kids = c.as_slice-2.ensures ∙ ap (λ (o : Rule). o.kids) c.right.view_is in
    let held : AreHeld p left.kids right.kids =
    subst (AreHeld p left.kids) ls (subst (λ k. AreHeld p k c.as_slice-2.result.now) ks (c.are_held.ensures.0 c.if-not-are_held.false)) in
    let states : AddsBelow p 1000000 (both left.parent right.parent) p2 =
    subst (λ (o : Rule). AddsBelow p 1000000 (both left.parent o.parent) p2) c.right.view_is
    (subst (λ (o : Rule). AddsBelow p 1000000 (both o.parent c.right.inside.parent) p2) c.left.view_is c.in_ok-add_state.ensures) in
    IfOk-weaker c.add_rules.result _ (λ _. Settled ours theirs p p2 c.add_rules.new.list c.args.r c.args.s)
    (λ _ rules. taken_settled ours theirs p f p2 c.add_rules.new.list c.args.r c.args.s left right rat sat alike held states rules) c.add_rules.ensures

pub returns-then-not-are_alike-clause-grows : goal.returns-then-not-are_alike-clause-grows
returns-then-not-are_alike-clause-grows c = grows_none c.args.ours.now c.args.theirs.now c.args.pairs.now c.args.found.now

pub returns-then-not-are_held-clause-grows : goal.returns-then-not-are_held-clause-grows
returns-then-not-are_held-clause-grows c = grows_none c.args.ours.now c.args.theirs.now c.args.pairs.now c.args.found.now
