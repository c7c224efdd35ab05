use Rattle.std.proofs.Common.{◌≡◌, ◌↔◌, ◌≤◌, ◌+◌, ℕ, List, true, false, length, get_or, refl, sym, ap, ◌∙◌, subst, arith}
use Rattle.std.specs.Prelude.{Contains}
use Rattle.std.proofs.lemmas.List.Elements.{Contains-get_or}
use Rattle.std.proofs.lemmas.Option.{slice_get-get_or, slice_get_read, slice_get_within}
use Rattle.tree_definitions.specs.Automaton.{Rule}
use Rattle.tree_definitions.specs.Relation.{IsAt}
use Rattle.tree_definitions.proofs.Members.{at_unique}
use Rattle.up_conditions.specs.Choosing.{HasKidIn, IsEarly}
use Rattle.up_conditions.proofs.Filtered.{early_in, filter_in, filter_out, in_early}
use Rattle.up_conditions.proofs.choices.with_kid_in.Goals as goal
use Rattle.up_conditions.proofs.choices.with_kid_in.Goals.{then-has_kid_in+in_ok-push, else-has_kid_in}

pub loop-r-preserved : goal.loop-r-preserved
loop-r-preserved c =
    let list = c.args.places.now in
    let rules = c.args.rules.now in
    let place = c.args.place in
    let set = c.args.set.now in
    let i = c.loop-r.r-index in
    let x = get_or list i 0 in
    let lat : IsAt list i x = slice_get-get_or list i 0 c.loop-r-test.true in
    let rule = c.index-rules-r.result in
    let rat : IsAt rules x rule = slice_get_read rules (length rules) x rule refl (c.requires.places i 0 c.loop-r-test.true) c.index-rules-r.is in
    let inv = c.loop-r.invariant in
    let found = c.loop-r.found.items in
    let Kind = HasKidIn rules place set in
    let Goal : List ℕ → Type 0 = λ v. (r : ℕ) → Contains v r ↔ IsEarly list Kind (i + 1) r in
    elim c.if-has_kid_in.branch [
      | then-has_kid_in+in_ok-push w ↦
          let h = c.has_kid_in.ensures.0 w.if-has_kid_in.true in
          subst Goal (sym (ap (λ v. v.items) w.found-is ∙ w.in_ok-push.ensures.items)) (filter_in list Kind i x lat found inv (rule, h.0, rat, h.1, h.2))
      | else-has_kid_in w ↦
          subst Goal (sym (ap (λ v. v.items) w.found-is)) (filter_out list Kind i x lat found inv (λ h.
          let same : h.0 ≡ rule = at_unique rules x h.0 rule h.2 rat in
          let b : true ≡ false = sym (c.has_kid_in.ensures.1 (h.1, subst (λ (o : Rule). IsAt o.kids place h.1) same h.3, h.4)) ∙ w.if-has_kid_in.false in
          cc))
    ]

pub returns-clause-within : goal.returns-clause-within
returns-clause-within c k d l =
    let found = c.loop-r.found.items in
    let r = get_or found k d in
    let e = (c.loop-r.invariant r).0 (Contains-get_or found k d l) in
    slice_get_within c.args.rules.now r e.3.0 e.3.2

pub returns-clause-members : goal.returns-clause-members
returns-clause-members c r =
    let list = c.args.places.now in
    let Kind = HasKidIn c.args.rules.now c.args.place c.args.set.now in
    let end : length list ≤ c.loop-r.r-index = omega (arith, c.loop-r-test.false) in (
      λ m. early_in list Kind r c.loop-r.r-index ((c.loop-r.invariant r).0 m),
      λ h. (c.loop-r.invariant r).1 (in_early list Kind r c.loop-r.r-index end h.0 h.1),
    )
