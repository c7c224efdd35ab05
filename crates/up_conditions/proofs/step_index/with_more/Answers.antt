use Rattle.std.proofs.Common.{◌≡◌, ◌↔◌, ◌⊎◌, inl, inr, ◌≤◌, ◌+◌, ℕ, List, length, get_or, refl, sym, ap, ◌∙◌, subst, arith}
use Rattle.std.specs.Prelude.{Contains}
use Rattle.std.proofs.lemmas.Option.{slice_get-get_or, slice_get_read}
use Rattle.tree_definitions.specs.Automaton.{Rule}
use Rattle.tree_definitions.specs.Relation.{IsAt}
use Rattle.tree_definitions.proofs.Members.{at_unique}
use Rattle.up_conditions.specs.Choosing.{IsEarly}
use Rattle.up_conditions.specs.Stepping.{IsUnder}
use Rattle.up_conditions.proofs.Filtered.{add_in, add_out, early_in, in_early}
use Rattle.up_conditions.proofs.step_index.with_more.Goals as goal
use Rattle.up_conditions.proofs.step_index.with_more.Goals.{then-rule-symbol+in_ok-push, else-rule-symbol}

pub loop-r-preserved : goal.loop-r-preserved
loop-r-preserved c =
    let list = c.args.list.now in
    let rules = c.args.rules.now in
    let symbol = c.args.symbol in
    let i = c.loop-r.r-index in
    let x = get_or list i 0 in
    let lat : IsAt list i x = slice_get-get_or list i 0 c.loop-r-test.true in
    let rule = c.index-rules-r.result in
    let rat : IsAt rules x rule = slice_get_read rules (length rules) x rule refl (c.requires i 0 c.loop-r-test.true) c.index-rules-r.is in
    let its : c.rule.inside.symbol ≡ rule.symbol = ap (λ (o : Rule). o.symbol) c.rule.view_is in
    let Kind = IsUnder rules symbol in
    let Base : ℕ → Type 0 = λ r. Contains c.args.found.items r in
    let found = c.loop-r.found.items in
    let Goal : List ℕ → Type 0 = λ v. (r : ℕ) → Contains v r ↔ (Base r ⊎ IsEarly list Kind (i + 1) r) in
    elim c.if-rule-symbol.branch [
      | then-rule-symbol+in_ok-push w ↦
          subst Goal (sym (ap (λ v. v.items) w.found-is ∙ w.in_ok-push.ensures.items)) (add_in list Kind i x lat Base found c.loop-r.invariant (rule, rat, sym its ∙ w.if-rule-symbol.true))
      | else-rule-symbol w ↦
          subst Goal (sym (ap (λ v. v.items) w.found-is)) (add_out list Kind i x lat Base found c.loop-r.invariant
          (λ u. w.if-rule-symbol.false (its ∙ ap (λ (o : Rule). o.symbol) (at_unique rules x rule u.0 rat u.1) ∙ u.2)))
    ]

pub returns : goal.returns
returns c r =
    let list = c.args.list.now in
    let Kind = IsUnder c.args.rules.now c.args.symbol in
    let i = c.loop-r.r-index in
    let end : length list ≤ i = omega (arith, c.loop-r-test.false) in (
      λ m. elim ((c.loop-r.invariant r).0 m) [
        | inl base ↦ inl base
        | inr e ↦ inr (early_in list Kind r i e)
      ],
      λ h. elim h [
        | inl base ↦ (c.loop-r.invariant r).1 (inl base)
        | inr k ↦ (c.loop-r.invariant r).1 (inr (in_early list Kind r i end k.0 k.1))
      ],
    )
