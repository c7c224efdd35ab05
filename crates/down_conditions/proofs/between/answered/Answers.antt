use Rattle.std.proofs.Common.{◌≡◌, ◌≢◌, ◌+◌, true, false, List, length, get_or, refl, sym, ap, ◌∙◌, subst, arith, ⊎_elim}
use Rattle.std.specs.List.{AllZip}
use Rattle.std.proofs.lemmas.Bool.{cases_eq}
use Rattle.std.proofs.lemmas.List.Elements.{Contains-get_or}
use Rattle.std.proofs.lemmas.Option.{slice_get-get_or, slice_get_read, slice_get_within}
use Rattle.tree_definitions.specs.Automaton.{Rule}
use Rattle.tree_definitions.specs.Relation.{Holds, IsAt}
use Rattle.tree_definitions.proofs.Members.{at_unique, place_of}
use Rattle.down_conditions.proofs.Blocks.{line_answers, rule_answers}
use Rattle.down_conditions.proofs.between.answered.Goals as goal
use Rattle.down_conditions.proofs.between.answered.Goals.{else-over-symbol-via-then-over-symbol+else-kids_below, else-over-symbol-via-else-over-symbol}

pub returns-then-kids_below : goal.returns-then-kids_below
returns-then-kids_below c r lists index lat a label = (
  λ t.
      let rules = c.args.high.now.rules in
      let list = c.args.list.now in
      let i = c.loop-s.s-index in
      let s = get_or list i 0 in
      let over = c.index-rules-s.result in
      let at : IsAt c.rules-rules.result.now s over =
      slice_get_read c.rules-rules.result.now (length c.rules-rules.result.now) s over refl (let l = c.requires.list i 0 c.loop-s-test.true in let e = ap (λ (xs : List Rule). length xs) c.rules-rules.ensures.value in omega (arith, l, e)) c.index-rules-s.is in
      let there : IsAt rules s over = subst (λ (xs : List Rule). IsAt xs s over) c.rules-rules.ensures.value at in
      let symbol : over.symbol ≡ c.args.symbol = sym (ap (λ (o : Rule). o.symbol) c.over.view_is) ∙ c.if-over-symbol.true in
      let ours : c.as_slice.result.now ≡ c.args.rule.now.kids = c.as_slice.ensures ∙ ap (λ (o : Rule). o.kids) c.rule.view_is in
      let theirs : c.as_slice-then-over-symbol.result.now ≡ over.kids = c.as_slice-then-over-symbol.ensures ∙ ap (λ (o : Rule). o.kids) c.over.view_is in
      let zip = c.kids_below.ensures.0 c.if-kids_below.true in
      rule_answers c.args.high.now (Holds c.args.both.now) c.args.l c.args.h a c.args.symbol label c.args.rule.now.kids r (
        s,
        over,
        there,
        symbol,
        index.parent r list s over lat (Contains-get_or list i 0 c.loop-s-test.true) there,
        subst (AllZip (λ x y. Holds c.args.both.now (c.args.l + x) (c.args.h + y)) c.args.rule.now.kids) theirs
            (subst (λ xs. AllZip (λ x y. Holds c.args.both.now (c.args.l + x) (c.args.h + y)) xs c.as_slice-then-over-symbol.result.now) ours zip),
      ),
  λ h. refl,
)

pub loop-s-preserved : goal.loop-s-preserved
loop-s-preserved c k s over l kat sat symbol zip =
    let rules = c.args.high.now.rules in
    let list = c.args.list.now in
    let i = c.loop-s.s-index in
    let x = get_or list i 0 in
    let xat : IsAt list i x = slice_get-get_or list i 0 c.loop-s-test.true in
    let this = c.index-rules-s.result in
    let at : IsAt c.rules-rules.result.now x this =
    slice_get_read c.rules-rules.result.now (length c.rules-rules.result.now) x this refl (let l = c.requires.list i 0 c.loop-s-test.true in let e = ap (λ (xs : List Rule). length xs) c.rules-rules.ensures.value in omega (arith, l, e)) c.index-rules-s.is in
    let there : IsAt rules x this = subst (λ (xs : List Rule). IsAt xs x this) c.rules-rules.ensures.value at in
    ⊎_elim
    (λ (e : k ≡ i).
    let same : s ≡ x = at_unique list i s x (subst (λ j. IsAt list j s) e kat) xat in
    let which : over ≡ this = at_unique rules x over this (subst (λ j. IsAt rules j over) same sat) there in
    let its : c.over.inside.symbol ≡ c.args.symbol = ap (λ (o : Rule). o.symbol) c.over.view_is ∙ ap (λ (o : Rule). o.symbol) (sym which) ∙ symbol in
    elim c.else-over-symbol.branch [
      | else-over-symbol-via-then-over-symbol+else-kids_below w ↦ (
          let ours : w.as_slice.result.now ≡ c.args.rule.now.kids = w.as_slice.ensures ∙ ap (λ (o : Rule). o.kids) c.rule.view_is in
          let theirs : w.as_slice-then-over-symbol.result.now ≡ over.kids = w.as_slice-then-over-symbol.ensures ∙ ap (λ (o : Rule). o.kids) c.over.view_is ∙ ap (λ (o : Rule). o.kids) (sym which) in
          let so = subst (AllZip (λ x y. Holds c.args.both.now (c.args.l + x) (c.args.h + y)) w.as_slice.result.now) (sym theirs)
          (subst (λ xs. AllZip (λ x y. Holds c.args.both.now (c.args.l + x) (c.args.h + y)) xs over.kids) (sym ours) zip) in
          let b : true ≡ false = sym (w.kids_below.ensures.1 so) ∙ w.if-kids_below.false in
          cc)
      | else-over-symbol-via-else-over-symbol w ↦ absurd (w.if-over-symbol.false its)
    ])
    (λ (d : k ≢ i). c.loop-s.invariant k s over (omega arith) kat sat symbol zip)
    (cases_eq k i)

pub returns : goal.returns
returns c r lists index lat a label = (
  λ t. absurd cc,
  λ answer.
      let listed = c.rules-rules.ensures.listed in
      let h = line_answers c.args.high.now (Holds c.args.both.now) c.args.l c.args.h a c.args.symbol label c.args.rule.now.kids r listed.automaton listed.narrow answer in
      let list = c.args.list.now in
      let over = h.1 in
      let m = index.whole list h.0 over (subst (λ z. IsAt lists z list) (sym h.4) lat) h.2 in
      let k = place_of list h.0 m in
      let w = slice_get_within list k.0 h.0 k.1 in
      absurd (c.loop-s.invariant k.0 h.0 over (omega (arith, w, c.loop-s-test.false)) k.1 h.2 h.3 h.5),
)
