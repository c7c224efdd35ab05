use Rattle.std.proofs.Common.{◌≡◌, ◌≢◌, ◌<◌, ℕ, List, [], ◌∷◌, ◌++◌, length, get_or, refl, sym, ap, ◌∙◌, subst, arith, ⊎_elim}
use Rattle.std.specs.Prelude.{All}
use Rattle.std.proofs.lemmas.Bool.{cases_eq}
use Rattle.std.proofs.lemmas.List.Elements.{All-tail, Contains-get_or}
use Rattle.std.proofs.lemmas.Option.{slice_get-get_or, slice_get_read, slice_get_within}
use Rattle.tree_definitions.specs.Cover.{Pair}
use Rattle.tree_definitions.specs.Relation.{Holds, IsAt, Row}
use Rattle.tree_definitions.proofs.Members.{at_unique, place_of}
use Rattle.up_conditions.specs.Choosing.{AreOpen, IsChoiceCovered}
use Rattle.up_conditions.proofs.Chosen.{choice_at, choice_over, next_open, sets_one_more}
use Rattle.up_conditions.proofs.choices.+choices_are_covered.Goals as goal

pub bounds-pairs-k : goal.bounds-pairs-k
bounds-pairs-k t c =
    let list = c.at-list.result.now in
    let i = c.loop-k.k-index in
    let x = get_or list i 0 in
    let m = c.requires.by_state.within c.in-Some.kid.now list c.at-list.ensures x (Contains-get_or list i 0 c.loop-k-test.true) in
    slice_get_within c.args.pairs.now x m.0 m.1

pub with_next_kid_in-requires-clause-set : goal.with_next_kid_in-requires-clause-set
with_next_kid_in-requires-clause-set t c =
    let pairs = c.args.pairs.now in
    let B = c.args.b.now in
    let list = c.at-list.result.now in
    let i = c.loop-k.k-index in
    let x = get_or list i 0 in
    let m = c.requires.by_state.within c.in-Some.kid.now list c.at-list.ensures x (Contains-get_or list i 0 c.loop-k-test.true) in
    let l = slice_get_within pairs x m.0 m.1 in
    let its : c.pair.inside.set ≡ c.index-pairs-k.result.set = ap (λ (o : Pair). o.set) c.pair.view_is in
    let at : IsAt pairs x c.index-pairs-k.result = slice_get_read pairs (length pairs) x c.index-pairs-k.result refl l c.index-pairs-k.is in
    let long = (c.requires.within x c.index-pairs-k.result l).set in
    let read : get_or pairs x c.index-pairs-k.result ≡ c.index-pairs-k.result = sym c.index-pairs-k.is in
    ap (λ (s : Row). length s) its ∙ sym (ap (λ (o : Pair). length o.set) read) ∙ long ∙ c.requires.right

pub choices_are_covered-requires : goal.choices_are_covered-requires
choices_are_covered-requires t c =
    let B = c.args.b.now in
    let first = c.in-Some.kid.now in
    let others = c.in-Some.others.now in
    let split : c.args.kids.now ≡ first ∷ others = c.in-Some.ensures.cases.0 in
    let size = ap (λ (xs : List ℕ). length xs) split in
    let count = c.requires.count in
    let Below : ℕ → Type 0 = λ q. q < length c.args.left.now in
    let falls = c.decreases in
    let inside = All-tail Below first others (subst (λ (xs : List ℕ). All Below xs) split c.requires.kids) in
    let open_rules = subst (λ (xs : List ℕ). All (λ r. r < length B.rules) xs) (sym c.deref.ensures.value) c.in_ok-next.ensures.within in
    let q = c.requires in
    (omega (arith, falls, size), (q.steps, (q.right, (q.within, (q.by_state, (q.index, (q.parent, (inside, (omega (arith, count, size), (open_rules, λ none. absurd (omega (arith, none))))))))))))

pub returns-in-Ok-false : goal.returns-in-Ok-false
returns-in-Ok-false t c a sets size leaves = (
  λ f. absurd cc,
  λ h.
      let B = c.args.b.now in
      let RA = Holds c.args.left.now in
      let RB = Holds c.args.right.now in
      let pairs = c.args.pairs.now in
      let p = c.args.parent in
      let count = c.args.count in
      let list = c.at-list.result.now in
      let first = c.in-Some.kid.now in
      let others = c.in-Some.others.now in
      let split : c.args.kids.now ≡ first ∷ others = c.in-Some.ensures.cases.0 in
      let i = c.loop-k.k-index in
      let x = get_or list i 0 in
      let m = c.requires.by_state.within first list c.at-list.ensures x (Contains-get_or list i 0 c.loop-k-test.true) in
      let its : c.pair.inside.set ≡ c.index-pairs-k.result.set = ap (λ (o : Pair). o.set) c.pair.view_is in
      let at : IsAt pairs x c.index-pairs-k.result = slice_get_read pairs (length pairs) x c.index-pairs-k.result refl (slice_get_within pairs x m.0 m.1) c.index-pairs-k.is in
      let same : m.0 ≡ c.index-pairs-k.result = at_unique pairs x m.0 c.index-pairs-k.result m.1 at in
      let state : c.index-pairs-k.result.state ≡ first = subst (λ (o : Pair). o.state ≡ first) same m.2 in
      let P = c.pair.inside.set in
      let next = next_open B B.rules refl a sets count size c.args.places.now c.in_ok-next.next.items P c.in_ok-next.ensures.members leaves in
      let longer = choice_at B RA RB pairs a p sets first others x c.index-pairs-k.result P at state its (subst (λ (xs : List ℕ). IsChoiceCovered B RA RB pairs a p sets xs) split h) in
      let so = (c.in-Ok-false.ensures a (sets ++ P ∷ []) (sets_one_more sets P count size) (subst (AreOpen B a (sets ++ P ∷ [])) (sym c.deref.ensures.value) next)).1 longer in
      sym c.in-Ok-false.field-0-test ∙ so,
)

pub loop-k-preserved : goal.loop-k-preserved
loop-k-preserved t c j k pair l kat pat a sets size leaves =
    let B = c.args.b.now in
    let RA = Holds c.args.left.now in
    let RB = Holds c.args.right.now in
    let pairs = c.args.pairs.now in
    let p = c.args.parent in
    let count = c.args.count in
    let list = c.at-list.result.now in
    let others = c.in-Some.others.now in
    let i = c.loop-k.k-index in
    let x = get_or list i 0 in
    let lat : IsAt list i x = slice_get-get_or list i 0 c.loop-k-test.true in
    let its : c.pair.inside.set ≡ c.index-pairs-k.result.set = ap (λ (o : Pair). o.set) c.pair.view_is in
    ⊎_elim
    (λ (e : j ≡ i).
    let which : k ≡ x = at_unique list i k x (subst (λ z. IsAt list z k) e kat) lat in
    let here : IsAt pairs x pair = subst (λ z. IsAt pairs z pair) which pat in
    let at : IsAt pairs x c.index-pairs-k.result = slice_get_read pairs (length pairs) x c.index-pairs-k.result refl (slice_get_within pairs x pair here) c.index-pairs-k.is in
    let same : c.index-pairs-k.result ≡ pair = at_unique pairs x c.index-pairs-k.result pair at here in
    let P = c.pair.inside.set in
    let next = next_open B B.rules refl a sets count size c.args.places.now c.in_ok-next.next.items P c.in_ok-next.ensures.members leaves in
    let so = (c.in-Ok-true.ensures a (sets ++ P ∷ []) (sets_one_more sets P count size) (subst (AreOpen B a (sets ++ P ∷ [])) (sym c.deref.ensures.value) next)).0 c.in-Ok-true.field-0-test in
    subst (λ (S : Row). IsChoiceCovered B RA RB pairs a p (sets ++ S ∷ []) others) (its ∙ ap (λ (o : Pair). o.set) same) so)
    (λ (d : j ≢ i). c.loop-k.invariant j k pair (omega (arith, l, d)) kat pat a sets size leaves)
    (cases_eq j i)

pub returns : goal.returns
returns t c a sets size leaves = (
  λ f.
      let B = c.args.b.now in
      let RA = Holds c.args.left.now in
      let RB = Holds c.args.right.now in
      let pairs = c.args.pairs.now in
      let p = c.args.parent in
      let list = c.at-list.result.now in
      let first = c.in-Some.kid.now in
      let others = c.in-Some.others.now in
      let split : c.args.kids.now ≡ first ∷ others = c.in-Some.ensures.cases.0 in
      subst (λ (xs : List ℕ). IsChoiceCovered B RA RB pairs a p sets xs) (sym split) (choice_over B RA RB pairs a p sets first others
      (λ k x xat state.
      let there = c.requires.by_state.whole k x list xat (subst (λ q. IsAt c.args.by_state.now q list) (sym state) c.at-list.ensures) in
      let j = place_of list k there in
      let w = slice_get_within list j.0 k j.1 in
      c.loop-k.invariant j.0 k x (omega (arith, w, c.loop-k-test.false)) j.1 xat a sets size leaves)),
  λ h. refl,
)
