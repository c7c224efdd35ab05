use Rattle.std.proofs.Common.{◌∙◌, ◌<◌, ◌+◌, ◌-◌, List, get_or, length, refl, sym, ap, subst, arith}
use Rattle.std.proofs.lemmas.Bool.{false≢true}
use Rattle.antichain_up.specs.ByState.{AreByState}
use Rattle.antichain_up.specs.Entries.{EntryList, EntryRow}
use Rattle.antichain_up.proofs.Grouped.{numbers_within}
use Rattle.antichain_up.proofs.Covered.{SomeOf, covered, none_covers, none_more}
use Rattle.antichain_up.proofs.entries.Entries.is_covered.Goals as goal

pub has_below-requires-clause-numbers : goal.has_below-requires-clause-numbers
has_below-requires-clause-numbers c i d l =
    let lists = c.self.inside.by_state in
    let by_state : AreByState c.args.self.now lists = subst (λ s. AreByState s lists) c.self.view_is c.self.invariant.1 in
    let w = numbers_within c.args.self.now lists c.in-Some.r c.at.result.now by_state c.at.ensures i d l in
    let P : List EntryRow → Type 0 = λ rows. get_or c.at.result.now i d < length rows in
    subst P (sym (c.deref.ensures.value ∙ ap (λ (s : EntryList). s.rows) c.self.view_is)) w

pub returns-then-has_below : goal.returns-then-has_below
returns-then-has_below c =
    let list = c.args.self.now in
    let lists = c.self.inside.by_state in
    let by_state : AreByState list lists = subst (λ s. AreByState s lists) c.self.view_is c.self.invariant.1 in
    let some = c.has_below.ensures.0 c.if-has_below.true in
    let there = subst (SomeOf c.args.store.now c.args.orders.now c.args.state c.args.set list c.at.result.now) (c.deref.ensures.value ∙ ap (λ (s : EntryList). s.rows) c.self.view_is) some in (
      λ _. covered c.args.store.now c.args.orders.now c.args.state c.args.set list lists c.in-Some.r c.at.result.now by_state c.at.ensures c.in-Some.ensures.least.member there,
      λ _. refl,
    )

pub loop-r-smaller : goal.loop-r-smaller
loop-r-smaller c =
    let w = c.in-Some.ensures.within in
    let square = c.requires.orders.left_square.rows in
    let from = c.in-Some.ensures.least.from_on in
    let l : c.args.self.now.states - (c.in-Some.r + 1) < c.args.self.now.states - c.loop-r.from = omega (arith, w, square, from) in
    l

pub loop-r-preserved : goal.loop-r-preserved
loop-r-preserved c =
    let list = c.args.self.now in
    let lists = c.self.inside.by_state in
    let by_state : AreByState list lists = subst (λ s. AreByState s lists) c.self.view_is c.self.invariant.1 in
    let w = c.in-Some.ensures.within in
    let square = c.requires.orders.left_square.rows in
    record {
      within = omega (arith, w, square);
      none = none_more c.args.store.now c.args.orders.now c.args.state c.args.set list lists c.loop-r.from c.in-Some.r c.at.result.now by_state c.at.ensures c.in-Some.ensures.least
          (λ some. false≢true (sym c.if-has_below.false ∙ c.has_below.ensures.1
          (subst (SomeOf c.args.store.now c.args.orders.now c.args.state c.args.set list c.at.result.now) (sym (c.deref.ensures.value ∙ ap (λ (s : EntryList). s.rows) c.self.view_is)) some)))
          c.loop-r.invariant.none;
    }

pub returns : goal.returns
returns c = (
  λ h. absurd (false≢true h),
  λ over. absurd (none_covers c.args.store.now c.args.orders.now c.args.state c.args.set c.args.self.now c.loop-r.from
      (c.in_default.ensures.none.0 refl) c.loop-r.invariant.none over),
)
