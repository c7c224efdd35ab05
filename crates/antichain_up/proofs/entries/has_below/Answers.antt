use Rattle.std.proofs.Common.{◌∙◌, inl, inr, get_or, length, refl, sym, subst}
use Rattle.std.specs.Prelude.{Contains}
use Rattle.std.proofs.lemmas.Bool.{false≢true}
use Rattle.std.proofs.lemmas.List.{get_or_default, take_all}
use Rattle.std.proofs.lemmas.List.Elements.{Contains-get_or}
use Rattle.std.proofs.lemmas.Option.{slice_get_read}
use Rattle.tree_definitions.specs.Relation.{IsAt}
use Rattle.tree_definitions.proofs.Members.{at_unique}
use Rattle.antichain_up.proofs.Marks.{taken_cases}
use Rattle.antichain_up.proofs.Covered.{IsUnder}
use Rattle.antichain_up.proofs.entries.has_below.Goals as goal

pub returns-then-is_set_below : goal.returns-then-is_set_below
returns-then-is_set_below c =
    let numbers = c.args.numbers.now in
    let i = c.loop-k.k-index in
    let entries = c.args.entries.now in
    let e = c.index-entries-k.result in
    let at : IsAt entries (get_or numbers i 0) e = slice_get_read entries (length entries) (get_or numbers i 0) e refl (c.requires.numbers i 0 c.loop-k-test.true) c.index-entries-k.is in
    let under : IsUnder c.args.store.now c.args.orders.now 0 c.args.set e = subst (IsUnder c.args.store.now c.args.orders.now 0 c.args.set) c.entry.view_is (c.is_set_below.ensures.0 c.if-is_set_below.true) in (
      λ _. (get_or numbers i 0, e, Contains-get_or numbers i 0 c.loop-k-test.true, at, under),
      λ _. refl,
    )

pub loop-k-preserved : goal.loop-k-preserved
loop-k-preserved c k e m at under =
    let numbers = c.args.numbers.now in
    let i = c.loop-k.k-index in
    let entries = c.args.entries.now in
    let j = get_or numbers i 0 in
    let this = c.index-entries-k.result in
    let here : IsAt entries j this = slice_get_read entries (length entries) j this refl (c.requires.numbers i 0 c.loop-k-test.true) c.index-entries-k.is in
    elim (taken_cases numbers i j k c.loop-k-test.true (get_or_default numbers i 0 j c.loop-k-test.true) m) [
      | inl old ↦ c.loop-k.invariant k e old at under
      | inr same ↦
          let this_under = subst (IsUnder c.args.store.now c.args.orders.now 0 c.args.set) (at_unique entries k e this at (subst (λ n. IsAt entries n this) same here) ∙ sym c.entry.view_is) under in
          false≢true (sym c.if-is_set_below.false ∙ c.is_set_below.ensures.1 this_under)
    ]

pub returns : goal.returns
returns c = (
  λ h. absurd (false≢true h),
  λ some. absurd (c.loop-k.invariant some.0 some.1 (subst (λ xs. Contains xs some.0) (sym (take_all c.loop-k.k-index c.args.numbers.now c.loop-k-test.false)) some.2) some.3 some.4),
)
