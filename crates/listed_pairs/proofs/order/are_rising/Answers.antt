use Rattle.std.proofs.Common.{◌≡◌, ◌<◌, ◌+◌, ◌-◌, length, get_or, refl, sym, ap, ◌∙◌, Some, Less, arith, subst, inl, inr}
use Rattle.std.proofs.lemmas.Bool.{cases_eq}
use Rattle.std.proofs.lemmas.Option.{slice_get-get_or}
use Rattle.tree_definitions.specs.Cover.{Pair}
use Rattle.tree_definitions.specs.Relation.{IsAt}
use Rattle.tree_definitions.proofs.Members.{at_unique}
use Rattle.listed_pairs.specs.Order.{pair_cmp, Precedes}
use Rattle.listed_pairs.proofs.Listing.{rising_from_next, pair_read}
use Rattle.listed_pairs.proofs.order.are_rising.Goals as goal

pub returns-in_default : goal.returns-in_default
returns-in_default c = (
  λ t. absurd cc,
  λ h.
      let start = c.loop-i.auto.i in
      let l = c.loop-i-test.true in
      let i = c.loop-i.i in
      let x = c.index-pairs-i.result in
      let y = c.index-pairs-i-in-loop-i.result in
      let other = h (i - 1) i x (omega (arith, start)) l in
      let less : Precedes x y = subst (λ z. Precedes x z) (pair_read c.args.pairs.now i x y l c.index-pairs-i-in-loop-i.is) (subst (λ z. Precedes z (get_or c.args.pairs.now i x)) (sym c.index-pairs-i.is) other) in
      absurd (c.in_default.not-Less (c.pair_cmp.ensures ∙ less)),
)

pub loop-i-preserved : goal.loop-i-preserved
loop-i-preserved c k x y l kat nat = elim (cases_eq (k + 1) c.loop-i.i) [
  | inl e ↦
      let start = c.loop-i.auto.i in
      let lt = c.loop-i-test.true in
      let i = c.loop-i.i in
      let pairs = c.args.pairs.now in
      let first : IsAt pairs (i - 1) c.index-pairs-i.result = slice_get-get_or pairs (i - 1) c.index-pairs-i.result (omega (arith, lt)) ∙ ap Some (sym c.index-pairs-i.is) in
      let second : IsAt pairs i c.index-pairs-i-in-loop-i.result = slice_get-get_or pairs i c.index-pairs-i-in-loop-i.result lt ∙ ap Some (sym c.index-pairs-i-in-loop-i.is) in
      let before : k ≡ i - 1 = omega (arith, e) in
      let is_x : x ≡ c.index-pairs-i.result = at_unique pairs (i - 1) x c.index-pairs-i.result (subst (λ n. IsAt pairs n x) before kat) first in
      let is_y : y ≡ c.index-pairs-i-in-loop-i.result = at_unique pairs i y c.index-pairs-i-in-loop-i.result (subst (λ n. IsAt pairs n y) e nat) second in
      subst (λ z. Precedes z y) (sym is_x) (subst (λ z. Precedes c.index-pairs-i.result z) (sym is_y) (sym c.in-Less.ensures))
  | inr d ↦ c.loop-i.invariant k x y (omega (arith, l, d)) kat nat
]

pub returns : goal.returns
returns c = (
  λ t. rising_from_next c.args.pairs.now (λ k x y l. let e = c.loop-i-test.false in c.loop-i.invariant k x y (omega (arith, l, e))),
  λ h. refl,
)
