use Rattle.std.proofs.Common.{◌≡◌, ◌+◌, ◌-◌, sym, ap, ◌∙◌, arith}
use Rattle.word_table.specs.Index.{AreBytes}
use Rattle.word_table.proofs.Keys.{key_from, key_from_before, key_from_below, key_from_end, key_from_start}
use Rattle.word_table.proofs.index.key_of.Goals as goal

pub loop-place-init : goal.loop-place-init
loop-place-init c = sym (key_from_end c.args.word.now c.min-place.result (omega (arith, c.min-place.ensures)))

pub overflow_mul-key : goal.overflow_mul-key
overflow_mul-key c =
    let bytes : AreBytes c.args.word.now = λ k l. omega (arith, c.type_inv.word k) in
    omega (arith, c.loop-place.invariant, key_from_below c.args.word.now c.loop-place.place bytes c.loop-place-test.true)

pub overflow_add-key : goal.overflow_add-key
overflow_add-key c =
    let bytes : AreBytes c.args.word.now = λ k l. omega (arith, c.type_inv.word k) in
    omega (arith, c.loop-place.invariant, key_from_below c.args.word.now c.loop-place.place bytes c.loop-place-test.true, c.type_inv.word (c.loop-place.place - 1))

pub loop-place-preserved : goal.loop-place-preserved
loop-place-preserved c =
    let next : c.loop-place.place - 1 + 1 ≡ c.loop-place.place = omega (arith, c.loop-place-test.true) in
    omega (
      arith,
      c.loop-place.invariant,
      ap (key_from c.args.word.now) next,
      key_from_before c.args.word.now (c.loop-place.place - 1) (omega (arith, c.loop-place.auto.place, c.min-place.ensures, c.loop-place-test.true))
          (omega (arith, c.loop-place.auto.place, c.min-place.ensures, c.loop-place-test.true)),
    )

pub returns : goal.returns
returns c =
    let none : c.loop-place.place ≡ 0 = omega (arith, c.loop-place-test.false) in
    c.loop-place.invariant ∙ ap (key_from c.args.word.now) none ∙ key_from_start c.args.word.now
