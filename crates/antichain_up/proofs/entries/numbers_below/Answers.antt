use Rattle.std.proofs.Common.{List, ℕ, sym, subst}
use Rattle.std.proofs.lemmas.List.{take_all}
use Rattle.std.specs.Prelude.{◌↔◌, Contains}
use Rattle.std.proofs.Common.{◌<◌, ◌+◌}
use Rattle.antichain_up.proofs.Numbers.{AreBelow, below_one, past_one}
use Rattle.antichain_up.proofs.entries.numbers_below.Goals as goal

pub loop-k-preserved-then-k-done : goal.loop-k-preserved-then-k-done
loop-k-preserved-then-k-done c = past_one c.args.numbers.now c.args.done c.loop-k.k-index c.loop-k.list.items c.loop-k-test.true c.loop-k.invariant c.if-k-done.true

pub loop-k-preserved : goal.loop-k-preserved
loop-k-preserved c =
    subst (AreBelow c.args.numbers.now c.args.done (c.loop-k.k-index + 1)) (sym c.in_ok-push.ensures.items)
    (below_one c.args.numbers.now c.args.done c.loop-k.k-index c.loop-k.list.items c.loop-k-test.true c.loop-k.invariant c.if-k-done.false)

pub returns : goal.returns
returns c k =
    let P : List ℕ → Type 0 = λ xs. Contains c.loop-k.list.items k ↔ (Contains xs k × (k < c.args.done)) in
    subst P (take_all c.loop-k.k-index c.args.numbers.now c.loop-k-test.false) (c.loop-k.invariant k)
