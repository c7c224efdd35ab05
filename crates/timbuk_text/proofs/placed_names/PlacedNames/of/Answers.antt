use Rattle.std.proofs.Common.{◌≡◌, take, sym, subst}
use Rattle.timbuk_text.proofs.placed_names.PlacedNames.of.Goals as goal

pub invariant_of-result : goal.invariant_of-result
invariant_of-result c = subst (λ n. c.loop-name.block ≡ take n c.args.names.now) (sym c.loop-name.invariant.count) c.loop-name.invariant.block
