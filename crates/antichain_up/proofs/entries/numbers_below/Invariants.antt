use Rattle.std.proofs.Common.{ℕ, ◌<◌, take}
use Rattle.std.specs.Prelude.{◌↔◌, Contains}
use Rattle.antichain_up.proofs.entries.numbers_below.Given as goal

-- those of the first numbers that are below `done`
abbrev pub invariant-loop-k : goal.invariant-loop-k
invariant-loop-k l = (k : ℕ) → Contains l.list.items k ↔ (Contains (take l.k-index l.numbers) k × (k < l.done))
