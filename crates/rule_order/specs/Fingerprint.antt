-- A number that is the same for the same rule.
use Rattle.std.specs.Prelude.{ℕ, ◌++◌}
use Rattle.std.specs.List.{fold}
use Rattle.std.specs.Hash as fed
use Rattle.std.specs.Hash.FoldHasher as folding
use Rattle.tree_definitions.specs.Automaton.{Rule}

abbrev pub fingerprint : Rule → ℕ
fingerprint r = folding.finish (fold folding.write folding.initial (fed.u32 r.symbol ++ fed.slice fed.u32 r.kids ++ fed.u32 r.parent))
