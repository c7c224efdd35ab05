use Rattle.std.proofs.Common.{◌<◌, ℕ}
use Rattle.std.specs.Prelude.{Contains}
use Rattle.std.specs.Global.{Vec}
use Rattle.tree_definitions.specs.DownTrail.{DownEntry}
use Rattle.tree_definitions.specs.Relation.{IsAt}
use Rattle.listed_pairs.specs.DownEntries.{entries_of}
use Rattle.down_trails.specs.Entries.{AllAtBefore}
use Rattle.down_trails.specs.Keys.{IsKeyOf, RepeatsEntry, parts_of}
use Rattle.down_trails.proofs.repeats.first_repeated_entry.Given as goal

-- the keys of the entries before this one are kept, and none of these is like an earlier one
abbrev pub invariant-loop-at : goal.invariant-loop-at
invariant-loop-at l = record {
  filed : AllAtBefore (entries_of l.entries) (λ i (e : DownEntry). (key : Vec (Vec ℕ)) × Contains l.seen.keys key × IsKeyOf l.a l.b (entries_of l.entries) e (parts_of key)) l.at;
  from : (key : Vec (Vec ℕ)) → Contains l.seen.keys key → (j : ℕ) × (e : DownEntry) × (j < l.at) × IsAt (entries_of l.entries) j e × IsKeyOf l.a l.b (entries_of l.entries) e (parts_of key);
  fresh : AllAtBefore (entries_of l.entries) (λ i (e : DownEntry). RepeatsEntry l.a l.b (entries_of l.entries) i e → ⊥) l.at;
}
