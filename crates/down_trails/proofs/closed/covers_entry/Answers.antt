use Rattle.std.proofs.Common.{◌↔◌, ℕ, List, sym, subst, arith}
use Rattle.std.specs.Prelude.{IsTrue}
use Rattle.std.proofs.lemmas.Result.{IfOk-weaker}
use Rattle.tree_definitions.specs.DownCert.{CoversAlone}
use Rattle.tree_definitions.specs.DownTrail.{DownEntry}
use Rattle.tree_definitions.specs.DownTrail as trail
use Rattle.tree_definitions.specs.Relation.{Has, Holds, IsAt}
use Rattle.listed_pairs.specs.DownEntries.{entries_of}
use Rattle.listed_pairs.specs.declared.entry.DownEntry.TheVariants.{Root, Child, Split}
use Rattle.down_trails.specs.Entries.{CoversEntry, CoversSplit}
use Rattle.down_trails.proofs.Stepping.{covers_shape, entry_at}
use Rattle.down_trails.proofs.closed.covers_entry.Goals as goal

pub covers_pair-requires-clause-state : goal.covers_pair-requires-clause-state
covers_pair-requires-clause-state c =
    let at = entry_at c.args.entries.now c.args.at c.index-entries-at.result (Root c.in-Root.pair) c.requires.at c.index-entries-at.is c.in-Root.is in
    (c.requires.fits c.args.at (trail.Root c.in-Root.pair) at).state

pub covers_pair-requires-clause-both : goal.covers_pair-requires-clause-both
covers_pair-requires-clause-both c =
    let at = entry_at c.args.entries.now c.args.at c.index-entries-at.result (Root c.in-Root.pair) c.requires.at c.index-entries-at.is c.in-Root.is in
    let set = (c.requires.fits c.args.at (trail.Root c.in-Root.pair) at).set in
    let both = c.requires.both in
    omega (arith, set, both)

pub covers_pair-requires-in-Child-clause-state : goal.covers_pair-requires-in-Child-clause-state
covers_pair-requires-in-Child-clause-state c =
    let k = c.in-Child in
    let at = entry_at c.args.entries.now c.args.at c.index-entries-at.result (Child k.pair k.split k.place) c.requires.at c.index-entries-at.is k.is in
    (c.requires.fits c.args.at (trail.Child k.pair k.split k.place) at).0.state

pub covers_pair-requires-in-Child-clause-both : goal.covers_pair-requires-in-Child-clause-both
covers_pair-requires-in-Child-clause-both c =
    let k = c.in-Child in
    let at = entry_at c.args.entries.now c.args.at c.index-entries-at.result (Child k.pair k.split k.place) c.requires.at c.index-entries-at.is k.is in
    let set = (c.requires.fits c.args.at (trail.Child k.pair k.split k.place) at).0.set in
    let both = c.requires.both in
    omega (arith, set, both)

pub covers_split-requires-clause-divided : goal.covers_split-requires-clause-divided
covers_split-requires-clause-divided c =
    let j = c.in-Split in
    let at = entry_at c.args.entries.now c.args.at c.index-entries-at.result (Split j.e j.r j.choice) c.requires.at c.index-entries-at.is j.is in
    (j.choice.items, (c.requires.fits c.args.at (trail.Split j.e j.r j.choice.items) at).1)

pub returns-in-Root : goal.returns-in-Root
returns-in-Root c =
    let A = c.args.a.now in
    let B = c.args.b.now in
    let R = Holds c.args.both.now in
    let all = entries_of c.args.entries.now in
    let i = c.args.at in
    let pair = c.in-Root.pair in
    let at = entry_at c.args.entries.now i c.index-entries-at.result (Root pair) c.requires.at c.index-entries-at.is c.in-Root.is in
    IfOk-weaker c.covers_pair.result (λ yes. IsTrue yes ↔ CoversAlone A R pair.state (Has pair.set))
    (λ yes. (entry : DownEntry) → IsAt all i entry → IsTrue yes ↔ CoversEntry A B R all entry)
    (λ yes h. covers_shape A B R all i (trail.Root pair) at (IsTrue yes) h)
    c.covers_pair.ensures

pub returns-in-Child : goal.returns-in-Child
returns-in-Child c =
    let A = c.args.a.now in
    let B = c.args.b.now in
    let R = Holds c.args.both.now in
    let all = entries_of c.args.entries.now in
    let i = c.args.at in
    let k = c.in-Child in
    let pair = k.pair in
    let at = entry_at c.args.entries.now i c.index-entries-at.result (Child pair k.split k.place) c.requires.at c.index-entries-at.is k.is in
    IfOk-weaker c.covers_pair-in-Child.result (λ yes. IsTrue yes ↔ CoversAlone A R pair.state (Has pair.set))
    (λ yes. (entry : DownEntry) → IsAt all i entry → IsTrue yes ↔ CoversEntry A B R all entry)
    (λ yes h. covers_shape A B R all i (trail.Child pair k.split k.place) at (IsTrue yes) h)
    c.covers_pair-in-Child.ensures

pub returns-in-Split : goal.returns-in-Split
returns-in-Split c =
    let A = c.args.a.now in
    let B = c.args.b.now in
    let R = Holds c.args.both.now in
    let all = entries_of c.args.entries.now in
    let i = c.args.at in
    let j = c.in-Split in
    let at = entry_at c.args.entries.now i c.index-entries-at.result (Split j.e j.r j.choice) c.requires.at c.index-entries-at.is j.is in
    let ch = c.deref.result.now in
    IfOk-weaker c.covers_split.result (λ yes. IsTrue yes ↔ CoversSplit A B R all j.e j.r ch)
    (λ yes. (entry : DownEntry) → IsAt all i entry → IsTrue yes ↔ CoversEntry A B R all entry)
    (λ yes h. covers_shape A B R all i (trail.Split j.e j.r ch) (subst (λ (x : List ℕ). IsAt all i (trail.Split j.e j.r x)) (sym c.deref.ensures.value) at) (IsTrue yes) h)
    c.covers_split.ensures
