use Rattle.std.proofs.Common.{◌≡◌, ℕ, List, length, sym, subst, ◌∙◌, arith}
use Rattle.std.specs.Prelude.{IsTrue}
use Rattle.std.proofs.lemmas.Result.{IfOk-weaker}
use Rattle.tree_definitions.specs.DownTrail.{DownEntry, IsDownStep, SplitOf}
use Rattle.tree_definitions.specs.DownTrail as trail
use Rattle.tree_definitions.specs.Relation.{IsAt}
use Rattle.tree_definitions.proofs.Members.{at_unique}
use Rattle.listed_pairs.specs.DownEntries.{entries_of}
use Rattle.listed_pairs.specs.declared.entry.DownEntry.TheVariants.{Root, Child, Split}
use Rattle.down_trails.specs.Entries.{IsChildOf}
use Rattle.down_trails.proofs.Stepping.{by_shape, child_steps, entry_at, root_steps, split_steps}
use Rattle.down_trails.proofs.steps.is_step.Goals as goal

pub is_root-requires-clause-state : goal.is_root-requires-clause-state
is_root-requires-clause-state c =
    let at = entry_at c.args.entries.now c.args.at c.index-entries-at.result (Root c.in-Root.pair) c.requires.at c.index-entries-at.is c.in-Root.is in
    let fit = c.requires.fits c.args.at (trail.Root c.in-Root.pair) at in
    let state = fit.state in
    let long = c.requires.left in
    omega (arith, state, long)

pub is_root-requires-clause-set : goal.is_root-requires-clause-set
is_root-requires-clause-set c =
    let at = entry_at c.args.entries.now c.args.at c.index-entries-at.result (Root c.in-Root.pair) c.requires.at c.index-entries-at.is c.in-Root.is in
    let fit = c.requires.fits c.args.at (trail.Root c.in-Root.pair) at in
    fit.set ∙ sym c.requires.right

pub bounds-entries-split : goal.bounds-entries-split
bounds-entries-split c =
    let k = c.in-Child in
    let at = entry_at c.args.entries.now c.args.at c.index-entries-at.result (Child k.pair k.split k.place) c.requires.at c.index-entries-at.is k.is in
    let fit = c.requires.fits c.args.at (trail.Child k.pair k.split k.place) at in
    let before = fit.1 in
    let whole = c.requires.at in
    omega (arith, before, whole)

pub is_child-requires-clause-divided : goal.is_child-requires-clause-divided
is_child-requires-clause-divided c =
    let k = c.in-Child in
    let j = c.in-Split-entries in
    let at = entry_at c.args.entries.now c.args.at c.index-entries-at.result (Child k.pair k.split k.place) c.requires.at c.index-entries-at.is k.is in
    let before = (c.requires.fits c.args.at (trail.Child k.pair k.split k.place) at).1 in
    let whole = c.requires.at in
    let there = entry_at c.args.entries.now k.split c.index-entries-split.result (Split j.e j.r j.choice) (omega (arith, before, whole)) c.index-entries-split.is j.is in
    (j.choice.items, (c.requires.fits k.split (trail.Split j.e j.r j.choice.items) there).1)

pub is_child-requires-clause-pair : goal.is_child-requires-clause-pair
is_child-requires-clause-pair c =
    let k = c.in-Child in
    let at = entry_at c.args.entries.now c.args.at c.index-entries-at.result (Child k.pair k.split k.place) c.requires.at c.index-entries-at.is k.is in
    (c.requires.fits c.args.at (trail.Child k.pair k.split k.place) at).0

pub is_split-requires-clause-divided : goal.is_split-requires-clause-divided
is_split-requires-clause-divided c =
    let j = c.in-Split in
    let at = entry_at c.args.entries.now c.args.at c.index-entries-at.result (Split j.e j.r j.choice) c.requires.at c.index-entries-at.is j.is in
    (j.choice.items, (c.requires.fits c.args.at (trail.Split j.e j.r j.choice.items) at).1)

pub returns-in-Root : goal.returns-in-Root
returns-in-Root c =
    let A = c.args.a.now in
    let B = c.args.b.now in
    let all = entries_of c.args.entries.now in
    let i = c.args.at in
    let at = entry_at c.args.entries.now i c.index-entries-at.result (Root c.in-Root.pair) c.requires.at c.index-entries-at.is c.in-Root.is in
    by_shape A B all i (IsTrue c.is_root.result) (trail.Root c.in-Root.pair) at
    (root_steps A B all i (IsTrue c.is_root.result) c.args.left.now c.args.right.now c.requires.ours c.requires.theirs c.in-Root.pair c.is_root.ensures)

pub returns-in-Split-entries : goal.returns-in-Split-entries
returns-in-Split-entries c =
    let A = c.args.a.now in
    let B = c.args.b.now in
    let all = entries_of c.args.entries.now in
    let i = c.args.at in
    let k = c.in-Child in
    let j = c.in-Split-entries in
    let at = entry_at c.args.entries.now i c.index-entries-at.result (Child k.pair k.split k.place) c.requires.at c.index-entries-at.is k.is in
    let before = (c.requires.fits i (trail.Child k.pair k.split k.place) at).1 in
    let whole = c.requires.at in
    let there = entry_at c.args.entries.now k.split c.index-entries-split.result (Split j.e j.r j.choice) (omega (arith, before, whole)) c.index-entries-split.is j.is in
    IfOk-weaker c.is_child.result (λ yes. (IsTrue yes → IsChildOf A B all j.e j.r c.deref.result.now k.place k.pair) × (IsChildOf A B all j.e j.r c.deref.result.now k.place k.pair → IsTrue yes))
    (λ yes. (entry : DownEntry) → IsAt all i entry → (IsTrue yes → IsDownStep A B all i entry) × (IsDownStep A B all i entry → IsTrue yes))
    (λ yes h. by_shape A B all i (IsTrue yes) (trail.Child k.pair k.split k.place) at
    (child_steps A B all i (IsTrue yes) k.pair k.split k.place j.e j.r c.deref.result.now before
    (subst (λ (ch : List ℕ). IsAt all k.split (trail.Split j.e j.r ch)) (sym c.deref.ensures.value) there) h))
    c.is_child.ensures

pub returns-in-Root-entries : goal.returns-in-Root-entries
returns-in-Root-entries c =
    let k = c.in-Child in
    let all = entries_of c.args.entries.now in
    let at = entry_at c.args.entries.now c.args.at c.index-entries-at.result (Child k.pair k.split k.place) c.requires.at c.index-entries-at.is k.is in
    let fit = c.requires.fits c.args.at (trail.Child k.pair k.split k.place) at in
    let before = fit.1 in
    let whole = c.requires.at in
    let there = entry_at c.args.entries.now k.split c.index-entries-split.result (Root c.in-Root-entries.pair) (omega (arith, before, whole)) c.index-entries-split.is c.in-Root-entries.is in
    let s = fit.2 in
    let e = at_unique all k.split (trail.Split s.0 s.1 s.2) (trail.Root c.in-Root-entries.pair) s.4 there in
    absurd cc

pub returns-in-Child-entries : goal.returns-in-Child-entries
returns-in-Child-entries c =
    let k = c.in-Child in
    let j = c.in-Child-entries in
    let all = entries_of c.args.entries.now in
    let at = entry_at c.args.entries.now c.args.at c.index-entries-at.result (Child k.pair k.split k.place) c.requires.at c.index-entries-at.is k.is in
    let fit = c.requires.fits c.args.at (trail.Child k.pair k.split k.place) at in
    let before = fit.1 in
    let whole = c.requires.at in
    let there = entry_at c.args.entries.now k.split c.index-entries-split.result (Child j.pair j.split j.place) (omega (arith, before, whole)) c.index-entries-split.is j.is in
    let s = fit.2 in
    let e = at_unique all k.split (trail.Split s.0 s.1 s.2) (trail.Child j.pair j.split j.place) s.4 there in
    absurd cc

pub returns-in-Split : goal.returns-in-Split
returns-in-Split c =
    let A = c.args.a.now in
    let B = c.args.b.now in
    let all = entries_of c.args.entries.now in
    let i = c.args.at in
    let j = c.in-Split in
    let at = entry_at c.args.entries.now i c.index-entries-at.result (Split j.e j.r j.choice) c.requires.at c.index-entries-at.is j.is in
    let before = (c.requires.fits i (trail.Split j.e j.r j.choice.items) at).0 in
    let ch = c.deref-in-Split.result.now in
    IfOk-weaker c.is_split.result (λ yes. (IsTrue yes → (of : SplitOf A B all j.e j.r) × (length ch ≡ length of.tuples)) × ((of : SplitOf A B all j.e j.r) × (length ch ≡ length of.tuples) → IsTrue yes))
    (λ yes. (entry : DownEntry) → IsAt all i entry → (IsTrue yes → IsDownStep A B all i entry) × (IsDownStep A B all i entry → IsTrue yes))
    (λ yes h. by_shape A B all i (IsTrue yes) (trail.Split j.e j.r ch) (subst (λ (x : List ℕ). IsAt all i (trail.Split j.e j.r x)) (sym c.deref-in-Split.ensures.value) at)
    (split_steps A B all i (IsTrue yes) j.e j.r ch before h))
    c.is_split.ensures
