use Rattle.std.proofs.Common.{ℕ, List, sym, subst}
use Rattle.std.proofs.lemmas.Result.{IfOk-weaker}
use Rattle.tree_definitions.specs.DownTrail.{DownEntry}
use Rattle.tree_definitions.specs.DownTrail as trail
use Rattle.tree_definitions.specs.Relation.{IsAt}
use Rattle.tree_definitions.proofs.Members.{at_unique}
use Rattle.listed_pairs.specs.DownEntries.{entries_of}
use Rattle.listed_pairs.specs.declared.entry.DownEntry.TheVariants.{Root, Child, Split}
use Rattle.down_trails.specs.Keys.{IsKeyOf, IsPairKey, IsSplitKey, parts_of}
use Rattle.down_trails.proofs.Alike.{fits_few}
use Rattle.down_trails.proofs.Stepping.{entry_at}
use Rattle.std.proofs.Common.{refl}
use Rattle.down_trails.proofs.repeats.key_of.Goals as goal

pub pair_key-requires : goal.pair_key-requires
pair_key-requires c =
    let pair = c.in-Root.pair in
    let at = entry_at c.args.entries.now c.args.at c.index-entries-at.result (Root pair) c.requires.at c.index-entries-at.is c.in-Root.is in
    fits_few c.args.a.now c.args.b.now (entries_of c.args.entries.now) c.requires.fits c.states-states.ensures.listed.few_states c.args.at (trail.Root pair) pair at refl

pub pair_key-requires-in-Child : goal.pair_key-requires-in-Child
pair_key-requires-in-Child c =
    let k = c.in-Child in
    let at = entry_at c.args.entries.now c.args.at c.index-entries-at.result (Child k.pair k.split k.place) c.requires.at c.index-entries-at.is k.is in
    fits_few c.args.a.now c.args.b.now (entries_of c.args.entries.now) c.requires.fits c.states-states.ensures.listed.few_states c.args.at (trail.Child k.pair k.split k.place) k.pair at refl

pub split_key-requires-clause-divided : goal.split_key-requires-clause-divided
split_key-requires-clause-divided c =
    let j = c.in-Split in
    let at = entry_at c.args.entries.now c.args.at c.index-entries-at.result (Split j.e j.r j.choice) c.requires.at c.index-entries-at.is j.is in
    (j.choice.items, (c.requires.fits c.args.at (trail.Split j.e j.r j.choice.items) at).1)

pub returns-in-Root : goal.returns-in-Root
returns-in-Root c =
    let all = entries_of c.args.entries.now in
    let i = c.args.at in
    let pair = c.in-Root.pair in
    let at = entry_at c.args.entries.now i c.index-entries-at.result (Root pair) c.requires.at c.index-entries-at.is c.in-Root.is in
    IfOk-weaker c.pair_key.result (λ key. IsPairKey pair (parts_of key)) (λ key. (entry : DownEntry) → IsAt all i entry → IsKeyOf c.args.a.now c.args.b.now all entry (parts_of key))
    (λ key h entry other. subst (λ x. IsKeyOf c.args.a.now c.args.b.now all x (parts_of key)) (at_unique all i (trail.Root pair) entry at other) h)
    c.pair_key.ensures

pub returns-in-Child : goal.returns-in-Child
returns-in-Child c =
    let all = entries_of c.args.entries.now in
    let i = c.args.at in
    let k = c.in-Child in
    let at = entry_at c.args.entries.now i c.index-entries-at.result (Child k.pair k.split k.place) c.requires.at c.index-entries-at.is k.is in
    IfOk-weaker c.pair_key-in-Child.result (λ key. IsPairKey k.pair (parts_of key)) (λ key. (entry : DownEntry) → IsAt all i entry → IsKeyOf c.args.a.now c.args.b.now all entry (parts_of key))
    (λ key h entry other. subst (λ x. IsKeyOf c.args.a.now c.args.b.now all x (parts_of key)) (at_unique all i (trail.Child k.pair k.split k.place) entry at other) h)
    c.pair_key-in-Child.ensures

pub returns-in-Split : goal.returns-in-Split
returns-in-Split c =
    let all = entries_of c.args.entries.now in
    let i = c.args.at in
    let j = c.in-Split in
    let ch = c.deref.result.now in
    let at = entry_at c.args.entries.now i c.index-entries-at.result (Split j.e j.r j.choice) c.requires.at c.index-entries-at.is j.is in
    let here = subst (λ (x : List ℕ). IsAt all i (trail.Split j.e j.r x)) (sym c.deref.ensures.value) at in
    IfOk-weaker c.split_key.result (λ key. IsSplitKey c.args.a.now c.args.b.now all j.e j.r ch (parts_of key)) (λ key. (entry : DownEntry) → IsAt all i entry → IsKeyOf c.args.a.now c.args.b.now all entry (parts_of key))
    (λ key h entry other. subst (λ x. IsKeyOf c.args.a.now c.args.b.now all x (parts_of key)) (at_unique all i (trail.Split j.e j.r ch) entry here other) h)
    c.split_key.ensures
