use Rattle.tree_definitions.specs.Canonical.{canon}
use Rattle.tree_definitions.specs.DownTrail.{Root, Child, Split}
use Rattle.tree_definitions.specs.Relation.{IsAt}
use Rattle.tree_definitions.proofs.Members.{at_unique}
use Rattle.listed_pairs.specs.DownEntries.{entries_of}
use Rattle.listed_pairs.specs.declared.entry.DownEntry.TheVariants as shape
use Rattle.down_trails.proofs.Stepping.{entry_at}
use Rattle.incl_certificate.proofs.Divided.{splits_there}
use Rattle.incl_certificate.proofs.down_fitting.has_child.Goals as goal

pub returns-in-Split : goal.returns-in-Split
returns-in-Split c =
    let entries = entries_of c.args.entries.now in
    let e = c.in-Split.pair in
    let r = c.in-Split.rule in
    let choice = c.in-Split.choice.items in
    let at : IsAt entries c.args.split (Split e r choice) =
    entry_at c.args.entries.now c.args.split c.index-entries-split.result (shape.Split e r c.in-Split.choice) c.requires.within c.index-entries-split.is c.in-Split.is in
    let same = splits_there (canon c.args.a.now) c.args.b.now entries c.args.split e r c.args.place choice at (c.requires.fits (Split e r choice) at) in
    (λ yes. same.0 (c.divides.ensures.0 yes), λ h. c.divides.ensures.1 (same.1 h))

pub returns-in-Root : goal.returns-in-Root
returns-in-Root c =
    let entries = entries_of c.args.entries.now in
    let at : IsAt entries c.args.split (Root c.in-Root.pair) =
    entry_at c.args.entries.now c.args.split c.index-entries-split.result (shape.Root c.in-Root.pair) c.requires.within c.index-entries-split.is c.in-Root.is in
    (λ no. cc no, λ h. let e = at_unique entries c.args.split (Split h.0 h.1 h.2) (Root c.in-Root.pair) h.4 at in cc e)

pub returns-in-Child : goal.returns-in-Child
returns-in-Child c =
    let entries = entries_of c.args.entries.now in
    let child = Child c.in-Child.pair c.in-Child.split c.in-Child.place in
    let at : IsAt entries c.args.split child =
    entry_at c.args.entries.now c.args.split c.index-entries-split.result (shape.Child c.in-Child.pair c.in-Child.split c.in-Child.place) c.requires.within c.index-entries-split.is c.in-Child.is in
    (λ no. cc no, λ h. let e = at_unique entries c.args.split (Split h.0 h.1 h.2) child h.4 at in cc e)
