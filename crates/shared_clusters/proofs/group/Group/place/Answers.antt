use Rattle.std.proofs.Common.{◌≡◌, List, length, ap, IfOk, IfErr}
use Rattle.shared_clusters.proofs.Groups.{tuple_place}
use Rattle.shared_clusters.proofs.group.Group.place.Goals as goal

pub returns-clause-found : goal.returns-clause-found
returns-clause-found c =
    rw (← c.self.view_is) (tuple_place c.self.inside.tuples.items c.args.kids.now.items c.binary_search.result c.self.invariant
    (rw c.deref.ensures.value at c.binary_search.ensures.bound) (rw c.deref.ensures.value at c.binary_search.ensures.position)).0

pub returns-clause-absent : goal.returns-clause-absent
returns-clause-absent c =
    rw (← c.self.view_is) (tuple_place c.self.inside.tuples.items c.args.kids.now.items c.binary_search.result c.self.invariant
    (rw c.deref.ensures.value at c.binary_search.ensures.bound) (rw c.deref.ensures.value at c.binary_search.ensures.position)).1
