use Rattle.std.proofs.Common.{◌≡◌, List, ap, sym, ◌∙◌, length}
use Rattle.std.specs.Str.{bytes_eq}
use Rattle.shared_clusters.proofs.Groups.{one_tuple}
use Rattle.shared_clusters.proofs.group.Group.has_only.Goals as goal

pub returns-then-tuples-eq1 : goal.returns-then-tuples-eq1
returns-then-tuples-eq1 c =
    rw (← c.self.view_is, ← c.as_slice-tuples.ensures.value) (one_tuple c.as_slice-tuples.result.now c.index-tuples-0.result c.args.kids.now.items c.eq.result c.if-tuples-eq1.true c.index-tuples-0.is
    (rw (c.as_slice.ensures, c.as_slice-then-tuples-eq1.ensures) at c.eq.ensures))
