use Rattle.explicit_ta.proofs.Unions.{canon_paired}
use Rattle.explicit_ta.proofs.pair.ExplicitPair.from_listed.Goals as goal

pub of_lists-requires-clause-paired : goal.of_lists-requires-clause-paired
of_lists-requires-clause-paired c =
    canon_paired c.args.a.now c.args.b.now c.in-Ok.left c.in-Ok-canon.right c.in-Ok.ensures c.in-Ok-canon.ensures c.requires c.symbols.ensures.listed c.symbols-2.ensures.listed
    (rw (c.symbols.ensures.value, c.symbols-2.ensures.value) at c.in-Ok-merged.ensures.few)
