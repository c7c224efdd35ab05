use Rattle.std.proofs.lemmas.Cmp.{nat_cmp_total}
use Rattle.std.proofs.lemmas.Map.Lookups.{exact_unsigned}
use Rattle.tree_definitions.proofs.CanonicalForms.{sorted_apart}
use Rattle.timbuk_text.proofs.printer.in_rising_order.Goals as goal

pub returns-clause-sorted : goal.returns-clause-sorted
returns-clause-sorted c =
    rw (← c.in_ok-sorted.ensures.items) (sorted_apart nat_cmp_total exact_unsigned _ _ c.sort_unstable.ensures.permutation c.sort_unstable.ensures.sorted (rw c.in_ok-sorted.ensures.items c.requires))
