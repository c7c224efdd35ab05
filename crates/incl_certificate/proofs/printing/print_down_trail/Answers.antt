use Rattle.std.proofs.Common.{sym, subst}
use Rattle.tree_definitions.specs.Automaton.{Automaton}
use Rattle.listed_pairs.specs.DownEntries.{AreDownEntries, entries_of}
use Rattle.incl_certificate.proofs.DownTrailing.{all_printable}
use Rattle.incl_certificate.proofs.printing.print_down_trail.Goals as goal

pub put_down_entries-requires : goal.put_down_entries-requires
put_down_entries-requires c =
    let entries = entries_of c.args.entries.now in
    all_printable c.in_ok-canonical.canonical c.args.b.now c.args.budget entries
    (subst (λ (A : Automaton). AreDownEntries A c.args.b.now c.args.budget entries) (sym c.in_ok-canonical.ensures) c.requires)
