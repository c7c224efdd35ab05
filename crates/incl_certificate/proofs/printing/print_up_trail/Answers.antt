use Rattle.entry_lines.proofs.Inverse.{fit_printable}
use Rattle.incl_certificate.proofs.printing.print_up_trail.Goals as goal

pub put_up_entries-requires : goal.put_up_entries-requires
put_up_entries-requires c = fit_printable c.args.a.now c.args.b.now c.symbols-symbols.ensures.listed.narrow c.args.budget c.args.entries.now c.requires
