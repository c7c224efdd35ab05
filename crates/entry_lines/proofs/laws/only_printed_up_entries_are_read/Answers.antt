use Rattle.entry_lines.proofs.Inverse.{up_entries_inverse}
use Rattle.entry_lines.proofs.laws.only_printed_up_entries_are_read.Goals as goal

pub returns : goal.returns
returns c = λ A B text at found narrow. up_entries_inverse A B narrow text at found
