use Rattle.down_entry_lines.proofs.Inverse.{down_entries_inverse}
use Rattle.down_entry_lines.proofs.laws.only_printed_down_entries_are_read.Goals as goal

pub returns : goal.returns
returns c = down_entries_inverse
