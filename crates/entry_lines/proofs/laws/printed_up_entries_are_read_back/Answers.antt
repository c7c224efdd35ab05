use Rattle.entry_lines.proofs.ReadBack.{up_entries_read_back}
use Rattle.entry_lines.proofs.laws.printed_up_entries_are_read_back.Goals as goal

pub returns : goal.returns
returns c = up_entries_read_back
