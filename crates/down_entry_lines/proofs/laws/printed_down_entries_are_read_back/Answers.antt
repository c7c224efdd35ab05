use Rattle.down_entry_lines.proofs.ReadBack.{down_entries_read_back}
use Rattle.down_entry_lines.proofs.laws.printed_down_entries_are_read_back.Goals as goal

pub returns : goal.returns
returns c = down_entries_read_back
