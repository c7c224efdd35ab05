use Rattle.std.proofs.Common.{◌≡◌, map, drop}
use Rattle.std.specs.List.{list_all}
use Rattle.witness_trees.specs.Judged.{is_number}
use Rattle.down_entry_lines.proofs.written.all_write_numbers.Given as goal

-- all write numbers exactly where those not yet passed do
abbrev pub invariant-loop-word : goal.invariant-loop-word
invariant-loop-word l = list_all is_number (map (λ x. x.now) (drop l.word-index l.words)) ≡ list_all is_number (map (λ x. x.now) l.words)
