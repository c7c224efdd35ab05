use Rattle.word_table.proofs.Listing.{other_kept}
use Rattle.word_table.proofs.index.slot_for.Goals as goal

pub returns-clause-others : goal.returns-clause-others
returns-clause-others c = λ other off.
    other_kept c.args.word.now other c.in_ok-copy.copy c.args.overflow.now c.insert.new.self c.args.place c.in_ok-insert.ensures.updates c.in_ok-copy.ensures.items off
