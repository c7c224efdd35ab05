use Rattle.upward_search.proofs.EntryTrees.{rejects_means_NoCert}
use Rattle.upward_search.proofs.laws.rejecting_entry_refutes.Goals as goal

pub returns : goal.returns
returns c = λ A B left right entries flags last entry symbols nodes search at rejects count labels same.
    rejects_means_NoCert A B entries search.steps symbols nodes labels same last entry at count rejects
