use Rattle.explicit_ta.proofs.pair.clusters_of_both.Goals as goal

pub clusters_of-requires : goal.clusters_of-requires
clusters_of-requires c = rw (c.deref.ensures.value, c.in_ok-rules.ensures, c.states.ensures.value, c.states-2.ensures.value) c.requires.parents
