use Rattle.simulations.proofs.lost.full.Goals as goal

pub returns-in-Ok-clause-pairs : goal.returns-in-Ok-clause-pairs
returns-in-Ok-clause-pairs c i j k l = (c.in-Ok.ensures.pairs i j).1 (k, l)
