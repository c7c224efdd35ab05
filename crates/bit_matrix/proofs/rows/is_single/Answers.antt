use Rattle.std.proofs.Common.{refl, arith}
use Rattle.std.proofs.lemmas.Bool.{false≢true}
use Rattle.bit_matrix.proofs.rows.is_single.Goals as goal

pub returns-in-None : goal.returns-in-None
returns-in-None c = (λ e. absurd (false≢true e), λ h. absurd (c.in-None.ensures.none.0 refl c.args.i (omega arith) ((h c.args.i).1 refl)))
