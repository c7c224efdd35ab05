use Rattle.ta_model.proofs.Restricted.{one_restriction}
use Rattle.ta_model.proofs.laws.restrictions_have_one_canonical_form.Goals as goal

pub returns : goal.returns
returns c = one_restriction
