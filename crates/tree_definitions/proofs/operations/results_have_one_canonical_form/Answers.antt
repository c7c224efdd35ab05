use Rattle.tree_definitions.proofs.Results.{one_trim, one_union, one_product, one_quotient}
use Rattle.tree_definitions.proofs.SameRules.{one_trim_of_form}
use Rattle.tree_definitions.proofs.operations.results_have_one_canonical_form.Goals as goal

pub returns-clause-trim_of_form : goal.returns-clause-trim_of_form
returns-clause-trim_of_form c = one_trim_of_form

pub returns-clause-trim : goal.returns-clause-trim
returns-clause-trim c = one_trim

pub returns-clause-union : goal.returns-clause-union
returns-clause-union c = one_union

pub returns-clause-product : goal.returns-clause-product
returns-clause-product c = one_product

pub returns-clause-quotient : goal.returns-clause-quotient
returns-clause-quotient c = one_quotient
