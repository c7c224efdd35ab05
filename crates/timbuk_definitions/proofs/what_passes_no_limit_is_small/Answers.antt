use Rattle.timbuk_definitions.proofs.Unlimited.{spelled_named, spelled_small}
use Rattle.timbuk_definitions.proofs.what_passes_no_limit_is_small.Goals as goal

pub returns-clause-names : goal.returns-clause-names
returns-clause-names c = spelled_named

pub returns-clause-lists : goal.returns-clause-lists
returns-clause-lists c = spelled_small
