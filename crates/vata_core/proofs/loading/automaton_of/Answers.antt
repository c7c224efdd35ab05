use Rattle.std.proofs.Common.{Err, ap, subst}
use Rattle.timbuk_text.specs.Taking.{limit_of}
use Rattle.vata_core.specs.Files.{IsBadAt, IsOverAt}
use Rattle.timbuk_definitions.proofs.Unlimited.{spelled_small}
use Rattle.vata_core.proofs.Halts.{told_read}
use Rattle.vata_core.proofs.Left.{taken_left}
use Rattle.vata_core.proofs.loading.automaton_of.Goals as goal

pub returns-in-Err-clause-left : goal.returns-in-Err-clause-left
returns-in-Err-clause-left g c = λ calm. taken_left _ c.args.name.now 33554433 _ _ c.in-Ok.ensures.ok (c.in-Err.ensures.taken (λ e. calm (cc e)))

pub returns-in-Ok-finish-clause-left : goal.returns-in-Ok-finish-clause-left
returns-in-Ok-finish-clause-left g c = λ _. taken_left _ c.args.name.now 33554433 _ _ c.in-Ok.ensures.ok (c.in-Ok-rest_of.ensures.taken (λ e. cc e))

pub returns-in-Err-Syntax-clause-left : goal.returns-in-Err-Syntax-clause-left
returns-in-Err-Syntax-clause-left g c = λ _. taken_left _ c.args.name.now 33554433 _ _ c.in-Ok.ensures.ok (c.in-Ok-rest_of.ensures.taken (λ e. cc e))

pub returns-in-Err-Limit-clause-left : goal.returns-in-Err-Limit-clause-left
returns-in-Err-Limit-clause-left g c = λ _. taken_left _ c.args.name.now 33554433 _ _ c.in-Ok.ensures.ok (c.in-Ok-rest_of.ensures.taken (λ e. cc e))

pub returns-in-Err-Memory-clause-left : goal.returns-in-Err-Memory-clause-left
returns-in-Err-Memory-clause-left g c = λ _. taken_left _ c.args.name.now 33554433 _ _ c.in-Ok.ensures.ok (c.in-Ok-rest_of.ensures.taken (λ e. cc e))

pub returns-in-Err-Syntax-clause-syntax : goal.returns-in-Err-Syntax-clause-syntax
returns-in-Err-Syntax-clause-syntax g c = λ at e.
    let bad = c.in-Err-Syntax.ensures.syntax c.in-Err-Syntax.at (ap Err c.in-Err-Syntax.field-0-is) in
    told_read _ _ c.in-Ok-rest_of.reader.text _ (IsBadAt at) c.in-Ok.ensures.ok c.in-Ok-rest_of.ensures.text
    (subst (λ a. IsBadAt a c.in-Ok-rest_of.reader.text) (cc e) (record { short = c.in-Ok-rest_of.ensures.short; bad = bad.0; within = bad.1 }))

pub returns-in-Err-Limit-clause-limit : goal.returns-in-Err-Limit-clause-limit
returns-in-Err-Limit-clause-limit g c = λ what at e.
    let over = c.in-Err-Limit.ensures.limit c.in-Err-Limit.what c.in-Err-Limit.at (ap Err c.in-Err-Limit.field-0-is) in
    told_read _ _ c.in-Ok-rest_of.reader.text _ (IsOverAt (limit_of what) at) c.in-Ok.ensures.ok c.in-Ok-rest_of.ensures.text
    (subst (λ w. IsOverAt (limit_of w) at c.in-Ok-rest_of.reader.text) (cc e)
    (subst (λ a. IsOverAt (limit_of c.in-Err-Limit.what) a c.in-Ok-rest_of.reader.text) (cc e) (record { short = c.in-Ok-rest_of.ensures.short; over = over })))

pub returns-in-Ok-finish-clause-small : goal.returns-in-Ok-finish-clause-small
returns-in-Ok-finish-clause-small g c = spelled_small _ c.in-Ok-finish.a c.in-Ok-finish.ensures.ok.0 c.in-Ok-finish.ensures.ok.1
