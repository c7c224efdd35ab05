use Rattle.std.proofs.Common.{List, ℕ, sym, subst}
use Rattle.timbuk_definitions.specs.Place.{IsBadPlace, PassesNoLimit}
use Rattle.timbuk_definitions.specs.Reading.{Spells}
use Rattle.timbuk_text.specs.declared.error.TextError.{TextError}
use Rattle.timbuk_text.proofs.Stopped.{error_as}
use Rattle.timbuk_text.proofs.reading.listed_of.Goals as goal

pub returns-in-Err-clause-syntax : goal.returns-in-Err-clause-syntax
returns-in-Err-clause-syntax c p e =
    subst (λ (text : List ℕ). IsBadPlace text p × PassesNoLimit text) c.deref.ensures.value (c.in-Err.ensures.syntax p (error_as c.in-Err.error (TextError.Syntax p) e))

pub returns-in_ok-into_listed-in-Ok-clause-ok : goal.returns-in_ok-into_listed-in-Ok-clause-ok
returns-in_ok-into_listed-in-Ok-clause-ok c =
    let read = c.in-Ok.ensures.ok in (
      subst (λ (text : List ℕ). Spells text c.in_ok-into_listed-in-Ok.field-0) c.deref.ensures.value (subst (Spells c.deref.result.now) (sym c.in_ok-into_listed-in-Ok.ensures) read.0),
      subst PassesNoLimit c.deref.ensures.value read.1,
    )
