-- A condition that fails is told as itself.
use Rattle.std.proofs.Common.{◌≡◌, ℕ, Err, Some, None, ap, subst}
use Rattle.std.specs.Prelude.{IsErrOf, IfSome, IfNone}
use Rattle.std.specs.declared.option.Option.{Option}
use Rattle.incl_certificate.specs.declared.checking.CheckError.{CheckError}
use Rattle.incl_certificate.specs.declared.checking.CheckError.TheVariants.{Fails, Memory}

abbrev condition_of : CheckError → ℕ
condition_of (Fails condition place) = condition
condition_of Memory = 0

abbrev place_of : CheckError → ℕ
place_of (Fails condition place) = place
place_of Memory = 0

pub fails_there : {X : Type 0} (P : ℕ → ℕ → Type 0) (c p condition place : ℕ) → P c p → IsErrOf {T = X} (Err (Fails c p)) (Fails condition place) → P condition place
fails_there P c p condition place h e =
    let same : Fails c p ≡ Fails condition place = cc in
    subst (λ n. P condition n) (ap place_of same) (subst (λ n. P n p) (ap condition_of same) h)

-- what is said of a place, where there is one
pub some_there : {X : Type 0} (o : Option X) (x : X) (P : X → Type 0) → o ≡ Some x → IfSome o P → P x
some_there o x P e h = subst (λ v. IfSome v P) e h

-- what is said where there is none
pub none_there : {X : Type 0} (o : Option X) (P : Type 0) → o ≡ None → IfNone o P → P
none_there o P e h = subst (λ v. IfNone v P) e h
