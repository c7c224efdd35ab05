-- The least member of a set from a place on.
use Rattle.std.proofs.Common.{◌≡◌, ℕ, ◌<◌, ◌≤◌, Option, Some, None, length, sym, subst, arith}
use Rattle.std.specs.Prelude.{◌↔◌, IsNone, IfSome}
use Rattle.std.proofs.lemmas.Bool.{false≢true}
use Rattle.std.proofs.lemmas.Option.{slice_get_within}
use Rattle.tree_definitions.specs.Relation.{Matrix, Places, Row, Has, Holds}
use Rattle.bit_matrix.specs.Matrices.{IsIdentity}
use Rattle.bit_rows.specs.Rows as words
use Rattle.antichain_up.specs.Orders.{IsEmptyFrom, IsLeastFrom, IsTurnOf}

-- the two sets have the same members
module _ (P Q : Places) (same : (s : ℕ) → P s ↔ Q s) (from : ℕ) where
  pub none_of : (found : Option ℕ) → IsNone found ↔ IsEmptyFrom P from → IsNone found ↔ IsEmptyFrom Q from
  none_of found h = (λ none s l q. h.0 none s l ((same s).1 q), λ empty. h.1 (λ s l p. empty s l ((same s).0 p)))

  pub least_of : (found : Option ℕ) → IfSome found (λ r. IsLeastFrom P from r) → IfSome found (λ r. IsLeastFrom Q from r)
  least_of None h = tt
  least_of (Some r) h = record { from_on = h.from_on; member = (same r).0 h.member; least = λ s l q. h.least s l ((same s).1 q) }

pub least_set : (row : Row) (from : ℕ) (found : Option ℕ) → IfSome found (λ r. words.IsLeastFrom row from r) → IfSome found (λ r. IsLeastFrom (Has row) from r)
least_set row from None h = tt
least_set row from (Some r) h = record { from_on = h.from_on; member = h.set; least = h.least }

pub set_within : (row : Row) (from n m : ℕ) (found : Option ℕ) → IfSome found (λ r. words.IsLeastFrom row from r) → length row ≡ n → n ≤ m → IfSome found (λ r. r < m)
set_within row from n m None h long few = tt
set_within row from n m (Some r) h long few = let l = slice_get_within row r _ h.set in omega (arith, l, long, few)

-- the members of one row of the identity
pub one_above : (R : Matrix) (q : ℕ) → IsIdentity (length R) R → q < length R → (r : ℕ) → (r ≡ q) ↔ Holds R q r
one_above R q identity l r = (λ e. (identity q r).1 (sym e, l), λ h. sym ((identity q r).0 h).0)

pub one_below : (R : Matrix) (q : ℕ) → IsIdentity (length R) R → q < length R → (r : ℕ) → (r ≡ q) ↔ Holds R r q
one_below R q identity l r = (λ e. (identity r q).1 (e, subst (λ k. k < length R) (sym e) l), λ h. ((identity r q).0 h).0)

pub identity_of : (R : Matrix) (turned : Option Matrix) → IsNone turned → IsTurnOf R turned → IsIdentity (length R) R
identity_of R None none h = h
identity_of R (Some T) none h = absurd (false≢true (sym none))
