-- Lists behind a view that only grow.
use Rattle.std.proofs.Common.{◌≡◌, ◌≢◌, inl, inr, Ok, Err, ℕ, zero, suc, ◌<◌, List, [], ◌∷◌, ◌++◌, map, length, get_or, set, Contains, refl, sym, subst, arith}
use Rattle.std.specs.Prelude.{Result, IfOk, OnErr, AllPairs}
use Rattle.tree_definitions.specs.Product.{Both}
use Rattle.tree_definitions.proofs.Members.{contains_none}
use Rattle.bool_ops.specs.Closing.{Adds}
use Rattle.bool_ops.specs.Partnered.{ArePartners}
use Rattle.bool_ops.proofs.Filed.{adds_only}

module _ {X : Type 0} (f : X → List ℕ) where
  -- one more list
  pub push_kept : (xs : List X) (y : X) (p q : ℕ) → Contains (get_or (map f xs) p []) q → Contains (get_or (map f (xs ++ y ∷ [])) p []) q
  push_kept [] y p q h = absurd (contains_none q h)
  push_kept (x ∷ xs) y zero q h = h
  push_kept (x ∷ xs) y (suc p) q h = push_kept xs y p q h

  -- one list has more
  pub set_kept : (xs : List X) (i : ℕ) (new old : X) → i < length xs → old ≡ get_or xs i old → ((q : ℕ) → Contains (f old) q → Contains (f new) q)
      → (p q : ℕ) → Contains (get_or (map f xs) p []) q → Contains (get_or (map f (set xs i new)) p []) q
  set_kept [] i new old l o more p q h = absurd (contains_none q h)
  set_kept (x ∷ xs) zero new old l o more zero q h = more q (subst (λ z. Contains (f z) q) (sym o) h)
  set_kept (x ∷ xs) zero new old l o more (suc p) q h = h
  set_kept (x ∷ xs) (suc i) new old l o more zero q h = h
  set_kept (x ∷ xs) (suc i) new old l o more (suc p) q h = set_kept xs i new old (omega arith) o more p q h

  pub set_here : (xs : List X) (i : ℕ) (new : X) (q : ℕ) → i < length xs → Contains (f new) q → Contains (get_or (map f (set xs i new)) i []) q
  set_here [] i new q l h = absurd (omega arith)
  set_here (x ∷ xs) zero new q l h = h
  set_here (x ∷ xs) (suc i) new q l h = set_here xs i new q (omega arith) h

-- a pair that is there already
pub adds_known : (old : List Both) (x : Both) → AllPairs ◌≢◌ old → Contains old x → Adds old x old
adds_known old x distinct h = record { known = λ k. refl; fresh = λ lacks. absurd (lacks h); distinct = distinct }

-- the lists have the new pair
pub still_partners : {T E : Type 0} (o : Result T E) (old new : List Both) (x : Both) (lists lists2 : List (List ℕ)) → IfOk o (λ _. Adds old x new) → OnErr o (new ≡ old)
    → ArePartners old lists → ((p q : ℕ) → Contains (get_or lists p []) q → Contains (get_or lists2 p []) q) → Contains (get_or lists2 x.left []) x.right
    → ArePartners new lists2
still_partners (Ok v) old new x lists lists2 a e h kept here y m = elim (adds_only old x new a y m) [
  | inl k ↦ kept y.left y.right (h y k)
  | inr same ↦ subst (λ (z : Both). Contains (get_or lists2 z.left []) z.right) same here
]
still_partners (Err v) old new x lists lists2 a e h kept here y m = kept y.left y.right (h y (subst (λ l. Contains l y) e m))
