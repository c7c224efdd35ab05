-- Lists of distinct elements against lists of what stands for them.
use Rattle.std.proofs.Common.{◌≡◌, ◌≢◌, ℕ, ◌<◌, ◌≤◌, List, [], ◌∷◌, length, subst, arith}
use Rattle.std.specs.Prelude.{Contains, AllPairs}
use Rattle.std.specs.List.{AllZip}
use Rattle.tree_definitions.specs.Relation.{IsAt}
use Rattle.tree_definitions.proofs.Counting.{count_keys}
use Rattle.tree_definitions.proofs.Members.{at_within, contains_at, contains_head, contains_tail}
use Rattle.bool_ops.proofs.Filed.{at_distinct}
use Rattle.bool_ops.proofs.Stands.{zip_at}
use Rattle.bool_ops.proofs.WellFormed.{apart_by_places}

module _ {X Y : Type 0} (M : X → Y → Type 0) (once : (x z : X) (y : Y) → M x y → M z y → x ≡ z) where
  -- distinct elements are no more than what stands for them, where each thing stands for one
  pub no_more : (xs : List X) (ys : List Y) → AllPairs ◌≢◌ xs → ((x : X) → Contains xs x → (y : Y) × Contains ys y × M x y) → length xs ≤ length ys
  no_more xs ys apart each = count_keys (λ i y. (x : X) × IsAt xs i x × M x y) xs ys here alone
    where
      here : (i : ℕ) → i < length xs → (y : Y) × Contains ys y × ((x : X) × IsAt xs i x × M x y)
      here i l =
          let at = at_within xs i l in
          let m = each at.0 (contains_at xs i at.0 at.1) in
          (m.0, m.1, (at.0, at.1, m.2))

      alone : (i j : ℕ) (y : Y) → j < i → i < length xs → ((x : X) × IsAt xs i x × M x y) → ((x : X) × IsAt xs j x × M x y) → ⊥
      alone i j y l n h k =
          let same = once h.0 k.0 y h.2 k.2 in
          let e = at_distinct xs i j k.0 apart (subst (IsAt xs i) same h.1) k.1 in
          omega (arith, l, e)

  -- what stands for distinct elements is distinct
  pub images_apart : (xs : List X) (ys : List Y) → AllZip M xs ys → AllPairs ◌≢◌ xs → AllPairs ◌≢◌ ys
  images_apart xs ys zip apart = apart_by_places ys alone
    where
      alone : (i j : ℕ) (y : Y) → IsAt ys i y → IsAt ys j y → i ≡ j
      alone i j y iat jat =
          let h = zip_at M xs ys i y zip iat in
          let k = zip_at M xs ys j y zip jat in
          at_distinct xs i j k.0 apart (subst (IsAt xs i) (once h.0 k.0 y h.2 k.2) h.1) k.1

-- one thing for each element
pub images : {X Y : Type 0} (M : X → Y → Type 0) (xs : List X) → ((x : X) → Contains xs x → (y : Y) × M x y) → (ys : List Y) × AllZip M xs ys
images M [] each = ([], tt)
images M (x ∷ xs) each =
    let y = each x (contains_head x xs) in
    let more = images M xs (λ z k. each z (contains_tail x xs z k)) in
    (y.0 ∷ more.0, (y.1, more.1))
