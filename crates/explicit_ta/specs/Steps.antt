-- Right rules by joint symbols and by first children, and the groups that are made by them.
use Rattle.std.specs.Prelude.{◌≡◌, ◌≢◌, ◌↔◌, ◌<◌, ℕ, List, length, AllPairs, Contains, slice_index}
use Rattle.std.specs.List.{AllZip}
use Rattle.std.specs.Ordering.{nat_cmp, ordering_then}
use Rattle.std.specs.declared.cmp.Ordering.{Ordering}
use Rattle.tree_definitions.specs.Automaton.{Rule}
use Rattle.tree_definitions.specs.Relation.{Row, Has, AreEqual}
use Rattle.ta_model.specs.declared.joint.UpGroup.{UpGroup}
use Rattle.ta_model.specs.Macrostates.{Macrostates, row_at}

-- the first child, and 0 where there is none
abbrev pub first_kid : Rule → ℕ
first_kid r = slice_index r.kids 0

-- rules by their symbols, then by their first children
abbrev pub step_cmp : Rule → Rule → Ordering
step_cmp r s = ordering_then (nat_cmp r.symbol s.symbol) (nat_cmp (first_kid r) (first_kid s))

-- the rule with the joint place of its symbol
abbrev pub relabelled : List ℕ → Rule → Rule
relabelled places r = record { symbol = slice_index places r.symbol; kids = r.kids; parent = r.parent }

-- s is the parent of one of these rules, and each child of it is in the set of its place
abbrev pub IsReached : List Rule → List Row → ℕ → Type 0
IsReached rules sets s = (r : Rule) × Contains rules r × (r.parent ≡ s) × AllZip Has sets r.kids

-- so it is, and the rule is under the symbol
abbrev pub IsReachedUnder : List Rule → ℕ → List Row → ℕ → Type 0
IsReachedUnder rules a sets s = (r : Rule) × Contains rules r × (r.symbol ≡ a) × (r.parent ≡ s) × AllZip Has sets r.kids

-- the group has a symbol of these pairs, the parents that are paired with it, each once, and the place of the set that the rules under it reach
pub record IsGroupAt (pairs : List (ℕ × ℕ)) (rules : List Rule) (sets : List Row) (store : Macrostates) (group : UpGroup) : Type 0 where
  pub some : (p : ℕ) × Contains pairs (group.symbol, p)
  pub distinct : AllPairs ◌≢◌ group.parents.items
  pub parents : (p : ℕ) → Contains group.parents.items p ↔ Contains pairs (group.symbol, p)
  pub stored : group.set < length store.rows
  pub set : AreEqual (Has (row_at store group.set)) (IsReachedUnder rules group.symbol sets)

-- each is a group of the pairs, each symbol of them has one, and no symbol has two
pub record AreGroupsAt (pairs : List (ℕ × ℕ)) (rules : List Rule) (sets : List Row) (store : Macrostates) (groups : List UpGroup) : Type 0 where
  pub each : (group : UpGroup) → Contains groups group → IsGroupAt pairs rules sets store group
  pub all_symbols : (a p : ℕ) → Contains pairs (a, p) → (group : UpGroup) × Contains groups group × (group.symbol ≡ a)
  pub single : AllPairs (λ (g : UpGroup) (h : UpGroup). g.symbol ≢ h.symbol) groups
