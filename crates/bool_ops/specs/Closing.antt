-- The loop that closes the set of pairs that one tree reaches.
use Rattle.std.specs.Prelude.{◌≡◌, ◌≢◌, ◌↔◌, ℕ, ◌<◌, ◌≤◌, ◌⊎◌, List, [], ◌∷◌, ◌++◌, length, Contains, AllPairs}
use Rattle.tree_definitions.specs.Automaton.{Rule}
use Rattle.tree_definitions.specs.Product.{Both}
use Rattle.tree_definitions.specs.Relation.{IsAt}

-- the new list has x, behind the old list if that lacked it
pub record Adds (old : List Both) (x : Both) (new : List Both) : Type 0 where
  pub known : Contains old x → new ≡ old
  pub fresh : (Contains old x → ⊥) → new ≡ old ++ x ∷ []
  pub distinct : AllPairs ◌≢◌ new

abbrev pub both : ℕ → ℕ → Both
both p s = record { left = p; right = s }

-- both rules have the same symbol and as many children
pub record AreAlike (left right : Rule) : Type 0 where
  pub symbol : left.symbol ≡ right.symbol
  pub kids : length left.kids ≡ length right.kids

-- two rules alike whose children are pair by pair reached together reach their parents together
pub data Together (ours theirs : List Rule) : Both → Type 0 where
  by_rules : (r s : ℕ) (left right : Rule) → IsAt ours r left → IsAt theirs s right → AreAlike left right
      → ((i p q : ℕ) → IsAt left.kids i p → IsAt right.kids i q → Together ours theirs (both p q))
      → Together ours theirs (both left.parent right.parent)

-- the children are pair by pair in the list
abbrev pub AreHeld : List Both → List ℕ → List ℕ → Type 0
AreHeld pairs ps qs = (i p q : ℕ) → IsAt ps i p → IsAt qs i q → Contains pairs (both p q)

-- rule r of ours and rule s of theirs are alike, and their children are in the list
pub record Fits (ours theirs : List Rule) (pairs : List Both) (x : Both) : Type 0 where
  pub left : Rule
  pub right : Rule
  pub left_at : IsAt ours x.left left
  pub right_at : IsAt theirs x.right right
  pub alike : AreAlike left right
  pub held : AreHeld pairs left.kids right.kids

-- the new list has x, unless the old one had more than this many
abbrev pub AddsBelow : List Both → ℕ → Both → List Both → Type 0
AddsBelow old most x new = Adds old x new ⊎ ((most < length old) × (new ≡ old))

-- both lists only grow, by parents of alike rules with children in them, and by places of such rules
pub record Grows (ours theirs : List Rule) (pairs found pairs2 found2 : List Both) : Type 0 where
  pub places : (i : ℕ) (x : Both) → IsAt pairs i x → IsAt pairs2 i x
  pub longer : length pairs ≤ length pairs2
  pub rules : (x : Both) → Contains found x → Contains found2 x
  pub more : length found ≤ length found2
  pub sound : ((x : Both) → Contains pairs x → Together ours theirs x) → (x : Both) → Contains pairs2 x → Together ours theirs x
  pub fits : ((x : Both) → Contains found x → Fits ours theirs pairs x) → (x : Both) → Contains found2 x → Fits ours theirs pairs2 x

-- the lists have the pair and the two rules, unless they are full
pub record Took (pairs found : List Both) (parent rules : Both) : Type 0 where
  pub state : Contains pairs parent ⊎ (1000000 < length pairs)
  pub rule : Contains found rules ⊎ (2000000 < length found)

-- rule r of ours and rule s of theirs, if they are alike and their children are in the base, are taken into the lists
abbrev pub Settled : List Rule → List Rule → List Both → List Both → List Both → ℕ → ℕ → Type 0
Settled ours theirs base pairs found r s =
    (left right : Rule) → IsAt ours r left → IsAt theirs s right → AreAlike left right → AreHeld base left.kids right.kids
    → Took pairs found (both left.parent right.parent) (both r s)

-- each rule of theirs that is alike rule r and has x's right state where that has x's left state is settled with r
abbrev pub SettledWith : List Rule → List Rule → List Both → List Both → List Both → ℕ → Both → Type 0
SettledWith ours theirs base pairs found r x =
    (s i : ℕ) (left right : Rule) → IsAt ours r left → IsAt theirs s right → AreAlike left right → IsAt left.kids i x.left → IsAt right.kids i x.right
    → Settled ours theirs base pairs found r s

-- the pair stands before place done
abbrev pub IsBefore : List Both → ℕ → Both → Type 0
IsBefore pairs done x = (k : ℕ) × (k < done) × IsAt pairs k x

-- the children stand pair by pair before place done
abbrev pub AreBefore : List Both → ℕ → List ℕ → List ℕ → Type 0
AreBefore pairs done ps qs = (i p q : ℕ) → IsAt ps i p → IsAt qs i q → IsBefore pairs done (both p q)

-- the pairs are reached together, and what follows from the first ones is taken into the lists
pub record IsClosing (ours theirs : List Rule) (done : ℕ) (pairs found : List Both) : Type 0 where
  pub sound : (x : Both) → Contains pairs x → Together ours theirs x
  pub fits : (x : Both) → Contains found x → Fits ours theirs pairs x
  pub within : done ≤ length pairs
  pub few : done ≤ 1000000
  pub closed : (r s : ℕ) (left right : Rule) → IsAt ours r left → IsAt theirs s right → AreAlike left right → AreBefore pairs done left.kids right.kids
      → Took pairs found (both left.parent right.parent) (both r s)

-- the list has each pair that is reached together, and the rules between them are found, unless there are too many
pub record IsClosed (ours theirs : List Rule) (pairs found : List Both) : Type 0 where
  pub exact : (x : Both) → Contains pairs x ↔ Together ours theirs x
  pub few : length pairs ≤ 1000000
  pub fits : (x : Both) → Contains found x → Fits ours theirs pairs x
  pub whole : (r s : ℕ) (left right : Rule) → IsAt ours r left → IsAt theirs s right → AreAlike left right → AreHeld pairs left.kids right.kids
      → Contains found (both r s) ⊎ (2000000 < length found)

-- more than a million pairs are reached together
pub record HasTooMany (ours theirs : List Rule) (pairs : List Both) : Type 0 where
  pub distinct : AllPairs ◌≢◌ pairs
  pub sound : (x : Both) → Contains pairs x → Together ours theirs x
  pub many : 1000000 < length pairs
