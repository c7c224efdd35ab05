-- The state of a search, and what it keeps true.
use Rattle.std.specs.Prelude.{◌≡◌, ◌≢◌, ℕ, ◌+◌, ◌<◌, ◌≤◌, List, [], length, map, Contains}
use Rattle.std.specs.List.{AllZip}
use Rattle.tree_definitions.specs.Automaton.{Automaton, IsAutomaton, HasRule}
use Rattle.tree_definitions.specs.Tree.{Symbol}
use Rattle.tree_definitions.specs.Relation.{Holds, IsAt}
use Rattle.tree_definitions.specs.Cover.{Pair, Rejects}
use Rattle.tree_definitions.specs.UpTrail.{UpEntry}
use Rattle.ta_model.specs.Macrostates.{AreMacrostates, StoreGrows}
use Rattle.upward_search.specs.Search.{IsOf, IsSearch, IsStepped, AllAccept, Grows, IsHandled}
use Rattle.antichain_up.specs.declared.search.Search.{Search}
use Rattle.antichain_up.specs.declared.search.Progress.{Progress}
use Rattle.antichain_up.specs.declared.search.Progress.TheVariants.{Going, Rejected, Full}
use Rattle.antichain_up.specs.Entries.{EntryRow, IsEntryList, AreStored, Kept, Done, up_entries}
use Rattle.antichain_up.specs.Orders.{TwoOrders, AreOrders}

-- the entries with their sets
abbrev pub entries_of : Search → List UpEntry
entries_of s = up_entries s.store s.entries

-- the left automaton is one, the two relations are orders, and the budget is at most 1,000,000
pub record AreGiven (A B : Automaton) (orders : TwoOrders) (budget : ℕ) : Type 0 where
  pub left : IsAutomaton A
  pub ordered : AreOrders (length A.states) (length B.states) orders
  pub few : budget ≤ 1000000

-- the entries are over the states of A and their sets over those of B, and what is done is among them
pub record IsSound (A B : Automaton) (s : Search) : Type 0 where
  pub list : IsEntryList s.entries
  pub states : s.entries.states ≡ length A.states
  pub sets : AreMacrostates s.store
  pub wide : s.store.states ≡ length B.states
  pub stored : AreStored s.store s.entries
  pub next : s.next ≤ length s.entries.rows

-- nothing rejects yet, and the budget isn't passed
pub record IsGoing (A B : Automaton) (orders : TwoOrders) (budget : ℕ) (s : Search) : Type 0 where
  pub sound : IsSound A B s
  pub keeps : IsSearch A B (Holds orders.left) (Holds orders.right) (entries_of s) (Kept s.entries)
  pub accept : AllAccept A B (entries_of s)
  pub room : length s.entries.rows ≤ budget

-- the last entry rejects
pub record IsRejected (A B : Automaton) (orders : TwoOrders) (s : Search) : Type 0 where
  pub keeps : IsSearch A B (Holds orders.left) (Holds orders.right) (entries_of s) (Kept s.entries)
  pub last : ℕ
  pub entry : UpEntry
  pub stands : IsAt (entries_of s) last entry
  pub count : length s.entries.rows ≡ last + 1
  pub rejects : Rejects A B entry.pair

-- nothing rejects, and there is one entry more than the budget
pub record IsFull (A B : Automaton) (orders : TwoOrders) (budget : ℕ) (s : Search) : Type 0 where
  pub sound : IsSound A B s
  pub keeps : IsSearch A B (Holds orders.left) (Holds orders.right) (entries_of s) (Kept s.entries)
  pub accept : AllAccept A B (entries_of s)
  pub count : length s.entries.rows ≡ budget + 1

-- what a call leaves, by what it answers
abbrev pub IsAfter : Automaton → Automaton → TwoOrders → ℕ → Progress → Search → Type 0
IsAfter A B orders budget Going s = IsGoing A B orders budget s
IsAfter A B orders budget Rejected s = IsRejected A B orders s
IsAfter A B orders budget Full s = IsFull A B orders budget s

-- this holds where the search goes on
abbrev pub WhenGoing : Progress → Type 0 → Type 0
WhenGoing p P = (p ≡ Going) → P

-- entries stay, none that was taken out comes back, and the next one to take is the same
pub record Moves (old new : Search) : Type 0 where
  pub grows : Grows (entries_of old) (Kept old.entries) (entries_of new) (Kept new.entries)
  pub next : new.next ≡ old.next
  pub longer : length old.entries.rows ≤ length new.entries.rows
  pub stays : (k : ℕ) (e : EntryRow) → IsAt old.entries.rows k e → IsAt new.entries.rows k e
  pub store : StoreGrows old.store new.store

-- the first chosen numbers are those of entries with these states and these sets
abbrev pub ArePicked : Search → List ℕ → List ℕ → List ℕ → ℕ → Type 0
ArePicked s kids chosen sets place =
    (i k q m : ℕ) → i < place → IsAt chosen i k → IsAt kids i q → IsAt sets i m
    → (e : EntryRow) × IsAt s.entries.rows k e × (e.state ≡ q) × (e.set ≡ m)

-- the chosen entries have these states, and each step from them is covered by a kept entry
abbrev pub StepsFrom : Automaton → Automaton → TwoOrders → Search → List ℕ → List ℕ → Type 0
StepsFrom A B orders s kids chosen =
    (pairs : List Pair) × AllZip (IsOf (entries_of s) (λ k. Unit {0})) chosen pairs × (map (λ pair. pair.state) pairs ≡ kids)
    × IsStepped A B (Holds orders.left) (Holds orders.right) (entries_of s) (Kept s.entries) pairs

-- each step from done entries of these states, e among them, whose numbers begin with the chosen ones, is covered by a kept entry
abbrev pub Handles : Automaton → Automaton → TwoOrders → Search → List ℕ → ℕ → List ℕ → Type 0
Handles A B orders s kids e chosen =
    IsHandled A B (Holds orders.left) (Holds orders.right) (entries_of s) (Kept s.entries) (Done s.entries s.next) kids e chosen

-- the same for all children of rules
abbrev pub HandlesAll : Automaton → Automaton → TwoOrders → Search → ℕ → Type 0
HandlesAll A B orders s e =
    (x : EntryRow) (a : Symbol) (p : ℕ) (kids : List ℕ) → IsAt s.entries.rows e x → HasRule A a kids p → Contains kids x.state
    → Handles A B orders s kids e []

-- the state of entry e stands at no place behind this one
abbrev pub IsLast : Search → List ℕ → ℕ → ℕ → Type 0
IsLast s kids e last = (x : EntryRow) (i q : ℕ) → IsAt s.entries.rows e x → last < i → IsAt kids i q → q ≢ x.state
