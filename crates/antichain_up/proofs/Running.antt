-- One round of the search.
use Rattle.std.proofs.Common.{◌≡◌, inl, inr, ℕ, ◌+◌, ◌≤◌, ◌<◌, List, [], ◌∷◌, length, true, subst, arith}
use Rattle.std.specs.Prelude.{◌≢◌}
use Rattle.std.specs.List.{AllZip}
use Rattle.tree_definitions.specs.Cover.{Pair}
use Rattle.tree_definitions.specs.Automaton.{Automaton}
use Rattle.tree_definitions.specs.Relation.{Holds}
use Rattle.tree_definitions.proofs.Members.{at_within}
use Rattle.tree_definitions.proofs.Counting.{length-map}
use Rattle.upward_search.specs.Search.{IsClosed, IsOf, IsStepped}
use Rattle.upward_search.proofs.Zips.{zip_map, at_length}
use Rattle.upward_search.proofs.Handled.{closed_more, closed_leaves}
use Rattle.antichain_up.specs.declared.search.Search.{Search}
use Rattle.antichain_up.specs.Entries.{Kept, Done, up_entry}
use Rattle.antichain_up.specs.Orders.{TwoOrders, AreOrders}
use Rattle.antichain_up.specs.SearchState.{IsGoing, Moves, HandlesAll, StepsFrom, entries_of}
use Rattle.antichain_up.proofs.Stepping.{at_map, below}

-- each step from entries that are done is covered by a kept one
abbrev pub Closed : Automaton → Automaton → TwoOrders → Search → Type 0
Closed A B orders s = IsClosed A B (Holds orders.left) (Holds orders.right) (entries_of s) (Kept s.entries) (Done s.entries s.next)

-- the next entry is taken
pub next_going : (A B : Automaton) (orders : TwoOrders) (budget : ℕ) (s : Search) → IsGoing A B orders budget s → s.next < length s.entries.rows → IsGoing A B orders budget (record s { next = s.next + 1 })
next_going A B orders budget s h l = record {
  sound = record { list = h.sound.list; states = h.sound.states; sets = h.sound.sets; wide = h.sound.wide; stored = h.sound.stored; next = omega arith };
  keeps = h.keeps;
  accept = h.accept;
  room = h.room;
}

-- an entry that was taken out has no steps
pub closed_skip : (A B : Automaton) (orders : TwoOrders) (s : Search) → Closed A B orders s → ¬ Kept s.entries s.next → Closed A B orders (record s { next = s.next + 1 })
closed_skip A B orders s h out ids pairs z = h ids pairs (zip_map (λ k pair m. (old k m.0, m.1)) ids pairs z)
  where
    old : (k : ℕ) → Kept s.entries k × (k < s.next + 1) → Kept s.entries k × (k < s.next)
    old k m = elim (below k s.next m.1) [ inl l ↦ (m.0, l) | inr e ↦ absurd (out (subst (λ j. Kept s.entries j) e m.0)) ]

-- once all steps with the next entry are made, it is done
pub closed_step : (A B : Automaton) (orders : TwoOrders) (budget : ℕ) (s s' : Search) → AreOrders (length A.states) (length B.states) orders → s.next < length s.entries.rows → Closed A B orders s → Moves (record s { next = s.next + 1 }) s' → IsGoing A B orders budget s'
    → HandlesAll A B orders s' s.next → Closed A B orders s'
closed_step A B orders budget s s' fixed l closed moves going handles =
    let x = at_within s.entries.rows s.next l in
    closed_more A B (Holds orders.left) (Holds orders.right) fixed.left_order fixed.right_order (entries_of s) (entries_of s') (Kept s.entries) (Kept s'.entries) (Done s.entries s.next) (Done s'.entries s'.next) s.next (up_entry s.store x.0)
    (at_map (up_entry s.store) s.entries.rows s.next x.0 x.1) moves.grows going.keeps closed fewer inside
    (λ a p kids rule m. handles x.0 a p kids (moves.stays s.next x.0 x.1) rule m)
  where
    many : length (entries_of s) ≡ length s.entries.rows
    many = length-map (up_entry s.store) s.entries.rows

    inside : (k : ℕ) → Done s'.entries s'.next k → k < length (entries_of s)
    inside k d = let m = many in let n = moves.next in let b = d.1 in omega arith

    fewer : (k : ℕ) → Done s'.entries s'.next k → k ≢ s.next → Done s.entries s.next k
    fewer k d ne = (moves.grows.no_more k (inside k d) d.0, (let n = moves.next in let b = d.1 in omega arith))

-- at the end all that is kept is done
pub closed_end : (A B : Automaton) (orders : TwoOrders) (budget : ℕ) (s : Search) → IsGoing A B orders budget s → length s.entries.rows ≤ s.next → Closed A B orders s
    → IsClosed A B (Holds orders.left) (Holds orders.right) (entries_of s) (Kept s.entries) (Kept s.entries)
closed_end A B orders budget s going all closed ids pairs z = closed ids pairs (zip_map (λ k pair m. ((m.0, inside k m.0), m.1)) ids pairs z)
  where
    inside : (k : ℕ) → Kept s.entries k → k < s.next
    inside k h = let l = at_length s.entries.kept k true h in let f = going.sound.list.flags in omega arith

-- after the leaf rules, with nothing done
pub closed_start : (A B : Automaton) (orders : TwoOrders) (s : Search) → AreOrders (length A.states) (length B.states) orders → s.next ≡ 0 → StepsFrom A B orders s [] [] → Closed A B orders s
closed_start A B orders s fixed first h = go h.0 h.1 h.3
  where
    go : (pairs : List Pair) → AllZip (IsOf (entries_of s) (λ k. Unit {0})) [] pairs → IsStepped A B (Holds orders.left) (Holds orders.right) (entries_of s) (Kept s.entries) pairs → Closed A B orders s
    go [] z k =
        closed_leaves A B (Holds orders.left) (Holds orders.right) fixed.left_order fixed.right_order (entries_of s) (Kept s.entries) (Done s.entries s.next)
        (λ j d. let l = d.1 in omega arith) k
    go (p ∷ ps) z k = absurd z
