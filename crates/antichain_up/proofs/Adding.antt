-- What one more entry makes of a search.
use Rattle.std.proofs.Common.{◌≡◌, inl, inr, ℕ, ◌+◌, ◌<◌, ◌≤◌, List, [], ◌∷◌, ◌++◌, length, map, refl, sym, ap, ◌∙◌, subst, arith, length-append}
use Rattle.std.specs.Prelude.{slice_index_or, All}
use Rattle.std.proofs.lemmas.List.Elements.{All-contains}
use Rattle.tree_definitions.specs.Automaton.{Automaton, IsState}
use Rattle.tree_definitions.specs.Relation.{Holds, Has, IsAt}
use Rattle.tree_definitions.specs.Cover.{FitsPair, Rejects}
use Rattle.tree_definitions.specs.UpTrail.{UpEntry, IsUpStep}
use Rattle.tree_definitions.proofs.Members.{contains_at}
use Rattle.tree_definitions.proofs.Counting.{length-map}
use Rattle.tree_definitions.proofs.Listing.{parent_state}
use Rattle.ta_model.specs.Macrostates.{row_at}
use Rattle.upward_search.specs.Search.{IsKeptOver, IsSearch, AllAccept}
use Rattle.upward_search.proofs.Covers.{adds_search, adds_grows, at_before, at_new, covers_itself}
use Rattle.upward_search.proofs.Zips.{at_push, at_push_cases}
use Rattle.antichain_up.specs.declared.search.Search.{Search}
use Rattle.antichain_up.specs.Entries.{EntryRow, EntryList, Added, Kept, up_entry}
use Rattle.antichain_up.specs.Orders.{TwoOrders}
use Rattle.antichain_up.specs.SearchState.{AreGiven, IsSound, IsGoing, IsRejected, IsFull, Moves, entries_of}
use Rattle.antichain_up.proofs.Stepping.{new_entry, at_index}

-- all of a list and one more
pub all_push : {X : Type 0} (P : X → Type 0) (xs : List X) (y : X) → All P xs → P y → All P (xs ++ y ∷ [])
all_push P xs y all one k d l =
    let at = at_index (xs ++ y ∷ []) k d l in
    elim (at_push_cases xs y k (slice_index_or (xs ++ y ∷ []) k d) at) [
      | inl h ↦ All-contains P xs (slice_index_or (xs ++ y ∷ []) k d) all (contains_at xs k (slice_index_or (xs ++ y ∷ []) k d) h)
      | inr h ↦ subst P h.1 one
    ]

module _ (A B : Automaton) (orders : TwoOrders) (budget state set symbol : ℕ) (kids : List ℕ) (s : Search)
    (given : AreGiven A B orders budget) (going : IsGoing A B orders budget s) (stored : set < length s.store.rows)
    (is_step : IsUpStep A B (entries_of s) (length s.entries.rows) (new_entry s.store state set symbol kids)) where
  pub in_range : IsState A state
  in_range = parent_state A given.left is_step.symbol (map (λ pair. pair.state) is_step.pairs) state is_step.rule

  fit : FitsPair A B (new_entry s.store state set symbol kids).pair
  fit = record { state = in_range; set = going.sound.sets.wide set [] stored ∙ going.sound.wide }

  many : length (entries_of s) ≡ length s.entries.rows
  many = length-map (up_entry s.store) s.entries.rows

  step_at : IsUpStep A B (entries_of s) (length (entries_of s)) (new_entry s.store state set symbol kids)
  step_at = subst (λ n. IsUpStep A B (entries_of s) n (new_entry s.store state set symbol kids)) (sym many) is_step

  module _ (list : EntryList) (new : ¬ IsKeptOver (Holds orders.left) (Holds orders.right) (entries_of s) (Kept s.entries) state (Has (row_at s.store set)))
      (added : Added (Holds orders.left) (Holds orders.right) s.store s.entries (record { state = state; set = set; symbol = symbol; kids = kids }) list) where
    -- the search with the new entry
    abbrev pub next : Search
    next = record s { entries = list }

    count : length list.rows ≡ length s.entries.rows + 1
    count = ap length added.rows ∙ length-append s.entries.rows (record { state = state; set = set; symbol = symbol; kids = kids } ∷ [])

    searched : IsSearch A B (Holds orders.left) (Holds orders.right) (entries_of next) (Kept list)
    searched =
        adds_search A B (Holds orders.left) (Holds orders.right) given.ordered.left_order given.ordered.right_order (entries_of s) (entries_of next) (Kept s.entries) (Kept list)
        (new_entry s.store state set symbol kids) added.adds going.keeps step_at fit new

    last_at : IsAt (entries_of next) (length (entries_of s)) (new_entry s.store state set symbol kids)
    last_at =
        at_new A B (Holds orders.left) (Holds orders.right) given.ordered.left_order given.ordered.right_order (entries_of s) (entries_of next) (Kept s.entries) (Kept list)
        (new_entry s.store state set symbol kids) added.adds

    pub moved : Moves s next
    moved = record {
      grows = adds_grows A B (Holds orders.left) (Holds orders.right) given.ordered.left_order given.ordered.right_order (entries_of s) (entries_of next) (Kept s.entries) (Kept list)
          (new_entry s.store state set symbol kids) added.adds;
      next = refl;
      longer = let c = count in omega arith;
      stays = λ k e at. subst (λ es. IsAt es k e) (sym added.rows) (at_push s.entries.rows (record { state = state; set = set; symbol = symbol; kids = kids }) k e at);
      store = record { states = refl; kept = λ k row at. at };
    }

    pub covered : IsKeptOver (Holds orders.left) (Holds orders.right) (entries_of next) (Kept list) state (Has (row_at s.store set))
    covered = (
      length (entries_of s),
      new_entry s.store state set symbol kids,
      added.adds.last,
      last_at,
      covers_itself A B (Holds orders.left) (Holds orders.right) given.ordered.left_order given.ordered.right_order (new_entry s.store state set symbol kids).pair fit,
    )

    accept : ¬ Rejects A B (new_entry s.store state set symbol kids).pair → AllAccept A B (entries_of next)
    accept never i entry e =
        elim (at_before A B (Holds orders.left) (Holds orders.right) given.ordered.left_order given.ordered.right_order (entries_of s) (entries_of next) (Kept s.entries) (Kept list)
        (new_entry s.store state set symbol kids) added.adds i entry e) [
          | inl h ↦ going.accept i entry h
          | inr h ↦ subst (λ (x : UpEntry). ¬ Rejects A B x.pair) h.1 never
        ]

    sound : IsSound A B next
    sound = record {
      list = record {
        flags = added.flags;
        states = subst (λ n. All (λ (e : EntryRow). e.state < n) list.rows) (sym added.states)
            (subst (λ es. All (λ (e : EntryRow). e.state < s.entries.states) es) (sym added.rows)
            (all_push (λ (e : EntryRow). e.state < s.entries.states) s.entries.rows (record { state = state; set = set; symbol = symbol; kids = kids }) going.sound.list.states
            (let l = in_range in let e = going.sound.states in omega arith)));
        few = let c = count in let r = going.room in let f = given.few in omega arith;
      };
      states = added.states ∙ going.sound.states;
      sets = going.sound.sets;
      wide = going.sound.wide;
      stored = subst (λ es. All (λ (e : EntryRow). e.set < length s.store.rows) es) (sym added.rows)
          (all_push (λ (e : EntryRow). e.set < length s.store.rows) s.entries.rows (record { state = state; set = set; symbol = symbol; kids = kids }) going.sound.stored stored);
      next = let l = going.sound.next in let c = count in omega arith;
    }

    pub rejected : Rejects A B (new_entry s.store state set symbol kids).pair → IsRejected A B orders next
    rejected h = record {
      keeps = searched;
      last = length (entries_of s);
      entry = new_entry s.store state set symbol kids;
      stands = last_at;
      count = count ∙ ap (λ n. n + 1) (sym many);
      rejects = h;
    }

    pub full : ¬ Rejects A B (new_entry s.store state set symbol kids).pair → budget < length list.rows → IsFull A B orders budget next
    full never over = record {
      sound = sound;
      keeps = searched;
      accept = accept never;
      count = let c = count in let r = going.room in omega arith;
    }

    pub goes_on : ¬ Rejects A B (new_entry s.store state set symbol kids).pair → length list.rows ≤ budget → IsGoing A B orders budget next
    goes_on never room = record { sound = sound; keeps = searched; accept = accept never; room = room }
