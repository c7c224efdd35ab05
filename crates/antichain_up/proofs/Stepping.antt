-- What stays true as steps are offered.
use Rattle.std.proofs.Common.{◌≡◌, ◌⊎◌, inl, inr, ℕ, zero, suc, ◌+◌, ◌<◌, ◌≤◌, List, [], ◌∷◌, length, map, Some, refl, sym, ap, ◌∙◌, subst, arith}
use Rattle.std.specs.Prelude.{slice_index_or, Contains, All}
use Rattle.std.specs.List.{AllZip}
use Rattle.std.proofs.lemmas.List.Elements.{All-contains}
use Rattle.tree_definitions.specs.Tree.{Symbol}
use Rattle.tree_definitions.specs.Automaton.{Automaton, HasRule, IsNumber, IsState}
use Rattle.tree_definitions.specs.Relation.{Holds, Row, Has, IsAt, AreEqual}
use Rattle.tree_definitions.specs.Cover.{Pair, Post}
use Rattle.tree_definitions.specs.UpTrail.{UpEntry, IsUpStep, HasPairBefore}
use Rattle.tree_definitions.proofs.Members.{at_within, at_unique, place_of, contains_at}
use Rattle.tree_definitions.proofs.Counting.{length-map}
use Rattle.ta_model.specs.declared.joint.UpGroup.{UpGroup}
use Rattle.ta_model.specs.Macrostates.{Macrostates, AreMacrostates, StoreGrows, row_at}
use Rattle.ta_model.specs.UpGroups.{IsUpGroup, AreUpGroups}
use Rattle.upward_search.specs.Search.{IsKeptOver, Grows, IsSearch, AllAccept}
use Rattle.upward_search.proofs.Covers.{kept_over_grows}
use Rattle.upward_search.proofs.Zips.{at_length, zip_map}
use Rattle.antichain_up.specs.declared.search.Search.{Search}
use Rattle.antichain_up.specs.declared.search.Progress.{Progress}
use Rattle.antichain_up.specs.Entries.{EntryRow, EntryList, IsEntryList, AreStored, Kept, up_entry}
use Rattle.antichain_up.specs.Orders.{TwoOrders, AreOrders}
use Rattle.antichain_up.specs.SearchState.{IsGoing, IsAfter, IsSound, Moves, ArePicked, StepsFrom, entries_of}

-- an entry to come
abbrev pub new_entry : Macrostates → ℕ → ℕ → ℕ → List ℕ → UpEntry
new_entry store state set symbol kids = up_entry store (record { state = state; set = set; symbol = symbol; kids = kids })

-- a map at a place
pub at_map : {X Y : Type 0} (f : X → Y) (xs : List X) (k : ℕ) (x : X) → IsAt xs k x → IsAt (map f xs) k (f x)
at_map f [] k x e = absurd cc
at_map f (y ∷ ys) zero x e = let same : y ≡ x = cc in ap (λ z. Some (f z)) same
at_map f (y ∷ ys) (suc k) x e = at_map f ys k x e

pub at_row : (store : Macrostates) (k : ℕ) (row : Row) → IsAt store.rows k row → row_at store k ≡ row
at_row store k row e = go store.rows k e
  where
    go : (rows : List Row) (k : ℕ) → IsAt rows k row → slice_index_or rows k [] ≡ row
    go [] k e = absurd cc
    go (r ∷ rs) zero e = cc
    go (r ∷ rs) (suc k) e = go rs k e

-- the set of an entry is stored
pub stored_at : (store : Macrostates) (list : EntryList) → AreStored store list → (k : ℕ) (e : EntryRow) → IsAt list.rows k e → e.set < length store.rows
stored_at store list stored k e at = All-contains (λ (x : EntryRow). x.set < length store.rows) list.rows e stored (contains_at list.rows k e at)

-- the state of an entry is one of the left states
pub state_at : (list : EntryList) → IsEntryList list → (k : ℕ) (e : EntryRow) → IsAt list.rows k e → e.state < list.states
state_at list is k e at = All-contains (λ (x : EntryRow). x.state < list.states) list.rows e is.states (contains_at list.rows k e at)

-- the entries' pairs are the same in a store that has grown
pub entries_same : (old new : Macrostates) → StoreGrows old new → (es : List EntryRow) → ((k : ℕ) (e : EntryRow) → IsAt es k e → e.set < length old.rows)
    → map (up_entry old) es ≡ map (up_entry new) es
entries_same old new grow [] h = refl
entries_same old new grow (e ∷ es) h = cong2 (one e (h 0 e refl)) (entries_same old new grow es (λ k x at. h (suc k) x at))
  where
    one : (e : EntryRow) → e.set < length old.rows → up_entry old e ≡ up_entry new e
    one e l =
        let row = at_within old.rows e.set l in
        let same : row_at old e.set ≡ row_at new e.set = at_row old e.set row.0 row.1 ∙ sym (at_row new e.set row.0 (grow.kept e.set row.0 row.1)) in
        ap (λ r. let entry : UpEntry = record { pair = record { state = e.state; set = r }; symbol = e.symbol; kids = e.kids } in entry) same

    cong2 : {x y : UpEntry} {xs ys : List UpEntry} → x ≡ y → xs ≡ ys → x ∷ xs ≡ y ∷ ys
    cong2 p q = cc

-- the pairs of chosen entries
pub record PickedPairs (s : Search) (kids chosen sets : List ℕ) : Type 0 where
  pub pairs : List Pair
  pub named : AllZip (HasPairBefore (entries_of s) (length s.entries.rows)) chosen pairs
  pub states : map (λ pair. pair.state) pairs ≡ kids
  pub rows : map (λ pair. pair.set) pairs ≡ map (row_at s.store) sets

pub picked_pairs : (s : Search) (kids chosen sets : List ℕ) → length chosen ≡ length kids → length sets ≡ length kids → ArePicked s kids chosen sets (length kids)
    → PickedPairs s kids chosen sets
picked_pairs s [] [] [] lc ls picked = record { pairs = []; named = tt; states = refl; rows = refl }
picked_pairs s [] (k ∷ ks) sets lc ls picked = absurd (omega arith)
picked_pairs s [] [] (m ∷ ms) lc ls picked = absurd (omega arith)
picked_pairs s (q ∷ qs) [] sets lc ls picked = absurd (omega arith)
picked_pairs s (q ∷ qs) (k ∷ ks) [] lc ls picked = absurd (omega arith)
picked_pairs s (q ∷ qs) (k ∷ ks) (m ∷ ms) lc ls picked =
    let e = picked 0 k q m (omega arith) refl refl refl in
    let rest = picked_pairs s qs ks ms (omega arith) (omega arith) (λ i x y z l a b c. picked (suc i) x y z (omega arith) a b c) in
    let pair : Pair = record { state = e.0.state; set = row_at s.store e.0.set } in
    record {
      pairs = pair ∷ rest.pairs;
      named = ((at_length s.entries.rows k e.0 e.1, (up_entry s.store e.0, at_map (up_entry s.store) s.entries.rows k e.0 e.1, refl)), rest.named);
      states = let a = e.2 in let b = rest.states in cc;
      rows = let a = ap (row_at s.store) e.3 in let b = rest.rows in cc;
    }

-- named entries stay named
pub later_named : (s s' : Search) → Moves s s' → (chosen : List ℕ) (pairs : List Pair) → AllZip (HasPairBefore (entries_of s) (length s.entries.rows)) chosen pairs
    → AllZip (HasPairBefore (entries_of s') (length s'.entries.rows)) chosen pairs
later_named s s' moves chosen pairs z =
    zip_map (λ k pair h. (let l = h.0 in let m = moves.longer in omega arith, (h.1.0, moves.grows.stay k h.1.0 h.1.1, h.1.2))) chosen pairs z

module _ (A B : Automaton) (orders : TwoOrders) (s s' : Search) (kids chosen sets : List ℕ) (picked : PickedPairs s kids chosen sets) (moves : Moves s s') where
  -- a parent of a group is a step from the chosen entries
  pub group_step : (a : Symbol) (group : UpGroup) (p : ℕ) → IsNumber A.bits A.symbols group.symbol a → IsUpGroup A B kids (map (row_at s.store) sets) s'.store a group → Contains group.parents.items p
      → IsUpStep A B (entries_of s') (length s'.entries.rows) (new_entry s'.store p group.set group.symbol chosen)
  group_step a group p number is m = record {
    symbol = a;
    stands = number;
    pairs = picked.pairs;
    named = later_named s s' moves chosen picked.pairs picked.named;
    rule = subst (λ ks. HasRule A a ks p) (sym picked.states) ((is.parents p).0 m);
    set = subst (λ rows. AreEqual (Has (row_at s'.store group.set)) (Post B a rows)) (sym picked.rows) is.set;
  }

  -- once each parent of each group is covered, so is each step
  pub groups_stepped : (groups : List UpGroup) → AreUpGroups A B kids (map (row_at s.store) sets) s'.store groups
      → ((group : UpGroup) → Contains groups group → (p : ℕ) → Contains group.parents.items p
      → IsKeptOver (Holds orders.left) (Holds orders.right) (entries_of s') (Kept s'.entries) p (Has (row_at s'.store group.set)))
      → StepsFrom A B orders s' kids chosen
  groups_stepped groups are covered =
      (picked.pairs, zip_map (λ k pair h. (tt, h.1)) chosen picked.pairs (later_named s s' moves chosen picked.pairs picked.named), picked.states, each)
    where
      each : (a : Symbol) (p : ℕ) → HasRule A a (map (λ pair. pair.state) picked.pairs) p
          → IsKeptOver (Holds orders.left) (Holds orders.right) (entries_of s') (Kept s'.entries) p (Post B a (map (λ pair. pair.set) picked.pairs))
      each a p rule =
          let here : HasRule A a kids p = subst (λ ks. HasRule A a ks p) picked.states rule in
          let found = are.covering a p here in
          let is = found.2 in
          let cover = covered found.0 found.1 p ((is.parents p).1 here) in
          let equal : AreEqual (Has (row_at s'.store found.0.set)) (Post B a (map (λ pair. pair.set) picked.pairs)) =
          subst (λ rows. AreEqual (Has (row_at s'.store found.0.set)) (Post B a rows)) (sym picked.rows) is.set in
          (cover.0, cover.1, cover.2, cover.3, record { state = cover.4.state; set = λ x m. let b = cover.4.set x m in (b.0, (equal b.0).0 b.1, b.2) })

-- a store that has grown changes no entry
pub regrouped : (A B : Automaton) (orders : TwoOrders) (budget : ℕ) (s : Search) (store : Macrostates) → IsGoing A B orders budget s → StoreGrows s.store store
    → AreMacrostates store → IsGoing A B orders budget (record s { store = store })
regrouped A B orders budget s store going grow are = record {
  sound = record {
    list = going.sound.list;
    states = going.sound.states;
    sets = are;
    wide = grow.states ∙ going.sound.wide;
    stored = λ k d l. longer (slice_index_or s.entries.rows k d).set (going.sound.stored k d l);
    next = going.sound.next;
  };
  keeps = subst (λ es. IsSearch A B (Holds orders.left) (Holds orders.right) es (Kept s.entries)) same going.keeps;
  accept = subst (λ es. AllAccept A B es) same going.accept;
  room = going.room;
}
  where
    longer : (m : ℕ) → m < length s.store.rows → m < length store.rows
    longer m l = let row = at_within s.store.rows m l in at_length store.rows m row.0 (grow.kept m row.0 row.1)

    same : map (up_entry s.store) s.entries.rows ≡ map (up_entry store) s.entries.rows
    same = entries_same s.store store grow s.entries.rows (stored_at s.store s.entries going.sound.stored)

pub regroup_moves : (A B : Automaton) (s : Search) (store : Macrostates) → IsSound A B s → StoreGrows s.store store → Moves s (record s { store = store })
regroup_moves A B s store sound grow = record {
  grows = subst (λ es. Grows (entries_of s) (Kept s.entries) es (Kept s.entries)) (entries_same s.store store grow s.entries.rows (stored_at s.store s.entries sound.stored))
      (record { stay = λ k entry e. e; no_more = λ k l h. h });
  next = refl;
  longer = omega arith;
  stays = λ k e at. at;
  store = grow;
}

pub moves_on : (x y z : Search) → Moves x y → Moves y z → Moves x z
moves_on x y z m n = record {
  grows = record {
    stay = λ k entry e. n.grows.stay k entry (m.grows.stay k entry e);
    no_more = λ k l h. m.grows.no_more k l (n.grows.no_more k (longer k l) h);
  };
  next = n.next ∙ m.next;
  longer = let a = m.longer in let b = n.longer in omega arith;
  stays = λ k e at. n.stays k e (m.stays k e at);
  store = record { states = n.store.states ∙ m.store.states; kept = λ k row at. n.store.kept k row (m.store.kept k row at) };
}
  where
    longer : (k : ℕ) → k < length (entries_of x) → k < length (entries_of y)
    longer k l = let a = m.longer in let b = length-map (up_entry x.store) x.entries.rows in let c = length-map (up_entry y.store) y.entries.rows in omega arith

-- the same pair stays covered
pub still_covered : (A B : Automaton) (orders : TwoOrders) (s s' : Search) → AreOrders (length A.states) (length B.states) orders → Moves s s' → IsSearch A B (Holds orders.left) (Holds orders.right) (entries_of s') (Kept s'.entries)
    → (p : ℕ) (row : Row) → IsKeptOver (Holds orders.left) (Holds orders.right) (entries_of s) (Kept s.entries) p (Has row) → IsKeptOver (Holds orders.left) (Holds orders.right) (entries_of s') (Kept s'.entries) p (Has row)
still_covered A B orders s s' fixed moves is p row h =
    kept_over_grows A B (Holds orders.left) (Holds orders.right) fixed.left_order fixed.right_order (entries_of s) (entries_of s') (Kept s.entries) (Kept s'.entries) moves.grows is p (Has row) h

pub at_index : {X : Type 0} (xs : List X) (k : ℕ) (d : X) → k < length xs → IsAt xs k (slice_index_or xs k d)
at_index [] k d l = absurd (omega arith)
at_index (x ∷ xs) zero d l = refl
at_index (x ∷ xs) (suc k) d l = at_index xs k d (omega arith)

pub below : (i n : ℕ) → i < n + 1 → (i < n) ⊎ (i ≡ n)
below i n l = grind arith

-- the automata are the same after a call
pub going_at : (A B A' B' : Automaton) (orders : TwoOrders) (budget : ℕ) (s : Search) → A' ≡ A → B' ≡ B → IsGoing A B orders budget s → IsGoing A' B' orders budget s
going_at A B A' B' orders budget s a b h = subst (λ x. IsGoing x B' orders budget s) (sym a) (subst (λ y. IsGoing A y orders budget s) (sym b) h)

pub after_at : (A B A' B' : Automaton) (orders : TwoOrders) (budget : ℕ) (p : Progress) (s : Search) → A' ≡ A → B' ≡ B → IsAfter A' B' orders budget p s → IsAfter A B orders budget p s
after_at A B A' B' orders budget p s a b h = subst (λ x. IsAfter x B orders budget p s) a (subst (λ y. IsAfter A' y orders budget p s) b h)

pub step_at : (A B A' B' : Automaton) (entries : List UpEntry) (n : ℕ) (entry : UpEntry) → A' ≡ A → B' ≡ B → IsUpStep A B entries n entry → IsUpStep A' B' entries n entry
step_at A B A' B' entries n entry a b h = subst (λ x. IsUpStep x B' entries n entry) (sym a) (subst (λ y. IsUpStep A y entries n entry) (sym b) h)

-- the parents of a group, all covered
pub all_parents : (orders : TwoOrders) (s : Search) (group : UpGroup) (items : List ℕ) (n : ℕ) → items ≡ group.parents.items → length items ≤ n
    → ((i p : ℕ) → i < n → IsAt items i p → IsKeptOver (Holds orders.left) (Holds orders.right) (entries_of s) (Kept s.entries) p (Has (row_at s.store group.set)))
    → (p : ℕ) → Contains group.parents.items p → IsKeptOver (Holds orders.left) (Holds orders.right) (entries_of s) (Kept s.entries) p (Has (row_at s.store group.set))
all_parents orders s group items n same all h p m =
    let at = place_of group.parents.items p m in
    let at' : IsAt items at.0 p = subst (λ xs. IsAt xs at.0 p) (sym same) at.1 in
    let l = at_length items at.0 p at' in
    h at.0 p (omega arith) at'

-- one more group
pub more_groups : (orders : TwoOrders) (s : Search) (groups : List UpGroup) (n : ℕ) (group : UpGroup) → IsAt groups n group
    → ((i : ℕ) (x : UpGroup) → i < n → IsAt groups i x → (p : ℕ) → Contains x.parents.items p → IsKeptOver (Holds orders.left) (Holds orders.right) (entries_of s) (Kept s.entries) p (Has (row_at s.store x.set)))
    → ((p : ℕ) → Contains group.parents.items p → IsKeptOver (Holds orders.left) (Holds orders.right) (entries_of s) (Kept s.entries) p (Has (row_at s.store group.set)))
    → (i : ℕ) (x : UpGroup) → i < n + 1 → IsAt groups i x → (p : ℕ) → Contains x.parents.items p → IsKeptOver (Holds orders.left) (Holds orders.right) (entries_of s) (Kept s.entries) p (Has (row_at s.store x.set))
more_groups orders s groups n group at old new i x l e = elim (below i n l) [
  | inl k ↦ old i x k e
  | inr k ↦
      let same : group ≡ x = at_unique groups n group x at (subst (λ j. IsAt groups j x) k e) in
      subst (λ (y : UpGroup). (p : ℕ) → Contains y.parents.items p → IsKeptOver (Holds orders.left) (Holds orders.right) (entries_of s) (Kept s.entries) p (Has (row_at s.store y.set))) same new
]

-- what is covered before an offer is covered after it
pub offered : (A B : Automaton) (orders : TwoOrders) (s s' : Search) → AreOrders (length A.states) (length B.states) orders → Moves s s' → s'.store ≡ s.store → IsSearch A B (Holds orders.left) (Holds orders.right) (entries_of s') (Kept s'.entries)
    → (p set : ℕ) → IsKeptOver (Holds orders.left) (Holds orders.right) (entries_of s) (Kept s.entries) p (Has (row_at s.store set)) → IsKeptOver (Holds orders.left) (Holds orders.right) (entries_of s') (Kept s'.entries) p (Has (row_at s'.store set))
offered A B orders s s' fixed moves same is p set h =
    subst (λ rows. IsKeptOver (Holds orders.left) (Holds orders.right) (entries_of s') (Kept s'.entries) p (Has (row_at rows set))) (sym same)
    (still_covered A B orders s s' fixed moves is p (row_at s.store set) h)

-- one more parent
pub more_parents : (A B : Automaton) (orders : TwoOrders) (s s' : Search) → AreOrders (length A.states) (length B.states) orders → Moves s s' → s'.store ≡ s.store → IsSearch A B (Holds orders.left) (Holds orders.right) (entries_of s') (Kept s'.entries)
    → (items : List ℕ) (n set : ℕ) → n < length items
    → ((i p : ℕ) → i < n → IsAt items i p → IsKeptOver (Holds orders.left) (Holds orders.right) (entries_of s) (Kept s.entries) p (Has (row_at s.store set)))
    → IsKeptOver (Holds orders.left) (Holds orders.right) (entries_of s') (Kept s'.entries) (slice_index_or items n 0) (Has (row_at s.store set))
    → (i p : ℕ) → i < n + 1 → IsAt items i p → IsKeptOver (Holds orders.left) (Holds orders.right) (entries_of s') (Kept s'.entries) p (Has (row_at s'.store set))
more_parents A B orders s s' fixed moves same is items n set inside old new i p l e = elim (below i n l) [
  | inl k ↦ offered A B orders s s' fixed moves same is p set (old i p k e)
  | inr k ↦
      let value : slice_index_or items n 0 ≡ p = at_unique items n (slice_index_or items n 0) p (at_index items n 0 inside) (subst (λ j. IsAt items j p) k e) in
      subst (λ x. IsKeptOver (Holds orders.left) (Holds orders.right) (entries_of s') (Kept s'.entries) x (Has (row_at s'.store set))) value
      (subst (λ rows. IsKeptOver (Holds orders.left) (Holds orders.right) (entries_of s') (Kept s'.entries) (slice_index_or items n 0) (Has (row_at rows set))) (sym same) new)
]

pub within : {X : Type 0} (xs : List X) (k : ℕ) (x : X) → IsAt xs k x → (n : ℕ) → length xs ≤ n → k < n
within xs k x at n l = let m = at_length xs k x at in omega arith

-- the chosen sets are stored
pub picked_sets : (A B : Automaton) (orders : TwoOrders) (budget : ℕ) (s : Search) (kids chosen sets : List ℕ) → IsGoing A B orders budget s → length chosen ≡ length kids → length sets ≡ length kids
    → ArePicked s kids chosen sets (length kids) → All (λ k. k < length s.store.rows) sets
picked_sets A B orders budget s kids chosen sets going lc ls picked k d l =
    let a = at_within chosen k (omega arith) in
    let b = at_within kids k (omega arith) in
    let e = picked k a.0 b.0 (slice_index_or sets k d) (omega arith) a.1 b.1 (at_index sets k d l) in
    let n = stored_at s.store s.entries going.sound.stored a.0 e.0 e.1 in
    let same = e.3 in
    omega arith

-- and the children are left states
pub picked_kids : (A B : Automaton) (orders : TwoOrders) (budget : ℕ) (s : Search) (kids chosen sets : List ℕ) → IsGoing A B orders budget s → length chosen ≡ length kids → length sets ≡ length kids
    → ArePicked s kids chosen sets (length kids) → All (IsState A) kids
picked_kids A B orders budget s kids chosen sets going lc ls picked k d l =
    let a = at_within chosen k (omega arith) in
    let b = at_within sets k (omega arith) in
    let e = picked k a.0 (slice_index_or kids k d) b.0 l a.1 (at_index kids k d l) b.1 in
    let n = state_at s.entries going.sound.list a.0 e.0 e.1 in
    let same = e.2 in
    let states = going.sound.states in
    omega arith
