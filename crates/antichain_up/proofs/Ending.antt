-- What the ends of a search answer.
use Rattle.std.proofs.Common.{◌≡◌, ◌⊎◌, inl, inr, ℕ, ◌+◌, ◌*◌, ◌^◌, ◌≤◌, ◌<◌, List, [], length, map, refl, sym, ap, ◌∙◌, subst, arith}
use Rattle.std.specs.Prelude.{slice_index_or, All}
use Rattle.tree_definitions.specs.Tree.{Symbol, Tree}
use Rattle.tree_definitions.specs.Automaton.{Automaton, IsAutomaton, IsNarrow, IsNumber}
use Rattle.tree_definitions.specs.Joint.{joint_symbols}
use Rattle.tree_definitions.specs.Relation.{Matrix, Holds, Has, IsAt, IsSquare}
use Rattle.tree_definitions.specs.Simulation.{IsUp}
use Rattle.tree_definitions.specs.Cover.{Pair, FitsPair, CoversUp}
use Rattle.tree_definitions.specs.UpCert.{UpCert}
use Rattle.tree_definitions.specs.UpTrail.{UpEntry, UpTrail, IsUpStep, HasPairBefore}
use Rattle.tree_definitions.specs.Witness.{NodeRow, FitsNode, AreNodes, IsTreeOf, NoCert}
use Rattle.tree_definitions.proofs.Counting.{length-map}
use Rattle.tree_definitions.proofs.Listing.{rank_of, at_number}
use Rattle.tree_definitions.proofs.Members.{at_within, at_unique, contains_at}
use Rattle.ta_model.specs.Macrostates.{Macrostates}
use Rattle.listed_pairs.specs.Order.{AreRising}
use Rattle.witness_trees.specs.Nodes.{NodeList, IsNodeList}
use Rattle.certificate_kinds.specs.Certificates.{FitsRelation, FitsUp, FitsTree, FitsUpTrail}
use Rattle.upward_search.specs.Search.{IsOrder, IsClosed, ListsKept}
use Rattle.upward_search.proofs.Covers.{covers_itself}
use Rattle.upward_search.proofs.Ends.{closed_at_end_means_UpCert, full_means_UpTrail, no_trail}
use Rattle.upward_search.proofs.EntryTrees.{rejects_means_NoCert}
use Rattle.upward_search.proofs.Handled.{zip_length, zip_member}
use Rattle.upward_search.proofs.Zips.{at_length}
use Rattle.antichain_up.specs.declared.search.Search.{Search}
use Rattle.antichain_up.specs.Entries.{EntryRow, EntryList, AreApart, Kept, node_rows, up_entry}
use Rattle.antichain_up.specs.Orders.{TwoOrders, AreOrders, IsUpOrder}
use Rattle.antichain_up.specs.SearchState.{IsGoing, IsRejected, IsFull, entries_of}
use Rattle.antichain_up.proofs.Joined.{joint_at}
use Rattle.antichain_up.proofs.Listed.{rising_apart}
use Rattle.antichain_up.proofs.Stepping.{at_map, at_index}

abbrev empty_store : ℕ → Macrostates
empty_store n = record { states = n; rows = [] }

abbrev empty_list : ℕ → EntryList
empty_list n = record { states = n; rows = []; kept = [] }

-- a search without entries
abbrev pub empty : Automaton → Automaton → Search
empty A B = record { store = record { states = length B.states; rows = [] }; entries = record { states = length A.states; rows = []; kept = [] }; next = 0 }

pub empty_going : (A B : Automaton) (orders : TwoOrders) (budget : ℕ) → IsGoing A B orders budget (empty A B)
empty_going A B orders budget = record {
  sound = record {
    list = record { flags = refl; states = λ k d l. absurd (omega arith); few = omega arith };
    states = refl;
    sets = record { wide = λ k d l. absurd (omega arith); distinct = λ i j d l m. absurd (omega arith) };
    wide = refl;
    stored = λ k d l. absurd (omega arith);
    next = omega arith;
  };
  keeps = record {
    steps = λ i x at. absurd (none i x at);
    fits = λ i x at. absurd (none i x at);
    fresh = λ i j x y l at. absurd (none i x at);
    covered = λ i x at. absurd (none i x at);
    apart = λ i j x y l a b at. absurd (none i x at);
  };
  accept = λ i x at. absurd (none i x at);
  room = omega arith;
}
  where
    none : (k : ℕ) (x : UpEntry) → IsAt [] k x → ⊥
    none k x at = absurd cc

-- the same of a store and entries without any
pub empty_at : (A B : Automaton) (orders : TwoOrders) (budget m n : ℕ) (store : Macrostates) (list : EntryList) → m ≡ length A.states → n ≡ length B.states
    → store ≡ record { states = n; rows = [] } → list ≡ record { states = m; rows = []; kept = [] } → IsGoing A B orders budget (record { store = store; entries = list; next = 0 })
empty_at A B orders budget m n store list left right same_store same_list =
    subst (λ (x : Macrostates). IsGoing A B orders budget (record { store = x; entries = list; next = 0 })) (sym (same_store ∙ stores right))
    (subst (λ (x : EntryList). IsGoing A B orders budget (record { store = record { states = length B.states; rows = [] }; entries = x; next = 0 })) (sym (same_list ∙ lists left)) (empty_going A B orders budget))
  where
    stores : {i k : ℕ} → i ≡ k → empty_store i ≡ empty_store k
    stores e = ap empty_store e

    lists : {i k : ℕ} → i ≡ k → empty_list i ≡ empty_list k
    lists e = ap empty_list e

three : (i j : ℕ) → (i < j) ⊎ ((j < i) ⊎ (i ≡ j))
three i j = grind arith

abbrev node_of : EntryRow → NodeRow
node_of e = record { symbol = e.symbol; kids = e.kids }

-- an entry is a step from earlier ones: it has a symbol, and as many children as its rank
module _ (A B : Automaton) (fits : IsAutomaton A) (entries : List UpEntry) (k : ℕ) (entry : UpEntry) (is : IsUpStep A B entries k entry) where
  step_number : (a : Symbol) × IsNumber A.bits A.symbols entry.symbol a × (length entry.kids ≡ a.rank)
  step_number = (
    is.symbol,
    is.stands,
    zip_length (HasPairBefore entries k) entry.kids is.pairs is.named ∙ sym (length-map (λ (pair : Pair). pair.state) is.pairs)
        ∙ rank_of A fits is.symbol (map (λ pair. pair.state) is.pairs) entry.pair.state is.rule,
  )

  step_earlier : All (λ j. j < k) entry.kids
  step_earlier i d l =
      let m = contains_at entry.kids i (slice_index_or entry.kids i d) (at_index entry.kids i d l) in
      (zip_member (HasPairBefore entries k) entry.kids is.pairs is.named (slice_index_or entry.kids i d) m).2.0

module _ (A B : Automaton) (orders : TwoOrders) (budget : ℕ) (s : Search) where
  many : length (entries_of s) ≡ length s.entries.rows
  many = length-map (up_entry s.store) s.entries.rows

  -- no two kept entries have one pair, since an entry covers itself
  pub pairs_apart : AreOrders (length A.states) (length B.states) orders → IsGoing A B orders budget s → AreApart s.store s.entries
  pairs_apart ordered going i j x y ki kj at_x at_y same = elim (three i j) [
    | inl l ↦ absurd (going.keeps.fresh j i y x l at_y at_x (over x y j at_y same))
    | inr h ↦ elim h [
      | inl l ↦ absurd (going.keeps.fresh i j x y l at_x at_y (over y x i at_x (sym same)))
      | inr e ↦ e
    ]
  ]
    where
      over : (u v : UpEntry) (k : ℕ) → IsAt (entries_of s) k v → u.pair ≡ v.pair → CoversUp (Holds orders.left) (Holds orders.right) u.pair v.pair.state (Has v.pair.set)
      over u v k at e =
          subst (λ (p : Pair). CoversUp (Holds orders.left) (Holds orders.right) p v.pair.state (Has v.pair.set)) (sym e)
          (covers_itself A B (Holds orders.left) (Holds orders.right) ordered.left_order ordered.right_order v.pair (going.keeps.fits k v at))

  pub up_answer : IsGoing A B orders budget s → IsUp A (Holds orders.left) → IsUp B (Holds orders.right)
      → IsClosed A B (Holds orders.left) (Holds orders.right) (entries_of s) (Kept s.entries) (Kept s.entries)
      → (X : List Pair) → ListsKept (entries_of s) (Kept s.entries) X → AreRising X → UpCert A B (Holds orders.left) (Holds orders.right) X
  up_answer going ul ur closed X lists rising =
      closed_at_end_means_UpCert A B (Holds orders.left) (Holds orders.right) (entries_of s) (Kept s.entries) going.keeps going.accept ul ur closed X lists (rising_apart X rising)

  pub up_fits : IsGoing A B orders budget s → budget ≤ 1000000 → FitsRelation (length A.states) orders.left → FitsRelation (length B.states) orders.right
      → (X : List Pair) → ListsKept (entries_of s) (Kept s.entries) X → AreRising X → length X ≤ length s.entries.rows → FitsUp A B orders.left orders.right X
  up_fits going few left right X lists rising fewer = record {
    left = left;
    right = right;
    pairs = record {
      each = λ k d l.
          let pair = slice_index_or X k d in
          let h = (lists pair).0 (contains_at X k pair (at_index X k d l)) in
          subst (FitsPair A B) h.1.1.2 (going.keeps.fits h.0 h.1.1.0 h.1.1.1);
      rising = rising;
      few = let r = going.room in omega arith;
    };
  }

  -- an entry's node
  node_at : (i : ℕ) (x : UpEntry) → IsAt (entries_of s) i x → IsAt (node_rows s.entries) i (record { symbol = x.symbol; kids = x.kids })
  node_at i x at =
      let l = at_length (entries_of s) i x at in
      let n = many in
      let e = at_within s.entries.rows i (omega arith) in
      let same : up_entry s.store e.0 ≡ x = at_unique (entries_of s) i (up_entry s.store e.0) x (at_map (up_entry s.store) s.entries.rows i e.0 e.1) at in
      subst (λ (y : UpEntry). IsAt (node_rows s.entries) i (record { symbol = y.symbol; kids = y.kids })) same (at_map node_of s.entries.rows i e.0 e.1)

  -- the entries are nodes
  pub entry_nodes : IsAutomaton A → IsNarrow A → IsRejected A B orders s → (symbols : List Symbol) → symbols ≡ joint_symbols A.symbols B.symbols → AreNodes symbols (node_rows s.entries)
  entry_nodes fits narrow h symbols joint k node here =
      let l = at_length (node_rows s.entries) k node here in
      let n = length-map node_of s.entries.rows in
      let e = at_within s.entries.rows k (omega arith) in
      let entry : UpEntry = up_entry s.store e.0 in
      let is = h.keeps.steps k entry (at_map (up_entry s.store) s.entries.rows k e.0 e.1) in
      let found = step_number A B fits (entries_of s) k entry is in
      let at : IsAt A.symbols e.0.symbol found.0 = at_number A.bits A.symbols e.0.symbol found.0 narrow found.1 in
      let fitting : FitsNode symbols k (node_of e.0) = record {
        symbol = (found.0, subst (λ xs. IsAt xs e.0.symbol found.0) (sym joint) (joint_at A.symbols B.symbols e.0.symbol found.0 at), found.2);
        earlier = step_earlier A B fits (entries_of s) k entry is;
      } in
      subst (λ x. FitsNode symbols k x) (at_unique (node_rows s.entries) k (node_of e.0) node (at_map node_of s.entries.rows k e.0 e.1) here) fitting

  -- the tree of the last entry, as that of the last of some nodes
  pub tree_answer : IsNarrow A → IsRejected A B orders s → (symbols : List Symbol) → symbols ≡ joint_symbols A.symbols B.symbols → (n : NodeList)
      → ((k : ℕ) (t : Tree) → length s.entries.rows ≡ k + 1 → IsTreeOf symbols (node_rows s.entries) k t → (last : ℕ) × (length n.rows ≡ last + 1) × IsTreeOf n.symbols n.rows last t)
      → NoCert A B n.symbols n.rows
  tree_answer narrow h symbols joint n moved =
      let size = length-map node_of s.entries.rows in
      let cert = rejects_means_NoCert A B (entries_of s) h.keeps.steps symbols (node_rows s.entries)
      (λ k a label. subst (λ xs. IsAt xs k a) (sym joint) (joint_at A.symbols B.symbols k a (at_number A.bits A.symbols k a narrow label)))
      node_at h.last h.entry h.stands (size ∙ h.count) h.rejects in
      let now = moved cert.last.0 cert.tree (sym size ∙ cert.last.1) cert.last.2 in
      record { tree = cert.tree; last = (now.0, now.1, now.2); accepted = cert.accepted; refused = cert.refused }

  pub tree_fits : (n : NodeList) → NoCert A B n.symbols n.rows → IsNodeList n → n.symbols ≡ joint_symbols A.symbols B.symbols → FitsTree A B n
  tree_fits n cert list symbols = record { list = list; symbols = symbols; some = let e = cert.last.1 in omega arith }

  pub trail_answer : IsFull A B orders budget s → IsUp A (Holds orders.left) → IsUp B (Holds orders.right) → UpTrail A B (Holds orders.left) (Holds orders.right) budget (entries_of s)
  trail_answer h ul ur = full_means_UpTrail A B (Holds orders.left) (Holds orders.right) (entries_of s) (Kept s.entries) h.keeps h.accept ul ur budget (many ∙ h.count)

  pub trail_fits : IsAutomaton A → IsFull A B orders budget s → 1 ≤ budget → budget ≤ 1000000 → FitsRelation (length A.states) orders.left → FitsRelation (length B.states) orders.right
      → FitsUpTrail A B orders.left orders.right budget (entries_of s)
  trail_fits fits h some few left right = record {
    left = left;
    right = right;
    entries = record {
      some = some;
      few = few;
      count = many ∙ h.count;
      fitting = λ k entry at. record {
        pair = h.keeps.fits k entry at;
        symbol = step_number A B fits (entries_of s) k entry (h.keeps.steps k entry at);
        earlier = step_earlier A B fits (entries_of s) k entry (h.keeps.steps k entry at);
      };
    };
  }

  pub never_full : AreOrders (length A.states) (length B.states) orders → IsFull A B orders budget s → IsUp A (Holds orders.left) → IsUp B (Holds orders.right)
      → length A.states * 2 ^ length B.states ≤ budget → ⊥
  never_full ordered h ul ur large =
      no_trail A B (Holds orders.left) (Holds orders.right) (entries_of s) (Kept s.entries) h.keeps h.accept ul ur budget ordered.left_order ordered.right_order large (many ∙ h.count)

-- the two relations, as they were passed
module _ (A B : Automaton) (orders : TwoOrders) (left right : Matrix) (same_left : orders.left ≡ left) (same_right : orders.right ≡ right) (order_left : IsUpOrder A left) (order_right : IsUpOrder B right) where
  pub are_orders : AreOrders (length A.states) (length B.states) orders
  are_orders = record {
    left_square = subst (λ m. IsSquare (length A.states) m) (sym same_left) order_left.square;
    right_square = subst (λ m. IsSquare (length B.states) m) (sym same_right) order_right.square;
    left_order = subst (λ m. IsOrder (length A.states) (Holds m)) (sym same_left) order_left.order;
    right_order = subst (λ m. IsOrder (length B.states) (Holds m)) (sym same_right) order_right.order;
  }

  pub up_left : IsUp A (Holds orders.left)
  up_left = subst (λ m. IsUp A (Holds m)) (sym same_left) order_left.simulation

  pub up_right : IsUp B (Holds orders.right)
  up_right = subst (λ m. IsUp B (Holds m)) (sym same_right) order_right.simulation

  module _ (l r : Matrix) (same_l : l ≡ orders.left) (same_r : r ≡ orders.right) where
    pub told_up : (X : List Pair) → FitsUp A B orders.left orders.right X → UpCert A B (Holds orders.left) (Holds orders.right) X
        → (l ≡ left) × (r ≡ right) × FitsUp A B l r X × UpCert A B (Holds l) (Holds r) X
    told_up X fits cert = (
      same_l ∙ same_left,
      same_r ∙ same_right,
      subst (λ x. FitsUp A B x r X) (sym same_l) (subst (λ y. FitsUp A B orders.left y X) (sym same_r) fits),
      subst (λ x. UpCert A B (Holds x) (Holds r) X) (sym same_l) (subst (λ y. UpCert A B (Holds orders.left) (Holds y) X) (sym same_r) cert),
    )

    pub told_trail : (budget : ℕ) (E : List UpEntry) → FitsUpTrail A B orders.left orders.right budget E → UpTrail A B (Holds orders.left) (Holds orders.right) budget E
        → (l ≡ left) × (r ≡ right) × (budget ≡ budget) × FitsUpTrail A B l r budget E × UpTrail A B (Holds l) (Holds r) budget E
    told_trail budget E fits trail = (
      same_l ∙ same_left,
      same_r ∙ same_right,
      refl,
      subst (λ x. FitsUpTrail A B x r budget E) (sym same_l) (subst (λ y. FitsUpTrail A B orders.left y budget E) (sym same_r) fits),
      subst (λ x. UpTrail A B (Holds x) (Holds r) budget E) (sym same_l) (subst (λ y. UpTrail A B (Holds orders.left) (Holds y) budget E) (sym same_r) trail),
    )

-- a relation of a matrix is not too large to be written
pub relation_fits : (n size : ℕ) (m other : Matrix) → m ≡ other → IsSquare n other → size ≡ length other → size ≤ 20000 → FitsRelation n m
relation_fits n size m other same square value limit = record {
  square = subst (λ x. IsSquare n x) (sym same) square;
  few = let e = square.rows in omega arith;
}
