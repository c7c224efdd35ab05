-- The entries that the last one needs, and the tree of these alone.
use Rattle.std.proofs.Common.{◌≡◌, ◌⊎◌, inl, inr, ℕ, ◌<◌, ◌≤◌, ◌+◌, List, [], ◌∷◌, ◌++◌, length, map, refl, sym, ap, subst, ◌∙◌, arith}
use Rattle.std.specs.Prelude.{◌↔◌, All, Contains, slice_index}
use Rattle.std.proofs.lemmas.Bool.{cases_eq, cases_lt}
use Rattle.std.proofs.lemmas.List.{get_or_append_left, get_or_push, length_push}
use Rattle.std.proofs.lemmas.List.Elements.{All-contains, All-contains_itself, All-head, All-tail, All-weaker}
use Rattle.std.proofs.lemmas.Option.{slice_get_within}
use Rattle.tree_definitions.specs.Tree.{Symbol, Tree, Node, Trees, NoTrees, More}
use Rattle.tree_definitions.specs.Relation.{Row, Has, IsAt}
use Rattle.tree_definitions.specs.Witness.{NodeRow, AreNodes, IsTreeOf, AreTreesOf}
use Rattle.tree_definitions.proofs.Members.{at_unique, at_within, contains_cases, contains_head, contains_none, contains_tail}
use Rattle.witness_trees.specs.Nodes.{AreOfRank}
use Rattle.upward_search.proofs.Zips.{at_push, at_last}
use Rattle.antichain_up.specs.Answers.{AreEarlier, AreNeeded, IsEachNeeded, node_of}
use Rattle.antichain_up.specs.Entries.{EntryRow}
use Rattle.antichain_up.proofs.Views.{map_at}

-- the children of the marked entries from k on are marked
abbrev pub AreClosed : List EntryRow → ℕ → Row → Type 0
AreClosed rows k marks = (i j : ℕ) (e : EntryRow) → k ≤ i → IsAt rows i e → Has marks i → Contains e.kids j → Has marks j

module _ (rows : List EntryRow) (earlier : AreEarlier rows) (k : ℕ) (e : EntryRow) (at : IsAt rows k e) (old : Row) (closed : AreClosed rows (k + 1) old) where
  pub closed_one : (new : Row) → ((j : ℕ) → Has new j ↔ (Has old j ⊎ Contains e.kids j)) → AreClosed rows k new
  closed_one new set i j f l fat has c = elim (cases_eq i k) [
    | inl same ↦ (set j).1 (inr (subst (λ (x : EntryRow). Contains x.kids j) (at_unique rows k f e (subst (λ n. IsAt rows n f) same fat) at) c))
    | inr other ↦ elim ((set i).0 has) [
      | inl before ↦ (set j).1 (inl (closed i j f (omega (arith, l, other)) fat before c))
      | inr m ↦ let below = All-contains (λ n. n < k) e.kids i (earlier k e at) m in absurd (omega (arith, below, l))
    ]
  ]

pub closed_past : (rows : List EntryRow) (k : ℕ) (marks : Row) → ¬ Has marks k → AreClosed rows (k + 1) marks → AreClosed rows k marks
closed_past rows k marks none closed i j f l fat has c = elim (cases_eq i k) [
  | inl same ↦ absurd (none (subst (Has marks) same has))
  | inr other ↦ closed i j f (omega (arith, l, other)) fat has c
]

-- a tree stays when nodes are appended
module _ (symbols : List Symbol) (nodes : List NodeRow) (node : NodeRow) where
  mutual
    pub tree_stays : (k : ℕ) (t : Tree) → IsTreeOf symbols nodes k t → IsTreeOf symbols (nodes ++ node ∷ []) k t
    tree_stays k (Node a ts) (row, at, label, kids) = (row, at_push nodes node k row at, label, trees_stay row.kids ts kids)

    trees_stay : (ks : List ℕ) (ts : Trees) → AreTreesOf symbols nodes ks ts → AreTreesOf symbols (nodes ++ node ∷ []) ks ts
    trees_stay [] NoTrees h = tt
    trees_stay [] (More t ts) h = absurd h
    trees_stay (k ∷ ks) NoTrees h = absurd h
    trees_stay (k ∷ ks) (More t ts) h = (tree_stays k t h.0, trees_stay ks ts h.1)

-- the node of an entry, whose children have these numbers
abbrev pub numbered : List ℕ → EntryRow → NodeRow
numbered numbers e = record { symbol = e.symbol; kids = map (slice_index numbers) e.kids }

-- one more number changes none of the earlier ones
same_numbers : (numbers : List ℕ) (n : ℕ) (ks : List ℕ) → All (λ j. j < length numbers) ks → map (slice_index numbers) ks ≡ map (slice_index (numbers ++ n ∷ [])) ks
same_numbers numbers n [] below = refl
same_numbers numbers n (k ∷ ks) below =
    let one : slice_index numbers k ≡ slice_index (numbers ++ n ∷ []) k = sym (get_or_append_left numbers (n ∷ []) 0 k (All-head (λ j. j < length numbers) k ks below)) in
    let rest : map (slice_index numbers) ks ≡ map (slice_index (numbers ++ n ∷ [])) ks = same_numbers numbers n ks (All-tail (λ j. j < length numbers) k ks below) in
    cc

map_has : (f : ℕ → ℕ) (ks : List ℕ) (k : ℕ) → Contains ks k → Contains (map f ks) (f k)
map_has f [] k m = absurd (contains_none k m)
map_has f (j ∷ ks) k m = elim (contains_cases j ks k m) [
  | inl same ↦ subst (λ x. Contains (f j ∷ map f ks) (f x)) same (contains_head (f j) (map f ks))
  | inr l ↦ contains_tail (f j) (map f ks) (f k) (map_has f ks k l)
]

-- each marked one of the first k entries has a node of its own with its tree, and the last of them has the last node
pub record IsPruned (symbols : List Symbol) (rows : List EntryRow) (marks : Row) (k : ℕ) (nodes : List NodeRow) (numbers : List ℕ) : Type 0 where
  pub many : length numbers ≡ k
  pub few : length nodes ≤ k
  pub last : (j : ℕ) → j + 1 ≡ k → Has marks j → length nodes ≡ slice_index numbers j + 1
  pub trees : (j : ℕ) (t : Tree) → j < k → Has marks j → IsTreeOf symbols (map node_of rows) j t → IsTreeOf symbols nodes (slice_index numbers j) t
  pub stands : (j : ℕ) (e : EntryRow) → j < k → IsAt rows j e → Has marks j → IsAt nodes (slice_index numbers j) (numbered numbers e)
  pub comes : (n : ℕ) → n < length nodes → (i : ℕ) × (i < k) × Has marks i × (slice_index numbers i ≡ n)

module _ (symbols : List Symbol) (rows : List EntryRow) where
  pub earlier_kids : AreNodes symbols (map node_of rows) → AreEarlier rows
  earlier_kids fits k e at = (fits k (node_of e) (map_at node_of rows k e at)).earlier

  pub label_within : AreNodes symbols (map node_of rows) → (k : ℕ) (e : EntryRow) → IsAt rows k e → e.symbol < length symbols
  label_within fits k e at = let f = (fits k (node_of e) (map_at node_of rows k e at)).symbol in slice_get_within symbols e.symbol f.0 f.1

  pub rank_fits : AreNodes symbols (map node_of rows) → (k : ℕ) (e : EntryRow) → IsAt rows k e → AreOfRank symbols e.symbol e.kids
  rank_fits fits k e at = (fits k (node_of e) (map_at node_of rows k e at)).symbol

  module _ (marks : Row) (k : ℕ) (nodes : List NodeRow) (numbers : List ℕ) (earlier : AreEarlier rows) (before : IsPruned symbols rows marks k nodes numbers) where
    kept_number : (n j : ℕ) → j < k → slice_index (numbers ++ n ∷ []) j ≡ slice_index numbers j
    kept_number n j l = let m = before.many in get_or_append_left numbers (n ∷ []) 0 j (omega (arith, l, m))

    still_numbered : (n j : ℕ) (f : EntryRow) → j < k + 1 → IsAt rows j f → numbered numbers f ≡ numbered (numbers ++ n ∷ []) f
    still_numbered n j f l fat =
        let m = before.many in
        let within : All (λ i. i < length numbers) f.kids = All-weaker (λ i. i < j) (λ i. i < length numbers) (λ i b. omega (arith, b, l, m)) f.kids (earlier j f fat) in
        ap (λ ks. record { symbol = f.symbol; kids = ks }) (same_numbers numbers n f.kids within)

    pub prune_past : ¬ Has marks k → IsPruned symbols rows marks (k + 1) nodes (numbers ++ 0 ∷ [])
    prune_past none = record {
      many = length_push numbers 0 ∙ ap (λ n. n + 1) before.many;
      few = let f = before.few in omega (arith, f);
      last = λ j e has. let same : j ≡ k = omega (arith, e) in absurd (none (subst (Has marks) same has));
      trees = λ j t l has tree. elim (cases_lt j k) [
        | inl m ↦ subst (λ n. IsTreeOf symbols nodes n t) (sym (kept_number 0 j m)) (before.trees j t m has tree)
        | inr m ↦ let same : j ≡ k = omega (arith, l, m) in absurd (none (subst (Has marks) same has))
      ];
      stands = λ j f l fat has. elim (cases_lt j k) [
        | inl m ↦ subst (λ n. IsAt nodes n (numbered (numbers ++ 0 ∷ []) f)) (sym (kept_number 0 j m)) (subst (IsAt nodes (slice_index numbers j)) (still_numbered 0 j f l fat) (before.stands j f m fat has))
        | inr m ↦ let same : j ≡ k = omega (arith, l, m) in absurd (none (subst (Has marks) same has))
      ];
      comes = λ n l. let c = before.comes n l in let w = c.1 in (c.0, omega (arith, w), c.2, kept_number 0 c.0 c.1 ∙ c.3);
    }

    module _ (e : EntryRow) (at : IsAt rows k e) (needs : AreNeeded rows marks) (here : Has marks k) where
      kid_within : (j : ℕ) → Contains e.kids j → slice_index numbers j < length nodes
      kid_within j kid =
          let l = All-contains (λ n. n < k) e.kids j (earlier k e at) kid in
          let w = slice_get_within rows k e at in
          let f = at_within rows j (omega (arith, l, w)) in
          slice_get_within nodes (slice_index numbers j) (numbered numbers f.0) (before.stands j f.0 l f.1 (needs.kids k j e at here kid))

      -- the numbers of the children are numbers of nodes
      pub kids_within : All (λ j. slice_index numbers j < length nodes) e.kids
      kids_within = All-weaker (Contains e.kids) (λ j. slice_index numbers j < length nodes) kid_within e.kids (All-contains_itself e.kids)

      abbrev pub new_node : NodeRow
      new_node = record { symbol = e.symbol; kids = map (slice_index numbers) e.kids }

      kid_trees : (ks : List ℕ) (ts : Trees) → ((j : ℕ) → Contains ks j → Contains e.kids j) → AreTreesOf symbols (map node_of rows) ks ts
          → AreTreesOf symbols (nodes ++ new_node ∷ []) (map (slice_index numbers) ks) ts
      kid_trees [] NoTrees within h = tt
      kid_trees [] (More t ts) within h = absurd h
      kid_trees (j ∷ ks) NoTrees within h = absurd h
      kid_trees (j ∷ ks) (More t ts) within h =
          let kid = within j (contains_head j ks) in
          let l = All-contains (λ n. n < k) e.kids j (earlier k e at) kid in (
            tree_stays symbols nodes new_node (slice_index numbers j) t (before.trees j t l (needs.kids k j e at here kid) h.0),
            kid_trees ks ts (λ i m. within i (contains_tail j ks i m)) h.1,
          )

      own_tree : (t : Tree) → IsTreeOf symbols (map node_of rows) k t → IsTreeOf symbols (nodes ++ new_node ∷ []) (length nodes) t
      own_tree (Node a ts) (row, rat, label, kids) =
          let same : row ≡ node_of e = at_unique (map node_of rows) k row (node_of e) rat (map_at node_of rows k e at) in (
            new_node,
            at_last nodes new_node,
            subst (λ (x : NodeRow). IsAt symbols x.symbol a) same label,
            kid_trees e.kids ts (λ j m. m) (subst (λ (x : NodeRow). AreTreesOf symbols (map node_of rows) x.kids ts) same kids),
          )

      own_number : slice_index (numbers ++ length nodes ∷ []) k ≡ length nodes
      own_number = get_or_push numbers (length nodes) 0 k before.many

      pub prune_one : IsPruned symbols rows marks (k + 1) (nodes ++ new_node ∷ []) (numbers ++ length nodes ∷ [])
      prune_one = record {
        many = length_push numbers (length nodes) ∙ ap (λ n. n + 1) before.many;
        few = let f = before.few in omega (arith, f, length_push nodes new_node);
        last = λ j l has.
            let same : j ≡ k = omega (arith, l) in
            length_push nodes new_node ∙ ap (λ n. n + 1) (sym own_number ∙ ap (slice_index (numbers ++ length nodes ∷ [])) (sym same));
        trees = λ j t l has tree. elim (cases_lt j k) [
          | inl m ↦ subst (λ n. IsTreeOf symbols (nodes ++ new_node ∷ []) n t) (sym (kept_number (length nodes) j m)) (tree_stays symbols nodes new_node (slice_index numbers j) t (before.trees j t m has tree))
          | inr m ↦
              let same : j ≡ k = omega (arith, l, m) in
              subst (λ n. IsTreeOf symbols (nodes ++ new_node ∷ []) (slice_index (numbers ++ length nodes ∷ []) n) t) (sym same)
              (subst (λ n. IsTreeOf symbols (nodes ++ new_node ∷ []) n t) (sym own_number) (own_tree t (subst (λ n. IsTreeOf symbols (map node_of rows) n t) same tree)))
        ];
        stands = λ j f l fat has. subst (IsAt (nodes ++ new_node ∷ []) (slice_index (numbers ++ length nodes ∷ []) j)) (still_numbered (length nodes) j f l fat) (elim (cases_lt j k) [
          | inl m ↦ subst (λ n. IsAt (nodes ++ new_node ∷ []) n (numbered numbers f)) (sym (kept_number (length nodes) j m)) (at_push nodes new_node (slice_index numbers j) (numbered numbers f) (before.stands j f m fat has))
          | inr m ↦
              let same : j ≡ k = omega (arith, l, m) in
              let one : e ≡ f = at_unique rows k e f at (subst (λ n. IsAt rows n f) same fat) in
              subst (λ (x : EntryRow). IsAt (nodes ++ new_node ∷ []) (slice_index (numbers ++ length nodes ∷ []) j) (numbered numbers x)) one
              (subst (λ n. IsAt (nodes ++ new_node ∷ []) n new_node) (sym (ap (slice_index (numbers ++ length nodes ∷ [])) same ∙ own_number)) (at_last nodes new_node))
        ]);
        comes = λ n l. elim (cases_lt n (length nodes)) [
          | inl m ↦ let c = before.comes n m in let w = c.1 in (c.0, omega (arith, w), c.2, kept_number (length nodes) c.0 c.1 ∙ c.3)
          | inr m ↦ let same : length nodes ≡ n = omega (arith, l, m, length_push nodes new_node) in (k, omega arith, here, own_number ∙ same)
        ];
      }

  pub prune_none : (marks : Row) → IsPruned symbols rows marks 0 [] []
  prune_none marks = record {
    many = refl;
    few = omega arith;
    last = λ j e has. absurd (omega (arith, e));
    trees = λ j t l has tree. absurd (omega (arith, l));
    stands = λ j e l at has. absurd (omega (arith, l));
    comes = λ n l. absurd (omega (arith, l));
  }

  pub prune_all : (marks : Row) (k : ℕ) (nodes : List NodeRow) (numbers : List ℕ) → length rows ≡ k → AreNeeded rows marks → IsPruned symbols rows marks k nodes numbers
      → (i : ℕ) (t : Tree) → length rows ≡ i + 1 → IsTreeOf symbols (map node_of rows) i t → (last : ℕ) × (length nodes ≡ last + 1) × IsTreeOf symbols nodes last t
  prune_all marks k nodes numbers all needs done i t count tree =
      let same : i + 1 ≡ k = sym count ∙ all in
      let has = needs.last i count in
      (slice_index numbers i, done.last i same has, done.trees i t (omega (arith, same)) has tree)

  pub prune_needed : (marks : Row) (k : ℕ) (nodes : List NodeRow) (numbers : List ℕ) → length rows ≡ k → AreNeeded rows marks → IsPruned symbols rows marks k nodes numbers → IsEachNeeded nodes
  prune_needed marks k nodes numbers all needs done n l =
      let w : n < length nodes = omega (arith, l) in
      let c = done.comes n w in
      elim (needs.only c.0 c.2) [
        | inl end ↦
            let same : c.0 + 1 ≡ k = sym end ∙ all in
            let last : length nodes ≡ n + 1 = done.last c.0 same c.2 ∙ ap (λ m. m + 1) c.3 in
            absurd (omega (arith, l, last))
        | inr (j, e, at, has, m) ↦
            let within = slice_get_within rows j e at in (
              slice_index numbers j,
              numbered numbers e,
              done.stands j e (omega (arith, within, all)) at has,
              subst (Contains (map (slice_index numbers) e.kids)) c.3 (map_has (slice_index numbers) e.kids c.0 m),
            )
      ]

pub none_needed : IsEachNeeded []
none_needed k l = absurd (omega (arith, l))
