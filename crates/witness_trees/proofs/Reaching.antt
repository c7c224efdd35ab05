-- The states of a node are those to which some rule leads from states of its children.
use Rattle.std.proofs.Common.{◌≡◌, ◌≢◌, ◌↔◌, ◌⊎◌, inl, inr, ℕ, zero, suc, ◌+◌, ◌<◌, List, [], ◌∷◌, ◌++◌, length, get_or, Option, Some, None, refl, sym, ap, ◌∙◌, subst, arith}
use Rattle.std.specs.Prelude.{All, AllPairs}
use Rattle.std.specs.List.{AllZip}
use Rattle.std.proofs.lemmas.Bool.{cases_lt}
use Rattle.std.proofs.lemmas.Option.{get_or_from_slice_get, slice_get_within}
use Rattle.std.proofs.lemmas.List.{length_push}
use Rattle.std.proofs.lemmas.List.Elements.{All-head, All-tail, All-push}
use Rattle.tree_definitions.specs.Tree.{Symbol, Tree, Node, Trees, NoTrees, More}
use Rattle.tree_definitions.specs.Automaton.{Automaton, Rule, HasRule, IsLabel, IsNarrow}
use Rattle.tree_definitions.specs.Language.{Reaches, ReachEachBy}
use Rattle.tree_definitions.specs.Relation.{Row, Matrix, Has, IsAt}
use Rattle.tree_definitions.specs.Witness.{NodeRow, AreNodes, IsTreeOf, AreTreesOf}
use Rattle.tree_definitions.proofs.Members.{at_unique, at_within}
use Rattle.tree_definitions.proofs.Listing.{label_at, at_label, rule_of_line, rule_parts}
use Rattle.witness_trees.proofs.Texts.{same_node}
use Rattle.witness_trees.proofs.Rows.{zip_at}
use Rattle.witness_trees.specs.Nodes.{NodeList}
use Rattle.witness_trees.specs.Reached.{NodeReaches}
use Rattle.witness_trees.specs.Marking.{AreAmong, IsPlaceOf, Steps}

-- the first k nodes have their rows
pub record AreReachedTo (A : Automaton) (nodes : NodeList) (k : ℕ) (reached : List Row) : Type 0 where
  pub each_node : length reached ≡ k
  pub each_state : All (λ row. length row ≡ length A.states) reached
  pub states : (j : ℕ) (row : Row) → IsAt reached j row → (q : ℕ) → Has row q ↔ NodeReaches A nodes j q

-- distinct elements have one place each
pub same_place : {X : Type 0} (xs : List X) (i j : ℕ) (x : X) → AllPairs ◌≢◌ xs → IsAt xs i x → IsAt xs j x → i ≡ j
same_place xs i j x apart p q =
    elim (cases_lt i j) [
      | inl lt ↦ absurd (apart i j x lt (slice_get_within xs j x q) (get_or_from_slice_get xs i x x p ∙ sym (get_or_from_slice_get xs j x x q)))
      | inr le ↦ elim (cases_lt j i) [
        | inl lt ↦ absurd (apart j i x lt (slice_get_within xs i x p) (get_or_from_slice_get xs j x x q ∙ sym (get_or_from_slice_get xs i x x p)))
        | inr ge ↦ omega arith
      ]
    ]

module _ (A : Automaton) (nodes : NodeList) (reached : Matrix) (states : (j : ℕ) (row : Row) → IsAt reached j row → (q : ℕ) → Has row q ↔ NodeReaches A nodes j q) where
  trees_from : (ks ss : List ℕ) → AreAmong reached ss ks → (ts : Trees) × AreTreesOf nodes.symbols nodes.rows ks ts × ReachEachBy (HasRule A) ts ss
  trees_from [] [] h = (NoTrees, tt, tt)
  trees_from [] (s ∷ ss) h = absurd h
  trees_from (k ∷ ks) [] h = absurd h
  trees_from (k ∷ ks) (s ∷ ss) h =
      let one = (states k h.0.0 h.0.1 s).0 h.0.2 in
      let more = trees_from ks ss h.1 in
      (More one.0 more.0, (one.1, more.1), (one.2, more.2))

  among_from : (ks ss : List ℕ) (ts : Trees) → All (λ k. k < length reached) ks → AreTreesOf nodes.symbols nodes.rows ks ts → ReachEachBy (HasRule A) ts ss → AreAmong reached ss ks
  among_from [] [] NoTrees a trees reach = tt
  among_from [] (s ∷ ss) NoTrees a trees reach = absurd reach
  among_from [] ss (More t ts) a trees reach = absurd trees
  among_from (k ∷ ks) ss NoTrees a trees reach = absurd trees
  among_from (k ∷ ks) [] (More t ts) a trees reach = absurd reach
  among_from (k ∷ ks) (s ∷ ss) (More t ts) a trees reach =
      let row = at_within reached k (All-head (λ j. j < length reached) k ks a) in
      ((row.0, row.1, (states k row.0 row.1 s).1 (t, trees.0, reach.0)), among_from ks ss ts (All-tail (λ j. j < length reached) k ks a) trees.1 reach.1)

  module _ (narrow : IsNarrow A) (apart : AllPairs ◌≢◌ A.symbols) (k : ℕ) (node : NodeRow) (a : Symbol) (at : IsAt nodes.rows k node) (stands : IsAt nodes.symbols node.symbol a) (earlier : All (λ j. j < length reached) node.kids) where
    step_there : (label : Option ℕ) (q : ℕ) → IsPlaceOf A.symbols a label → Steps A.rules reached label node.kids q → NodeReaches A nodes k q
    step_there None q place h = absurd h
    step_there (Some l) q place h =
        let rule : Rule = h.1 in
        let labelled : IsLabel A rule.symbol a = label_at A rule.symbol a narrow (subst (λ i. IsAt A.symbols i a) (sym h.3.0) place) in
        let below = trees_from node.kids rule.kids h.3.1 in
        (Node a below.0, (node, at, stands, below.1), subst (Reaches A (Node a below.0)) h.4 (rule.kids, (h.0, rule_of_line A h.0 rule a h.2 labelled), below.2))

    label_back : (label : Option ℕ) (l : ℕ) → IsPlaceOf A.symbols a label → IsAt A.symbols l a → label ≡ Some l
    label_back None l place is = absurd (place l is)
    label_back (Some i) l place is = ap Some (same_place A.symbols i l a apart place is)

    step_back : (label : Option ℕ) (q : ℕ) → IsPlaceOf A.symbols a label → NodeReaches A nodes k q → Steps A.rules reached label node.kids q
    step_back label q place h = go h.0 h.1 h.2
      where
        go : (t : Tree) → IsTreeOf nodes.symbols nodes.rows k t → Reaches A t q → Steps A.rules reached label node.kids q
        go (Node b ts) tree reach =
            let same : tree.0 ≡ node = at_unique nodes.rows k tree.0 node tree.1 at in
            let symbol : b ≡ a = at_unique nodes.symbols node.symbol b a (subst (λ (x : NodeRow). IsAt nodes.symbols x.symbol b) same tree.2) stands in
            let trees = subst (λ (x : NodeRow). AreTreesOf nodes.symbols nodes.rows x.kids ts) same tree.3 in
            let among = among_from node.kids reach.0 ts earlier trees reach.2 in
            let r = reach.1.0 in
            let parts = rule_parts A r b reach.0 q reach.1.1 in
            let l = parts.0 in
            let rule : Rule = record { symbol = l; kids = reach.0; parent = q } in
            let labelled : IsAt A.symbols l a = subst (IsAt A.symbols l) symbol (at_label A l b narrow parts.1) in
            subst (λ o. Steps A.rules reached o node.kids q) (sym (label_back label l place labelled)) (r, rule, parts.2, (refl, among), refl)

    pub step : (label : Option ℕ) (q : ℕ) → IsPlaceOf A.symbols a label → Steps A.rules reached label node.kids q ↔ NodeReaches A nodes k q
    step label q place = (step_there label q place, step_back label q place)

-- what stands at a place of a list with one more element
pub at_push : {X : Type 0} (xs : List X) (y : X) (i : ℕ) (x : X) → IsAt (xs ++ y ∷ []) i x → IsAt xs i x ⊎ ((i ≡ length xs) × (y ≡ x))
at_push [] y zero x h = let e : y ≡ x = cc in inr (refl, e)
at_push [] y (suc i) x h = absurd cc
at_push (z ∷ zs) y zero x h = inl h
at_push (z ∷ zs) y (suc i) x h = elim (at_push zs y i x h) [ inl e ↦ inl e | inr e ↦ inr (ap suc e.0, e.1) ]

pub reached_none : (A : Automaton) (nodes : NodeList) (reached : List Row) → reached ≡ [] → AreReachedTo A nodes 0 reached
reached_none A nodes reached e = subst (AreReachedTo A nodes 0) (sym e) (record {
  each_node = refl;
  each_state = λ k d l. absurd (omega (arith, l));
  states = λ j row at. absurd cc;
})

-- one more node
pub reached_more : (A : Automaton) (nodes : NodeList) (k : ℕ) (reached new : List Row) (row : Row) → AreReachedTo A nodes k reached → new ≡ reached ++ row ∷ [] → length row ≡ length A.states → ((q : ℕ) → Has row q ↔ NodeReaches A nodes k q) → AreReachedTo A nodes (k + 1) new
reached_more A nodes k reached new row h grown size exact = subst (AreReachedTo A nodes (k + 1)) (sym grown) (record {
  each_node = length_push reached row ∙ ap (λ n. n + 1) h.each_node;
  each_state = All-push (λ r. length r ≡ length A.states) reached row h.each_state size;
  states = λ j r at. elim (at_push reached row j r at) [
    | inl e ↦ h.states j r e
    | inr e ↦ subst (λ i. (q : ℕ) → Has r q ↔ NodeReaches A nodes i q) (sym (e.0 ∙ h.each_node)) (subst (λ s. (q : ℕ) → Has s q ↔ NodeReaches A nodes k q) e.1 exact)
  ];
})

-- the symbol of a node is in the list
pub symbol_within : (nodes : NodeList) (k symbol : ℕ) → AreNodes nodes.symbols nodes.rows → (node : NodeRow) × IsAt nodes.rows k node × (symbol ≡ node.symbol) → symbol < length nodes.symbols
symbol_within nodes k symbol fits h =
    let f = fits k h.0 h.1 in
    subst (λ i. i < length nodes.symbols) (sym h.2) (slice_get_within nodes.symbols h.0.symbol f.symbol.0 f.symbol.1)

-- the row of node k, made of the rows before it
pub reached_step : (A : Automaton) (nodes : NodeList) (k : ℕ) (reached new : List Row) (row : Row) (symbol : ℕ) (kids : List ℕ) (labels : List (Option ℕ)) (label : Option ℕ)
    → IsNarrow A → AllPairs ◌≢◌ A.symbols → AreNodes nodes.symbols nodes.rows → AreReachedTo A nodes k reached
    → (node : NodeRow) × IsAt nodes.rows k node × (symbol ≡ node.symbol) → (node : NodeRow) × IsAt nodes.rows k node × (kids ≡ node.kids)
    → AllZip (IsPlaceOf A.symbols) nodes.symbols labels → label ≡ get_or labels symbol label
    → length row ≡ length A.states → ((q : ℕ) → Has row q ↔ Steps A.rules reached label kids q) → new ≡ reached ++ row ∷ []
    → AreReachedTo A nodes (k + 1) new
reached_step A nodes k reached new row symbol kids labels label narrow apart fits h s c zipped read size exact grown =
    let node : NodeRow = record { symbol = symbol; kids = kids } in
    let at : IsAt nodes.rows k node = same_node nodes.rows k symbol kids s c in
    let f = fits k node at in
    let place : IsPlaceOf A.symbols f.symbol.0 label = subst (IsPlaceOf A.symbols f.symbol.0) (sym read) (zip_at (IsPlaceOf A.symbols) nodes.symbols labels symbol f.symbol.0 label zipped f.symbol.1) in
    let earlier : All (λ j. j < length reached) kids = subst (λ n. All (λ j. j < n) kids) (sym h.each_node) f.earlier in
    let one : (q : ℕ) → Steps A.rules reached label kids q ↔ NodeReaches A nodes k q = λ q. step A nodes reached h.states narrow apart k node f.symbol.0 at f.symbol.1 earlier label q place in
    reached_more A nodes k reached new row h grown size (λ q. (λ x. (one q).0 ((exact q).0 x), λ x. (exact q).1 ((one q).1 x)))
