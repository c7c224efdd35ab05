-- The tree of an entry.
use Rattle.std.proofs.Common.{◌≡◌, ℕ, zero, suc, ◌<◌, ◌+◌, List, [], ◌∷◌, length, map, subst, arith}
use Rattle.std.specs.Prelude.{◌↔◌}
use Rattle.std.specs.List.{AllZip}
use Rattle.tree_definitions.specs.Tree.{Symbol, Tree, Node, Trees, NoTrees, More}
use Rattle.tree_definitions.specs.Automaton.{Automaton, HasRule, IsNumber}
use Rattle.tree_definitions.specs.Language.{Reaches, ReachEachBy}
use Rattle.tree_definitions.specs.Relation.{Row, Has, IsAt}
use Rattle.tree_definitions.specs.Cover.{Pair, Rejects}
use Rattle.tree_definitions.specs.Witness.{NodeRow, IsTreeOf, AreTreesOf, NoCert}
use Rattle.tree_definitions.specs.UpTrail.{UpEntry, HasPairBefore, IsUpStep}

module _ (A B : Automaton) (entries : List UpEntry) (steps : (i : ℕ) (entry : UpEntry) → IsAt entries i entry → IsUpStep A B entries i entry)
    (symbols : List Symbol) (nodes : List NodeRow)
    (labels : (k : ℕ) (a : Symbol) → IsNumber A.bits A.symbols k a → IsAt symbols k a)
    (same : (i : ℕ) (entry : UpEntry) → IsAt entries i entry → IsAt nodes i (record { symbol = entry.symbol; kids = entry.kids })) where
  -- the node's tree reaches the state in A, and in B exactly the set
  pub record Stands (k : ℕ) (pair : Pair) : Type 0 where
    pub tree : Tree
    pub node : IsTreeOf symbols nodes k tree
    pub state : Reaches A tree pair.state
    pub set : (s : ℕ) → Has pair.set s ↔ Reaches B tree s

  record StandEach (ks : List ℕ) (pairs : List Pair) : Type 0 where
    trees : Trees
    nodes_of : AreTreesOf symbols nodes ks trees
    states : ReachEachBy (HasRule A) trees (map (λ pair. pair.state) pairs)
    sets : (ss : List ℕ) → AllZip Has (map (λ pair. pair.set) pairs) ss ↔ ReachEachBy (HasRule B) trees ss

  none_sets : (ss : List ℕ) → AllZip Has [] ss ↔ ReachEachBy (HasRule B) NoTrees ss
  none_sets [] = (λ h. tt, λ h. tt)
  none_sets (s ∷ ss) = (λ h. absurd h, λ h. absurd h)

  more_sets : (t : Tree) (ts : Trees) (row : Row) (rows : List Row) → ((s : ℕ) → Has row s ↔ Reaches B t s)
      → ((ss : List ℕ) → AllZip Has rows ss ↔ ReachEachBy (HasRule B) ts ss)
      → (ss : List ℕ) → AllZip Has (row ∷ rows) ss ↔ ReachEachBy (HasRule B) (More t ts) ss
  more_sets t ts row rows f g [] = (λ h. absurd h, λ h. absurd h)
  more_sets t ts row rows f g (s ∷ ss) = (λ h. ((f s).0 h.0, (g ss).0 h.1), λ h. ((f s).1 h.0, (g ss).1 h.1))

  stand_each : (i : ℕ) → ((k : ℕ) (pair : Pair) → HasPairBefore entries i k pair → Stands k pair)
      → (ks : List ℕ) (pairs : List Pair) → AllZip (HasPairBefore entries i) ks pairs → StandEach ks pairs
  stand_each i each [] [] z = record { trees = NoTrees; nodes_of = tt; states = tt; sets = none_sets }
  stand_each i each [] (p ∷ ps) z = absurd z
  stand_each i each (k ∷ ks) [] z = absurd z
  stand_each i each (k ∷ ks) (p ∷ ps) z =
      let one = each k p z.0 in
      let rest = stand_each i each ks ps z.1 in
      record {
        trees = More one.tree rest.trees;
        nodes_of = (one.node, rest.nodes_of);
        states = (one.state, rest.states);
        sets = more_sets one.tree rest.trees p.set (map (λ pair. pair.set) ps) one.set rest.sets;
      }

  -- an entry over entries that stand for trees stands for one
  over : (i : ℕ) (entry : UpEntry) → IsAt entries i entry → (step : IsUpStep A B entries i entry) → StandEach entry.kids step.pairs → Stands i entry.pair
  over i entry at step each = record {
    tree = Node step.symbol each.trees;
    node = (record { symbol = entry.symbol; kids = entry.kids }, same i entry at, labels entry.symbol step.symbol step.stands, each.nodes_of);
    state = (map (λ pair. pair.state) step.pairs, step.rule, each.states);
    set = λ s. (
      λ m. let p = (step.set s).0 m in (p.0, p.1, (each.sets p.0).0 p.2),
      λ r. (step.set s).1 (r.0, r.1, (each.sets r.0).1 r.2),
    );
  }

  below : (n i : ℕ) (entry : UpEntry) → i < n → IsAt entries i entry → Stands i entry.pair
  below zero i entry l at = absurd (omega arith)
  below (suc n) i entry l at =
      let step = steps i entry at in
      over i entry at step (stand_each i (λ k pair h. subst (λ p. Stands k p) h.1.2 (below n k h.1.0 (let m = h.0 in omega arith) h.1.1)) entry.kids step.pairs step.named)

  pub entry_tree_lemma : (i : ℕ) (entry : UpEntry) → IsAt entries i entry → Stands i entry.pair
  entry_tree_lemma i entry at = below (suc i) i entry (omega arith) at

  -- the last entry rejects: its tree refutes the inclusion
  pub rejects_means_NoCert : (i : ℕ) (entry : UpEntry) → IsAt entries i entry → length nodes ≡ i + 1 → Rejects A B entry.pair → NoCert A B symbols nodes
  rejects_means_NoCert i entry at last rejects =
      let s = entry_tree_lemma i entry at in
      record {
        tree = s.tree;
        last = (i, last, s.node);
        accepted = (entry.pair.state, rejects.final, s.state);
        refused = λ h. rejects.none h.0 ((s.set h.0).1 h.2) h.1;
      }
