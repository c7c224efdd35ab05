-- What is reached together by lists of rules is what one tree reaches in both automata.
use Rattle.std.proofs.Common.{◌≡◌, ◌↔◌, ℕ, zero, suc, List, [], ◌∷◌, length, refl, sym, ap, ◌∙◌, subst, arith}
use Rattle.tree_definitions.specs.Tree.{Symbol, Tree, Node, Trees, NoTrees, More}
use Rattle.tree_definitions.specs.Automaton.{Rule}
use Rattle.tree_definitions.specs.Language.{ReachesBy, ReachEachBy}
use Rattle.tree_definitions.specs.Product.{Both}
use Rattle.tree_definitions.specs.Relation.{IsAt}
use Rattle.tree_definitions.proofs.Members.{at_unique}
use Rattle.bool_ops.specs.Closing.{both, AreAlike, Together, by_rules}
use Rattle.bool_ops.specs.Joined.{HasLine, StandFor}
use Rattle.bool_ops.proofs.Filed.{at_distinct}

module _ (symbols : List Symbol) (H G : Symbol → List ℕ → ℕ → Type 0) (ours theirs : List Rule) (f : StandFor symbols H G ours theirs) where
  -- one tree reaches both by the rules
  abbrev pub Reached : Both → Type 0
  Reached x = (t : Tree) × ReachesBy H t x.left × ReachesBy G t x.right

  -- a row of trees for a row of pairs
  trees_of : (ps qs : List ℕ) → length ps ≡ length qs → ((i p q : ℕ) → IsAt ps i p → IsAt qs i q → Reached (both p q))
      → (ts : Trees) × ReachEachBy H ts ps × ReachEachBy G ts qs
  trees_of [] [] e h = (NoTrees, tt, tt)
  trees_of [] (q ∷ qs) e h = absurd (omega (arith, e))
  trees_of (p ∷ ps) [] e h = absurd (omega (arith, e))
  trees_of (p ∷ ps) (q ∷ qs) e h =
      let t = h 0 p q refl refl in
      let ts = trees_of ps qs (omega (arith, e)) (λ i a b aat bat. h (suc i) a b aat bat) in
      (More t.0 ts.0, (t.1, ts.1), (t.2, ts.2))

  pub together_reached : (x : Both) → Together ours theirs x → Reached x
  together_reached x (by_rules r s left right rat sat alike kids) =
      let ts = trees_of left.kids right.kids alike.kids (λ i p q pat qat. together_reached (both p q) (kids i p q pat qat)) in
      let a = f.left_fits r left rat in
      let h = (f.left a.0 left.kids left.parent).1 (r, left.symbol, a.1, rat) in
      let g = (f.right a.0 right.kids right.parent).1 (s, right.symbol, subst (λ k. IsAt symbols k a.0) alike.symbol a.1, sat) in
      (Node a.0 ts.0, (left.kids, h, ts.1), (right.kids, g, ts.2))

  -- two rules with one symbol are alike
  pub lines_alike : (a : Symbol) (ps qs : List ℕ) (p q : ℕ) (m : HasLine symbols ours a ps p) (n : HasLine symbols theirs a qs q)
      → AreAlike (record { symbol = m.1; kids = ps; parent = p }) (record { symbol = n.1; kids = qs; parent = q })
  lines_alike a ps qs p q m n =
      let same : m.1 ≡ n.1 = at_distinct symbols m.1 n.1 a f.distinct m.2 n.2 in
      let left = f.left_fits m.0 (record { symbol = m.1; kids = ps; parent = p }) m.3 in
      let right = f.right_fits n.0 (record { symbol = n.1; kids = qs; parent = q }) n.3 in
      let left_rank : left.0 ≡ a = at_unique symbols m.1 left.0 a left.1 m.2 in
      let right_rank : right.0 ≡ a = at_unique symbols n.1 right.0 a right.1 n.2 in
      record {
        symbol = same;
        kids = left.2 ∙ ap (λ (b : Symbol). b.rank) (left_rank ∙ sym right_rank) ∙ sym right.2;
      }

  mutual
    reached_both : (t : Tree) (p q : ℕ) → ReachesBy H t p → ReachesBy G t q → Together ours theirs (both p q)
    reached_both (Node a ts) p q h g =
        let m = (f.left a h.0 p).0 h.1 in
        let n = (f.right a g.0 q).0 g.1 in
        by_rules m.0 n.0 (record { symbol = m.1; kids = h.0; parent = p }) (record { symbol = n.1; kids = g.0; parent = q }) m.3 n.3
        (lines_alike a h.0 g.0 p q m n) (reached_each ts h.0 g.0 h.2 g.2)

    reached_each : (ts : Trees) (ps qs : List ℕ) → ReachEachBy H ts ps → ReachEachBy G ts qs → (i p q : ℕ) → IsAt ps i p → IsAt qs i q → Together ours theirs (both p q)
    reached_each NoTrees [] qs h g i p q pat qat = absurd cc
    reached_each NoTrees (a ∷ ps) qs h g i p q pat qat = absurd h
    reached_each (More t ts) [] qs h g i p q pat qat = absurd h
    reached_each (More t ts) (a ∷ ps) [] h g i p q pat qat = absurd g
    reached_each (More t ts) (a ∷ ps) (b ∷ qs) h g zero p q pat qat =
        let e : a ≡ p = cc in
        let d : b ≡ q = cc in
        subst (λ z. Together ours theirs (both p z)) d (subst (λ z. Together ours theirs (both z b)) e (reached_both t a b h.0 g.0))
    reached_each (More t ts) (a ∷ ps) (b ∷ qs) h g (suc i) p q pat qat = reached_each ts ps qs h.1 g.1 i p q pat qat

  pub together_exactly : (x : Both) → Together ours theirs x ↔ Reached x
  together_exactly x = (together_reached x, λ h. reached_both h.0 x.left x.right h.1 h.2)
