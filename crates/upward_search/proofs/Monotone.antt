-- The step is monotone: children that cover the old ones make a step that covers the old step.
use Rattle.std.proofs.Common.{ℕ, List, [], ◌∷◌, map}
use Rattle.std.specs.List.{AllZip}
use Rattle.tree_definitions.specs.Tree.{Symbol}
use Rattle.tree_definitions.specs.Automaton.{Automaton, HasRule}
use Rattle.tree_definitions.specs.Relation.{Relation, Has}
use Rattle.tree_definitions.specs.Simulation.{IsUp}
use Rattle.tree_definitions.specs.Cover.{Pair, Post, CoversUp}
use Rattle.tree_definitions.proofs.Closure.{Star, here, step, exchange}

-- the first covers the second
abbrev pub Covers : Relation → Relation → Pair → Pair → Type 0
Covers RA RB x y = CoversUp RA RB x y.state (Has y.set)

module _ (A B : Automaton) (RA RB : Relation) (up_left : IsUp A RA) (up_right : IsUp B RB) where
  states_below : (xs ys : List Pair) → AllZip (Covers RA RB) xs ys → AllZip (Star RA) (map (λ pair. pair.state) ys) (map (λ pair. pair.state) xs)
  states_below [] [] z = tt
  states_below [] (y ∷ ys) z = absurd z
  states_below (x ∷ xs) [] z = absurd z
  states_below (x ∷ xs) (y ∷ ys) z = (step z.0.state here, states_below xs ys z.1)

  members_below : (xs ys : List Pair) → AllZip (Covers RA RB) xs ys → (kids : List ℕ) → AllZip Has (map (λ pair. pair.set) xs) kids
      → (above : List ℕ) × AllZip Has (map (λ pair. pair.set) ys) above × AllZip (Star RB) kids above
  members_below [] [] z [] h = ([], tt, tt)
  members_below [] [] z (k ∷ ks) h = absurd h
  members_below [] (y ∷ ys) z kids h = absurd z
  members_below (x ∷ xs) [] z kids h = absurd z
  members_below (x ∷ xs) (y ∷ ys) z [] h = absurd h
  members_below (x ∷ xs) (y ∷ ys) z (k ∷ ks) h =
      let m = z.0.set k h.0 in
      let n = members_below xs ys z.1 ks h.1 in
      (m.0 ∷ n.0, (m.1, n.1), (step m.2 here, n.2))

  -- from children that cover the old ones a rule leads above the old parent, with a set below the old set
  pub step_monotone : (a : Symbol) (xs ys : List Pair) (p : ℕ) → AllZip (Covers RA RB) xs ys → HasRule A a (map (λ pair. pair.state) ys) p
      → (above : ℕ) × HasRule A a (map (λ pair. pair.state) xs) above × Star RA p above
      × ((s : ℕ) → Post B a (map (λ pair. pair.set) xs) s → (t : ℕ) × Post B a (map (λ pair. pair.set) ys) t × Star RB s t)
  step_monotone a xs ys p z rule =
      let moved = exchange A RA up_left a (map (λ pair. pair.state) ys) (map (λ pair. pair.state) xs) p (states_below xs ys z) rule in
      (moved.0, moved.1, moved.2, sets)
    where
      sets : (s : ℕ) → Post B a (map (λ pair. pair.set) xs) s → (t : ℕ) × Post B a (map (λ pair. pair.set) ys) t × Star RB s t
      sets s h =
          let m = members_below xs ys z h.0 h.2 in
          let n = exchange B RB up_right a h.0 m.0 s m.2 h.1 in
          (n.0, (m.0, n.1, m.1), n.2)
