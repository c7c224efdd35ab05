-- Covering at joint places, and covering of a pair's own state and set.
use Rattle.std.proofs.Common.{◌≢◌, inl, inr, ℕ, List, length, refl, sym, subst, arith}
use Rattle.std.proofs.lemmas.Option.{slice_get_within}
use Rattle.tree_definitions.specs.Automaton.{Automaton}
use Rattle.tree_definitions.specs.Cover.{Pair}
use Rattle.tree_definitions.specs.DownCert.{CoversDown, IsCoveredDown}
use Rattle.tree_definitions.specs.Joint.{right}
use Rattle.tree_definitions.specs.Relation.{Relation, Places, Has, IsAt, Below}
use Rattle.tree_definitions.proofs.Members.{at_within, contains_at, place_of}
use Rattle.down_conditions.specs.Covering.{AreShifted, IsCovered, IsCoveredElsewhere, IsHeld, Shifted}

module _ (A : Automaton) (R : Relation) (pairs wides : List Pair) (are : AreShifted (length A.states) pairs wides) (P Q : Places) where
  narrow : ((s : ℕ) → Q s → Shifted (length A.states) P s) → (k : ℕ) (pair wide : Pair) → IsAt pairs k pair → IsAt wides k wide
      → Below R (Has wide.set) Q → Below (λ x y. R (right A x) (right A y)) (Has pair.set) P
  narrow from k pair wide at wat below s m =
      let h = below (right A s) (((are.each k pair wide at wat).set (right A s)).1 (s, refl, m)) in
      let t = from h.0 h.1 in
      (t.0, t.2, subst (R (right A s)) t.1 h.2)

  widen : ((s : ℕ) → Shifted (length A.states) P s → Q s) → (k : ℕ) (pair wide : Pair) → IsAt pairs k pair → IsAt wides k wide
      → Below (λ x y. R (right A x) (right A y)) (Has pair.set) P → Below R (Has wide.set) Q
  widen to k pair wide at wat below s m =
      let t = ((are.each k pair wide at wat).set s).0 m in
      let h = below t.0 t.2 in
      (right A h.0, to (right A h.0) (h.0, refl, h.1), subst (λ z. R z (right A h.0)) (sym t.1) h.2)

  pub pair_of_wide : (k : ℕ) (wide : Pair) → IsAt wides k wide → (pair : Pair) × IsAt pairs k pair
  pair_of_wide k wide at =
      let w = slice_get_within wides k wide at in
      let e = are.long in
      at_within pairs k (omega (arith, w, e))

  pub wide_of_pair : (k : ℕ) (pair : Pair) → IsAt pairs k pair → (wide : Pair) × IsAt wides k wide
  wide_of_pair k pair at =
      let w = slice_get_within pairs k pair at in
      let e = are.long in
      at_within wides k (omega (arith, w, e))

  -- a pair at joint places covers as the listed one does
  pub covers_narrow : ((s : ℕ) → Q s → Shifted (length A.states) P s) → (skip q : ℕ) → IsCoveredElsewhere R wides skip q Q
      → (j : ℕ) × (pair : Pair) × (j ≢ skip) × IsAt pairs j pair × CoversDown A R pair q P
  covers_narrow from skip q h =
      let x = pair_of_wide h.0 h.1 h.3 in
      let e = (are.each h.0 x.0 h.1 x.1 h.3).state in
      (h.0, x.0, h.2, x.1, record { state = subst (R q) e h.4; set = narrow from h.0 x.0 h.1 x.1 h.3 h.5 })

  pub covers_wide : ((s : ℕ) → Shifted (length A.states) P s → Q s) → (skip q j : ℕ) (pair : Pair) → j ≢ skip → IsAt pairs j pair → CoversDown A R pair q P
      → IsCoveredElsewhere R wides skip q Q
  covers_wide to skip q j pair other at covers =
      let x = wide_of_pair j pair at in
      let e = (are.each j pair x.0 at x.1).state in
      (j, x.0, other, x.1, subst (R q) (sym e) covers.state, widen to j pair x.0 at x.1 covers.set)

  pub held_covered : ((s : ℕ) → Q s → Shifted (length A.states) P s) → (q : ℕ) → IsHeld R wides q Q → IsCoveredDown A R pairs q P
  held_covered from q h = elim h [
    | inl alone ↦ let t = from alone.0 alone.1 in inl (t.0, t.2, subst (R q) t.1 alone.2)
    | inr by_pair ↦ let x = covers_narrow from (length wides) q by_pair in inr (x.1, contains_at pairs x.0 x.1 x.3, x.4)
  ]

  pub covered_held : ((s : ℕ) → Shifted (length A.states) P s → Q s) → (q : ℕ) → IsCoveredDown A R pairs q P → IsHeld R wides q Q
  covered_held to q h = elim h [
    | inl alone ↦ inl (right A alone.0, to (right A alone.0) (alone.0, refl, alone.1), alone.2)
    | inr by_pair ↦
        let k = place_of pairs by_pair.0 by_pair.1 in
        let w = slice_get_within pairs k.0 by_pair.0 k.1 in
        let e = are.long in
        inr (covers_wide to (length wides) q k.0 by_pair.0 (λ f. omega (arith, w, e, f)) k.1 by_pair.2)
  ]

module _ (A : Automaton) (R : Relation) (pairs wides : List Pair) (are : AreShifted (length A.states) pairs wides)
    (i : ℕ) (x wide : Pair) (at : IsAt pairs i x) (wat : IsAt wides i wide) where
  pub other_by_place : IsCoveredElsewhere R wides i wide.state (Has wide.set) → IsCovered A R pairs i x
  other_by_place h =
      let shift = are.each i x wide at wat in
      let k = covers_narrow A R pairs wides are (Has x.set) (Has wide.set) (λ s. (shift.set s).0) i wide.state h in
      (k.0, k.1, k.2, k.3, subst (λ q. CoversDown A R k.1 q (Has x.set)) shift.state k.4)

  pub place_of_other : IsCovered A R pairs i x → IsCoveredElsewhere R wides i wide.state (Has wide.set)
  place_of_other h =
      let shift = are.each i x wide at wat in
      covers_wide A R pairs wides are (Has x.set) (Has wide.set) (λ s. (shift.set s).1) i wide.state h.0 h.1 h.2 h.3
      (subst (λ q. CoversDown A R h.1 q (Has x.set)) (sym shift.state) h.4)
