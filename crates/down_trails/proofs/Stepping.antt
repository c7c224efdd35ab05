-- Whether an entry is a step, by its kind.
use Rattle.std.proofs.Common.{◌≡◌, ◌≢◌, ◌↔◌, ⊎_elim, ℕ, ◌+◌, ◌<◌, List, length, get_or, refl, sym, subst, arith}
use Rattle.std.proofs.lemmas.Bool.{cases_eq}
use Rattle.std.proofs.lemmas.Option.{slice_get_read}
use Rattle.tree_definitions.specs.Automaton.{Automaton, Rule, IsFinal, IsNarrow}
use Rattle.tree_definitions.specs.Cover.{Pair}
use Rattle.tree_definitions.specs.DownTrail.{DownEntry, Root, Child, Split, SplitOf, SentBy, IsDownStep, IsOpen}
use Rattle.tree_definitions.specs.Relation.{Relation, AreEqual, Row, Has, IsAt}
use Rattle.tree_definitions.proofs.Members.{at_unique}
use Rattle.listed_pairs.specs.DownEntries.{entries_of, entry_of}
use Rattle.listed_pairs.specs.Places.{IsFirst, IsNthAt}
use Rattle.listed_pairs.specs.declared.entry.DownEntry.{DownEntry as Listed}
use Rattle.down_trails.specs.Entries.{AllAtBefore, CoversEntry, IsChildOf}
use Rattle.down_trails.proofs.Splitting.{at_map, kids_of_rule, same_row, tuples_same}

pub entry_at : (entries : List Listed) (i : ℕ) (this shape : Listed) → i < length entries → this ≡ get_or entries i this → this ≡ shape → IsAt (entries_of entries) i (entry_of shape)
entry_at entries i this shape l is e =
    subst (λ x. IsAt (entries_of entries) i (entry_of x)) e (at_map entry_of entries i this (slice_get_read entries (length entries) i this refl l is))

module _ {X : Type 0} (xs : List X) (Kind : ℕ → X → Type 0) where
  pub all_at_next : (i : ℕ) (x : X) → AllAtBefore xs Kind i → IsAt xs i x → Kind i x → AllAtBefore xs Kind (i + 1)
  all_at_next i x all at here j y l jat =
      ⊎_elim
      (λ (e : j ≡ i).
      let same : x ≡ y = at_unique xs i x y at (subst (λ k. IsAt xs k y) e jat) in
      subst (λ k. Kind k y) (sym e) (subst (Kind i) same here))
      (λ (d : j ≢ i). all j y (omega arith) jat)
      (cases_eq j i)

  pub first_not : (i : ℕ) (x : X) → AllAtBefore xs Kind i → IsAt xs i x → ¬ Kind i x → IsFirst (IsNthAt xs (λ k y. Kind k y → ⊥)) (i + 1)
  first_not i x all at not = record {
    here = (i, x, omega arith, at, not);
    none_before = λ k l m. let f = m.2 in m.4 (all m.0 m.1 (omega arith) m.3);
  }

module _ (A B : Automaton) (entries : List DownEntry) (i : ℕ) (Yes : Type 0) where
  pub by_shape : (shape : DownEntry) → IsAt entries i shape → (Yes ↔ IsDownStep A B entries i shape) → (entry : DownEntry) → IsAt entries i entry → Yes ↔ IsDownStep A B entries i entry
  by_shape shape at h entry other = subst (λ x. Yes ↔ IsDownStep A B entries i x) (at_unique entries i shape entry at other) h

  pub root_steps : (left right : Row) → ((q : ℕ) → Has left q ↔ IsFinal A q) → ((q : ℕ) → Has right q ↔ IsFinal B q) → (pair : Pair)
      → (Yes ↔ (Has left pair.state × AreEqual (Has pair.set) (Has right))) → Yes ↔ IsDownStep A B entries i (Root pair)
  root_steps left right ours theirs pair f = (
    λ y. let h = f.0 y in ((ours pair.state).0 h.0, λ s. (λ m. (theirs s).0 ((h.1 s).0 m), λ m. (h.1 s).1 ((theirs s).1 m))),
    λ h. f.1 ((ours pair.state).1 h.0, λ s. (λ m. (theirs s).1 ((h.1 s).0 m), λ m. (h.1 s).1 ((theirs s).0 m))),
  )

  -- the pair is that of a child of this entry, a split
  abbrev ChildOf : Pair → ℕ → DownEntry → Type 0
  ChildOf pair place (Root p) = ⊥
  ChildOf pair place (Child p s j) = ⊥
  ChildOf pair place (Split e r choice) = IsChildOf A B entries e r choice place pair

  pub child_steps : (pair : Pair) (split place e r : ℕ) (choice : List ℕ) → split < i → IsAt entries split (Split e r choice)
      → (Yes ↔ IsChildOf A B entries e r choice place pair) → Yes ↔ IsDownStep A B entries i (Child pair split place)
  child_steps pair split place e r choice l at f = (
    λ y. let h = f.0 y in (l, e, r, choice, at, h.0, h.1, h.2),
    λ h. f.1 (subst (ChildOf pair place) (at_unique entries split (Split h.1 h.2 h.3) (Split e r choice) h.4 at) (h.5, h.6, h.7)),
  )

  pub split_steps : (e r : ℕ) (choice : List ℕ) → e < i → (Yes ↔ ((of : SplitOf A B entries e r) × (length choice ≡ length of.tuples)))
      → Yes ↔ IsDownStep A B entries i (Split e r choice)
  split_steps e r choice l f = (λ y. let h = f.0 y in (l, h.0, h.1), λ h. f.1 (h.1, h.2))

module _ (A B : Automaton) (entries : List DownEntry) (e r : ℕ) (of : SplitOf A B entries e r) (choice : List ℕ) (place : ℕ) (row : Row)
    (members : (s : ℕ) → Has row s ↔ SentBy of.tuples choice place s) where
  -- the row has what any split of the entry by the rule sends to the place
  pub sent_same : IsNarrow A → (other : SplitOf A B entries e r) (s : ℕ) → Has row s ↔ SentBy other.tuples choice place s
  sent_same narrow other s = subst (λ ts. Has row s ↔ SentBy ts choice place s) (tuples_same A B entries e r of other narrow) (members s)

  pub child_by_row : IsNarrow A → (Yes : Type 0) (pair : Pair) (rule : Rule) → IsAt A.rules r rule → IsAt rule.kids place pair.state → length row ≡ length pair.set
      → (Yes ↔ (row ≡ pair.set)) → Yes ↔ IsChildOf A B entries e r choice place pair
  child_by_row narrow Yes pair rule at kid long f = (
    λ y.
        let same = f.0 y in
        let kids = kids_of_rule A B entries e r of rule at in
        (of, subst (λ ks. IsAt ks place pair.state) (sym kids) kid, λ s. (λ m. (members s).0 (subst (λ (x : Row). Has x s) (sym same) m), λ m. subst (λ (x : Row). Has x s) same ((members s).1 m))),
    λ h. f.1 (same_row row pair.set long (λ s. (λ m. (h.2 s).1 ((sent_same narrow h.0 s).0 m), λ m. (sent_same narrow h.0 s).1 ((h.2 s).0 m)))),
  )

module _ (A B : Automaton) (R : Relation) (entries : List DownEntry) where
  pub covered_not_open : (entry : DownEntry) → CoversEntry A B R entries entry → IsOpen A B R entries entry → ⊥
  covered_not_open (Root pair) h o = o h
  covered_not_open (Child pair split place) h o = o h
  covered_not_open (Split e r choice) h o = o h.0 h.1 h.2 h.3 h.4

  pub open_not_covered : (entry : DownEntry) → (CoversEntry A B R entries entry → ⊥) → IsOpen A B R entries entry
  open_not_covered (Root pair) n = n
  open_not_covered (Child pair split place) n = n
  open_not_covered (Split e r choice) n = λ of place q at h. n (of, place, q, at, h)

  pub covers_shape : (i : ℕ) (shape : DownEntry) → IsAt entries i shape → (Yes : Type 0) → (Yes ↔ CoversEntry A B R entries shape) → (entry : DownEntry) → IsAt entries i entry → Yes ↔ CoversEntry A B R entries entry
  covers_shape i shape at Yes h entry other = subst (λ x. Yes ↔ CoversEntry A B R entries x) (at_unique entries i shape entry at other) h
