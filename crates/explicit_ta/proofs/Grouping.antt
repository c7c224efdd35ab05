-- Groups are made symbol by symbol from pairs of a symbol and a parent.
use Rattle.std.proofs.Common.{◌≡◌, ◌≢◌, ◌↔◌, ◌⊎◌, inl, inr, ℕ, ◌+◌, ◌<◌, ◌≤◌, List, [], ◌∷◌, ◌++◌, length, get_or, map, take, drop, sym, ap, subst, ◌∙◌, arith, ⊎_elim}
use Rattle.std.specs.Prelude.{AllPairs, Contains}
use Rattle.std.specs.List.Sorted.{IsNonDecreasingBy}
use Rattle.std.proofs.lemmas.Bool.{cases_eq}
use Rattle.std.proofs.lemmas.List.{length-drop, length-take, get_or-drop, get_or-take, take-append-drop}
use Rattle.std.proofs.lemmas.List.Elements.{Contains-get_or, Contains-push, Contains-push_cases, Contains-append_left, Contains-append_cases}
use Rattle.std.proofs.lemmas.List.Quantifiers.{all_pairs_push}
use Rattle.std.proofs.lemmas.List.Sorted.{IsNonDecreasingBy-drop}
use Rattle.tree_definitions.specs.Automaton.{Rule}
use Rattle.tree_definitions.specs.Relation.{Row, Has, AreEqual}
use Rattle.tree_definitions.proofs.Members.{contains_none}
use Rattle.ta_model.specs.declared.joint.UpGroup.{UpGroup}
use Rattle.ta_model.specs.Macrostates.{Macrostates, StoreGrows, row_at}
use Rattle.ta_model.proofs.Interning.{grown_row, grown_within}
use Rattle.explicit_ta.specs.Steps.{AreGroupsAt, IsGroupAt, IsReachedUnder}
use Rattle.explicit_ta.proofs.Lists.{get_or_any, image_in, image_out, key_of}
use Rattle.explicit_ta.proofs.Unions.{apart_map}

-- groups of the pairs that are done, and the pairs that are left, whose symbols come later
pub record Grouping (pairs : List (ℕ × ℕ)) (rules : List Rule) (sets : List Row) (store : Macrostates) (rest : List (ℕ × ℕ)) (groups : List UpGroup) : Type 0 where
  pub each : (group : UpGroup) → Contains groups group → IsGroupAt pairs rules sets store group
  pub covered : (a p : ℕ) → Contains pairs (a, p) → Contains rest (a, p) ⊎ ((group : UpGroup) × Contains groups group × (group.symbol ≡ a))
  pub within : (x : ℕ × ℕ) → Contains rest x → Contains pairs x
  pub rising : IsNonDecreasingBy key_of rest
  pub distinct : AllPairs ◌≢◌ rest
  pub behind : (group : UpGroup) → Contains groups group → (x : ℕ × ℕ) → Contains rest x → group.symbol < x.0
  pub single : AllPairs (λ (g : UpGroup) (h : UpGroup). g.symbol ≢ h.symbol) groups

pub grouping_none : (pairs : List (ℕ × ℕ)) (rules : List Rule) (sets : List Row) (store : Macrostates) → IsNonDecreasingBy key_of pairs → AllPairs ◌≢◌ pairs → Grouping pairs rules sets store pairs []
grouping_none pairs rules sets store rising distinct = record {
  each = λ g m. absurd (contains_none g m);
  covered = λ a p m. inl m;
  within = λ x m. m;
  rising = rising;
  distinct = distinct;
  behind = λ g m x n. absurd (contains_none g m);
  single = λ i j d lt within. absurd (omega arith);
}

pub grouping_all : (pairs : List (ℕ × ℕ)) (rules : List Rule) (sets : List Row) (store : Macrostates) (rest : List (ℕ × ℕ)) (groups : List UpGroup) → length rest ≤ 0
    → Grouping pairs rules sets store rest groups → AreGroupsAt pairs rules sets store groups
grouping_all pairs rules sets store rest groups none h = record {
  each = h.each;
  all_symbols = λ a p m. ⊎_elim (λ n. absurd (let lt = n.1 in omega (arith, none, lt))) (λ g. g) (h.covered a p m);
  single = h.single;
}

-- a group stays one when the store grows
pub group_grown : (pairs : List (ℕ × ℕ)) (rules : List Rule) (sets : List Row) (old new : Macrostates) (group : UpGroup) → StoreGrows old new → IsGroupAt pairs rules sets old group → IsGroupAt pairs rules sets new group
group_grown pairs rules sets old new group g h = record {
  some = h.some;
  distinct = h.distinct;
  parents = h.parents;
  stored = grown_within old new g group.set h.stored;
  set = subst (λ (row : Row). AreEqual (Has row) (IsReachedUnder rules group.symbol sets)) (sym (grown_row old new g group.set h.stored)) h.set;
}

pair_is : (x : ℕ × ℕ) (a p : ℕ) → x.0 ≡ a → x.1 ≡ p → ◌≡◌ {A = ℕ × ℕ} x (a, p)
pair_is x a p e f = ap (λ (k : ℕ). (k, x.1)) e ∙ ap (λ (k : ℕ). (a, k)) f

module _ (pairs : List (ℕ × ℕ)) (rules : List Rule) (sets : List Row) (old new : Macrostates) (rest : List (ℕ × ℕ)) (groups : List UpGroup) (h : Grouping pairs rules sets old rest groups)
    (x : ℕ × ℕ) (some : 0 < length rest) (first : ◌≡◌ {A = ℕ × ℕ} x (get_or rest 0 x)) (count : ℕ)
    (front : (k : ℕ) (d : ℕ × ℕ) → k < count → (get_or rest k d).0 ≤ x.0)
    (back : (k : ℕ) (d : ℕ × ℕ) → count ≤ k → k < length rest → x.0 < (get_or rest k d).0) where
  pub some_done : 0 < count
  some_done = ⊎_elim
      (λ (none : count ≡ 0). absurd (let less : x.0 < (get_or rest 0 x).0 = back 0 x (omega arith) some in let same = ap (λ (w : ℕ × ℕ). w.0) first in omega (arith, less, same)))
      (λ (more : count ≡ 0 → ⊥). omega (arith, more))
      (cases_eq count 0)

  stands : Contains rest x
  stands = (0, some, sym first)

  -- a pair of the front has the symbol
  in_here : (y : ℕ × ℕ) → Contains (take count rest) y → Contains rest y × (y.0 ≡ x.0)
  in_here y (k, lt, e) =
      let short = length-take count rest in
      let below : k < count = omega (arith, lt, short) in
      let inside : k < length rest = omega (arith, lt, short) in
      let is : get_or rest k y ≡ y = sym (get_or-take count rest k y below) ∙ e in
      let up : (get_or rest 0 y).0 ≤ (get_or rest k y).0 = h.rising 0 k y (omega arith) inside in
      let at : (get_or rest 0 y).0 ≡ x.0 = ap (λ (w : ℕ × ℕ). w.0) (get_or_any rest 0 y x some ∙ sym first) in
      let low : (get_or rest k y).0 ≤ x.0 = front k y below in
      let same : (get_or rest k y).0 ≡ y.0 = ap (λ (w : ℕ × ℕ). w.0) is in
      ((k, inside, is), omega (arith, up, at, low, same))

  -- a later pair has a later one
  in_there : (y : ℕ × ℕ) → Contains (drop count rest) y → Contains rest y × (x.0 < y.0)
  in_there y (k, lt, e) =
      let long = length-drop count rest in
      let inside : count + k < length rest = omega (arith, lt, long) in
      let is : get_or rest (count + k) y ≡ y = sym (get_or-drop count rest k y) ∙ e in
      let more : x.0 < (get_or rest (count + k) y).0 = back (count + k) y (omega arith) inside in
      let same : (get_or rest (count + k) y).0 ≡ y.0 = ap (λ (w : ℕ × ℕ). w.0) is in
      ((count + k, inside, is), omega (arith, more, same))

  parts : (y : ℕ × ℕ) → Contains rest y → Contains (take count rest) y ⊎ Contains (drop count rest) y
  parts y m = Contains-append_cases (take count rest) (drop count rest) y (subst (λ l. Contains l y) (sym (take-append-drop count rest)) m)

  apart_take : AllPairs ◌≢◌ (take count rest)
  apart_take i j d lt within same =
      let short = length-take count rest in
      h.distinct i j d lt (omega (arith, short, within)) (sym (get_or-take count rest i d (omega (arith, lt, within, short))) ∙ same ∙ get_or-take count rest j d (omega (arith, within, short)))

  apart_drop : AllPairs ◌≢◌ (drop count rest)
  apart_drop i j d lt within same =
      let long = length-drop count rest in
      h.distinct (count + i) (count + j) d (omega (arith, lt)) (omega (arith, long, within)) (sym (get_or-drop count rest i d) ∙ same ∙ get_or-drop count rest j d)

  module _ (group : UpGroup) (symbol : group.symbol ≡ x.0) (parents : group.parents.items ≡ map (λ (y : ℕ × ℕ). y.1) (take count rest)) (grows : StoreGrows old new) (stored : group.set < length new.rows)
      (set : AreEqual (Has (row_at new group.set)) (IsReachedUnder rules x.0 sets)) where
    distinct_parents : AllPairs ◌≢◌ group.parents.items
    distinct_parents =
        subst (AllPairs ◌≢◌) (sym parents)
        (apart_map (λ (y : ℕ × ℕ). y.1) (take count rest) apart_take
        (λ y z m n e. pair_is y z.0 z.1 ((in_here y m).1 ∙ sym (in_here z n).1) e))

    exact : (p : ℕ) → Contains (map (λ (y : ℕ × ℕ). y.1) (take count rest)) p ↔ Contains pairs (x.0, p)
    exact p = (
      λ m.
          let y = image_out (λ (y : ℕ × ℕ). y.1) (take count rest) p m in
          let k = in_here y.0 y.1 in
          subst (Contains pairs) (pair_is y.0 x.0 p k.1 y.2) (h.within y.0 k.0),
      λ m. ⊎_elim
          (λ n. ⊎_elim
          (λ k. image_in (λ (y : ℕ × ℕ). y.1) (take count rest) (x.0, p) k)
          (λ k. absurd (let less : x.0 < x.0 = (in_there (x.0, p) k).1 in omega (arith, less)))
          (parts (x.0, p) n))
          (λ g. absurd (let less : g.0.symbol < x.0 = h.behind g.0 g.1 x stands in let same = g.2 in omega (arith, less, same)))
          (h.covered x.0 p m),
    )

    made : IsGroupAt pairs rules sets new group
    made = record {
      some = (x.1, subst (λ k. Contains pairs (k, x.1)) (sym symbol) (h.within x stands));
      distinct = distinct_parents;
      parents = λ p. subst (λ (ps : List ℕ). Contains ps p ↔ Contains pairs (group.symbol, p)) (sym parents) (subst (λ k. Contains (map (λ (y : ℕ × ℕ). y.1) (take count rest)) p ↔ Contains pairs (k, p)) (sym symbol) (exact p));
      stored = stored;
      set = subst (λ k. AreEqual (Has (row_at new group.set)) (IsReachedUnder rules k sets)) (sym symbol) set;
    }

    pub grouping_more : Grouping pairs rules sets new (drop count rest) (groups ++ group ∷ [])
    grouping_more = record {
      each = λ g m. ⊎_elim
          (λ k. group_grown pairs rules sets old new g grows (h.each g k))
          (λ (e : group ≡ g). subst (IsGroupAt pairs rules sets new) e made)
          (Contains-push_cases groups group g m);
      covered = λ a p m. ⊎_elim
          (λ n. ⊎_elim
          (λ k. inr (group, Contains-push groups group, symbol ∙ sym (in_here (a, p) k).1))
          (λ k. inl k)
          (parts (a, p) n))
          (λ g. inr (g.0, Contains-append_left groups (group ∷ []) g.0 g.1, g.2))
          (h.covered a p m);
      within = λ y m. h.within y (in_there y m).0;
      rising = IsNonDecreasingBy-drop key_of count rest h.rising;
      distinct = apart_drop;
      behind = λ g m y n. ⊎_elim
          (λ k. h.behind g k y (in_there y n).0)
          (λ (e : group ≡ g). let same : g.symbol ≡ x.0 = ap (λ (v : UpGroup). v.symbol) (sym e) ∙ symbol in let less = (in_there y n).1 in omega (arith, same, less))
          (Contains-push_cases groups group g m);
      single = all_pairs_push (λ (g : UpGroup) (k : UpGroup). g.symbol ≢ k.symbol) groups group h.single
          (λ k d lt e.
          let g = get_or groups k d in
          let less : g.symbol < x.0 = h.behind g (Contains-get_or groups k d lt) x stands in
          let same : g.symbol ≡ group.symbol = e in
          omega (arith, less, same, symbol));
    }
