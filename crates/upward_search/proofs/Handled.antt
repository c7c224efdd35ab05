-- The steps from all tuples of done entries that contain a new one.
use Rattle.std.proofs.Common.{◌≡◌, inl, inr, ℕ, suc, ◌<◌, ◌≤◌, List, [], ◌∷◌, ◌++◌, length, map, refl, sym, ap, ap₂, ◌∙◌, subst, arith, append_assoc, length-append}
use Rattle.std.specs.Prelude.{Contains, ◌≢◌}
use Rattle.std.specs.List.{AllZip}
use Rattle.tree_definitions.specs.Tree.{Symbol}
use Rattle.tree_definitions.specs.Automaton.{Automaton, HasRule}
use Rattle.tree_definitions.specs.Relation.{Relation, Places, IsAt}
use Rattle.tree_definitions.specs.Cover.{Pair}
use Rattle.tree_definitions.specs.UpTrail.{UpEntry}
use Rattle.tree_definitions.proofs.Members.{at_unique, at_within, place_of, dec_contains, contains_cases, contains_head, contains_tail, contains_none}
use Rattle.tree_definitions.proofs.Counting.{contains_map}
use Rattle.upward_search.specs.Search.{IsOrder, IsOf, IsSearch, IsStepped, IsClosed, Grows, IsHandled}
use Rattle.upward_search.proofs.Zips.{zip_map, at_length}
use Rattle.upward_search.proofs.Covers.{stepped_grows}

pub zip_length : {X Y : Type 0} (P : X → Y → Type 0) (xs : List X) (ys : List Y) → AllZip P xs ys → length xs ≡ length ys
zip_length P [] [] z = refl
zip_length P [] (y ∷ ys) z = absurd z
zip_length P (x ∷ xs) [] z = absurd z
zip_length P (x ∷ xs) (y ∷ ys) z = ap suc (zip_length P xs ys z.1)

-- what is said of each element of a zip can also use that it is an element
pub zip_map_in : {X Y : Type 0} {P Q : X → Y → Type 0} → (xs : List X) (ys : List Y) → ((x : X) (y : Y) → Contains xs x → P x y → Q x y) → AllZip P xs ys → AllZip Q xs ys
zip_map_in [] [] f z = tt
zip_map_in [] (y ∷ ys) f z = absurd z
zip_map_in (x ∷ xs) [] f z = absurd z
zip_map_in (x ∷ xs) (y ∷ ys) f z = (f x y (contains_head x xs) z.0, zip_map_in xs ys (λ u v m p. f u v (contains_tail x xs u m) p) z.1)

-- an element of the first list has a partner
pub zip_member : {X Y : Type 0} (P : X → Y → Type 0) (xs : List X) (ys : List Y) → AllZip P xs ys → (x : X) → Contains xs x → (y : Y) × Contains ys y × P x y
zip_member P [] ys z x m = absurd (contains_none x m)
zip_member P (a ∷ us) [] z x m = absurd z
zip_member P (a ∷ us) (b ∷ bs) z x m = elim (contains_cases a us x m) [
  | inl e ↦ (b, contains_head b bs, subst (λ w. P w b) e z.0)
  | inr n ↦ let h = zip_member P us bs z.1 x n in (h.0, contains_tail b bs h.0 h.1, h.2)
]

-- an old entry of the longer list stood there before
pub at_old : (xs ys : List UpEntry) → ((k : ℕ) (x : UpEntry) → IsAt xs k x → IsAt ys k x) → (k : ℕ) (pair : Pair) → k < length xs
    → (x : UpEntry) × IsAt ys k x × (x.pair ≡ pair) → (x : UpEntry) × IsAt xs k x × (x.pair ≡ pair)
at_old xs ys stay k pair l g =
    let at = at_within xs k l in
    let same : at.0 ≡ g.0 = at_unique ys k at.0 g.0 (stay k at.0 at.1) g.1 in
    (at.0, at.1, ap (λ x. x.pair) same ∙ g.2)

-- the pairs of numbers are determined
pub pairs_unique : (entries : List UpEntry) (those these : Places) (ids : List ℕ) (xs ys : List Pair) → AllZip (IsOf entries those) ids xs → AllZip (IsOf entries these) ids ys → xs ≡ ys
pairs_unique entries those these [] [] [] h g = refl
pairs_unique entries those these [] (x ∷ xs) ys h g = absurd h
pairs_unique entries those these [] [] (y ∷ ys) h g = absurd g
pairs_unique entries those these (k ∷ ks) [] ys h g = absurd h
pairs_unique entries those these (k ∷ ks) (x ∷ xs) [] h g = absurd g
pairs_unique entries those these (k ∷ ks) (x ∷ xs) (y ∷ ys) h g =
    let same = at_unique entries k h.0.1.0 g.0.1.0 h.0.1.1 g.0.1.1 in
    ap₂ (λ z zs. z ∷ zs) (sym h.0.1.2 ∙ ap (λ w. w.pair) same ∙ g.0.1.2) (pairs_unique entries those these ks xs ys h.1 g.1)

length-map : {X Y : Type 0} (f : X → Y) (xs : List X) → length (map f xs) ≡ length xs
length-map f [] = refl
length-map f (x ∷ xs) = ap suc (length-map f xs)

-- the pair of the first number behind a front
pub behind : (entries : List UpEntry) (those : Places) (front : List ℕ) (k : ℕ) (back : List ℕ) (pairs : List Pair) → AllZip (IsOf entries those) (front ++ k ∷ back) pairs
    → (pair : Pair) × IsOf entries those k pair × IsAt (map (λ p. p.state) pairs) (length front) pair.state
behind entries those [] k back [] z = absurd z
behind entries those [] k back (p ∷ ps) z = (p, z.0, refl)
behind entries those (x ∷ xs) k back [] z = absurd z
behind entries those (x ∷ xs) k back (p ∷ ps) z = behind entries those xs k back ps z.1

module _ (A B : Automaton) (RA RB : Relation) (left : IsOrder (length A.states) RA) (right : IsOrder (length B.states) RB) where
  -- what is handled stays so, as entries are added and others taken out
  pub handled_grows : (entries entries' : List UpEntry) (kept kept' done done' : Places) → Grows entries kept entries' kept' → IsSearch A B RA RB entries' kept'
      → ((k : ℕ) → done' k → done k × (k < length entries)) → (kids : List ℕ) (e : ℕ) (chosen : List ℕ)
      → IsHandled A B RA RB entries kept done kids e chosen → IsHandled A B RA RB entries' kept' done' kids e chosen
  handled_grows entries entries' kept kept' done done' grows search fewer kids e chosen h rest pairs z same m =
      stepped_grows A B RA RB left right entries entries' kept kept' grows search pairs
      (h rest pairs (zip_map old (chosen ++ rest) pairs z) same m)
    where
      old : (k : ℕ) (pair : Pair) → IsOf entries' done' k pair → IsOf entries done k pair
      old k pair g =
          let f = fewer k g.0 in
          (f.0, at_old entries entries' grows.stay k pair f.1 g.1)

  -- all children are chosen, and the step is made
  pub handled_chosen : (entries : List UpEntry) (kept done those : Places) (kids : List ℕ) (e : ℕ) (chosen : List ℕ) (pairs : List Pair)
      → AllZip (IsOf entries those) chosen pairs → map (λ pair. pair.state) pairs ≡ kids → IsStepped A B RA RB entries kept pairs → IsHandled A B RA RB entries kept done kids e chosen
  handled_chosen entries kept done those kids e chosen pairs z same h rest others y alike m =
      go rest (zip_length (IsOf entries done) (chosen ++ rest) others y) y
    where
      sizes : length others ≡ length chosen
      sizes =
          let a = zip_length (IsOf entries those) chosen pairs z in
          let b = length-map (λ (pair : Pair). pair.state) pairs in
          let c = length-map (λ (pair : Pair). pair.state) others in
          let d = ap length same in
          let f = ap length alike in
          omega arith

      go : (rest : List ℕ) → length (chosen ++ rest) ≡ length others → AllZip (IsOf entries done) (chosen ++ rest) others → IsStepped A B RA RB entries kept others
      go [] l w =
          let w' : AllZip (IsOf entries done) chosen others = subst (λ ks. AllZip (IsOf entries done) ks others) append-nil w in
          subst (λ ps. IsStepped A B RA RB entries kept ps) (pairs_unique entries those done chosen pairs others z w') h
        where
          append-nil : chosen ++ [] ≡ chosen
          append-nil = nil_right chosen
            where
              nil_right : (xs : List ℕ) → xs ++ [] ≡ xs
              nil_right [] = refl
              nil_right (x ∷ xs) = ap (λ ys. x ∷ ys) (nil_right xs)
      go (k ∷ ks) l w = let s = sizes in let n = length-append chosen (k ∷ ks) in absurd (omega arith)

  -- each number that can come next is handled, or only e can
  pub handled_next : (entries : List UpEntry) (kept done : Places) (kids : List ℕ) (e : ℕ) (chosen : List ℕ) (q : ℕ) → IsAt kids (length chosen) q
      → ((k : ℕ) (pair : Pair) → IsOf entries done k pair → pair.state ≡ q → IsHandled A B RA RB entries kept done kids e (chosen ++ k ∷ []))
      → IsHandled A B RA RB entries kept done kids e chosen
  handled_next entries kept done kids e chosen q at each [] pairs z same m =
      let a = zip_length (IsOf entries done) (chosen ++ []) pairs z in
      let b = length-map (λ (pair : Pair). pair.state) pairs in
      let d = ap length same in
      let n = length-append chosen [] in
      let l = at_length kids (length chosen) q at in
      absurd (omega arith)
  handled_next entries kept done kids e chosen q at each (k ∷ ks) pairs z same m =
      let b = behind entries done chosen k ks pairs z in
      let here : IsAt kids (length chosen) b.0.state = subst (λ xs. IsAt xs (length chosen) b.0.state) same b.2 in
      let joined : (chosen ++ k ∷ []) ++ ks ≡ chosen ++ k ∷ ks = append_assoc chosen (k ∷ []) ks in
      each k b.0 b.1 (at_unique kids (length chosen) b.0.state q here at) ks pairs
      (subst (λ xs. AllZip (IsOf entries done) xs pairs) (sym joined) z) same (subst (λ xs. Contains xs e) (sym joined) m)

  -- with e done too, and all its steps, the search is closed
  pub closed_more : (entries entries' : List UpEntry) (kept kept' done done' : Places) (e : ℕ) (at_e : UpEntry) → IsAt entries e at_e
      → Grows entries kept entries' kept' → IsSearch A B RA RB entries' kept'
      → IsClosed A B RA RB entries kept done → ((k : ℕ) → done' k → (k ≢ e) → done k) → ((k : ℕ) → done' k → k < length entries)
      → ((a : Symbol) (p : ℕ) (kids : List ℕ) → HasRule A a kids p → Contains kids at_e.pair.state → IsHandled A B RA RB entries' kept' done' kids e [])
      → IsClosed A B RA RB entries' kept' done'
  closed_more entries entries' kept kept' done done' e at_e at grows search closed fewer within handled ids pairs z =
      elim (dec_contains ids e) [ yes m ↦ with_e m | no n ↦ without n ]
    where
      with_e : Contains ids e → IsStepped A B RA RB entries' kept' pairs
      with_e m a p rule =
          let partner = zip_member (IsOf entries' done') ids pairs z e m in
          let same : at_e ≡ partner.2.1.0 = at_unique entries' e at_e partner.2.1.0 (grows.stay e at_e at) partner.2.1.1 in
          let state : at_e.pair.state ≡ partner.0.state = ap (λ x. x.pair.state) same ∙ ap (λ x. x.state) partner.2.1.2 in
          let inside = contains_map (λ (pair : Pair). pair.state) pairs partner.0 partner.1 in
          handled a p (map (λ pair. pair.state) pairs) rule (subst (λ s. Contains (map (λ (pair : Pair). pair.state) pairs) s) (sym state) inside)
          ids pairs z refl m a p rule

      without : (Contains ids e → ⊥) → IsStepped A B RA RB entries' kept' pairs
      without n =
          stepped_grows A B RA RB left right entries entries' kept kept' grows search pairs
          (closed ids pairs (zip_map_in ids pairs old z))
        where
          old : (k : ℕ) (pair : Pair) → Contains ids k → IsOf entries' done' k pair → IsOf entries done k pair
          old k pair m g =
              let l = within k g.0 in
              (fewer k g.0 (λ same. n (subst (λ i. Contains ids i) same m)), at_old entries entries' grows.stay k pair l g.1)

  -- while nothing is done, the leaf rules are all
  pub closed_leaves : (entries : List UpEntry) (kept done : Places) → ((k : ℕ) → done k → ⊥) → IsStepped A B RA RB entries kept [] → IsClosed A B RA RB entries kept done
  closed_leaves entries kept done nothing h [] [] z = h
  closed_leaves entries kept done nothing h [] (y ∷ ys) z = absurd z
  closed_leaves entries kept done nothing h (k ∷ ks) [] z = absurd z
  closed_leaves entries kept done nothing h (k ∷ ks) (y ∷ ys) z = absurd (nothing k z.0.0)

  -- e can stand at no place that is left
  pub handled_without : (entries : List UpEntry) (kept done : Places) (kids : List ℕ) (e : ℕ) (at_e : UpEntry) → IsAt entries e at_e → (chosen : List ℕ)
      → ¬ Contains chosen e → ((i q : ℕ) → length chosen ≤ i → IsAt kids i q → q ≢ at_e.pair.state) → IsHandled A B RA RB entries kept done kids e chosen
  handled_without entries kept done kids e at_e at chosen none away rest pairs z same m =
      absurd (go chosen pairs kids rest z same none away m)
    where
      go : (chosen : List ℕ) (pairs : List Pair) (kids rest : List ℕ) → AllZip (IsOf entries done) (chosen ++ rest) pairs → map (λ pair. pair.state) pairs ≡ kids
          → ¬ Contains chosen e → ((i q : ℕ) → length chosen ≤ i → IsAt kids i q → q ≢ at_e.pair.state) → Contains (chosen ++ rest) e → ⊥
      go [] pairs kids rest z same none away m =
          let partner = zip_member (IsOf entries done) rest pairs z e m in
          let is : at_e ≡ partner.2.1.0 = at_unique entries e at_e partner.2.1.0 at partner.2.1.1 in
          let state : at_e.pair.state ≡ partner.0.state = ap (λ x. x.pair.state) is ∙ ap (λ x. x.state) partner.2.1.2 in
          let inside = contains_map (λ (pair : Pair). pair.state) pairs partner.0 partner.1 in
          let place = place_of (map (λ (pair : Pair). pair.state) pairs) partner.0.state inside in
          away place.0 partner.0.state (omega arith) (subst (λ ks. IsAt ks place.0 partner.0.state) same place.1) (sym state)
      go (x ∷ xs) [] kids rest z same none away m = absurd z
      go (x ∷ xs) (p ∷ ps) kids rest z same none away m = elim (contains_cases x (xs ++ rest) e m) [
        | inl is ↦ none (subst (λ k. Contains (x ∷ xs) k) is (contains_head x xs))
        | inr n ↦ go xs ps (map (λ pair. pair.state) ps) rest z.1 refl (λ h. none (contains_tail x xs e h))
            (λ i q l at'. away (suc i) q (omega arith) (subst (λ ks. IsAt ks (suc i) q) same at')) n
      ]
