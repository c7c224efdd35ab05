-- What stays true as tuples are chosen.
use Rattle.std.proofs.Common.{◌≡◌, ◌⊎◌, inl, inr, ℕ, zero, suc, ◌+◌, ◌<◌, ◌≤◌, List, [], ◌∷◌, ◌++◌, length, map, take, refl, sym, ap, ◌∙◌, subst, arith, add-one, ⊎_elim, length-append, slice_set, Vec, Global}
use Rattle.std.specs.Prelude.{◌≢◌, slice_index_or, Contains, IfOk, IsTrue, Bool, ◌↔◌, Result, Ok, Err, All}
use Rattle.std.proofs.lemmas.List.{take-set, take_more_set}
use Rattle.std.proofs.lemmas.List.Elements.{Contains-push, Contains-push_cases, Contains-append_left}
use Rattle.smallvec.specs.SmallVec.{SmallVec}
use Rattle.tree_definitions.specs.Automaton.{Automaton, IsAutomaton, IsState}
use Rattle.tree_definitions.specs.Relation.{Holds, IsAt}
use Rattle.tree_definitions.specs.Cover.{Pair}
use Rattle.tree_definitions.proofs.Members.{at_within, at_unique, place_of, contains_at}
use Rattle.tree_definitions.proofs.Counting.{length-map}
use Rattle.tree_definitions.proofs.Listing.{kid_states}
use Rattle.ta_model.specs.Tuples.{kids_of}
use Rattle.ta_model.specs.UpGroups.{HasKidsWith}
use Rattle.upward_search.specs.Search.{IsOf, IsSearch}
use Rattle.upward_search.proofs.Handled.{handled_grows, handled_chosen, handled_next, handled_without, zip_member}
use Rattle.antichain_up.specs.declared.search.Search.{Search}
use Rattle.antichain_up.specs.Entries.{EntryRow, AreCandidates, Kept, Done, up_entry}
use Rattle.antichain_up.specs.Orders.{TwoOrders, AreOrders}
use Rattle.antichain_up.specs.SearchState.{AreGiven, IsGoing, Moves, ArePicked, Handles, HandlesAll, StepsFrom, IsLast, entries_of}
use Rattle.antichain_up.proofs.Stepping.{at_map, at_index, below, within}

-- there is an entry with this number
abbrev pub HasEntry : Search → ℕ → Type 0
HasEntry s e = (x : EntryRow) × IsAt s.entries.rows e x

-- a fact of a result's value, from another
pub ok_more : {V E : Type 0} (r : Result V E) (P Q : V → Type 0) → IfOk r P → ((v : V) → P v → Q v) → IfOk r Q
ok_more (Ok v) P Q h f = f v h
ok_more (Err e) P Q h f = tt

pub moves_self : (s : Search) → Moves s s
moves_self s = record {
  grows = record { stay = λ k entry e. e; no_more = λ k l h. h };
  next = refl;
  longer = omega arith;
  stays = λ k e at. at;
  store = record { states = refl; kept = λ k row at. at };
}

-- the step from all children is all that is left
pub step_handles : (A B : Automaton) (orders : TwoOrders) (s : Search) (kids chosen : List ℕ) (e : ℕ) → AreOrders (length A.states) (length B.states) orders → StepsFrom A B orders s kids chosen → Handles A B orders s kids e chosen
step_handles A B orders s kids chosen e fixed h =
    handled_chosen A B (Holds orders.left) (Holds orders.right) fixed.left_order fixed.right_order (entries_of s) (Kept s.entries) (Done s.entries s.next) (λ k. Unit {0}) kids e chosen h.0 h.1 h.2 h.3

module _ (A B : Automaton) (orders : TwoOrders) (budget : ℕ) (s s' : Search) (fixed : AreOrders (length A.states) (length B.states) orders) (going : IsGoing A B orders budget s) (moves : Moves s s') where
  -- what is done now was done before
  done_before : (k : ℕ) → Done s'.entries s'.next k → Done s.entries s.next k × (k < length (entries_of s))
  done_before k d =
      let n = moves.next in
      let c = going.sound.next in
      let m = length-map (up_entry s.store) s.entries.rows in
      let b = d.1 in
      let l : k < length (entries_of s) = omega arith in
      ((moves.grows.no_more k l d.0, (let b' = d.1 in omega arith)), l)

  -- handled before, handled now
  pub still_handled : IsSearch A B (Holds orders.left) (Holds orders.right) (entries_of s') (Kept s'.entries) → (kids : List ℕ) (e : ℕ) (chosen : List ℕ) → Handles A B orders s kids e chosen → Handles A B orders s' kids e chosen
  still_handled is kids e chosen h =
      handled_grows A B (Holds orders.left) (Holds orders.right) fixed.left_order fixed.right_order (entries_of s) (entries_of s') (Kept s.entries) (Kept s'.entries) (Done s.entries s.next) (Done s'.entries s'.next) moves.grows is done_before kids e chosen h

  module _ (kids : List ℕ) (lists : List (List ℕ)) (are : AreCandidates s.entries s.next kids lists) (place q : ℕ) (list : List ℕ) (at_q : IsAt kids place q) (at_l : IsAt lists place list) where
    -- whatever is done now, with the right state, was listed
    listed : (k : ℕ) (pair : Pair) → IsOf (entries_of s') (Done s'.entries s'.next) k pair → pair.state ≡ q → Contains list k
    listed k pair is same =
        let d = done_before k is.0 in
        let l : k < length s.entries.rows = (let a = d.1 in let m = length-map (up_entry s.store) s.entries.rows in omega arith) in
        let x = at_within s.entries.rows k l in
        let now = moves.grows.stay k (up_entry s.store x.0) (at_map (up_entry s.store) s.entries.rows k x.0 x.1) in
        let one : up_entry s.store x.0 ≡ is.1.0 = at_unique (entries_of s') k (up_entry s.store x.0) is.1.0 now is.1.1 in
        let state : x.0.state ≡ q = ap (λ y. y.pair.state) one ∙ ap (λ p. p.state) is.1.2 ∙ same in
        are.all place q k list at_q at_l d.0 (x.0, x.1, state)

    -- all candidates are handled: so is what stands before them
    pub all_candidates : (e n : ℕ) (chosen : List ℕ) → length chosen ≡ place → length list ≤ n
        → ((i k : ℕ) → i < n → IsAt list i k → Handles A B orders s' kids e (chosen ++ k ∷ [])) → Handles A B orders s' kids e chosen
    all_candidates e n chosen size many h =
        handled_next A B (Holds orders.left) (Holds orders.right) fixed.left_order fixed.right_order (entries_of s') (Kept s'.entries) (Done s'.entries s'.next) kids e chosen q (subst (λ i. IsAt kids i q) (sym size) at_q)
        (λ k pair is same. let at = place_of list k (listed k pair is same) in h at.0 k (within list at.0 k at.1 n many) at.1)

    -- a candidate is an entry
    pub candidate : (k : ℕ) → Contains list k → (x : EntryRow) × IsAt s'.entries.rows k x × (x.state ≡ q)
    candidate k m = let c = are.sound place q k list at_q at_l m in (c.0, moves.stays k c.0 c.1, c.2)

  -- the lists still serve
  pub lists_later : (kids : List ℕ) (lists : List (List ℕ)) → AreCandidates s.entries s.next kids lists → AreCandidates s'.entries s'.next kids lists
  lists_later kids lists are = record {
    many = are.many;
    all = λ i q k list a b d x.
        let was = done_before k d in
        let l : k < length s.entries.rows = (let c = was.1 in let m = length-map (up_entry s.store) s.entries.rows in omega arith) in
        let y = at_within s.entries.rows k l in
        let one : y.0 ≡ x.0 = at_unique s'.entries.rows k y.0 x.0 (moves.stays k y.0 y.1) x.1 in
        are.all i q k list a b was.0 (y.0, y.1, ap (λ z. z.state) one ∙ x.2);
    sound = λ i q k list a b m. let c = are.sound i q k list a b m in (c.0, moves.stays k c.0 c.1, c.2);
  }

take_short : {X : Type 0} (n : ℕ) (xs : List X) → take n (take (suc n) xs) ≡ take n xs
take_short zero xs = refl
take_short (suc n) [] = refl
take_short (suc n) (x ∷ xs) = ap (λ ys. x ∷ ys) (take_short n xs)

-- the part before the place that was written is as before
pub prefix_back : (n k : ℕ) (xs ys zs : List ℕ) → take (n + 1) xs ≡ take (n + 1) (slice_set ys n k) → take n ys ≡ zs → take n xs ≡ zs
prefix_back n k xs ys zs h e =
    let short : (ws : List ℕ) → take n (take (n + 1) ws) ≡ take n ws = λ ws. rw add-one (take_short n ws) in
    sym (short xs) ∙ ap (λ ws. take n ws) h ∙ short (slice_set ys n k) ∙ take-set ys n k ∙ e

-- one more candidate
pub more_candidates : (A B : Automaton) (orders : TwoOrders) (budget : ℕ) (s s' : Search) → AreOrders (length A.states) (length B.states) orders → IsGoing A B orders budget s → Moves s s'
    → IsSearch A B (Holds orders.left) (Holds orders.right) (entries_of s') (Kept s'.entries) → (kids : List ℕ) (e : ℕ) (chosen items : List ℕ) (n : ℕ) → n < length items
    → ((i k : ℕ) → i < n → IsAt items i k → Handles A B orders s kids e (chosen ++ k ∷ []))
    → Handles A B orders s' kids e (chosen ++ slice_index_or items n 0 ∷ [])
    → (i k : ℕ) → i < n + 1 → IsAt items i k → Handles A B orders s' kids e (chosen ++ k ∷ [])
more_candidates A B orders budget s s' fixed going moves is kids e chosen items n inside old new i k l at = elim (below i n l) [
  | inl m ↦ still_handled A B orders budget s s' fixed going moves is kids e (chosen ++ k ∷ []) (old i k m at)
  | inr m ↦
      let value : slice_index_or items n 0 ≡ k = at_unique items n (slice_index_or items n 0) k (at_index items n 0 inside) (subst (λ j. IsAt items j k) m at) in
      subst (λ x. Handles A B orders s' kids e (chosen ++ x ∷ [])) value new
]

-- a candidate that isn't wanted has nothing to handle
pub unwanted : (A B : Automaton) (orders : TwoOrders) (s0 s : Search) → AreOrders (length A.states) (length B.states) orders → Moves s0 s → (kids : List ℕ) (e last : ℕ) (chosen : List ℕ) (k : ℕ) → length chosen ≡ last
    → HasEntry s0 e → IsLast s0 kids e last → ¬ Contains chosen e → (k ≡ e → ⊥) → Handles A B orders s kids e (chosen ++ k ∷ [])
unwanted A B orders s0 s fixed moves kids e last chosen k size has is_last none other =
    let there = moves.stays e has.0 has.1 in
    handled_without A B (Holds orders.left) (Holds orders.right) fixed.left_order fixed.right_order (entries_of s) (Kept s.entries) (Done s.entries s.next) kids e (up_entry s.store has.0)
    (at_map (up_entry s.store) s.entries.rows e has.0 there) (chosen ++ k ∷ [])
    (λ m. ⊎_elim none other (Contains-push_cases chosen k e m))
    (λ i q l at. is_last has.0 i q has.1 (let n = length-append chosen (k ∷ []) in omega arith) at)

-- a candidates' list is the one of its place
pub list_here : (lists : List (Vec ℕ Global)) (place : ℕ) (v : Vec ℕ Global) (items : List ℕ) → place < length lists → v ≡ slice_index_or lists place v → items ≡ v.items
    → IsAt (map (λ l. l.items) lists) place items
list_here lists place v items inside is same =
    subst (λ xs. IsAt (map (λ (l : Vec ℕ Global). l.items) lists) place xs) (ap (λ (x : Vec ℕ Global). x.items) (sym is) ∙ sym same)
    (at_map (λ (l : Vec ℕ Global). l.items) lists place (slice_index_or lists place v) (at_index lists place v inside))

-- what is handled, at the automata before a call
pub handles_at : (A B A' B' : Automaton) (orders : TwoOrders) (s : Search) (kids : List ℕ) (e : ℕ) (xs ys : List ℕ) → A' ≡ A → B' ≡ B → xs ≡ ys → Handles A' B' orders s kids e xs → Handles A B orders s kids e ys
handles_at A B A' B' orders s kids e xs ys a b same h =
    subst (λ x. Handles x B orders s kids e ys) a (subst (λ y. Handles A' y orders s kids e ys) b (subst (λ zs. Handles A' B' orders s kids e zs) same h))

-- the chosen ones, with one more
pub chosen_more : (xs ys : List ℕ) (n k : ℕ) → n < length xs → take n xs ≡ take n ys → take (n + 1) (slice_set xs n k) ≡ take n ys ++ k ∷ []
chosen_more xs ys n k l same = take_more_set xs n k l ∙ ap (λ zs. zs ++ k ∷ []) same

at_take : (xs : List ℕ) (n i y : ℕ) → i < n → IsAt xs i y → IsAt (take n xs) i y
at_take xs zero i y l e = absurd (omega arith)
at_take [] (suc n) i y l e = absurd cc
at_take (x ∷ xs) (suc n) zero y l e = e
at_take (x ∷ xs) (suc n) (suc i) y l e = at_take xs n i y (omega arith) e

at_untake : (xs : List ℕ) (n i y : ℕ) → IsAt (take n xs) i y → IsAt xs i y
at_untake xs zero i y e = absurd cc
at_untake [] (suc n) i y e = absurd cc
at_untake (x ∷ xs) (suc n) zero y e = e
at_untake (x ∷ xs) (suc n) (suc i) y e = at_untake xs n i y e

at_set : (xs : List ℕ) (n v : ℕ) → n < length xs → IsAt (slice_set xs n v) n v
at_set [] n v l = absurd (omega arith)
at_set (x ∷ xs) zero v l = refl
at_set (x ∷ xs) (suc n) v l = at_set xs n v (omega arith)

before : (xs ys : List ℕ) (n v i y : ℕ) → take n xs ≡ take n ys → i < n → IsAt (slice_set xs n v) i y → IsAt ys i y
before xs ys n v i y same l e =
    at_untake ys n i y (subst (λ zs. IsAt zs i y) (take-set xs n v ∙ same) (at_take (slice_set xs n v) n i y l e))

-- one more entry is picked
pub picked_more : (s0 s : Search) (kids chosen0 chosen sets0 sets : List ℕ) (place k m q : ℕ) (x : EntryRow) → ArePicked s0 kids chosen0 sets0 place → Moves s0 s
    → take place chosen ≡ take place chosen0 → take place sets ≡ take place sets0 → place < length chosen → place < length sets
    → IsAt s.entries.rows k x → IsAt kids place q → x.state ≡ q → x.set ≡ m → ArePicked s kids (slice_set chosen place k) (slice_set sets place m) (place + 1)
picked_more s0 s kids chosen0 chosen sets0 sets place k m q x picked moves sc ss lc ls at at_q state set i k' q' m' l a b c = elim (below i place l) [
  | inl n ↦
      let h = picked i k' q' m' n (before chosen chosen0 place k i k' sc n a) b (before sets sets0 place m i m' ss n c) in
      (h.0, moves.stays k' h.0 h.1, h.2, h.3)
  | inr n ↦
      let ek : k ≡ k' = at_unique (slice_set chosen place k) place k k' (at_set chosen place k lc) (subst (λ j. IsAt (slice_set chosen place k) j k') n a) in
      let em : m ≡ m' = at_unique (slice_set sets place m) place m m' (at_set sets place m ls) (subst (λ j. IsAt (slice_set sets place m) j m') n c) in
      let eq : q ≡ q' = at_unique kids place q q' at_q (subst (λ j. IsAt kids j q') n b) in
      (x, subst (λ j. IsAt s.entries.rows j x) ek at, state ∙ eq, set ∙ em)
]

pub has_more : (b b' : Bool) (xs ys : List ℕ) (k e : ℕ) → IsTrue b' ↔ (IsTrue b ⊎ (k ≡ e)) → IsTrue b ↔ Contains xs e → ys ≡ xs ++ k ∷ [] → IsTrue b' ↔ Contains ys e
has_more b b' xs ys k e test has same = (
  λ t. subst (λ zs. Contains zs e) (sym same) (⊎_elim (λ h. Contains-append_left xs (k ∷ []) e (has.0 h)) (λ (h : k ≡ e). subst (λ x. Contains (xs ++ k ∷ []) x) h (Contains-push xs k)) (test.0 t)),
  λ m. test.1 (⊎_elim (λ h. inl (has.1 h)) (λ h. inr h) (Contains-push_cases xs k e (subst (λ zs. Contains zs e) same m))),
)

pub last_later : (s0 s : Search) (kids : List ℕ) (e last : ℕ) → Moves s0 s → HasEntry s0 e → IsLast s0 kids e last → IsLast s kids e last
last_later s0 s kids e last moves has is x i q at l at_q =
    let same : has.0 ≡ x = at_unique s.entries.rows e has.0 x (moves.stays e has.0 has.1) at in
    subst (λ (y : EntryRow). q ≢ y.state) same (is has.0 i q has.1 l at_q)

pub given_at : (A B A' B' : Automaton) (orders : TwoOrders) (budget : ℕ) → A' ≡ A → B' ≡ B → AreGiven A B orders budget → AreGiven A' B' orders budget
given_at A B A' B' orders budget a b h = subst (λ x. AreGiven x B' orders budget) (sym a) (subst (λ y. AreGiven A y orders budget) (sym b) h)

at_unmap : (xs : List (SmallVec ℕ)) (i : ℕ) (ys : List ℕ) → IsAt (kids_of xs) i ys → (v : SmallVec ℕ) × IsAt xs i v × (v.items ≡ ys)
at_unmap [] i ys e = absurd cc
at_unmap (x ∷ xs) zero ys e = let same : x.items ≡ ys = cc in (x, refl, same)
at_unmap (x ∷ xs) (suc i) ys e = at_unmap xs i ys e

-- one more child tuple
pub more_tuples : (A B : Automaton) (orders : TwoOrders) (budget : ℕ) (s s' : Search) → AreOrders (length A.states) (length B.states) orders → IsGoing A B orders budget s → Moves s s'
    → IsSearch A B (Holds orders.left) (Holds orders.right) (entries_of s') (Kept s'.entries) → (e : ℕ) (items : List (SmallVec ℕ)) (n : ℕ) (v : SmallVec ℕ) → IsAt items n v
    → ((i : ℕ) (w : SmallVec ℕ) → i < n → IsAt items i w → Handles A B orders s w.items e [])
    → Handles A B orders s' v.items e []
    → (i : ℕ) (w : SmallVec ℕ) → i < n + 1 → IsAt items i w → Handles A B orders s' w.items e []
more_tuples A B orders budget s s' fixed going moves is e items n v at_v old new i w l at = elim (below i n l) [
  | inl m ↦ still_handled A B orders budget s s' fixed going moves is w.items e [] (old i w m at)
  | inr m ↦
      let same : v ≡ w = at_unique items n v w at_v (subst (λ j. IsAt items j w) m at) in
      subst (λ (u : SmallVec ℕ). Handles A B orders s' u.items e []) same new
]

-- all child tuples are handled
pub all_tuples : (A B : Automaton) (orders : TwoOrders) (s s' : Search) → Moves s s' → (e : ℕ) (r : EntryRow) → IsAt s.entries.rows e r → (tuples : List (SmallVec ℕ)) (n : ℕ) → length tuples ≤ n
    → HasKidsWith A r.state (kids_of tuples)
    → ((i : ℕ) (w : SmallVec ℕ) → i < n → IsAt tuples i w → Handles A B orders s' w.items e [])
    → HandlesAll A B orders s' e
all_tuples A B orders s s' moves e r at_r tuples n many has handled x a p kids at rule m =
    let same : r ≡ x = at_unique s'.entries.rows e r x (moves.stays e r at_r) at in
    let inside : Contains kids r.state = subst (λ (y : EntryRow). Contains kids y.state) (sym same) m in
    let place = place_of (kids_of tuples) kids ((has.members kids).1 (a, p, rule, inside)) in
    let v = at_unmap tuples place.0 kids place.1 in
    subst (λ ks. Handles A B orders s' ks e []) v.2 (handled place.0 v.0 (within tuples place.0 v.0 v.1 n many) v.1)

-- the children of a tuple are states
pub tuple_states : (A : Automaton) → IsAutomaton A → (q : ℕ) (tuples : List (SmallVec ℕ)) → HasKidsWith A q (kids_of tuples) → (i : ℕ) (v : SmallVec ℕ) → IsAt tuples i v → All (IsState A) v.items
tuple_states A fits q tuples has i v at =
    let m = contains_at (kids_of tuples) i v.items (at_map (λ (w : SmallVec ℕ). w.items) tuples i v at) in
    let h = (has.members v.items).0 m in
    kid_states A fits h.0 v.items h.1 h.2

-- an entry that was taken out stands in no tuple of done ones
pub taken_out : (A B : Automaton) (orders : TwoOrders) (s : Search) (kids : List ℕ) (e : ℕ) (chosen : List ℕ) → ¬ Kept s.entries e → Handles A B orders s kids e chosen
taken_out A B orders s kids e chosen out rest pairs z same m =
    let partner = zip_member (IsOf (entries_of s) (Done s.entries s.next)) (chosen ++ rest) pairs z e m in
    absurd (out partner.2.0.0)
