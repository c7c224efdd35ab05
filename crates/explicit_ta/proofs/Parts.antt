-- The automaton with some states alone.
use Rattle.std.proofs.Common.{◌≡◌, ◌≢◌, ◌↔◌, inl, ℕ, zero, suc, ◌+◌, ◌<◌, ◌≤◌, List, [], ◌∷◌, ◌++◌, Bool, true, false, ◌&&◌, cond, length, get_or, map, Some, refl, sym, ap, subst, ◌∙◌, arith, ⊎_elim}
use Rattle.std.specs.Prelude.{All, AllPairs, Contains, filter, slice_index}
use Rattle.std.specs.List.{AllZip, list_all}
use Rattle.std.proofs.lemmas.Bool.{cases_eq}
use Rattle.std.proofs.lemmas.List.{length-map, length_push, get_or_append_left}
use Rattle.std.proofs.Math.Seq.{get_or-append_seam}
use Rattle.std.proofs.lemmas.List.Kept.{AllPairs-cons}
use Rattle.std.proofs.lemmas.List.Sums.{AllPass-from_list_all}
use Rattle.std.proofs.lemmas.List.Quantifiers.{all_pairs_push}
use Rattle.std.proofs.lemmas.List.Elements.{All-head, All-tail, All-push, All-weaker, All-contains, Contains-get_or, Contains-push, Contains-push_cases, Contains-append_left}
use Rattle.tree_definitions.specs.Tree.{Symbol}
use Rattle.tree_definitions.specs.Automaton.{Automaton, Rule, HasRule, IsState, IsAutomaton, FitsRule}
use Rattle.tree_definitions.specs.Name.{IsName}
use Rattle.tree_definitions.specs.Relation.{Row, Has, IsAt}
use Rattle.tree_definitions.proofs.Counting.{count_keys}
use Rattle.tree_definitions.proofs.Members.{contains_none, contains_head, contains_tail, contains_cases, contains_at, place_of, at_unique, at_within}
use Rattle.ta_model.specs.Listing.{IsListed}
use Rattle.ta_model.specs.Restriction.{RestrictsTo}
use Rattle.shared_clusters.proofs.Gaps.{at_range, at_get_or, pairs_head, pairs_tail}
use Rattle.shared_clusters.proofs.Rules.{same_rule}
use Rattle.explicit_ta.specs.Moves.{renamed, is_in, is_between, IsNumbering}
use Rattle.explicit_ta.proofs.Lists.{image_in, image_out}
use Rattle.explicit_ta.proofs.Bridges.{Ties, automaton_ties, one_place_of}

-- ---- places

pub at_append : {X : Type 0} (xs ys : List X) (i : ℕ) (x : X) → IsAt xs i x → IsAt (xs ++ ys) i x
at_append [] ys i x e = absurd cc
at_append (z ∷ zs) ys zero x e = e
at_append (z ∷ zs) ys (suc i) x e = at_append zs ys i x e

pub at_last : {X : Type 0} (xs : List X) (x : X) → IsAt (xs ++ x ∷ []) (length xs) x
at_last [] x = refl
at_last (z ∷ zs) x = at_last zs x

pub get_at : {X : Type 0} (xs : List X) (i : ℕ) (d : X) → i < length xs → IsAt xs i (get_or xs i d)
get_at [] i d lt = absurd (omega arith)
get_at (x ∷ xs) zero d lt = refl
get_at (x ∷ xs) (suc i) d lt = get_at xs i d (omega arith)

pub in_has : (row : Row) (q : ℕ) → is_in row q ≡ true → Has row q
in_has [] q e = absurd cc
in_has (b ∷ bs) zero e = ap Some e
in_has (b ∷ bs) (suc q) e = in_has bs q e

pub has_in : (row : Row) (q : ℕ) → Has row q → is_in row q ≡ true
has_in [] q e = absurd cc
has_in (b ∷ bs) zero e = cc
has_in (b ∷ bs) (suc q) e = has_in bs q e

-- what a row answers at a place
pub value_in : (row : Row) (q : ℕ) (b : Bool) → IsAt row q b → is_in row q ≡ b
value_in row q b e = at_get_or row q b false e

pub zip_length : {X Y : Type 0} (R : X → Y → Type 0) (xs : List X) (ys : List Y) → AllZip R xs ys → length ys ≡ length xs
zip_length R [] [] h = refl
zip_length R [] (y ∷ ys) h = absurd h
zip_length R (x ∷ xs) [] h = absurd h
zip_length R (x ∷ xs) (y ∷ ys) h = ap suc (zip_length R xs ys h.1)

pub zip_at : {X Y : Type 0} (R : X → Y → Type 0) (xs : List X) (ys : List Y) (i : ℕ) (y : Y) → AllZip R xs ys → IsAt ys i y → (x : X) × IsAt xs i x × R x y
zip_at R [] [] i y h e = absurd cc
zip_at R [] (z ∷ ys) i y h e = absurd h
zip_at R (x ∷ xs) [] i y h e = absurd h
zip_at R (x ∷ xs) (z ∷ ys) zero y h e = let same : z ≡ y = cc in (x, refl, subst (R x) same h.0)
zip_at R (x ∷ xs) (z ∷ ys) (suc i) y h e = zip_at R xs ys i y h.1 e

-- distinct elements are no more than a list that has them all
pub no_more : {X : Type 0} (xs ys : List X) → AllPairs ◌≢◌ xs → ((x : X) → Contains xs x → Contains ys x) → length xs ≤ length ys
no_more xs ys apart all = count_keys (λ i y. IsAt xs i y) xs ys
    (λ i lt. let at = at_within xs i lt in (at.0, all at.0 (contains_at xs i at.0 at.1), at.1))
    (λ i j y lt within at_i at_j. let same : i ≡ j = one_place_of xs apart i j y at_i at_j in omega (arith, lt, same))

pub all_from : {X : Type 0} (P : X → Type 0) (xs : List X) → ((x : X) → Contains xs x → P x) → All P xs
all_from P xs h k d lt = h (get_or xs k d) (Contains-get_or xs k d lt)

-- ---- filtered lists

pub filter_out : {X : Type 0} (p : X → Bool) (xs : List X) (x : X) → Contains (filter p xs) x → Contains xs x × (p x ≡ true)
filter_out p [] x m = absurd (contains_none x m)
filter_out {X} p (y ∷ ys) x m = go (filter_out p ys x) (p y) refl m
  where
    go : (Contains (filter p ys) x → Contains ys x × (p x ≡ true)) → (b : Bool) → p y ≡ b → Contains (cond b (y ∷ filter p ys) (filter p ys)) x → Contains (y ∷ ys) x × (p x ≡ true)
    go rest true e m = ⊎_elim
        (λ (f : y ≡ x). (subst (Contains (y ∷ ys)) f (contains_head y ys), subst (λ v. p v ≡ true) f e))
        (λ n. let r = rest n in (contains_tail y ys x r.0, r.1))
        (contains_cases y (filter p ys) x m)
    go rest false e m = let r = rest m in (contains_tail y ys x r.0, r.1)

pub filter_in : {X : Type 0} (p : X → Bool) (xs : List X) (x : X) → Contains xs x → p x ≡ true → Contains (filter p xs) x
filter_in p [] x m e = absurd (contains_none x m)
filter_in {X} p (y ∷ ys) x m e = go (λ n. filter_in p ys x n e) (p y) refl
  where
    go : (Contains ys x → Contains (filter p ys) x) → (b : Bool) → p y ≡ b → Contains (cond b (y ∷ filter p ys) (filter p ys)) x
    go rest true f = ⊎_elim (λ (g : y ≡ x). subst (Contains (y ∷ filter p ys)) g (contains_head y (filter p ys))) (λ n. contains_tail y (filter p ys) x (rest n)) (contains_cases y ys x m)
    go rest false f = ⊎_elim (λ (g : y ≡ x). let t : true ≡ false = sym e ∙ sym (ap p g) ∙ f in absurd cc) (λ n. rest n) (contains_cases y ys x m)

pub image_filter_out : {X Y : Type 0} (f : X → Y) (p : X → Bool) (xs : List X) (y : Y) → Contains (map f (filter p xs)) y → (x : X) × Contains xs x × (p x ≡ true) × (f x ≡ y)
image_filter_out f p xs y m = let a = image_out f (filter p xs) y m in let b = filter_out p xs a.0 a.1 in (a.0, b.0, b.1, a.2)

pub shorter : {X Y : Type 0} (f : X → Y) (p : X → Bool) (xs : List X) → length (map f (filter p xs)) ≤ length xs
shorter f p [] = omega arith
shorter {X} f p (x ∷ xs) = elim (p x) as (λ b. length (map f (cond b (x ∷ filter p xs) (filter p xs))) ≤ suc (length xs)) [
  | true ↦ let h : length (map f (filter p xs)) ≤ length xs = shorter f p xs in omega arith
  | false ↦ let h : length (map f (filter p xs)) ≤ length xs = shorter f p xs in omega arith
]

-- images of distinct elements, where the images of kept ones tell them apart
pub apart_image : {X Y : Type 0} (f : X → Y) (p : X → Bool) (xs : List X) → AllPairs ◌≢◌ xs
    → ((x y : X) → Contains xs x → Contains xs y → p x ≡ true → p y ≡ true → f x ≡ f y → x ≡ y) → AllPairs ◌≢◌ (map f (filter p xs))
apart_image f p [] h tells = λ i j d lt within. absurd (omega arith)
apart_image {X} {Y} f p (x ∷ xs) h tells = go (apart_image f p xs (pairs_tail ◌≢◌ x xs h) (λ a b m n. tells a b (contains_tail x xs a m) (contains_tail x xs b n))) (p x) refl
  where
    go : AllPairs ◌≢◌ (map f (filter p xs)) → (b : Bool) → p x ≡ b → AllPairs ◌≢◌ (map f (cond b (x ∷ filter p xs) (filter p xs)))
    go rest false e = rest
    go rest true e = AllPairs-cons ◌≢◌ (f x) (map f (filter p xs)) (all_from (λ y. f x ≢ y) (map f (filter p xs)) (λ y m same.
        let o = image_filter_out f p xs y m in
        let twin : x ≡ o.0 = tells x o.0 (contains_head x xs) (contains_tail x xs o.0 o.1) e o.2 (same ∙ sym o.3) in
        All-contains (λ v. x ≢ v) xs o.0 (pairs_head ◌≢◌ x xs h) o.1 twin)) rest

-- ---- new numbers

pub numbering_none : (row : Row) → IsNumbering row [] [] 0
numbering_none row = record {
  rising = λ i j d lt within. absurd (omega arith);
  below = λ k d lt. absurd (omega arith);
  long = refl;
  few = omega arith;
  chosen = λ q lt. absurd (omega arith);
  placed = λ q lt. absurd (omega arith);
}

module _ (row : Row) (kept numbers : List ℕ) (n : ℕ) (h : IsNumbering row kept numbers n) where
  later_number : (m q : ℕ) → q < n → slice_index (numbers ++ m ∷ []) q ≡ slice_index numbers q
  later_number m q lt = let long : length numbers ≡ n = h.long in get_or_append_left numbers (m ∷ []) 0 q (omega arith)

  last_number : (m : ℕ) → slice_index (numbers ++ m ∷ []) n ≡ m
  last_number m = subst (λ k. slice_index (numbers ++ m ∷ []) k ≡ m) h.long (get_or-append_seam numbers m [] 0)

  pub numbering_away : (m : ℕ) → (Has row n → ⊥) → IsNumbering row kept (numbers ++ m ∷ []) (n + 1)
  numbering_away m away = record {
    rising = h.rising;
    below = All-weaker (λ q. q < n) (λ q. q < n + 1) (λ q lt. omega arith) kept h.below;
    long = length_push numbers m ∙ ap (λ k. k + 1) h.long;
    few = let few : length kept ≤ n = h.few in omega arith;
    chosen = λ q lt. ⊎_elim
        (λ (e : q ≡ n). (
          λ m. let low : q < n = All-contains (λ q. q < n) kept q h.below m in absurd (omega arith),
          λ k. absurd (away (subst (Has row) e k)),
        ))
        (λ (d : q ≡ n → ⊥). h.chosen q (omega arith))
        (cases_eq q n);
    placed = λ q lt has. ⊎_elim
        (λ (e : q ≡ n). absurd (away (subst (Has row) e has)))
        (λ (d : q ≡ n → ⊥). let low : q < n = omega arith in subst (λ i. IsAt kept i q) (sym (later_number m q low)) (h.placed q low has))
        (cases_eq q n);
  }

  pub numbering_here : Has row n → IsNumbering row (kept ++ n ∷ []) (numbers ++ length kept ∷ []) (n + 1)
  numbering_here here = record {
    rising = all_pairs_push (λ p q. p < q) kept n h.rising h.below;
    below = All-push (λ q. q < n + 1) kept n (All-weaker (λ q. q < n) (λ q. q < n + 1) (λ q lt. omega arith) kept h.below) (omega arith);
    long = length_push numbers (length kept) ∙ ap (λ k. k + 1) h.long;
    few = let few : length kept ≤ n = h.few in let long : length (kept ++ n ∷ []) ≡ length kept + 1 = length_push kept n in omega arith;
    chosen = λ q lt. ⊎_elim
        (λ (e : q ≡ n). (λ m. subst (Has row) (sym e) here, λ k. subst (Contains (kept ++ n ∷ [])) (sym e) (Contains-push kept n)))
        (λ (d : q ≡ n → ⊥). let old = h.chosen q (omega arith) in (
          λ m. ⊎_elim (λ k. old.0 k) (λ (e : n ≡ q). absurd (d (sym e))) (Contains-push_cases kept n q m),
          λ k. Contains-append_left kept (n ∷ []) q (old.1 k),
        ))
        (cases_eq q n);
    placed = λ q lt has. ⊎_elim
        (λ (e : q ≡ n). subst (λ k. IsAt (kept ++ n ∷ []) (slice_index (numbers ++ length kept ∷ []) k) k) (sym e)
        (subst (λ i. IsAt (kept ++ n ∷ []) i n) (sym (last_number (length kept))) (at_last kept n)))
        (λ (d : q ≡ n → ⊥). let low : q < n = omega arith in
        subst (λ i. IsAt (kept ++ n ∷ []) i q) (sym (later_number (length kept) q low)) (at_append kept (n ∷ []) (slice_index numbers q) q (h.placed q low has)))
        (cases_eq q n);
  }

-- ---- the part

-- automata with the same lists
pub same_lists : (A B : Automaton) → A.bits ≡ B.bits → A.name ≡ B.name → A.symbols ≡ B.symbols → A.states ≡ B.states → A.finals ≡ B.finals → A.rules ≡ B.rules → A ≡ B
same_lists A B b n s q f r = λ i. record { bits = b i; name = n i; symbols = s i; states = q i; finals = f i; rules = r i }

-- A with these rules of it, as far as they are between kept states, and with these names and numbers for the kept states
abbrev pub part_with : Automaton → List Rule → Row → List ℕ → List (List ℕ) → Automaton
part_with A left row numbers names = record {
  bits = 0;
  name = A.name;
  symbols = A.symbols;
  states = names;
  finals = map (slice_index numbers) (filter (is_in row) A.finals);
  rules = map (λ r. renamed numbers r.symbol r) (filter (is_between row) left);
}

-- rules of A have places of states
pub left_kids : (A : Automaton) → IsAutomaton A → (left : List Rule) → ((r : Rule) → Contains left r → Contains A.rules r) → All (λ r. All (λ q. q < length A.states) r.kids) left
left_kids A fits left of = all_from (λ r. All (λ q. q < length A.states) r.kids) left (λ r m. (All-contains (FitsRule A) A.rules r fits.fitting (of r m)).kids)

pub left_parents : (A : Automaton) → IsAutomaton A → (left : List Rule) → ((r : Rule) → Contains left r → Contains A.rules r) → All (λ r. r.parent < length A.states) left
left_parents A fits left of = all_from (λ r. r.parent < length A.states) left (λ r m. (All-contains (FitsRule A) A.rules r fits.fitting (of r m)).parent)

module _ (A : Automaton) (listed : IsListed A) (left : List Rule) (row : Row) (kept numbers : List ℕ) (names : List (List ℕ)) (apart : AllPairs ◌≢◌ left)
    (is_left : (r : Rule) → Contains left r ↔ (Contains A.rules r × Has row r.parent)) (wide : length row ≡ length A.states)
    (nb : IsNumbering row kept numbers (length A.states)) (named : AllZip (IsAt A.states) kept names) where
  abbrev g : Rule → Rule
  g r = renamed numbers r.symbol r

  abbrev IsKept : ℕ → Type 0
  IsKept q = (q < length A.states) × Has row q

  kept_apart : AllPairs ◌≢◌ kept
  kept_apart i j d lt within e = let less : get_or kept i d < get_or kept j d = nb.rising i j d lt within in omega arith

  -- a kept state stands at its number, and nowhere else
  stands : (q : ℕ) → IsKept q → IsAt kept (slice_index numbers q) q
  stands q k = nb.placed q k.0 k.1

  kept_is : (q : ℕ) → Contains kept q → IsKept q
  kept_is q m = let low : q < length A.states = All-contains (λ q. q < length A.states) kept q nb.below m in (low, (nb.chosen q low).0 m)

  number_is : (i q : ℕ) → IsAt kept i q → i ≡ slice_index numbers q
  number_is i q at = one_place_of kept kept_apart i (slice_index numbers q) q at (stands q (kept_is q (contains_at kept i q at)))

  numbers_tell : (q r : ℕ) → IsKept q → IsKept r → slice_index numbers q ≡ slice_index numbers r → q ≡ r
  numbers_tell q r k l e = at_unique kept (slice_index numbers q) q r (stands q k) (subst (λ i. IsAt kept i r) (sym e) (stands r l))

  number_within : (q : ℕ) → IsKept q → slice_index numbers q < length names
  number_within q k = let long = zip_length (IsAt A.states) kept names named in let low = at_range kept (slice_index numbers q) q (stands q k) in omega arith

  and_left : (a b : Bool) → (a && b) ≡ true → a ≡ true
  and_left true b e = refl
  and_left false b e = e

  and_right : (a b : Bool) → (a && b) ≡ true → b ≡ true
  and_right true b e = e
  and_right false b e = absurd cc

  fits_rule : (r : Rule) → Contains A.rules r → FitsRule A r
  fits_rule r m = All-contains (FitsRule A) A.rules r listed.automaton.fitting m

  kept_parent : (r : Rule) → Contains A.rules r → is_between row r ≡ true → IsKept r.parent
  kept_parent r m e = ((fits_rule r m).parent, in_has row r.parent (and_left (is_in row r.parent) (list_all (is_in row) r.kids) e))

  kept_kids : (r : Rule) → Contains A.rules r → is_between row r ≡ true → All IsKept r.kids
  kept_kids r m e = λ k d lt. (
    (fits_rule r m).kids k d lt,
    in_has row (get_or r.kids k d) (AllPass-from_list_all (is_in row) r.kids (and_right (is_in row r.parent) (list_all (is_in row) r.kids) e) k d lt),
  )

  kids_tell : (xs ys : List ℕ) → All IsKept xs → All IsKept ys → map (slice_index numbers) xs ≡ map (slice_index numbers) ys → xs ≡ ys
  kids_tell [] [] h k e = refl
  kids_tell [] (y ∷ ys) h k e = absurd cc
  kids_tell (x ∷ xs) [] h k e = absurd cc
  kids_tell (x ∷ xs) (y ∷ ys) h k e =
      let first : slice_index numbers x ≡ slice_index numbers y = cc in
      let others : map (slice_index numbers) xs ≡ map (slice_index numbers) ys = cc in
      let head : x ≡ y = numbers_tell x y (All-head IsKept x xs h) (All-head IsKept y ys k) first in
      let tail : xs ≡ ys = kids_tell xs ys (All-tail IsKept x xs h) (All-tail IsKept y ys k) others in
      ap (λ v. v ∷ xs) head ∙ ap (λ l. y ∷ l) tail

  rules_tell : (r s : Rule) → Contains A.rules r → Contains A.rules s → is_between row r ≡ true → is_between row s ≡ true → g r ≡ g s → r ≡ s
  rules_tell r s m n e d same =
      same_rule r s (numbers_tell r.parent s.parent (kept_parent r m e) (kept_parent s n d) (ap (λ v. v.parent) same)) (ap (λ v. v.symbol) same)
      (kids_tell r.kids s.kids (kept_kids r m e) (kept_kids s n d) (ap (λ v. v.kids) same))

  zip_kids : (qs : List ℕ) → All IsKept qs → AllZip (IsAt kept) (map (slice_index numbers) qs) qs
  zip_kids [] h = tt
  zip_kids (q ∷ qs) h = (stands q (All-head IsKept q qs h), zip_kids qs (All-tail IsKept q qs h))

  kids_are : (kids qs : List ℕ) → AllZip (IsAt kept) kids qs → (kids ≡ map (slice_index numbers) qs) × (list_all (is_in row) qs ≡ true)
  kids_are [] [] h = (refl, refl)
  kids_are [] (q ∷ qs) h = absurd h
  kids_are (i ∷ kids) [] h = absurd h
  kids_are (i ∷ kids) (q ∷ qs) h =
      let rest = kids_are kids qs h.1 in
      let here : is_in row q ≡ true = has_in row q (kept_is q (contains_at kept i q h.0)).1 in
      (ap (λ v. v ∷ kids) (number_is i q h.0) ∙ ap (λ l. slice_index numbers q ∷ l) rest.0, ap (λ b. b && list_all (is_in row) qs) here ∙ rest.1)

  kept_final : (q : ℕ) → Contains A.finals q → is_in row q ≡ true → IsKept q
  kept_final q m e = (All-contains (IsState A) A.finals q listed.automaton.final_states m, in_has row q e)

  names_apart : AllPairs ◌≢◌ names
  names_apart i j d lt within same =
      let first = zip_at (IsAt A.states) kept names i (get_or names i d) named (get_at names i d (omega arith)) in
      let second = zip_at (IsAt A.states) kept names j (get_or names j d) named (get_at names j d within) in
      let states_same : first.0 ≡ second.0 = one_place_of A.states listed.automaton.states first.0 second.0 (get_or names i d) first.2 (subst (IsAt A.states second.0) (sym same) second.2) in
      let places_same : i ≡ j = one_place_of kept kept_apart i j first.0 first.1 (subst (IsAt kept j) (sym states_same) second.1) in
      omega arith

  part_fits : (r : Rule) → Contains A.rules r → is_between row r ≡ true → FitsRule (part_with A left row numbers names) (g r)
  part_fits r m e =
      let old = (fits_rule r m).symbol in
      record {
        symbol = (old.0, old.1, length-map r.kids (slice_index numbers) ∙ old.2);
        kids = all_from (λ i. i < length names) (map (slice_index numbers) r.kids) (λ i n.
            let o = image_out (slice_index numbers) r.kids i n in
            subst (λ k. k < length names) o.2 (number_within o.0 (All-contains IsKept r.kids o.0 (kept_kids r m e) o.1)));
        parent = number_within r.parent (kept_parent r m e);
      }

  pub part_automaton : IsAutomaton (part_with A left row numbers names)
  part_automaton = record {
    symbols = listed.automaton.symbols;
    states = names_apart;
    finals = apart_image (slice_index numbers) (is_in row) A.finals listed.automaton.finals (λ q r m n e d same. numbers_tell q r (kept_final q m e) (kept_final r n d) same);
    rules = apart_image g (is_between row) left apart (λ r s m n. rules_tell r s ((is_left r).0 m).0 ((is_left s).0 n).0);
    final_states = all_from (λ i. i < length names) (map (slice_index numbers) (filter (is_in row) A.finals)) (λ i n.
        let o = image_filter_out (slice_index numbers) (is_in row) A.finals i n in
        subst (λ k. k < length names) o.3 (number_within o.0 (kept_final o.0 o.1 o.2)));
    fitting = all_from (FitsRule (part_with A left row numbers names)) (map g (filter (is_between row) left)) (λ s n.
        let o = image_filter_out g (is_between row) left s n in
        subst (FitsRule (part_with A left row numbers names)) o.3 (part_fits o.0 ((is_left o.0).0 o.1).0 o.2));
    form = inl refl;
  }

  pub part_listed : IsListed (part_with A left row numbers names)
  part_listed = record {
    automaton = part_automaton;
    narrow = refl;
    name = listed.name;
    symbol_names = listed.symbol_names;
    state_names = all_from IsName names (λ y m.
        let p = place_of names y m in
        let o = zip_at (IsAt A.states) kept names p.0 y named p.1 in
        All-contains IsName A.states y listed.state_names (contains_at A.states o.0 y o.2));
    few_symbols = listed.few_symbols;
    few_states = let long = zip_length (IsAt A.states) kept names named in let few : length kept ≤ length A.states = nb.few in let old = listed.few_states in omega arith;
    few_rules =
        let short : length (map g (filter (is_between row) left)) ≤ length left = shorter g (is_between row) left in
        let old : length A.rules < 4294967295 = listed.few_rules in
        let most : length left ≤ length A.rules = no_more left A.rules apart (λ r m. ((is_left r).0 m).0) in
        omega (arith, short, most);
  }

  part_rules : (a : Symbol) (kids : List ℕ) (i : ℕ) → HasRule (part_with A left row numbers names) a kids i
      ↔ ((qs : List ℕ) × (q : ℕ) × AllZip (IsAt kept) kids qs × IsAt kept i q × HasRule A a qs q)
  part_rules a kids i = (there, back)
    where
      part_ties : Ties A.symbols (HasRule (part_with A left row numbers names)) (map g (filter (is_between row) left))
      part_ties = automaton_ties (part_with A left row numbers names) part_automaton refl

      ties : Ties A.symbols (HasRule A) A.rules
      ties = automaton_ties A listed.automaton listed.narrow

      there : HasRule (part_with A left row numbers names) a kids i → (qs : List ℕ) × (q : ℕ) × AllZip (IsAt kept) kids qs × IsAt kept i q × HasRule A a qs q
      there h =
          let o = part_ties.out a kids i h in
          let r = image_filter_out g (is_between row) left (record { symbol = o.0; kids = kids; parent = i }) o.2 in
          let old = r.0 in
          let had : Contains A.rules old = ((is_left old).0 r.1).0 in
          let symbol : old.symbol ≡ o.0 = ap (λ v. v.symbol) r.3 in
          let all = kept_kids old had r.2 in (
            old.kids,
            old.parent,
            subst (λ l. AllZip (IsAt kept) l old.kids) (ap (λ v. v.kids) r.3) (zip_kids old.kids all),
            subst (λ k. IsAt kept k old.parent) (ap (λ v. v.parent) r.3) (stands old.parent (kept_parent old had r.2)),
            ties.within old.symbol a old.kids old.parent (subst (λ k. IsAt A.symbols k a) (sym symbol) o.1) had,
          )

      back : (qs : List ℕ) × (q : ℕ) × AllZip (IsAt kept) kids qs × IsAt kept i q × HasRule A a qs q → HasRule (part_with A left row numbers names) a kids i
      back h =
          let o = ties.out a h.0 h.1 h.4 in
          let old : Rule = record { symbol = o.0; kids = h.0; parent = h.1 } in
          let are = kids_are kids h.0 h.2 in
          let parent_has : Has row h.1 = (kept_is h.1 (contains_at kept i h.1 h.3)).1 in
          let parent_in : is_in row h.1 ≡ true = has_in row h.1 parent_has in
          let between : is_between row old ≡ true = ap (λ b. b && list_all (is_in row) h.0) parent_in ∙ are.1 in
          let line : Rule = record { symbol = o.0; kids = kids; parent = i } in
          let same : g old ≡ line = same_rule (g old) line (sym (number_is i h.1 h.3)) refl (sym are.0) in
          part_ties.within o.0 a kids i o.1 (subst (Contains (map g (filter (is_between row) left))) same (image_in g (filter (is_between row) left) old (filter_in (is_between row) left old ((is_left old).1 (o.2, parent_has)) between)))

  pub part_restricts : RestrictsTo A (part_with A left row numbers names) row kept
  part_restricts = record {
    bits = sym listed.narrow;
    name = refl;
    symbols = λ n. refl;
    rising = λ k lt. nb.rising k (k + 1) 0 (omega arith) lt;
    chosen = λ q. (
      λ m. (kept_is q m).1,
      λ h. let low : q < length row = at_range row q true h in (nb.chosen q (omega arith)).1 h,
    );
    states = named;
    finals = λ i. (
      λ m. let o = image_filter_out (slice_index numbers) (is_in row) A.finals i m in (o.0, subst (λ k. IsAt kept k o.0) o.3 (stands o.0 (kept_final o.0 o.1 o.2)), o.1),
      λ h. subst (Contains (map (slice_index numbers) (filter (is_in row) A.finals))) (sym (number_is i h.0 h.1))
          (image_in (slice_index numbers) (filter (is_in row) A.finals) h.0 (filter_in (is_in row) A.finals h.0 h.2 (has_in row h.0 (kept_is h.0 (contains_at kept i h.0 h.1)).1))),
    );
    rules = part_rules;
    fitting = part_automaton;
  }
