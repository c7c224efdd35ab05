-- The pairs of the kept entries, one entry at a time, and in rising order.
use Rattle.std.proofs.Common.{◌≡◌, ◌≢◌, inl, inr, ℕ, ◌<◌, ◌+◌, true, false, List, [], ◌∷◌, ◌++◌, length, map, get_or, Ordering, Less, Equal, Greater, refl, sym, ap, subst, ◌∙◌, arith}
use Rattle.std.specs.Prelude.{AllPairs, Contains, All}
use Rattle.std.specs.List.Sorted.{IsPermutation, IsSorted}
use Rattle.std.specs.Ordering.{nat_cmp, ordering_then, is_lt, is_eq}
use Rattle.std.specs.Cmp.Lexicographic.{slice_cmp}
use Rattle.std.proofs.lemmas.Bool.{cases_lt}
use Rattle.std.specs.Cmp.{IsTotalOrder}
use Rattle.std.specs.FinMap as fin
use Rattle.std.proofs.lemmas.Cmp.{nat_cmp_total, nat_list_cmp_total, on_total, then_total}
use Rattle.std.proofs.lemmas.List.{get_or-map, length-map, length_push}
use Rattle.tree_definitions.proofs.CanonicalForms.{apart_permutation}
use Rattle.std.proofs.lemmas.List.Elements.{Contains-append_left, Contains-push, Contains-push_cases, Contains-get_or, All-contains}
use Rattle.std.proofs.lemmas.List.Quantifiers.{all_pairs_push}
use Rattle.std.proofs.lemmas.List.Sorted.{All-permutation, Contains-permutation, IsPermutation-sym, IsPermutation-map, ranks_by, sorted_far}
use Rattle.std.proofs.lemmas.Map.Lookups.{exact_bytes, exact_pairs, exact_unsigned}
use Rattle.std.proofs.lemmas.Option.{slice_get_within}
use Rattle.tree_definitions.specs.Relation.{Row, Has, IsAt}
use Rattle.tree_definitions.specs.Cover.{Pair}
use Rattle.tree_definitions.specs.UpTrail.{UpEntry}
use Rattle.tree_definitions.proofs.Members.{at_unique, contains_at, contains_cases, contains_head}
use Rattle.tree_definitions.proofs.Sorted.{below}
use Rattle.ta_model.specs.Macrostates.{Macrostates, AreMacrostates}
use Rattle.listed_pairs.specs.Members.{members_from, members}
use Rattle.listed_pairs.specs.Order.{pair_cmp, AreRising}
use Rattle.listed_pairs.proofs.Listing.{pairs_total}
use Rattle.upward_search.specs.Search.{ListsKept}
use Rattle.antichain_up.specs.Answers.{pair_of, IsListing}
use Rattle.antichain_up.specs.Entries.{EntryRow, AreApart, up_entry}
use Rattle.antichain_up.proofs.Views.{map_at, map_from}

module _ (store : Macrostates) (rows : List EntryRow) (kept : Row) where
  pub list_none : IsListing store rows kept 0 []
  list_none = record {
    few = omega arith;
    all = λ k e l at has. absurd (omega (arith, l));
    sound = λ pair c. absurd (let l = c.1 in omega (arith, l));
    distinct = λ i j d l m. absurd (omega (arith, m));
  }

  module _ (n : ℕ) (pairs : List Pair) (before : IsListing store rows kept n pairs) where
    pub list_past : ¬ Has kept n → IsListing store rows kept (n + 1) pairs
    list_past none = record {
      few = let f = before.few in omega (arith, f);
      all = λ k e l at has. elim (cases_lt k n) [
        | inl m ↦ before.all k e m at has
        | inr m ↦ let same : k ≡ n = omega (arith, l, m) in absurd (none (subst (Has kept) same has))
      ];
      sound = λ pair c. let s = before.sound pair c in let l = s.2 in (s.0, s.1, omega (arith, l), s.3, s.4, s.5);
      distinct = before.distinct;
    }

    pub list_more : AreApart store (record { states = 0; rows = rows; kept = kept }) → (e : EntryRow) → IsAt rows n e → Has kept n → IsListing store rows kept (n + 1) (pairs ++ pair_of store e ∷ [])
    list_more apart e at has = record {
      few = let f = before.few in omega (arith, f, length_push pairs (pair_of store e));
      all = λ k f l fat fhas. elim (cases_lt k n) [
        | inl m ↦ Contains-append_left pairs (pair_of store e ∷ []) (pair_of store f) (before.all k f m fat fhas)
        | inr m ↦
            let same : k ≡ n = omega (arith, l, m) in
            let one : e ≡ f = at_unique rows n e f at (subst (λ i. IsAt rows i f) same fat) in
            subst (λ (x : EntryRow). Contains (pairs ++ pair_of store e ∷ []) (pair_of store x)) one (Contains-push pairs (pair_of store e))
      ];
      sound = λ pair c. elim (Contains-push_cases pairs (pair_of store e) pair c) [
        | inl m ↦ let s = before.sound pair m in let l = s.2 in (s.0, s.1, omega (arith, l), s.3, s.4, s.5)
        | inr same ↦ (n, e, omega arith, at, has, same)
      ];
      distinct = all_pairs_push ◌≢◌ pairs (pair_of store e) before.distinct (λ k d l same.
          let s = before.sound (get_or pairs k d) (Contains-get_or pairs k d l) in
          let one : s.0 ≡ n = apart s.0 n (up_entry store s.1) (up_entry store e) s.4 has (map_at (up_entry store) rows s.0 s.1 s.3) (map_at (up_entry store) rows n e at) (s.5 ∙ same) in
          let m = s.2 in
          omega (arith, m, one));
    }

  pub listed : (pairs sorted : List Pair) → length kept ≡ length rows → IsListing store rows kept (length rows) pairs → IsPermutation pairs sorted → ListsKept (map (up_entry store) rows) (Has kept) sorted
  listed pairs sorted flags before moved pair = (
    λ c. let s = before.sound pair (Contains-permutation sorted pairs pair (IsPermutation-sym pairs sorted moved) c) in
        (s.0, (s.4, (up_entry store s.1, map_at (up_entry store) rows s.0 s.1 s.3, s.5))),
    λ of.
        let f = map_from (up_entry store) rows of.0 of.1.1.0 of.1.1.1 in
        let same : pair_of store f.0 ≡ pair = ap (λ (x : UpEntry). x.pair) f.2 ∙ of.1.1.2 in
        Contains-permutation pairs sorted pair moved (subst (Contains pairs) same (before.all of.0 f.0 (slice_get_within rows of.0 f.0 f.1) f.1 of.1.0)),
  )

-- the list of its members tells a set of so many places
members_past : (k : ℕ) (row : Row) (x : ℕ) → Contains (members_from (k + 1) row) x → k < x
members_past k [] x c = let l = c.1 in absurd (omega (arith, l))
members_past k (true ∷ row) x c = elim (contains_cases (k + 1) (members_from (k + 1 + 1) row) x c) [
  | inl e ↦ omega (arith, e)
  | inr m ↦ let l = members_past (k + 1) row x m in omega (arith, l)
]
members_past k (false ∷ row) x c = let l = members_past (k + 1) row x c in omega (arith, l)

row_of_members : (k : ℕ) (x y : Row) → length x ≡ length y → members_from k x ≡ members_from k y → x ≡ y
row_of_members k [] [] l e = refl
row_of_members k [] (b ∷ y) l e = absurd (omega (arith, l))
row_of_members k (b ∷ x) [] l e = absurd (omega (arith, l))
row_of_members k (true ∷ x) (true ∷ y) l e = let rest : members_from (k + 1) x ≡ members_from (k + 1) y = cc in ap (λ r. true ∷ r) (row_of_members (k + 1) x y (omega (arith, l)) rest)
row_of_members k (true ∷ x) (false ∷ y) l e = let m = members_past k y k (subst (λ xs. Contains xs k) e (contains_head k (members_from (k + 1) x))) in absurd (omega (arith, m))
row_of_members k (false ∷ x) (true ∷ y) l e = let m = members_past k x k (subst (λ xs. Contains xs k) (sym e) (contains_head k (members_from (k + 1) y))) in absurd (omega (arith, m))
row_of_members k (false ∷ x) (false ∷ y) l e = ap (λ r. false ∷ r) (row_of_members (k + 1) x y (omega (arith, l)) e)

-- what tells a pair from others
abbrev key : Pair → ℕ × List ℕ
key pair = (pair.state, members pair.set)

abbrev key_cmp : (ℕ × List ℕ) → (ℕ × List ℕ) → Ordering
key_cmp x y = ordering_then (nat_cmp x.0 y.0) (slice_cmp nat_cmp x.1 y.1)

keys_total : IsTotalOrder key_cmp
keys_total = then_total (on_total (λ (x : ℕ × List ℕ). x.0) nat_cmp_total) (on_total (λ (x : ℕ × List ℕ). x.1) nat_list_cmp_total)

keys_exact : fin.IsAntisymmetric key_cmp
keys_exact x y tied = exact_pairs nat_cmp (slice_cmp nat_cmp) exact_unsigned exact_bytes x y tied

same_key : (x y : Pair) → length x.set ≡ length y.set → key x ≡ key y → x ≡ y
same_key x y wide same =
    let state : x.state ≡ y.state = ap (λ (p : ℕ × List ℕ). p.0) same in
    let set : x.set ≡ y.set = row_of_members 0 x.set y.set wide (ap (λ (p : ℕ × List ℕ). p.1) same) in
    λ i. record { state = state i; set = set i }

tied_same : (x y : Pair) → length x.set ≡ length y.set → pair_cmp x y ≡ Equal → x ≡ y
tied_same x y wide tied = same_key x y wide (keys_exact (key x) (key y) tied)

untied : (x y : Pair) (o : Ordering) → pair_cmp x y ≡ o → (pair_cmp x y ≡ Equal → ⊥) → is_eq o ≡ false
untied x y Less e none = refl
untied x y Equal e none = absurd (none e)
untied x y Greater e none = refl

-- distinct pairs whose sets have so many places are distinct in any order
still_distinct : (n : ℕ) (pairs sorted : List Pair) → All (λ pair. length pair.set ≡ n) pairs → AllPairs ◌≢◌ pairs → IsPermutation pairs sorted → AllPairs ◌≢◌ sorted
still_distinct n pairs sorted wide distinct moved i j d l m same =
    apart_permutation keys_total keys_exact (map key pairs) (map key sorted) (IsPermutation-map key pairs sorted moved) keys i j (key d) l (subst (λ k. j < k) (sym (length-map sorted key)) m)
    (get_or-map key sorted i d (key d) (omega (arith, l, m)) ∙ ap key same ∙ sym (get_or-map key sorted j d (key d) m))
  where
    keys : AllPairs ◌≢◌ (map key pairs)
    keys a b e k w =
        let some : Pair = record { state = 0; set = [] } in
        let within : b < length pairs = subst (λ q. b < q) (length-map pairs key) w in
        let first : a < length pairs = omega (arith, k, within) in
        λ equal. distinct a b some k within (same_key (get_or pairs a some) (get_or pairs b some) (wide a some first ∙ sym (wide b some within))
        (sym (get_or-map key pairs a some e first) ∙ equal ∙ get_or-map key pairs b some e within))

-- distinct pairs whose sets have so many places rise once they are sorted
pub sorted_rises : (n : ℕ) (pairs sorted : List Pair) → All (λ pair. length pair.set ≡ n) pairs → AllPairs ◌≢◌ pairs → IsPermutation pairs sorted → IsSorted pair_cmp sorted → AreRising sorted
sorted_rises n pairs sorted wide distinct moved order i j d l m =
    below pairs_total (get_or sorted i d) (get_or sorted j d)
    (sorted_far (λ x y. is_lt (pair_cmp x y)) (ranks_by pairs_total (λ (p : Pair). p)) sorted order i j d (omega (arith, l)) m)
    (untied (get_or sorted i d) (get_or sorted j d) (pair_cmp (get_or sorted i d) (get_or sorted j d)) refl
    (λ tied. apart i j d l m (tied_same (get_or sorted i d) (get_or sorted j d) (each i d (omega (arith, l, m)) ∙ sym (each j d m)) tied)))
  where
    each : All (λ pair. length pair.set ≡ n) sorted
    each = All-permutation (λ (pair : Pair). length pair.set ≡ n) pairs sorted moved wide

    apart : AllPairs ◌≢◌ sorted
    apart = still_distinct n pairs sorted wide distinct moved

-- a pair doesn't precede itself
unlike : (x y : Pair) → pair_cmp x y ≡ Less → x ≢ y
unlike x y less same =
    let here : pair_cmp x x ≡ Less = subst (λ z. pair_cmp x z ≡ Less) (sym same) less in
    let turned = pairs_total.antisymm x x in
    cc (here, turned)

-- pairs that rise are distinct
pub rising_apart : (pairs : List Pair) → AreRising pairs → AllPairs ◌≢◌ pairs
rising_apart pairs rising i j d l m = unlike (get_or pairs i d) (get_or pairs j d) (rising i j d l m)

pub all_wide : (store : Macrostates) (rows : List EntryRow) (kept : Row) (n : ℕ) (pairs : List Pair) → AreMacrostates store → All (λ e. e.set < length store.rows) rows
    → IsListing store rows kept n pairs → All (λ pair. length pair.set ≡ store.states) pairs
all_wide store rows kept n pairs valid stored before i d l =
    let s = before.sound (get_or pairs i d) (Contains-get_or pairs i d l) in
    let within : s.1.set < length store.rows = All-contains (λ (e : EntryRow). e.set < length store.rows) rows s.1 stored (contains_at rows s.0 s.1 s.3) in
    subst (λ (pair : Pair). length pair.set ≡ store.states) s.5 (valid.wide s.1.set [] within)
