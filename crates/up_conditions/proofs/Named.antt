-- Named entries, their states and their sets.
use Rattle.std.proofs.Common.{◌≡◌, ◌≢◌, ◌↔◌, inl, inr, ⊎_elim, ◌+◌, set, ℕ, suc, ◌<◌, ◌≤◌, Some, Bool, true, false, List, [], ◌∷◌, ◌++◌, length, get_or, map, refl, sym, ap, ◌∙◌, subst, arith}
use Rattle.std.specs.Prelude.{All, Contains}
use Rattle.std.specs.List.{AllZip}
use Rattle.std.proofs.lemmas.List.Elements.{All-head, All-tail, Contains-push_cases}
use Rattle.std.proofs.lemmas.Option.{slice_get-get_or}
use Rattle.std.proofs.lemmas.Bool.{cases_eq}
use Rattle.up_conditions.proofs.Grouped.{at_set, filing_add}
use Rattle.tree_definitions.specs.Tree.{Symbol}
use Rattle.tree_definitions.specs.Automaton.{Automaton, Rule, HasRule}
use Rattle.tree_definitions.specs.Cover.{Pair}
use Rattle.tree_definitions.specs.Relation.{Row, Has, IsAt}
use Rattle.tree_definitions.specs.UpTrail.{UpEntry, HasPairBefore}
use Rattle.tree_definitions.proofs.Determined.{one_place}
use Rattle.tree_definitions.proofs.Listing.{at_label, label_at, rule_of_line, rule_parts}
use Rattle.ta_model.specs.Listing.{IsListed}
use Rattle.tree_definitions.proofs.Members.{at_unique, at_within, contains_at, place_of}
use Rattle.up_conditions.specs.Trailing.{AllAtBefore, AreFiledBefore, HasSetAt, HasStateAt}

pub zip_none : {X Y : Type 0} (R : X → Y → Type 0) (ys : List Y) → AllZip R [] ys → ys ≡ []
zip_none R [] z = refl
zip_none R (y ∷ ys) z = absurd z

pub zip_first : {X Y : Type 0} (R : X → Y → Type 0) (x : X) (xs : List X) (ys : List Y) → AllZip R (x ∷ xs) ys → (z : Y) × (zs : List Y) × (ys ≡ z ∷ zs) × R x z × AllZip R xs zs
zip_first R x xs [] h = absurd h
zip_first R x xs (y ∷ ys) h = (y, ys, refl, h.0, h.1)

-- what each item is in relation with is determined
zip_same : {X Y : Type 0} (R : X → Y → Type 0) → ((x : X) (y z : Y) → R x y → R x z → y ≡ z) → (xs : List X) (ys zs : List Y) → AllZip R xs ys → AllZip R xs zs → ys ≡ zs
zip_same R one [] [] [] p q = refl
zip_same R one [] (y ∷ ys) zs p q = absurd p
zip_same R one [] [] (z ∷ zs) p q = absurd q
zip_same R one (x ∷ xs) [] zs p q = absurd p
zip_same R one (x ∷ xs) (y ∷ ys) [] p q = absurd q
zip_same R one (x ∷ xs) (y ∷ ys) (z ∷ zs) p q = ap (λ v. v ∷ ys) (one x y z p.0 q.0) ∙ ap (λ l. z ∷ l) (zip_same R one xs ys zs p.1 q.1)

same_truth : (x y : Bool) → ((x ≡ true) ↔ (y ≡ true)) → x ≡ y
same_truth true true h = refl
same_truth false false h = refl
same_truth true false h = absurd (let e = h.0 refl in cc)
same_truth false true h = absurd (let e = h.1 refl in cc)

-- rows of one length with the same places are equal
pub same_row : (xs ys : Row) → length xs ≡ length ys → ((s : ℕ) → Has xs s ↔ Has ys s) → xs ≡ ys
same_row [] [] e h = refl
same_row [] (y ∷ ys) e h = absurd (omega (arith, e))
same_row (x ∷ xs) [] e h = absurd (omega (arith, e))
same_row (x ∷ xs) (y ∷ ys) e h =
    let first : x ≡ y = same_truth x y (
      λ t. let f : Some x ≡ Some true = ap Some t in let g = (h 0).0 f in let r : y ≡ true = cc in r,
      λ t. let f : Some y ≡ Some true = ap Some t in let g = (h 0).1 f in let r : x ≡ true = cc in r,
    ) in
    ap (λ z. z ∷ xs) first ∙ ap (λ l. y ∷ l) (same_row xs ys (omega (arith, e)) (λ s. h (suc s)))

module _ (entries : List UpEntry) where
  pub same_states : (kids xs ys : List ℕ) → AllZip (HasStateAt entries) kids xs → AllZip (HasStateAt entries) kids ys → xs ≡ ys
  same_states = zip_same (HasStateAt entries) (λ k p q h g. sym h.2 ∙ ap (λ (e : UpEntry). e.pair.state) (at_unique entries k h.0 g.0 h.1 g.1) ∙ g.2)

  pub same_sets : (kids : List ℕ) (xs ys : List Row) → AllZip (HasSetAt entries) kids xs → AllZip (HasSetAt entries) kids ys → xs ≡ ys
  same_sets = zip_same (HasSetAt entries) (λ k p q h g. sym h.2 ∙ ap (λ (e : UpEntry). e.pair.set) (at_unique entries k h.0 g.0 h.1 g.1) ∙ g.2)

  module _ (i : ℕ) where
    pub pairs_before : (kids : List ℕ) → i ≤ length entries → All (λ k. k < i) kids → (pairs : List Pair) × AllZip (HasPairBefore entries i) kids pairs
    pairs_before [] whole early = ([], tt)
    pairs_before (k ∷ ks) whole early =
        let l : k < i = All-head (λ j. j < i) k ks early in
        let e = at_within entries k (omega (arith, l, whole)) in
        let rest = pairs_before ks whole (All-tail (λ j. j < i) k ks early) in
        (e.0.pair ∷ rest.0, ((l, (e.0, e.1, refl)), rest.1))

    pub states_of : (kids : List ℕ) (pairs : List Pair) → AllZip (HasPairBefore entries i) kids pairs → AllZip (HasStateAt entries) kids (map (λ pair. pair.state) pairs)
    states_of [] [] z = tt
    states_of [] (x ∷ xs) z = absurd z
    states_of (k ∷ ks) [] z = absurd z
    states_of (k ∷ ks) (x ∷ xs) z = let e = z.0.1 in ((e.0, e.1, ap (λ (o : Pair). o.state) e.2), states_of ks xs z.1)

    pub sets_of : (kids : List ℕ) (pairs : List Pair) → AllZip (HasPairBefore entries i) kids pairs → AllZip (HasSetAt entries) kids (map (λ pair. pair.set) pairs)
    sets_of [] [] z = tt
    sets_of [] (x ∷ xs) z = absurd z
    sets_of (k ∷ ks) [] z = absurd z
    sets_of (k ∷ ks) (x ∷ xs) z = let e = z.0.1 in ((e.0, e.1, ap (λ (o : Pair). o.set) e.2), sets_of ks xs z.1)

-- in a narrow automaton its rules under a symbol are its lines with the symbol's place
module _ (A : Automaton) (listed : IsListed A) (rules : List Rule) (same : (rule : Rule) → Contains rules rule ↔ Contains A.rules rule)
    (k : ℕ) (a : Symbol) (at : IsAt A.symbols k a) (kids : List ℕ) (parent : ℕ) where
  abbrev line : Rule
  line = record { symbol = k; kids = kids; parent = parent }

  pub rule_of_listed : Contains rules (record { symbol = k; kids = kids; parent = parent }) → HasRule A a kids parent
  rule_of_listed m =
      let r = place_of A.rules line ((same line).0 m) in
      (r.0, rule_of_line A r.0 line a r.1 (label_at A k a listed.narrow at))

  pub listed_of_rule : HasRule A a kids parent → Contains rules (record { symbol = k; kids = kids; parent = parent })
  listed_of_rule h =
      let parts = rule_parts A h.0 a kids parent h.1 in
      let once : parts.0 ≡ k = one_place A.symbols listed.automaton.symbols parts.0 k a (at_label A parts.0 a listed.narrow parts.1) at in
      let there : Contains A.rules (record { symbol = parts.0; kids = kids; parent = parent }) = contains_at A.rules h.0 (record { symbol = parts.0; kids = kids; parent = parent }) parts.2 in
      (same line).1 (subst (λ n. Contains A.rules (record { symbol = n; kids = kids; parent = parent })) once there)

pub all_at_next : {X : Type 0} (xs : List X) (Kind : ℕ → X → Type 0) (i : ℕ) (x : X) → AllAtBefore xs Kind i → IsAt xs i x → Kind i x → AllAtBefore xs Kind (i + 1)
all_at_next xs Kind i x all at h j y l jat = ⊎_elim
    (λ (e : j ≡ i).
    let same : x ≡ y = at_unique xs i x y at (subst (λ k. IsAt xs k y) e jat) in
    subst (λ k. Kind k y) (sym e) (subst (Kind i) same h))
    (λ (d : j ≢ i). all j y (omega (arith, l, d)) jat)
    (cases_eq j i)

pub filed_next : (entries : List UpEntry) (n i : ℕ) (lists : List (List ℕ)) (e : UpEntry) → IsAt entries i e → e.pair.state < n → AreFiledBefore entries n i lists
    → AreFiledBefore entries n (i + 1) (set lists e.pair.state (get_or lists e.pair.state [] ++ i ∷ []))
filed_next entries n i lists e at l m = record {
  filing = filing_add (λ (o : UpEntry). o.pair.state) entries n i lists e at l m.filing;
  early = λ q list qat k h. elim (at_set lists e.pair.state (get_or lists e.pair.state [] ++ i ∷ []) q list qat) [
    | inl new ↦ elim (Contains-push_cases (get_or lists e.pair.state []) i k (subst (λ (xs : List ℕ). Contains xs k) new.1 h)) [
      | inl old ↦
          let size = m.filing.size in
          let below = m.early e.pair.state (get_or lists e.pair.state []) (slice_get-get_or lists e.pair.state [] (omega (arith, l, size))) k old in
          omega (arith, below)
      | inr same ↦ omega (arith, same)
    ]
    | inr old ↦ (let below = m.early q list old.1 k h in omega (arith, below))
  ];
}
