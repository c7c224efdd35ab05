-- Two lists of symbols become one, a symbol of the second list at a time.
use Rattle.std.proofs.Common.{refl, ◌≡◌, ◌≢◌, ℕ, zero, suc, ◌<◌, ◌≤◌, ◌+◌, Bool, true, false, not, cond, drop, List, [], ◌∷◌, ◌++◌, take, length, length-append, filter, get_or, Contains, sym, ap, ◌∙◌, subst, arith, ⊎_elim, append_assoc}
use Rattle.std.specs.Prelude.{AllPairs}
use Rattle.std.specs.List.{AllZip, list_any}
use Rattle.std.proofs.lemmas.Bool.{cases_Bool, false≢true}
use Rattle.std.proofs.lemmas.List.{take_more, append-nil, length-take, take-append-drop, get_or-take}
use Rattle.std.proofs.lemmas.List.Elements.{filter-append, All-filter, All-contains, Contains-get_or, Contains-append_cases, Contains-append_left}
use Rattle.indexmap.proofs.SetLemmas.{AllZip-push}
use Rattle.tree_definitions.specs.Tree.{Symbol}
use Rattle.tree_definitions.specs.Joint.{joint_symbols, same_symbol}
use Rattle.tree_definitions.specs.Relation.{IsAt}
use Rattle.ranked_alphabet.specs.Alphabets.{Interned, Merging}
use Rattle.ranked_alphabet.proofs.Places.{any_member, member_any}

abbrev lacks : List Symbol → Symbol → Bool
lacks xs y = not (list_any (same_symbol y) xs)

at_longer : (xs ys : List Symbol) (i : ℕ) (x : Symbol) → IsAt xs i x → IsAt (xs ++ ys) i x
at_longer [] ys i x e = absurd cc
at_longer (z ∷ xs) ys zero x e = e
at_longer (z ∷ xs) ys (suc i) x e = at_longer xs ys i x e

each_longer : (xs ys : List Symbol) (places : List ℕ) (zs : List Symbol) → AllZip (IsAt xs) places zs → AllZip (IsAt (xs ++ ys)) places zs
each_longer xs ys [] [] h = tt
each_longer xs ys [] (z ∷ zs) h = absurd h
each_longer xs ys (p ∷ ps) [] h = absurd h
each_longer xs ys (p ∷ ps) (z ∷ zs) h = (at_longer xs ys p z h.0, each_longer xs ys ps zs h.1)

filter_member : (p : Symbol → Bool) (xs : List Symbol) (x : Symbol) → Contains (filter p xs) x → Contains xs x
filter_member p xs x h = All-contains (Contains xs) (filter p xs) x (All-filter p (Contains xs) xs (λ k d l. Contains-get_or xs k d l)) h

pub merging_none : (xs ys : List Symbol) → Merging xs ys 0 xs []
merging_none xs ys = record { list = sym (append-nil xs); numbers = tt }

-- a symbol that stands later in a list of distinct symbols doesn't stand among the first ones
not_before : (ys : List Symbol) (i : ℕ) (y : Symbol) → AllPairs ◌≢◌ ys → i < length ys → y ≡ get_or ys i y → Contains (take i ys) y → ⊥
not_before ys i y apart l at h =
    let k : h.0 < i = omega (arith, length-take i ys, h.1) in
    apart h.0 i y k l (sym (get_or-take i ys h.0 y k) ∙ h.2 ∙ at)

one_more : (xs ys : List Symbol) (i : ℕ) (y : Symbol) → i < length ys → y ≡ get_or ys i y
    → joint_symbols xs (take (i + 1) ys) ≡ joint_symbols xs (take i ys) ++ filter (lacks xs) (y ∷ [])
one_more xs ys i y l at =
    ap (joint_symbols xs) (take_more ys i y l ∙ ap (λ z. take i ys ++ z ∷ []) (sym at))
    ∙ ap (λ zs. xs ++ zs) (filter-append (lacks xs) (take i ys) (y ∷ []))
    ∙ sym (append_assoc xs (filter (lacks xs) (take i ys)) (filter (lacks xs) (y ∷ [])))

-- a symbol that both lists have among those merged so far stands in the first list
merged_in_first : (xs ys : List Symbol) (i : ℕ) (y : Symbol) → (Contains (take i ys) y → ⊥) → Contains (joint_symbols xs (take i ys)) y → Contains xs y
merged_in_first xs ys i y not_yet h =
    ⊎_elim (λ m. m) (λ m. absurd (not_yet (filter_member (lacks xs) (take i ys) y m))) (Contains-append_cases xs (filter (lacks xs) (take i ys)) y h)

pub record Step (xs ys : List Symbol) (i : ℕ) (joined : List Symbol) (y : Symbol) : Type 0 where
  pub old : (list_any (same_symbol y) xs ≡ true) → Contains joined y × (joint_symbols xs (take (i + 1) ys) ≡ joined)
  pub fresh : (list_any (same_symbol y) xs ≡ false) → (Contains joined y → ⊥) × (joint_symbols xs (take (i + 1) ys) ≡ joined ++ y ∷ [])

step : (xs ys : List Symbol) (i : ℕ) (joined : List Symbol) (y : Symbol) → AllPairs ◌≢◌ ys → i < length ys → y ≡ get_or ys i y
    → joined ≡ joint_symbols xs (take i ys) → Step xs ys i joined y
step xs ys i joined y apart l at is = record {
  old = λ t. (
    subst (λ zs. Contains zs y) (sym is) (Contains-append_left xs (filter (lacks xs) (take i ys)) y (member_any xs y t)),
    one_more xs ys i y l at ∙ ap (λ b. joint_symbols xs (take i ys) ++ cond (not b) (y ∷ []) []) t ∙ append-nil (joint_symbols xs (take i ys)) ∙ sym is,
  );
  fresh = λ f. (
    λ h. false≢true (sym f ∙ any_member xs y (merged_in_first xs ys i y (not_before ys i y apart l at) (subst (λ zs. Contains zs y) is h))),
    one_more xs ys i y l at ∙ ap (λ b. joint_symbols xs (take i ys) ++ cond (not b) (y ∷ []) []) f ∙ ap (λ zs. zs ++ y ∷ []) (sym is),
  );
}

pub merging_step :
    (xs ys : List Symbol) (i : ℕ) (joined new : List Symbol) (places : List ℕ) (y : Symbol) (p : ℕ) → AllPairs ◌≢◌ ys → i < length ys → y ≡ get_or ys i y
    → Merging xs ys i joined places → Interned joined y new p → Merging xs ys (i + 1) new (places ++ p ∷ [])
merging_step xs ys i joined new places y p apart l at m is = ⊎_elim known fresh (cases_Bool (list_any (same_symbol y) xs))
  where
    s : Step xs ys i joined y
    s = step xs ys i joined y apart l at m.list

    more : take (i + 1) ys ≡ take i ys ++ y ∷ []
    more = take_more ys i y l ∙ ap (λ z. take i ys ++ z ∷ []) (sym at)

    numbers : AllZip (IsAt new) places (take i ys) → AllZip (IsAt new) (places ++ p ∷ []) (take (i + 1) ys)
    numbers h = subst (AllZip (IsAt new) (places ++ p ∷ [])) (sym more) (AllZip-push (IsAt new) places (take i ys) p y h is.place)

    known : list_any (same_symbol y) xs ≡ true → Merging xs ys (i + 1) new (places ++ p ∷ [])
    known t =
        let same : new ≡ joined = is.known (s.old t).0 in
        record { list = same ∙ sym (s.old t).1; numbers = numbers (subst (λ zs. AllZip (IsAt zs) places (take i ys)) (sym same) m.numbers) }

    fresh : list_any (same_symbol y) xs ≡ false → Merging xs ys (i + 1) new (places ++ p ∷ [])
    fresh f =
        let same : new ≡ joined ++ y ∷ [] = is.fresh (s.fresh f).0 in
        record {
          list = same ∙ sym (s.fresh f).1;
          numbers = numbers (subst (λ zs. AllZip (IsAt zs) places (take i ys)) (sym same) (each_longer joined (y ∷ []) places (take i ys) m.numbers));
        }

joint_grows : (xs ys : List Symbol) (i : ℕ) → length (joint_symbols xs (take i ys)) ≤ length (joint_symbols xs ys)
joint_grows xs ys i =
    let whole : filter (lacks xs) ys ≡ filter (lacks xs) (take i ys) ++ filter (lacks xs) (drop i ys) =
    ap (filter (lacks xs)) (sym (take-append-drop i ys)) ∙ filter-append (lacks xs) (take i ys) (drop i ys) in
    simp length-append (omega (arith, simp length-append at (ap length whole)))

-- a full list that lacks one of the symbols
pub merging_full :
    (xs ys : List Symbol) (i : ℕ) (joined : List Symbol) (places : List ℕ) (y : Symbol) → AllPairs ◌≢◌ ys → i < length ys → y ≡ get_or ys i y
    → Merging xs ys i joined places → (Contains joined y → ⊥) × (length joined ≡ 65535) → 65535 < length (joint_symbols xs ys)
merging_full xs ys i joined places y apart l at m h = ⊎_elim known fresh (cases_Bool (list_any (same_symbol y) xs))
  where
    s : Step xs ys i joined y
    s = step xs ys i joined y apart l at m.list

    known : list_any (same_symbol y) xs ≡ true → 65535 < length (joint_symbols xs ys)
    known t = absurd (h.0 (s.old t).0)

    fresh : list_any (same_symbol y) xs ≡ false → 65535 < length (joint_symbols xs ys)
    fresh f =
        let size : length (joint_symbols xs (take (i + 1) ys)) ≡ length joined + 1 = ap length (s.fresh f).1 ∙ length-append joined (y ∷ []) in
        let most : length (joint_symbols xs (take (i + 1) ys)) ≤ length (joint_symbols xs ys) = joint_grows xs ys (i + 1) in
        let full : length joined ≡ 65535 = h.1 in
        omega arith

-- a list joined to no symbols is itself
pub joint_none : (ys : List Symbol) → joint_symbols [] ys ≡ ys
joint_none [] = refl
joint_none (y ∷ ys) = ap (λ zs. y ∷ zs) (joint_none ys)
