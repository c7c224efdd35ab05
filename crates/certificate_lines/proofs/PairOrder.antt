-- Pairs that rise, one pair more at a time.
use Rattle.std.proofs.Common.{◌≡◌, ◌≢◌, ℕ, ◌-◌, ◌<◌, true, List, [], ◌∷◌, ◌++◌, length, length-append, get_or, Option, Some, None, Less, Equal, Greater, refl, sym, ap, ap₂, ◌∙◌, subst, ⊎_elim, arith}
use Rattle.std.specs.Option.{option_map_or}
use Rattle.std.specs.Ordering.{is_lt}
use Rattle.std.specs.declared.cmp.Ordering.{Ordering}
use Rattle.std.proofs.Math.ListN.{get_or-append}
use Rattle.std.proofs.Math.Seq.{get_or-append_seam}
use Rattle.std.proofs.lemmas.Bool.{cases_eq}
use Rattle.std.proofs.lemmas.List.Quantifiers.{all_pairs_push}
use Rattle.std.proofs.lemmas.Option.{slice_get-get_or, slice_get_within, get_or_from_slice_get}
use Rattle.std.specs.Prelude.{slice_get}
use Rattle.tree_definitions.specs.Cover.{Pair}
use Rattle.listed_pairs.specs.Order.{pair_cmp, Precedes, AreRising}
use Rattle.listed_pairs.proofs.Listing.{pairs_total}
use Rattle.certificate_lines.specs.Pairs.{comes_behind}

is_less : (o : Ordering) → is_lt o ≡ true → o ≡ Less
is_less Less e = refl
is_less Equal e = absurd cc
is_less Greater e = absurd cc

-- a pair of a rising list comes behind those before it
pub behind_those_before : (read : List Pair) (x : Pair) (xs : List Pair) → AreRising (read ++ x ∷ xs) → comes_behind read x ≡ true
behind_those_before read x xs rising = go (slice_get read (length read - 1)) refl
  where
    last : ℕ
    last = length read - 1

    go : (o : Option Pair) → slice_get read (length read - 1) ≡ o → option_map_or (λ y. is_lt (pair_cmp y x)) o true ≡ true
    go None e = refl
    go (Some y) e =
        let l = slice_get_within read (length read - 1) y e in
        let long = length-append read (x ∷ xs) in
        let there : get_or (read ++ x ∷ xs) (length read - 1) x ≡ y = get_or-append read (x ∷ xs) x (length read - 1) l ∙ get_or_from_slice_get read (length read - 1) y x e in
        let here : get_or (read ++ x ∷ xs) (length read) x ≡ x = get_or-append_seam read x xs x in
        ap is_lt (sym (ap₂ pair_cmp there here) ∙ rising (length read - 1) (length read) x l (omega (arith, long)))

-- a rising list goes on with a pair that comes behind it
pub rising_more : (read : List Pair) (x : Pair) → AreRising read → comes_behind read x ≡ true → AreRising (read ++ x ∷ [])
rising_more read x rising behind = all_pairs_push Precedes read x rising (λ k d l. each k d l)
  where
    from_last : (d : Pair) → length read - 1 < length read → Precedes (get_or read (length read - 1) d) x
    from_last d l = is_less _ (sym (ap (λ o. option_map_or (λ y. is_lt (pair_cmp y x)) o true) (slice_get-get_or read (length read - 1) d l)) ∙ behind)

    each : (k : ℕ) (d : Pair) → k < length read → Precedes (get_or read k d) x
    each k d l = ⊎_elim
        (λ (e : k ≡ length read - 1). subst (λ n. Precedes (get_or read n d) x) (sym e) (from_last d (omega (arith, l))))
        (λ (n : k ≢ length read - 1).
        pairs_total.trans (get_or read k d) (get_or read (length read - 1) d) x
        (rising k (length read - 1) d (omega (arith, l, n)) (omega (arith, l)))
        (from_last d (omega (arith, l))))
        (cases_eq k (length read - 1))
