-- A list of settings, cut at its first comma.
use Rattle.std.proofs.Common.{◌≡◌, ℕ, List, [], ◌∷◌, Option, Some, None, Bor, refl, false, lit<}
use Rattle.std.specs.List.{slice_split}
use Rattle.std.proofs.lemmas.List.Elements.{All-from_get_or}
use Rattle.std.proofs.lemmas.List.Splits.{slice_split_none, slice_split_first}
use Rattle.std.proofs.lemmas.Bool.{ne_eqb}
use Rattle.std.proofs.lemmas.Str.Pattern.{IsSplitOnceResult, split_once_first, split_parts}
use Rattle.vata_words.specs.Settings.{is_comma}

module _ (text : List ℕ) (r : Option (Bor (List ℕ) × Bor (List ℕ))) (split : IsSplitOnceResult 44 text r) where
  pub cut : (x : Bor (List ℕ) × Bor (List ℕ)) → r ≡ Some x → slice_split is_comma text ≡ x.0.now ∷ slice_split is_comma x.1.now
  cut x is =
      let (inside, front, back) = rw is at (split_once_first 44 text r split (lit< tt)) in
      rw (slice_split_first is_comma text 0 inside, front, back) refl

  pub uncut : r ≡ None → slice_split is_comma text ≡ text ∷ []
  uncut is =
      let none = rw is at (split_parts 44 text r split (lit< tt)) in
      slice_split_none is_comma text (All-from_get_or (λ x. is_comma x ≡ false) text 0 (λ i below. ne_eqb _ 44 (none i below)))
