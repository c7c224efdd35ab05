-- What is left of a file of which so many bytes were taken.
use Rattle.std.proofs.Common.{◌≡◌, ◌≤◌, ℕ, ◌+◌, List, [], ◌∷◌, ◌++◌, length, Some, None, refl, sym, ap, ◌∙◌, subst, arith, length-append}
use Rattle.std.specs.Prelude.{drop, take, unwrap_or}
use Rattle.std.specs.declared.option.Option.{Option}
use Rattle.std.specs.Io.KnownBytes.{Consumes}
use Rattle.std.proofs.KnownBytes.{Consumes-trans}
use Rattle.std.proofs.lemmas.List.{length-take}
use Rattle.std.proofs.Math.Seq.{drop-append_seam}
use Rattle.vata_outside.specs.Outside.{File, Selects}
use Rattle.vata_core.specs.Files.{IsLeftOf, IsLeftOfOne}

-- at most so many bytes were taken
abbrev pub TakesAtMost : ℕ → Option (List ℕ) → Option (List ℕ) → Type 0
TakesAtMost most old new = (bytes : List ℕ) × (length bytes ≤ most) × Consumes old new bytes

-- a piece was taken
pub piece_taken : (total count most : ℕ) (a b : Option (List ℕ)) (buffer : List ℕ) → total + count ≤ most → Consumes a b (take count buffer) → (bytes : List ℕ) × (total + length bytes ≤ most) × Consumes a b bytes
piece_taken total count most a b buffer h c = (take count buffer, omega (arith, h, length-take count buffer), c)

-- n bytes were taken, and then so many that there are at most as many together
pub taken_with : (n most : ℕ) (a b c : Option (List ℕ)) (text : List ℕ) → Consumes a b text → length text ≡ n → ((bytes : List ℕ) × (n + length bytes ≤ most) × Consumes b c bytes) → TakesAtMost most a c
taken_with n most a b c text h e t = (text ++ t.0, omega (arith, e, t.1, length-append text t.0), Consumes-trans a b c text t.0 h t.2)

dropped : (bytes taken : List ℕ) (start left : Option (List ℕ)) → start ≡ Some bytes → Consumes start left taken → left ≡ Some (drop (length taken) bytes)
dropped bytes taken None left e c = cc e
dropped bytes taken (Some x) None e c = absurd c
dropped bytes taken (Some x) (Some y) e c =
    let same : x ≡ bytes = ap (λ o. unwrap_or o x) e in
    ap Some (sym (ap (drop (length taken)) (sym same ∙ c) ∙ drop-append_seam taken y))

-- of a selected file at most so many bytes were taken
pub taken_left : (files : Option (List File)) (name : List ℕ) (most : ℕ) (start left : Option (List ℕ)) → Selects files name start → TakesAtMost most start left → IsLeftOf files name most left
taken_left None name most start left s t = tt
taken_left (Some fs) name most start left s t = (s.0, s.1, (length t.0, t.1, dropped s.0 t.0 start left s.2 t.2))

pub first_left : (files : Option (List File)) (name : List ℕ) (names : List (List ℕ)) (left : Option (List ℕ)) → IsLeftOf files name 33554433 left → IsLeftOfOne files (name ∷ names) left
first_left files name names left h = (0, name, refl, h)

pub second_left : (files mid : Option (List File)) (first second : List ℕ) (names : List (List ℕ)) (left : Option (List ℕ)) → mid ≡ files → IsLeftOf mid second 33554433 left
    → IsLeftOfOne files (first ∷ second ∷ names) left
second_left files mid first second names left same h = (1, second, refl, subst (λ f. IsLeftOf f second 33554433 left) same h)

pub third_left : (files mid : Option (List File)) (first second third : List ℕ) (left : Option (List ℕ)) → mid ≡ files → IsLeftOf mid third 134217729 left
    → IsLeftOfOne files (first ∷ second ∷ third ∷ []) left
third_left files mid first second third left same h = (2, third, refl, subst (λ f. IsLeftOf f third 134217729 left) same h)
