-- Texts that begin with one piece and then another.
use Rattle.std.proofs.Common.{◌≡◌, ℕ, ◌-◌, Bool, true, false, ◌&&◌, List, [], ◌∷◌, ◌++◌, length, take, drop, refl, sym, ap, ap₂, ◌∙◌}
use Rattle.std.specs.Prelude.{nat_eq}
use Rattle.std.specs.List.{starts_with}
use Rattle.std.proofs.Math.Bool.{and_assoc}
use Rattle.std.proofs.lemmas.Bool.{eqb-true, eq-eqb}
use Rattle.std.proofs.lemmas.List.{take_rest}
use Rattle.witness_trees.proofs.Symbols.{and_parts, and_both}
use Rattle.certificate_lines.specs.Lines.{stands_at}

pub starts_in_two : (a b xs : List ℕ) → starts_with nat_eq xs (a ++ b) ≡ (starts_with nat_eq xs a && starts_with nat_eq (drop (length a) xs) b)
starts_in_two [] b xs = refl
starts_in_two (x ∷ a) b [] = refl
starts_in_two (x ∷ a) b (y ∷ xs) = ap (λ t. nat_eq x y && t) (starts_in_two a b xs) ∙ sym (and_assoc (nat_eq x y) (starts_with nat_eq xs a) (starts_with nat_eq (drop (length a) xs) b))

module _ (word end text : List ℕ) (at : ℕ) where
  abbrev pub rest_of : List ℕ
  rest_of = take (length text - at) (drop at text)

  pub begins_with_both : (a b : Bool) → a ≡ starts_with nat_eq rest_of word → a ≡ true → b ≡ starts_with nat_eq (take (length rest_of - length word) (drop (length word) rest_of)) end → b ≡ stands_at (word ++ end) text at
  begins_with_both a b first holds second =
      second ∙ ap (λ xs. starts_with nat_eq xs end) (take_rest rest_of (length word))
      ∙ sym (ap (λ t. t && starts_with nat_eq (drop (length word) rest_of) end) (sym first ∙ holds))
      ∙ sym (starts_in_two word end rest_of)
      ∙ ap (λ xs. starts_with nat_eq xs (word ++ end)) (take_rest text at)

  pub begins_otherwise : (a : Bool) → a ≡ starts_with nat_eq rest_of word → a ≡ false → false ≡ stands_at (word ++ end) text at
  begins_otherwise a first none =
      sym (ap (λ t. t && starts_with nat_eq (drop (length word) rest_of) end) (sym first ∙ none))
      ∙ sym (starts_in_two word end rest_of)
      ∙ ap (λ xs. starts_with nat_eq xs (word ++ end)) (take_rest text at)

-- a text begins with what stands in front of it
pub starts_own : (word rest : List ℕ) → starts_with nat_eq (word ++ rest) word ≡ true
starts_own [] rest = refl
starts_own (b ∷ word) rest = and_both _ _ (eq-eqb b b refl) (starts_own word rest)

-- a text that begins with a word is that word and the rest
pub starts_joined : (word text : List ℕ) → starts_with nat_eq text word ≡ true → text ≡ word ++ drop (length word) text
starts_joined [] text h = refl
starts_joined (b ∷ word) [] h = absurd cc
starts_joined (b ∷ word) (x ∷ text) h =
    let p = and_parts (nat_eq b x) (starts_with nat_eq text word) h in
    ap₂ (λ y ys. y ∷ ys) (sym (eqb-true b x p.0)) (starts_joined word text p.1)
