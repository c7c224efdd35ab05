-- Places that are known stay right when a word is interned.
use Rattle.std.proofs.Common.{◌≡◌, ℕ, zero, suc, ◌<◌, inl, inr, List, [], ◌∷◌, ◌++◌, length, sym, subst}
use Rattle.std.specs.Prelude.{Contains}
use Rattle.std.proofs.lemmas.Option.{slice_get_within}
use Rattle.tree_definitions.specs.Relation.{IsAt}
use Rattle.tree_definitions.proofs.Members.{contains_none, contains_tail, contains_head, contains_cases}
use Rattle.tree_definitions.proofs.Choices.{tuple_discrete}
use Rattle.word_table.specs.Numbered.{AreNumbered}
use Rattle.word_table.specs.Table.{IsInterned}
use Rattle.word_table.specs.declared.numbered.Numbered.{Numbered}

dec_listed : (words : List (List ℕ)) (word : List ℕ) → Dec (Contains words word)
dec_listed [] word = no (contains_none word)
dec_listed (x ∷ xs) word = go (tuple_discrete x word) (dec_listed xs word)
  where
    go : Dec (x ≡ word) → Dec (Contains xs word) → Dec (Contains (x ∷ xs) word)
    go (yes e) d = yes (subst (λ v. Contains (x ∷ xs) v) e (contains_head x xs))
    go (no n) (yes h) = yes (contains_tail x xs word h)
    go (no n) (no m) = no (λ h. elim (contains_cases x xs word h) [ inl e ↦ n e | inr k ↦ m k ])

at_front : (xs ys : List (List ℕ)) (i : ℕ) (x : List ℕ) → IsAt xs i x → IsAt (xs ++ ys) i x
at_front [] ys i x h = absurd cc
at_front (z ∷ xs) ys zero x h = h
at_front (z ∷ xs) ys (suc i) x h = at_front xs ys i x h

pub grown : (old new : List (List ℕ)) (word : List ℕ) (place : ℕ) → IsInterned old word new place → (n : Numbered) → AreNumbered old n → AreNumbered new n
grown old new word place h n known = record { at = λ number inside some. let there = known.at number inside some in (there.0, there.1, kept _ there.0 there.2) }
  where
    kept : (i : ℕ) (w : List ℕ) → IsAt old i w → IsAt new i w
    kept i w at = go (dec_listed old word)
      where
        go : Dec (Contains old word) → IsAt new i w
        go (yes m) = subst (λ l. IsAt l i w) (sym (h.known m)) at
        go (no m) = subst (λ l. IsAt l i w) (sym (h.fresh m)) (at_front old (word ∷ []) i w at)

-- the place of the word is one of the new list
pub place_below : (old new : List (List ℕ)) (word : List ℕ) (place : ℕ) → IsInterned old word new place → place < length new
place_below old new word place h = slice_get_within new place word h.stands
