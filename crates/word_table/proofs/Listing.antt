-- What the overflow has for a word once another is inserted.
use Rattle.std.proofs.Common.{◌≡◌, ◌≢◌, ℕ, Bool, true, List, Some, sym, ◌∙◌}
use Rattle.std.specs.BTreeMap.{BTreeMap, UpdatesBy}
use Rattle.std.specs.Cmp.{eq_by_cmp_equiv}
use Rattle.std.specs.Cmp.Lexicographic.{nat_list_cmp_total, slice_cmp}
use Rattle.std.specs.Map.{AreApart, IsKeyTest, KeepsOthers, lookup}
use Rattle.std.specs.Ordering.{is_eq, nat_cmp}
use Rattle.std.specs.declared.vec.Vec.{Vec}
use Rattle.std.proofs.lemmas.Bool.{false_from_ne_true}
use Rattle.std.proofs.lemmas.Map.Text.{is_eq-slice_cmp}
use Rattle.std.proofs.lemmas.Slice.Eq.{bytes_eq-Decides}
use Rattle.word_table.specs.Index.{place_in}

other_entries :
    {K X : Type 0} (eq : K → K → Bool) (test other : K → Bool) (old new : List (K × X)) → KeepsOthers eq test old new → IsKeyTest eq other → AreApart test other
    → lookup other new ≡ lookup other old
unfolding KeepsOthers
other_entries eq test other old new h = h other

same_bytes : (xs ys : List ℕ) → is_eq (slice_cmp nat_cmp xs ys) ≡ true → xs ≡ ys
same_bytes xs ys e = (bytes_eq-Decides xs ys).0 (sym (is_eq-slice_cmp xs ys) ∙ e)

-- another word than the one inserted has the same place as before
pub other_kept :
    {A : Type 0} (word other : List ℕ) (key : Vec ℕ A) (old new : BTreeMap (Vec ℕ A) ℕ) (place : ℕ)
    → UpdatesBy (λ x y. slice_cmp nat_cmp x.items y.items) (λ copy. slice_cmp nat_cmp key.items copy.items) old new (Some place) → key.items ≡ word → other ≢ word
    → place_in new other ≡ place_in old other
other_kept word other key old new place h read off =
    other_entries _ _ _ _ _ h.3 (λ x y. (eq_by_cmp_equiv nat_list_cmp_total).congr other x.items y.items) (λ copy e.
    false_from_ne_true (is_eq (slice_cmp nat_cmp other copy.items)) (λ same. off (same_bytes other copy.items same ∙ sym (same_bytes key.items copy.items e) ∙ read)))
