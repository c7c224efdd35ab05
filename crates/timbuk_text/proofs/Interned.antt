-- What the set says of an insert, where its test decides equality.
use Rattle.std.proofs.Common.{◌≡◌, ℕ, ◌<◌, ◌≤◌, Bool, List, [], ◌∷◌, length, sym, ap, ◌∙◌, subst, arith}
use Rattle.std.specs.List.{Contains}
use Rattle.std.specs.Str.{bytes_eq}
use Rattle.std.proofs.lemmas.List.{length-append}
use Rattle.std.proofs.lemmas.Slice.Eq.{bytes_eq-Decides}
use Rattle.tree_definitions.specs.Relation.{IsAt}
use Rattle.tree_definitions.proofs.Members.{contains_at}
use Rattle.timbuk_definitions.proofs.Firsts.{with_old, with_fresh, dec_listed}
use Rattle.word_table.specs.Table.{IsInterned}
use Rattle.std.specs.Prelude.{Result, Ok, Err, IfOk, IsErrOf}
use Rattle.std.specs.Bool.{Decides}
use Rattle.timbuk_definitions.specs.Place.{IsFull}
use Rattle.timbuk_text.specs.declared.error.Counted.{Counted}
use Rattle.timbuk_text.specs.declared.tables.Stop.{Stop}
use Rattle.timbuk_text.specs.Taking.{Interns, InternsBy, IsFullBy}
use Rattle.timbuk_text.proofs.Listed.{interned, full}

module _ {X : Type 0} (same : X → X → Bool) (decides : (a b : X) → Decides (same a b) (a ≡ b)) (most : ℕ) (old new : List X) (value x : X) (is : value ≡ x) (what : Counted) where
  pub ok_as : (r : Result ℕ Stop) → IfOk r (InternsBy same most old new value) → IfOk r (Interns same most old new x)
  ok_as (Ok i) h = subst (λ v. Interns same most old new v i) is (interned same decides most old new value i h)
  ok_as (Err e) h = h

  pub stop_as : (r : Result ℕ Stop) → ((which : Counted) → IsErrOf r (Stop.Limit which) → (which ≡ what) × IsFullBy same most old value)
      → (which : Counted) → IsErrOf r (Stop.Limit which) → (which ≡ what) × IsFull most old x
  stop_as r f which e = let p = f which e in (p.0, subst (IsFull most old) is (full same decides most old value p.1))

-- a value that stands in the list already
pub known : {X : Type 0} (same : X → X → Bool) → ((a b : X) → Decides (same a b) (a ≡ b)) → (most : ℕ) (old : List X) (x : X) (place : ℕ)
    → IsAt old place x → length old ≤ most → Interns same most old old x place
known same decides most old x place at few = record {
  list = sym (with_old same decides old x (contains_at old place x at));
  at = at;
  room = λ full. full.0 (contains_at old place x at);
  few = few;
}

-- what the table of words says of an insert
pub known_word : (old : List (List ℕ)) (word : List ℕ) (place : ℕ) → IsAt old place word → length old ≤ 1000000 → Interns bytes_eq 1000000 old old word place
known_word = known bytes_eq bytes_eq-Decides 1000000

pub interned_word : (old new : List (List ℕ)) (word : List ℕ) (place : ℕ) → length old < 1000000 → IsInterned old word new place → Interns bytes_eq 1000000 old new word place
interned_word old new word place room i = go (dec_listed bytes_eq bytes_eq-Decides old word)
  where
    go : Dec (Contains old word) → Interns bytes_eq 1000000 old new word place
    go (yes m) =
        let same = i.known m in
        subst (λ l. Interns bytes_eq 1000000 old l word place) (sym same) (known_word old word place (subst (λ l. IsAt l place word) same i.stands) (omega (arith, room)))
    go (no n) = record {
      list = i.fresh n ∙ sym (with_fresh bytes_eq bytes_eq-Decides old word n);
      at = i.stands;
      room = λ full. omega (arith, full.1, room);
      few = omega (arith, ap length (i.fresh n), length-append old (word ∷ []), room);
    }
