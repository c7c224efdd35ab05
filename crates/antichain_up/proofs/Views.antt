-- Lists of lists behind a view.
use Rattle.std.proofs.Common.{◌≡◌, ℕ, zero, suc, ◌<◌, List, [], ◌∷◌, ◌++◌, map, length, get_or, set, Some, Ok, Err, Result, refl, sym, ap, ◌∙◌, subst}
use Rattle.std.specs.Prelude.{◌↔◌, Contains, OnErr}
use Rattle.std.proofs.lemmas.List.{get_or-map, length-map, length-set, set-get_or}
use Rattle.std.proofs.lemmas.Option.{slice_get-get_or}
use Rattle.tree_definitions.specs.Relation.{Row, Has, IsAt}
use Rattle.tree_definitions.proofs.Members.{at_unique}
use Rattle.antichain_up.specs.ByState.{Keeps}
use Rattle.antichain_up.proofs.Marks.{set_here, set_elsewhere}

pub view_set : {X Y : Type 0} (f : X → Y) (xs : List X) (i : ℕ) (x : X) → map f (set xs i x) ≡ set (map f xs) i (f x)
view_set f [] i x = refl
view_set f (y ∷ ys) zero x = refl
view_set f (y ∷ ys) (suc i) x = ap (λ zs. f y ∷ zs) (view_set f ys i x)

module _ {X : Type 0} (f : X → List ℕ) (xs : List X) (q : ℕ) (new old : X) (self : List (List ℕ)) (e : map f xs ≡ self) (l : q < length self) (o : old ≡ get_or xs q old) where
  old_list : f old ≡ get_or self q []
  old_list =
      let within : q < length xs = subst (λ k. q < k) (length-map xs f) (subst (λ s. q < length s) (sym e) l) in
      ap f o ∙ sym (get_or-map f xs q old [] within) ∙ ap (λ s. get_or s q []) e

  pub put_view : (list : List ℕ) → f new ≡ list → map f (set xs q new) ≡ set self q list
  put_view list n = view_set f xs q new ∙ ap (λ s. set s q (f new)) e ∙ ap (λ v. set self q v) n

  pub add_view : (r : ℕ) → f new ≡ f old ++ r ∷ [] → map f (set xs q new) ≡ set self q (get_or self q [] ++ r ∷ [])
  add_view r n = put_view (get_or self q [] ++ r ∷ []) (n ∙ ap (λ s. s ++ r ∷ []) old_list)

  pub same_view : f new ≡ f old → map f (set xs q new) ≡ self
  same_view n = put_view (get_or self q []) (n ∙ old_list) ∙ set-get_or self q []

  pub keeps_view : (kept : Row) → ((k : ℕ) → Contains (f new) k ↔ (Contains (f old) k × Has kept k)) → Keeps kept q self (map f (set xs q new))
  keeps_view kept h = subst (Keeps kept q self) (sym (put_view (f new) refl)) (record {
    many = length-set self q (f new);
    here = λ before after bat aat k.
        let b : f old ≡ before = old_list ∙ at_unique self q (get_or self q []) before (slice_get-get_or self q [] l) bat in
        let a : f new ≡ after = at_unique (set self q (f new)) q (f new) after (set_here self q (f new) l) aat in
        let P : List ℕ → List ℕ → Type 0 = λ u v. Contains v k ↔ (Contains u k × Has kept k) in
        subst (λ u. P u after) b (subst (λ v. P (f old) v) a (h k));
    elsewhere = λ r n. set_elsewhere self q r (f new) n;
  })

pub on_err : {T E : Type 0} (r : Result T E) (P : Type 0) → P → OnErr r P
on_err (Ok x) P p = tt
on_err (Err e) P p = p

pub map_at : {X Y : Type 0} (f : X → Y) (xs : List X) (k : ℕ) (x : X) → IsAt xs k x → IsAt (map f xs) k (f x)
map_at f [] k x h = absurd cc
map_at f (y ∷ ys) zero x h = let e : y ≡ x = cc in ap (λ z. Some (f z)) e
map_at f (y ∷ ys) (suc k) x h = map_at f ys k x h

pub map_from : {X Y : Type 0} (f : X → Y) (xs : List X) (k : ℕ) (y : Y) → IsAt (map f xs) k y → (x : X) × IsAt xs k x × (f x ≡ y)
map_from f [] k y h = absurd cc
map_from f (x ∷ xs) zero y h = let e : f x ≡ y = cc in (x, refl, e)
map_from f (x ∷ xs) (suc k) y h = map_from f xs k y h
