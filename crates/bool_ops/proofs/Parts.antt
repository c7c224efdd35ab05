-- Steps of the loops that write the parts of a product.
use Rattle.std.proofs.Common.{◌≡◌, ◌≢◌, ◌⊎◌, ◌↔◌, inl, inr, ℕ, ◌<◌, ◌+◌, List, [], ◌∷◌, ◌++◌, map, length, take, get_or, min, refl, sym, ap, ◌∙◌, subst, arith, ⊎_elim}
use Rattle.std.specs.Prelude.{Contains}
use Rattle.std.specs.List.{AllZip}
use Rattle.std.proofs.lemmas.Bool.{cases_eq}
use Rattle.std.proofs.lemmas.List.{take_more, map-append, length-take}
use Rattle.std.proofs.lemmas.List.Elements.{All-push, All-weaker, Contains-append_left, Contains-push, Contains-push_cases}
use Rattle.std.proofs.lemmas.List.Quantifiers.{all_pairs_push}
use Rattle.indexmap.proofs.SetLemmas.{AllZip-push}
use Rattle.tree_definitions.specs.Product.{Both}
use Rattle.tree_definitions.specs.Relation.{Row, Has, IsAt}
use Rattle.tree_definitions.proofs.Members.{at_unique}
use Rattle.bool_ops.specs.Joined.{AreFinals, pairs_of}

pub map_more : {X Y : Type 0} (f : X → Y) (xs : List X) (i : ℕ) (x : X) (new old : List Y) (made : Y) → i < length xs → x ≡ get_or xs i x
    → new ≡ old ++ made ∷ [] → old ≡ map f (take i xs) → made ≡ f x → new ≡ map f (take (i + 1) xs)
map_more f xs i x new old made l at e o g =
    e ∙ ap (λ ys. ys ++ made ∷ []) o ∙ ap (λ y. map f (take i xs) ++ y ∷ []) g
    ∙ sym (map-append f (take i xs) (x ∷ []))
    ∙ ap (map f) (ap (λ y. take i xs ++ y ∷ []) at ∙ sym (take_more xs i x l))

pub row_more : (list : List ℕ) (i : ℕ) (row row2 : Row) → i < length list → ((q : ℕ) → Has row q ↔ Contains (take i list) q)
    → ((q : ℕ) → Has row2 q ↔ ((q ≡ get_or list i 0) ⊎ Has row q)) → (q : ℕ) → Has row2 q ↔ Contains (take (i + 1) list) q
row_more list i row row2 l old members q =
    let x = get_or list i 0 in
    let first = take i list in
    subst (λ xs. Has row2 q ↔ Contains xs q) (sym (take_more list i 0 l)) (
      λ h. elim ((members q).0 h) [
        | inl e ↦ subst (Contains (first ++ x ∷ [])) (sym e) (Contains-push first x)
        | inr k ↦ Contains-append_left first (x ∷ []) q ((old q).0 k)
      ],
      λ h. elim (Contains-push_cases first x q h) [
        | inl k ↦ (members q).1 (inr ((old q).1 k))
        | inr e ↦ (members q).1 (inl (sym e))
      ],
    )

module _ (states : List Both) (L R : Row) (n : ℕ) (fs : List ℕ) (x : Both) (m : AreFinals states L R n fs) (at : IsAt states n x) where
  under : (k : ℕ) → k < n + 1 → k ≢ n → k < n
  under k l d = omega arith

  pub finals_more : Has L x.left → Has R x.right → AreFinals states L R (n + 1) (fs ++ n ∷ [])
  finals_more left right = record {
    below = All-push (λ k. k < n + 1) fs n (All-weaker (λ k. k < n) (λ k. k < n + 1) (λ k l. omega arith) fs m.below) (omega arith);
    distinct = all_pairs_push ◌≢◌ fs n m.distinct (λ k d l e. let w = m.below k d l in omega (arith, w, e));
    members = λ k. (
      λ h. elim (Contains-push_cases fs n k h) [
        | inl o ↦ let f = (m.members k).0 o in (let l = f.0 in omega (arith, l), f.1)
        | inr e ↦ (omega (arith, e), (x, subst (λ z. IsAt states z x) e at, left, right))
      ],
      λ (l, f). ⊎_elim
          (λ (e : k ≡ n). subst (Contains (fs ++ n ∷ [])) (sym e) (Contains-push fs n))
          (λ (d : k ≢ n). Contains-append_left fs (n ∷ []) k ((m.members k).1 (under k l d, f)))
          (cases_eq k n),
    );
  }

  pub finals_past : (Has L x.left → Has R x.right → ⊥) → AreFinals states L R (n + 1) fs
  finals_past none = record {
    below = All-weaker (λ k. k < n) (λ k. k < n + 1) (λ k l. omega arith) fs m.below;
    distinct = m.distinct;
    members = λ k. (
      λ h. let f = (m.members k).0 h in (let l = f.0 in omega (arith, l), f.1),
      λ (l, f). ⊎_elim
          (λ (e : k ≡ n).
          let same : f.0 ≡ x = at_unique states n f.0 x (subst (λ z. IsAt states z f.0) e f.1) at in
          absurd (none (subst (λ (y : Both). Has L y.left) same f.2) (subst (λ (y : Both). Has R y.right) same f.3)))
          (λ (d : k ≢ n). (m.members k).1 (under k l d, f))
          (cases_eq k n),
    );
  }

pairs_push : (ps qs : List ℕ) (p q : ℕ) → length ps ≡ length qs → pairs_of (ps ++ p ∷ []) (qs ++ q ∷ []) ≡ pairs_of ps qs ++ record { left = p; right = q } ∷ []
pairs_push [] [] p q e = refl
pairs_push [] (b ∷ qs) p q e = absurd (omega (arith, e))
pairs_push (a ∷ ps) [] p q e = absurd (omega (arith, e))
pairs_push (a ∷ ps) (b ∷ qs) p q e = ap (λ xs. record { left = a; right = b } ∷ xs) (pairs_push ps qs p q (omega (arith, e)))

pub places_more : (states : List Both) (ps qs places : List ℕ) (i k : ℕ) → i < length ps → length ps ≡ length qs
    → AllZip (IsAt states) places (pairs_of (take i ps) (take i qs)) → IsAt states k (record { left = get_or ps i 0; right = get_or qs i 0 })
    → AllZip (IsAt states) (places ++ k ∷ []) (pairs_of (take (i + 1) ps) (take (i + 1) qs))
places_more states ps qs places i k l e z at =
    let same : length (take i ps) ≡ length (take i qs) = length-take i ps ∙ ap (λ n. min i n) e ∙ sym (length-take i qs) in
    let more : pairs_of (take (i + 1) ps) (take (i + 1) qs) ≡ pairs_of (take i ps) (take i qs) ++ record { left = get_or ps i 0; right = get_or qs i 0 } ∷ [] =
    ap (λ xs. pairs_of xs (take (i + 1) qs)) (take_more ps i 0 l)
    ∙ ap (pairs_of (take i ps ++ get_or ps i 0 ∷ [])) (take_more qs i 0 (omega arith))
    ∙ pairs_push (take i ps) (take i qs) (get_or ps i 0) (get_or qs i 0) same in
    subst (AllZip (IsAt states) (places ++ k ∷ [])) (sym more)
    (AllZip-push (IsAt states) places (pairs_of (take i ps) (take i qs)) k (record { left = get_or ps i 0; right = get_or qs i 0 }) z at)
