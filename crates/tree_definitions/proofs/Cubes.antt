-- The patterns of a set of codes let each code of the set through exactly once, and no other.
use Rattle.std.proofs.Common.{◌≡◌, inl, inr, ◌⊎◌, ◌↔◌, ℕ, zero, suc, Bool, true, false, ◌&&◌, ◌||◌, cond, ◌==◌, List, [], ◌∷◌, ◌++◌, map, refl, sym, ap, ◌∙◌, subst, arith}
use Rattle.std.specs.Prelude.{◌≢◌, Contains, AllPairs}
use Rattle.std.specs.List.{AllByRecursion, list_all}
use Rattle.std.specs.Str.{bytes_eq}
use Rattle.std.proofs.lemmas.Bool.Decides.{Decides-eqb}
use Rattle.std.proofs.lemmas.Slice.Eq.{bytes_eq-Decides}
use Rattle.std.proofs.lemmas.List.Elements.{All-from_recursion, Contains-append_left, Contains-append_right, Contains-append_cases}
use Rattle.std.proofs.lemmas.List.Kept.{AllPairs-cons}
use Rattle.std.proofs.lemmas.Map.Views.{Contains-from_any}
use Rattle.tree_definitions.specs.Code.{IsDigit, IsCode, LetsDigit, LetsThrough, rests, is_among, same_codes, cubes}
use Rattle.tree_definitions.proofs.Members.{contains_none, contains_head, contains_tail, contains_cases}

abbrev pub Codes : Type 0
Codes = List (List ℕ)

pub same_truth : (a b : Bool) → (a ≡ true → b ≡ true) → (b ≡ true → a ≡ true) → a ≡ b
same_truth true true f g = refl
same_truth true false f g = sym (f refl)
same_truth false true f g = g refl
same_truth false false f g = refl

or_true : (b : Bool) → (b || true) ≡ true
or_true true = refl
or_true false = refl

and_left : (a b : Bool) → (a && b) ≡ true → a ≡ true
and_left true b e = refl
and_left false b e = e

and_right : (a b : Bool) → (a && b) ≡ true → b ≡ true
and_right true b e = e
and_right false b e = absurd cc

and_both : (a b : Bool) → a ≡ true → b ≡ true → (a && b) ≡ true
and_both true b p q = q
and_both false b p q = p

-- what stands behind a digit
rests_out : (d : ℕ) (codes : Codes) (c : List ℕ) → Contains (rests d codes) c → Contains codes (d ∷ c)
rests_out d [] c m = absurd (contains_none c m)
rests_out d ([] ∷ codes) c m = contains_tail [] codes (d ∷ c) (rests_out d codes c m)
rests_out d ((e ∷ rest) ∷ codes) c m = go (d == e) refl m (rests_out d codes c)
  where
    go : (b : Bool) → (d == e) ≡ b → Contains (cond b (rest ∷ rests d codes) (rests d codes)) c → (Contains (rests d codes) c → Contains codes (d ∷ c)) → Contains ((e ∷ rest) ∷ codes) (d ∷ c)
    go true t m f = elim (contains_cases rest (rests d codes) c m) [
      | inl s ↦ (let same : d ≡ e = (Decides-eqb d e).0 t in subst (Contains ((e ∷ rest) ∷ codes)) (λ i. sym same i ∷ s i) (contains_head (e ∷ rest) codes))
      | inr k ↦ contains_tail (e ∷ rest) codes (d ∷ c) (f k)
    ]
    go false t m f = contains_tail (e ∷ rest) codes (d ∷ c) (f m)

rests_in : (d : ℕ) (codes : Codes) (c : List ℕ) → Contains codes (d ∷ c) → Contains (rests d codes) c
rests_in d [] c m = absurd (contains_none (d ∷ c) m)
rests_in d ([] ∷ codes) c m = elim (contains_cases [] codes (d ∷ c) m) [ inl e ↦ absurd cc | inr k ↦ rests_in d codes c k ]
rests_in d ((e ∷ rest) ∷ codes) c m = go (d == e) refl (contains_cases (e ∷ rest) codes (d ∷ c) m) (rests_in d codes c)
  where
    go : (b : Bool) → (d == e) ≡ b → ((e ∷ rest) ≡ (d ∷ c)) ⊎ Contains codes (d ∷ c) → (Contains codes (d ∷ c) → Contains (rests d codes) c) → Contains (cond b (rest ∷ rests d codes) (rests d codes)) c
    go true t (inl s) f = let same : rest ≡ c = cc in subst (Contains (rest ∷ rests d codes)) same (contains_head rest (rests d codes))
    go true t (inr k) f = contains_tail rest (rests d codes) c (f k)
    go false t (inl s) f = let same : d ≡ e = cc in let yes' : (d == e) ≡ true = (Decides-eqb d e).1 same in absurd cc
    go false t (inr k) f = f k

among_out : (codes : Codes) (c : List ℕ) → is_among codes c ≡ true → Contains codes c
among_out codes c t = Contains-from_any (λ x y e. (bytes_eq-Decides x y).0 e) c codes t

among_in : (codes : Codes) (c : List ℕ) → Contains codes c → is_among codes c ≡ true
among_in [] c m = absurd (contains_none c m)
among_in (x ∷ xs) c m = elim (contains_cases x xs c m) [
  | inl e ↦ ap (λ b. b || is_among xs c) ((bytes_eq-Decides c x).1 (sym e))
  | inr k ↦ ap (λ b. bytes_eq c x || b) (among_in xs c k) ∙ or_true (bytes_eq c x)
]

all_out : (xs ys : Codes) → list_all (is_among ys) xs ≡ true → (c : List ℕ) → Contains xs c → Contains ys c
all_out [] ys t c m = absurd (contains_none c m)
all_out (x ∷ xs) ys t c m = elim (contains_cases x xs c m) [
  | inl e ↦ subst (Contains ys) e (among_out ys x (and_left (is_among ys x) _ t))
  | inr k ↦ all_out xs ys (and_right (is_among ys x) _ t) c k
]

all_in : (xs ys : Codes) → ((c : List ℕ) → Contains xs c → Contains ys c) → list_all (is_among ys) xs ≡ true
all_in [] ys f = refl
all_in (x ∷ xs) ys f = and_both _ _ (among_in ys x (f x (contains_head x xs))) (all_in xs ys (λ c m. f c (contains_tail x xs c m)))

pub same_out : (xs ys : Codes) → same_codes xs ys ≡ true → (c : List ℕ) → Contains xs c ↔ Contains ys c
same_out xs ys t c = (all_out xs ys (and_left _ _ t) c, all_out ys xs (and_right (list_all (is_among ys) xs) _ t) c)

pub same_in : (xs ys : Codes) → ((c : List ℕ) → Contains xs c ↔ Contains ys c) → same_codes xs ys ≡ true
same_in xs ys f = and_both _ _ (all_in xs ys (λ c. (f c).0)) (all_in ys xs (λ c. (f c).1))

rests_same : (d : ℕ) (xs ys : Codes) → ((c : List ℕ) → Contains xs c ↔ Contains ys c) → (c : List ℕ) → Contains (rests d xs) c ↔ Contains (rests d ys) c
rests_same d xs ys f c = (λ m. rests_in d ys c ((f (d ∷ c)).0 (rests_out d xs c m)), λ m. rests_in d xs c ((f (d ∷ c)).1 (rests_out d ys c m)))

-- the patterns are those of the set, however its codes are listed
pub cubes_same : (w : ℕ) (xs ys : Codes) → ((c : List ℕ) → Contains xs c ↔ Contains ys c) → cubes w xs ≡ cubes w ys
cubes_same zero xs ys f =
    ap (λ b. cond b ([] ∷ []) []) (same_truth (is_among xs []) (is_among ys []) (λ t. among_in ys [] ((f []).0 (among_out xs [] t))) (λ t. among_in xs [] ((f []).1 (among_out ys [] t))))
cubes_same (suc w) xs ys f =
    let zeros : cubes w (rests 48 xs) ≡ cubes w (rests 48 ys) = cubes_same w (rests 48 xs) (rests 48 ys) (rests_same 48 xs ys f) in
    let ones : cubes w (rests 49 xs) ≡ cubes w (rests 49 ys) = cubes_same w (rests 49 xs) (rests 49 ys) (rests_same 49 xs ys f) in
    let joined : same_codes (rests 48 xs) (rests 49 xs) ≡ same_codes (rests 48 ys) (rests 49 ys) = same_truth _ _
    (λ t. same_in (rests 48 ys) (rests 49 ys) (λ c. let s = same_out (rests 48 xs) (rests 49 xs) t c in let z = rests_same 48 xs ys f c in let o = rests_same 49 xs ys f c in (λ m. o.0 (s.0 (z.1 m)), λ m. z.0 (s.1 (o.1 m)))))
    (λ t. same_in (rests 48 xs) (rests 49 xs) (λ c. let s = same_out (rests 48 ys) (rests 49 ys) t c in let z = rests_same 48 xs ys f c in let o = rests_same 49 xs ys f c in (λ m. o.1 (s.0 (z.0 m)), λ m. z.1 (s.1 (o.0 m))))) in
    λ i. cond (joined i) (map (λ p. 88 ∷ p) (zeros i)) (map (λ p. 48 ∷ p) (zeros i) ++ map (λ p. 49 ∷ p) (ones i))

pub map_out : (d : ℕ) (ps : Codes) (p : List ℕ) → Contains (map (λ q. d ∷ q) ps) p → (q : List ℕ) × Contains ps q × ((d ∷ q) ≡ p)
map_out d [] p m = absurd (contains_none p m)
map_out d (q ∷ qs) p m = elim (contains_cases (d ∷ q) (map (λ q. d ∷ q) qs) p m) [
  | inl e ↦ (q, contains_head q qs, e)
  | inr k ↦ (let r = map_out d qs p k in (r.0, contains_tail q qs r.0 r.1, r.2))
]

map_in : (d : ℕ) (ps : Codes) (q : List ℕ) → Contains ps q → Contains (map (λ q. d ∷ q) ps) (d ∷ q)
map_in d [] q m = absurd (contains_none q m)
map_in d (x ∷ xs) q m = elim (contains_cases x xs q m) [
  | inl e ↦ subst (Contains (map (λ q. d ∷ q) (x ∷ xs))) (ap (λ y. d ∷ y) e) (contains_head (d ∷ x) (map (λ q. d ∷ q) xs))
  | inr k ↦ contains_tail (d ∷ x) (map (λ q. d ∷ q) xs) (d ∷ q) (map_in d xs q k)
]

-- a byte that is no X lets itself through alone
pub lets_itself : (p d : ℕ) → p ≢ 88 → LetsDigit p d → p ≡ d
lets_itself p d n h = elim h.1 [ inl e ↦ absurd (n e) | inr e ↦ e ]

-- how a pattern of codes with one digit more begins
abbrev pub Begun : ℕ → Codes → List ℕ → Type 0
Begun d ps p = (q : List ℕ) × Contains ps q × ((d ∷ q) ≡ p)

pub split_out : (w : ℕ) (codes : Codes) (p : List ℕ) → Contains (map (λ p. 48 ∷ p) (cubes w (rests 48 codes)) ++ map (λ p. 49 ∷ p) (cubes w (rests 49 codes))) p
    → Begun 48 (cubes w (rests 48 codes)) p ⊎ Begun 49 (cubes w (rests 49 codes)) p
split_out w codes p m = elim (Contains-append_cases (map (λ p. 48 ∷ p) (cubes w (rests 48 codes))) (map (λ p. 49 ∷ p) (cubes w (rests 49 codes))) p m) [
  | inl k ↦ inl (map_out 48 (cubes w (rests 48 codes)) p k)
  | inr k ↦ inr (map_out 49 (cubes w (rests 49 codes)) p k)
]

-- what a pattern lets through is a code of the set
pub lets_only : (w : ℕ) (codes : Codes) (p c : List ℕ) → Contains (cubes w codes) p → LetsThrough p c → IsCode w c × Contains codes c
lets_only zero codes p c m h = go (is_among codes []) refl m
  where
    empty : (p c : List ℕ) → [] ≡ p → LetsThrough p c → [] ≡ c
    empty p [] e h = refl
    empty [] (d ∷ ds) e h = absurd h
    empty (x ∷ xs) (d ∷ ds) e h = absurd cc

    go : (b : Bool) → is_among codes [] ≡ b → Contains (cond b ([] ∷ []) []) p → IsCode zero c × Contains codes c
    go true t k = elim (contains_cases [] [] p k) [
      | inl e ↦ (let s = empty p c e h in (subst (IsCode zero) s tt, subst (Contains codes) s (among_out codes [] t)))
      | inr n ↦ absurd (contains_none p n)
    ]
    go false t k = absurd (contains_none p k)
lets_only (suc w) codes p c m h = go (same_codes (rests 48 codes) (rests 49 codes)) refl m (lets_only w (rests 48 codes)) (lets_only w (rests 49 codes))
  where
    Rest : Codes → Type 0
    Rest rs = (p c : List ℕ) → Contains (cubes w rs) p → LetsThrough p c → IsCode w c × Contains rs c

    begun : (x d : ℕ) (q c : List ℕ) → IsDigit d → IsCode w c → Contains (rests d codes) c → IsCode (suc w) (d ∷ c) × Contains codes (d ∷ c)
    begun x d q c digit code k = ((digit, code), rests_out d codes c k)

    either : same_codes (rests 48 codes) (rests 49 codes) ≡ true → (d : ℕ) (c : List ℕ) → IsDigit d → Contains (rests 48 codes) c → Contains (rests d codes) c
    either t d c (inl e) k = subst (λ x. Contains (rests x codes) c) (sym e) k
    either t d c (inr e) k = subst (λ x. Contains (rests x codes) c) (sym e) ((same_out (rests 48 codes) (rests 49 codes) t c).0 k)

    any : same_codes (rests 48 codes) (rests 49 codes) ≡ true → (q p c : List ℕ) → Rest (rests 48 codes) → Contains (cubes w (rests 48 codes)) q → (88 ∷ q) ≡ p → LetsThrough p c → IsCode (suc w) c × Contains codes c
    any t q p [] f k e h = absurd (subst (λ x. LetsThrough x []) (sym e) h)
    any t q p (d ∷ c) f k e h =
        let g = subst (λ x. LetsThrough x (d ∷ c)) (sym e) h in
        let r = f q c k g.1 in
        ((g.0.0, r.0), rests_out d codes c (either t d c g.0.0 r.1))

    just : (x : ℕ) → x ≢ 88 → (q p c : List ℕ) → Rest (rests x codes) → Contains (cubes w (rests x codes)) q → (x ∷ q) ≡ p → LetsThrough p c → IsCode (suc w) c × Contains codes c
    just x n q p [] f k e h = absurd (subst (λ y. LetsThrough y []) (sym e) h)
    just x n q p (d ∷ c) f k e h =
        let g = subst (λ y. LetsThrough y (d ∷ c)) (sym e) h in
        let r = f q c k g.1 in
        ((g.0.0, r.0), rests_out d codes c (subst (λ y. Contains (rests y codes) c) (lets_itself x d n g.0) r.1))

    go : (b : Bool) → same_codes (rests 48 codes) (rests 49 codes) ≡ b
        → Contains (cond b (map (λ p. 88 ∷ p) (cubes w (rests 48 codes))) (map (λ p. 48 ∷ p) (cubes w (rests 48 codes)) ++ map (λ p. 49 ∷ p) (cubes w (rests 49 codes)))) p
        → Rest (rests 48 codes) → Rest (rests 49 codes) → IsCode (suc w) c × Contains codes c
    go true t k f g = let r = map_out 88 (cubes w (rests 48 codes)) p k in any t r.0 p c f r.1 r.2 h
    go false t k f g = elim (split_out w codes p k) [
      | inl r ↦ just 48 (λ e. omega (arith, e)) r.0 p c f r.1 r.2 h
      | inr r ↦ just 49 (λ e. omega (arith, e)) r.0 p c g r.1 r.2 h
    ]

-- each code of the set is let through
pub lets_each : (w : ℕ) (codes : Codes) (c : List ℕ) → IsCode w c → Contains codes c → (p : List ℕ) × Contains (cubes w codes) p × LetsThrough p c
lets_each zero codes [] code m = ([], subst (λ b. Contains {X = List ℕ} (cond b ([] ∷ []) []) []) (sym (among_in codes [] m)) (contains_head [] []), tt)
lets_each zero codes (d ∷ ds) code m = absurd code
lets_each (suc w) codes [] code m = absurd code
lets_each (suc w) codes (d ∷ c) code m = go (same_codes (rests 48 codes) (rests 49 codes)) refl code.0 (lets_each w (rests 48 codes) c code.1) (lets_each w (rests 49 codes) c code.1)
  where
    Rest : Codes → Type 0
    Rest rs = Contains rs c → (p : List ℕ) × Contains (cubes w rs) p × LetsThrough p c

    behind : (x : ℕ) → d ≡ x → Contains (rests x codes) c
    behind x e = subst (λ y. Contains (rests y codes) c) e (rests_in d codes c m)

    itself : (x : ℕ) → d ≡ x → IsDigit d → LetsDigit x d
    itself x e digit = (digit, inr (sym e))

    go : (b : Bool) → same_codes (rests 48 codes) (rests 49 codes) ≡ b → IsDigit d → Rest (rests 48 codes) → Rest (rests 49 codes)
        → (p : List ℕ) × Contains (cond b (map (λ p. 88 ∷ p) (cubes w (rests 48 codes))) (map (λ p. 48 ∷ p) (cubes w (rests 48 codes)) ++ map (λ p. 49 ∷ p) (cubes w (rests 49 codes)))) p × LetsThrough p (d ∷ c)
    go true t (inl e) f g = let r = f (behind 48 e) in (88 ∷ r.0, map_in 88 (cubes w (rests 48 codes)) r.0 r.1, ((inl e, inl refl), r.2))
    go true t (inr e) f g =
        let r = f ((same_out (rests 48 codes) (rests 49 codes) t c).1 (behind 49 e)) in (88 ∷ r.0, map_in 88 (cubes w (rests 48 codes)) r.0 r.1, ((inr e, inl refl), r.2))
    go false t (inl e) f g =
        let r = f (behind 48 e) in
        (48 ∷ r.0, Contains-append_left (map (λ p. 48 ∷ p) (cubes w (rests 48 codes))) (map (λ p. 49 ∷ p) (cubes w (rests 49 codes))) (48 ∷ r.0) (map_in 48 (cubes w (rests 48 codes)) r.0 r.1), (itself 48 e (inl e), r.2))
    go false t (inr e) f g =
        let r = g (behind 49 e) in
        (49 ∷ r.0, Contains-append_right (map (λ p. 48 ∷ p) (cubes w (rests 48 codes))) (map (λ p. 49 ∷ p) (cubes w (rests 49 codes))) (49 ∷ r.0) (map_in 49 (cubes w (rests 49 codes)) r.0 r.1), (itself 49 e (inr e), r.2))

-- no code is let through twice
pub lets_once : (w : ℕ) (codes : Codes) (p q c : List ℕ) → Contains (cubes w codes) p → Contains (cubes w codes) q → LetsThrough p c → LetsThrough q c → p ≡ q
lets_once zero codes p q c m n h g = go (is_among codes []) m n
  where
    go : (b : Bool) → Contains (cond b ([] ∷ []) []) p → Contains (cond b ([] ∷ []) []) q → p ≡ q
    go true k l = elim (contains_cases [] [] p k) [
      | inl e ↦ elim (contains_cases [] [] q l) [ inl f ↦ sym e ∙ f | inr o ↦ absurd (contains_none q o) ]
      | inr o ↦ absurd (contains_none p o)
    ]
    go false k l = absurd (contains_none p k)
lets_once (suc w) codes p q c m n h g = go (same_codes (rests 48 codes) (rests 49 codes)) m n (lets_once w (rests 48 codes)) (lets_once w (rests 49 codes))
  where
    Rest : Codes → Type 0
    Rest rs = (p q c : List ℕ) → Contains (cubes w rs) p → Contains (cubes w rs) q → LetsThrough p c → LetsThrough q c → p ≡ q

    alike : (x : ℕ) (rs : Codes) (p q c a b : List ℕ) → Rest rs → Contains (cubes w rs) a → Contains (cubes w rs) b → (x ∷ a) ≡ p → (x ∷ b) ≡ q → LetsThrough p c → LetsThrough q c → p ≡ q
    alike x rs p q [] a b f k l e e' h g = absurd (subst (λ y. LetsThrough y []) (sym e) h)
    alike x rs p q (d ∷ c) a b f k l e e' h g =
        sym e ∙ ap (λ y. x ∷ y) (f a b c k l (subst (λ y. LetsThrough y (d ∷ c)) (sym e) h).1 (subst (λ y. LetsThrough y (d ∷ c)) (sym e') g).1) ∙ e'

    apart : (p q c a b : List ℕ) → (48 ∷ a) ≡ p → (49 ∷ b) ≡ q → LetsThrough p c → LetsThrough q c → ⊥
    apart p q [] a b e e' h g = subst (λ y. LetsThrough y []) (sym e) h
    apart p q (d ∷ c) a b e e' h g =
        let s = lets_itself 48 d (λ x. omega (arith, x)) (subst (λ y. LetsThrough y (d ∷ c)) (sym e) h).0 in
        let t = lets_itself 49 d (λ x. omega (arith, x)) (subst (λ y. LetsThrough y (d ∷ c)) (sym e') g).0 in
        omega (arith, s, t)

    go : (b : Bool)
        → Contains (cond b (map (λ p. 88 ∷ p) (cubes w (rests 48 codes))) (map (λ p. 48 ∷ p) (cubes w (rests 48 codes)) ++ map (λ p. 49 ∷ p) (cubes w (rests 49 codes)))) p
        → Contains (cond b (map (λ p. 88 ∷ p) (cubes w (rests 48 codes))) (map (λ p. 48 ∷ p) (cubes w (rests 48 codes)) ++ map (λ p. 49 ∷ p) (cubes w (rests 49 codes)))) q
        → Rest (rests 48 codes) → Rest (rests 49 codes) → p ≡ q
    go true k l f f' =
        let r = map_out 88 (cubes w (rests 48 codes)) p k in
        let s = map_out 88 (cubes w (rests 48 codes)) q l in
        alike 88 (rests 48 codes) p q c r.0 s.0 f r.1 s.1 r.2 s.2 h g
    go false k l f f' = both (split_out w codes p k) (split_out w codes q l)
      where
        both : Begun 48 (cubes w (rests 48 codes)) p ⊎ Begun 49 (cubes w (rests 49 codes)) p → Begun 48 (cubes w (rests 48 codes)) q ⊎ Begun 49 (cubes w (rests 49 codes)) q → p ≡ q
        both (inl r) (inl s) = alike 48 (rests 48 codes) p q c r.0 s.0 f r.1 s.1 r.2 s.2 h g
        both (inl r) (inr s) = absurd (apart p q c r.0 s.0 r.2 s.2 h g)
        both (inr r) (inl s) = absurd (apart q p c s.0 r.0 s.2 r.2 g h)
        both (inr r) (inr s) = alike 49 (rests 49 codes) p q c r.0 s.0 f' r.1 s.1 r.2 s.2 h g

-- no pattern is listed twice
abbrev Apart : Codes → Type 0
Apart [] = Unit {0}
Apart (x ∷ xs) = (Contains xs x → ⊥) × Apart xs

map_apart : (d : ℕ) (ps : Codes) → Apart ps → Apart (map (λ q. d ∷ q) ps)
map_apart d [] h = tt
map_apart d (p ∷ ps) h = (λ m. let r = map_out d ps (d ∷ p) m in let same : r.0 ≡ p = (let e = r.2 in cc) in h.0 (subst (Contains ps) same r.1), map_apart d ps h.1)

append_apart : (xs ys : Codes) → Apart xs → Apart ys → ((x : List ℕ) → Contains xs x → Contains ys x → ⊥) → Apart (xs ++ ys)
append_apart [] ys h g n = g
append_apart (x ∷ xs) ys h g n = (
  λ m. elim (Contains-append_cases xs ys x m) [ inl k ↦ h.0 k | inr k ↦ n x (contains_head x xs) k ],
  append_apart xs ys h.1 g (λ y k l. n y (contains_tail x xs y k) l),
)

unlike : (x y : ℕ) (a b : List ℕ) → x ≢ y → (x ∷ a) ≡ (y ∷ b) → ⊥
unlike x y a b n e = n (let s : x ≡ y = cc in s)

cubes_apart : (w : ℕ) (codes : Codes) → Apart (cubes w codes)
cubes_apart zero codes = go (is_among codes [])
  where
    go : (b : Bool) → Apart (cond b ([] ∷ []) [])
    go true = (contains_none [], tt)
    go false = tt
cubes_apart (suc w) codes = go (same_codes (rests 48 codes) (rests 49 codes)) (cubes_apart w (rests 48 codes)) (cubes_apart w (rests 49 codes))
  where
    go : (b : Bool) → Apart (cubes w (rests 48 codes)) → Apart (cubes w (rests 49 codes))
        → Apart (cond b (map (λ p. 88 ∷ p) (cubes w (rests 48 codes))) (map (λ p. 48 ∷ p) (cubes w (rests 48 codes)) ++ map (λ p. 49 ∷ p) (cubes w (rests 49 codes))))
    go true h g = map_apart 88 (cubes w (rests 48 codes)) h
    go false h g = append_apart _ _ (map_apart 48 (cubes w (rests 48 codes)) h) (map_apart 49 (cubes w (rests 49 codes)) g)
        (λ x k l. let r = map_out 48 (cubes w (rests 48 codes)) x k in let s = map_out 49 (cubes w (rests 49 codes)) x l in unlike 48 49 r.0 s.0 (λ e. omega (arith, e)) (r.2 ∙ sym s.2))

all_apart : (x : List ℕ) (xs : Codes) → (Contains xs x → ⊥) → AllByRecursion (λ y. x ≢ y) xs
all_apart x [] n = tt
all_apart x (y ∷ ys) n = (λ e. n (subst (Contains (y ∷ ys)) (sym e) (contains_head y ys)), all_apart x ys (λ k. n (contains_tail y ys x k)))

pairs_apart : (xs : Codes) → Apart xs → AllPairs ◌≢◌ xs
pairs_apart [] h = λ i j d l k. absurd (omega arith)
pairs_apart (x ∷ xs) h = AllPairs-cons ◌≢◌ x xs (All-from_recursion (λ y. x ≢ y) xs (all_apart x xs h.0)) (pairs_apart xs h.1)

pub cubes_distinct : (w : ℕ) (codes : Codes) → AllPairs ◌≢◌ (cubes w codes)
cubes_distinct w codes = pairs_apart (cubes w codes) (cubes_apart w codes)
