-- Cases of a downward simulation answered one after the other.
use Rattle.std.proofs.Common.{◌≡◌, ◌≢◌, ◌↔◌, ◌⊎◌, inl, inr, ℕ, suc, ◌+◌, ◌<◌, ◌≤◌, List, [], ◌∷◌, length, Some, true, refl, sym, ap, ◌∙◌, subst, arith, ⊎_elim}
use Rattle.std.specs.List.{AllZip}
use Rattle.std.proofs.lemmas.Bool.{cases_eq, cases_lt}
use Rattle.std.proofs.lemmas.Option.{slice_get_within}
use Rattle.tree_definitions.specs.Automaton.{Rule}
use Rattle.tree_definitions.specs.Relation.{Relation, Row, Has, Matrix, Holds, IsAt, IsSquare}
use Rattle.tree_definitions.proofs.Greatest.{AllZip-weaker}
use Rattle.tree_definitions.proofs.Matrices.{holds_within}
use Rattle.tree_definitions.proofs.Members.{at_unique, at_within, place_of}
use Rattle.bit_rows.specs.Rows.{IsLeastFrom, IsEmptyFrom}
use Rattle.trim_ops.specs.Marking.{IsByChild}
use Rattle.simulations.specs.Clearing.{IsPartOf, Clearing, Catches, Seen}
use Rattle.simulations.specs.DownCases.{IsAnswered, IsDownMatrix, GreatestBy, Cases, AreAnswered, IsCase, IsCaseBelow, IsCaseOf, IsUnder, AreUnder, RestsOn, IsSettled}

pub answered_weaker : (rules : List Rule) (R S : Relation) → ((x y : ℕ) → R x y → S x y) → (rule : Rule) (r : ℕ) → IsAnswered rules R rule r → IsAnswered rules S rule r
answered_weaker rules R S f rule r h = (h.0, h.1, h.2, h.3, h.4, AllZip-weaker R S f rule.kids h.1.kids h.5)

-- where no rule answers a rule, no simulation within has the pair
pub not_within : (rules : List Rule) (sim : Matrix) (i : ℕ) (rule : Rule) (r : ℕ) → IsAt rules i rule → ¬ IsAnswered rules (Holds sim) rule r
    → (m : Matrix) → IsDownMatrix rules m → IsPartOf m sim → ¬ Holds m rule.parent r
not_within rules sim i rule r at fails m down within h = fails (answered_weaker rules (Holds m) (Holds sim) within rule r (down i rule r at h))

pub answered_then : (rules : List Rule) (Early Late D : Cases) (a b c : Matrix) → AreAnswered rules Early a b → AreAnswered rules Late b c
    → ((x y : ℕ) → Holds b x y → Holds a x y) → ((x y : ℕ) → Holds c x y → Holds b x y) → ((rule : Rule) (r : ℕ) → D rule r → Early rule r ⊎ Late rule r)
    → AreAnswered rules D a c
answered_then rules Early Late D a b c one two fewer fewer2 split rule r d h = elim (split rule r d) [
  | inl x ↦ one rule r x (fewer2 rule.parent r h)
  | inr y ↦ answered_weaker rules (Holds b) (Holds a) fewer rule r (two rule r y h)
]

pub answered_past : (rules : List Rule) (Early D : Cases) (a b : Matrix) → AreAnswered rules Early a b → ((rule : Rule) (r : ℕ) → D rule r → Early rule r) → AreAnswered rules D a b
answered_past rules Early D a b one split rule r d h = one rule r (split rule r d) h

-- two rows in R place by place are in S place by place, but for a place with a pair that S lacks
all_zip_without : (R S : Relation) (q : ℕ) (lost : Row) → ((x y : ℕ) → R x y → S x y ⊎ ((x ≡ q) × Has lost y)) → (xs ys : List ℕ) → AllZip R xs ys
    → AllZip S xs ys ⊎ ((i y : ℕ) × IsAt xs i q × IsAt ys i y × Has lost y)
all_zip_without R S q lost f [] [] z = inl tt
all_zip_without R S q lost f [] (y ∷ ys) z = absurd z
all_zip_without R S q lost f (x ∷ xs) [] z = absurd z
all_zip_without R S q lost f (x ∷ xs) (y ∷ ys) z = go (f x y z.0) (all_zip_without R S q lost f xs ys z.1)
  where
    go : S x y ⊎ ((x ≡ q) × Has lost y) → AllZip S xs ys ⊎ ((i z : ℕ) × IsAt xs i q × IsAt ys i z × Has lost z)
        → AllZip S (x ∷ xs) (y ∷ ys) ⊎ ((i z : ℕ) × IsAt (x ∷ xs) i q × IsAt (y ∷ ys) i z × Has lost z)
    go (inr e) t = inr (0, y, ap Some e.0, refl, e.1)
    go (inl s) (inl t) = inl (s, t)
    go (inl s) (inr h) = inr (suc h.0, h.1, h.2, h.3, h.4)

-- what a marked row lost is looked at, so that each case is answered over what is seen then
module _ (n : ℕ) (rules : List Rule) (by_child : List (List ℕ)) (size : length by_child ≡ n) (u : IsByChild rules by_child)
    (seen sim : Matrix) (marks : Row) (q : ℕ) (below : List ℕ) (bat : IsAt by_child q below) (marks1 : Row) (seen2 : Matrix) (lost : Row) (sim2 : Matrix) (marks2 : Row)
    (s : Seen n seen sim marks) (k : Catches n sim q seen lost seen2) (c : Clearing n (IsDownMatrix rules) sim marks1 sim2 marks2)
    (a : AreAnswered rules (RestsOn rules by_child below lost n) sim sim2) where
  rests : (i : ℕ) (rule : Rule) (r : ℕ) → IsAt rules i rule → (j : ℕ) (over : Rule) → IsAt rules j over → over.symbol ≡ rule.symbol → over.parent ≡ r
      → (p y : ℕ) → IsAt rule.kids p q → IsAt over.kids p y → Has lost y → RestsOn rules by_child below lost n rule r
  rests i rule r at j over jat same parent p y iq iy has =
      let l : y < n = let w = slice_get_within lost y true has in let e = k.long in omega (arith, w, e) in
      let list = at_within by_child y (omega (arith, l, size)) in
      let b = place_of below i (u.whole q below i rule p bat at iq) in
      let o = place_of list.0 j (u.whole y list.0 j over p list.1 jat iy) in
      (y, l, has, list.0, list.1, b.0 + 1, (b.0, i, omega arith, b.1, o.0 + 1, (at, (o.0, j, over, omega arith, o.1, jat, same, parent))))

  pub settled_next : IsSettled rules seen sim → IsSettled rules seen2 sim2
  settled_next settled i rule r at h =
      let old = settled i rule r at (c.fewer rule.parent r h) in
      elim (all_zip_without (Holds seen) (Holds seen2) q lost k.parted rule.kids old.1.kids old.5) [
        | inl z ↦ (old.0, old.1, old.2, old.3, old.4, z)
        | inr (p, y, iq, iy, has) ↦
            answered_weaker rules (Holds sim) (Holds seen2) (λ x z m. k.kept x z (s.within x z m) m) rule r
            (a rule r (rests i rule r at old.0 old.1 old.2 old.3 old.4 p y iq iy has) h)
      ]

-- with no mark left, the relation is a simulation
pub settled_down : (n : ℕ) (rules : List Rule) (seen sim : Matrix) (marks : Row) → Seen n seen sim marks → ((x : ℕ) → ¬ Has marks x)
    → IsSettled rules seen sim → IsDownMatrix rules sim
settled_down n rules seen sim marks s none settled i rule x at k =
    answered_weaker rules (Holds seen) (Holds sim) (λ y z o. elim (s.lost y z o) [ inl on ↦ on | inr m ↦ absurd (none y m) ]) rule x (settled i rule x at k)

-- and where it has each part of the full relation that is one, it is the greatest
pub greatest_by_parts : (n : ℕ) (rules : List Rule) (start sim : Matrix) → ((q r : ℕ) → q < n → r < n → Holds start q r) → IsSquare n sim → IsDownMatrix rules sim
    → ((m : Matrix) → IsDownMatrix rules m → IsPartOf m start → IsPartOf m sim) → (q r : ℕ) → Holds sim q r ↔ GreatestBy n rules q r
greatest_by_parts n rules start sim full square down each q r = (
  λ h. (sim, square, down, h),
  λ g. each g.0 g.2 (λ x y h. let w = holds_within n g.0 g.1 x y h in full x y w.0 w.1) q r g.3,
)

-- the states that a rule's parent is below, one after the other
module _ (rules : List Rule) (i : ℕ) (here : Rule) (at : IsAt rules i here) (q : ℕ) (e : q ≡ here.parent) (row : Row) (sim0 sim : Matrix)
    (members : (y : ℕ) → Has row y ↔ Holds sim q y) (from : ℕ) (one : AreAnswered rules (IsCaseBelow rules i from) sim0 sim) where
  in_row : (rule : Rule) (x : ℕ) → IsAt rules i rule → Holds sim rule.parent x → Has row x
  in_row rule x rat h =
      let same : rule.parent ≡ q = ap (λ (o : Rule). o.parent) (at_unique rules i rule here rat at) ∙ sym e in
      (members x).1 (subst (λ z. Holds sim z x) same h)

  pub row_next : (r : ℕ) (sim2 : Matrix) → IsLeastFrom row from r → ((x y : ℕ) → Holds sim x y → Holds sim0 x y) → ((x y : ℕ) → Holds sim2 x y → Holds sim x y)
      → AreAnswered rules (IsCase rules i r) sim sim2 → AreAnswered rules (IsCaseBelow rules i (r + 1)) sim0 sim2
  row_next r sim2 least fewer fewer2 two rule x d h = ⊎_elim
      (λ (l : x < from). one rule x (d.0, l) (fewer2 rule.parent x h))
      (λ (l : from ≤ x).
      let k : r ≤ x = least.least x l (in_row rule x d.0 (fewer2 rule.parent x h)) in
      let s : x ≡ r = let w = d.1 in omega (arith, w, k) in
      answered_weaker rules (Holds sim) (Holds sim0) fewer rule x (two rule x (d.0, s) h))
      (cases_lt x from)

  pub row_ends : (n : ℕ) → IsEmptyFrom row from → AreAnswered rules (IsCaseBelow rules i n) sim0 sim
  row_ends n none rule x d h = ⊎_elim
      (λ (l : x < from). one rule x (d.0, l) h)
      (λ (l : from ≤ x). absurd (none x l (in_row rule x d.0 h)))
      (cases_lt x from)

-- the rules one after the other
pub sweep_next : (n : ℕ) (rules : List Rule) (i : ℕ) (sim0 sim sim2 : Matrix) → IsSquare n sim2 → AreAnswered rules (IsCaseOf rules i) sim0 sim
    → AreAnswered rules (IsCaseBelow rules i n) sim sim2 → ((x y : ℕ) → Holds sim x y → Holds sim0 x y) → ((x y : ℕ) → Holds sim2 x y → Holds sim x y)
    → AreAnswered rules (IsCaseOf rules (i + 1)) sim0 sim2
sweep_next n rules i sim0 sim sim2 square one two fewer fewer2 rule r (j, l, at) h = ⊎_elim
    (λ (e : j ≡ i). answered_weaker rules (Holds sim) (Holds sim0) fewer rule r
    (two rule r (subst (λ z. IsAt rules z rule) e at, (holds_within n sim2 square rule.parent r h).1) h))
    (λ (d : j ≢ i). one rule r (j, omega arith, at) (fewer2 rule.parent r h))
    (cases_eq j i)

pub sweep_ends : (rules : List Rule) (k : ℕ) (sim0 sim : Matrix) → length rules ≤ k → AreAnswered rules (IsCaseOf rules k) sim0 sim → IsSettled rules sim0 sim
sweep_ends rules k sim0 sim end one i rule r at h = one rule r (i, (let w = slice_get_within rules i rule at in omega (arith, w, end)), at) h

-- one more rule of the list above
pub under_next : (rules : List Rule) (i : ℕ) (list : List ℕ) (k s : ℕ) (over : Rule) (parent : ℕ) → IsAt list k s → IsAt rules s over → over.parent ≡ parent
    → (rule : Rule) (r : ℕ) → IsUnder rules i list (k + 1) rule r → IsUnder rules i list k rule r ⊎ IsCase rules i parent rule r
under_next rules i list k s over parent kat sat p rule r (at, (x, t, other, l, tat, oat, same, q)) = ⊎_elim
    (λ (e : x ≡ k).
    let st : t ≡ s = at_unique list k t s (subst (λ z. IsAt list z t) e tat) kat in
    let which : other ≡ over = at_unique rules s other over (subst (λ z. IsAt rules z other) st oat) sat in
    inr (at, sym q ∙ ap (λ (o : Rule). o.parent) which ∙ p))
    (λ (d : x ≢ k). inl (at, (x, t, other, omega arith, tat, oat, same, q)))
    (cases_eq x k)

-- and one with another symbol
pub under_past : (rules : List Rule) (i : ℕ) (low : Rule) (list : List ℕ) (k s : ℕ) (over : Rule) → IsAt rules i low → IsAt list k s → IsAt rules s over → ¬ (over.symbol ≡ low.symbol)
    → (rule : Rule) (r : ℕ) → IsUnder rules i list (k + 1) rule r → IsUnder rules i list k rule r
under_past rules i low list k s over iat kat sat differ rule r (at, (x, t, other, l, tat, oat, same, q)) = ⊎_elim
    (λ (e : x ≡ k).
    let st : t ≡ s = at_unique list k t s (subst (λ z. IsAt list z t) e tat) kat in
    let which : other ≡ over = at_unique rules s other over (subst (λ z. IsAt rules z other) st oat) sat in
    let lowest : rule ≡ low = at_unique rules i rule low at iat in
    absurd (differ (ap (λ (o : Rule). o.symbol) (sym which) ∙ same ∙ ap (λ (o : Rule). o.symbol) lowest)))
    (λ (d : x ≢ k). (at, (x, t, other, omega arith, tat, oat, same, q)))
    (cases_eq x k)

pub under_whole : (rules : List Rule) (i : ℕ) (list : List ℕ) (k k2 : ℕ) → length list ≤ k2 → (rule : Rule) (r : ℕ) → IsUnder rules i list k rule r → IsUnder rules i list k2 rule r
under_whole rules i list k k2 end rule r (at, (x, t, other, l, tat, oat, same, q)) =
    (at, (x, t, other, (let w = slice_get_within list x t tat in omega (arith, w, end)), tat, oat, same, q))

-- one more rule of the list below
pub users_next : (rules : List Rule) (below : List ℕ) (j i : ℕ) (above : List ℕ) → IsAt below j i → (rule : Rule) (r : ℕ) → AreUnder rules below (j + 1) above rule r
    → AreUnder rules below j above rule r ⊎ IsUnder rules i above (length above) rule r
users_next rules below j i above jat rule r (at, x, l, xat, k, under) = ⊎_elim
    (λ (e : at ≡ j).
    let same : x ≡ i = at_unique below j x i (subst (λ z. IsAt below z x) e xat) jat in
    inr (under_whole rules i above k (length above) (omega arith) rule r (subst (λ z. IsUnder rules z above k rule r) same under)))
    (λ (d : at ≢ j). inl (at, x, omega arith, xat, k, under))
    (cases_eq at j)

pub users_whole : (rules : List Rule) (below : List ℕ) (j j2 : ℕ) (above : List ℕ) → length below ≤ j2 → (rule : Rule) (r : ℕ) → AreUnder rules below j above rule r → AreUnder rules below j2 above rule r
users_whole rules below j j2 above end rule r (at, x, l, xat, k, under) = (at, x, (let w = slice_get_within below at x xat in omega (arith, w, end)), xat, k, under)

-- one more lost pair
pub rests_next : (rules : List Rule) (by_child : List (List ℕ)) (below : List ℕ) (lost : Row) (from y : ℕ) (above : List ℕ) → IsLeastFrom lost from y → IsAt by_child y above
    → (rule : Rule) (r : ℕ) → RestsOn rules by_child below lost (y + 1) rule r → RestsOn rules by_child below lost from rule r ⊎ AreUnder rules below (length below) above rule r
rests_next rules by_child below lost from y above least yat rule r (x, l, has, list, xat, j, under) = ⊎_elim
    (λ (b : x < from). inl (x, b, has, list, xat, j, under))
    (λ (b : from ≤ x).
    let k : y ≤ x = least.least x b has in
    let e : x ≡ y = omega (arith, k, l) in
    let same : list ≡ above = at_unique by_child y list above (subst (λ z. IsAt by_child z list) e xat) yat in
    inr (users_whole rules below j (length below) above (omega arith) rule r (subst (λ z. AreUnder rules below j z rule r) same under)))
    (cases_lt x from)

pub rests_whole : (rules : List Rule) (by_child : List (List ℕ)) (below : List ℕ) (lost : Row) (from n : ℕ) → IsEmptyFrom lost from
    → (rule : Rule) (r : ℕ) → RestsOn rules by_child below lost n rule r → RestsOn rules by_child below lost from rule r
rests_whole rules by_child below lost from n none rule r (x, l, has, list, xat, j, under) = ⊎_elim
    (λ (b : x < from). (x, b, has, list, xat, j, under))
    (λ (b : from ≤ x). absurd (none x b has))
    (cases_lt x from)
