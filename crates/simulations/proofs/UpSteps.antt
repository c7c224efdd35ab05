-- Cases of an upward simulation one after the other.
use Rattle.std.proofs.Common.{◌≡◌, ◌≢◌, ◌↔◌, ◌⊎◌, inl, inr, ℕ, ◌+◌, ◌<◌, ◌≤◌, List, length, true, refl, sym, subst, arith, ⊎_elim}
use Rattle.std.specs.Prelude.{Contains}
use Rattle.std.proofs.Math.Decide.{ℕ_discrete}
use Rattle.std.proofs.lemmas.Bool.{cases_eq, cases_lt}
use Rattle.std.proofs.lemmas.List.Elements.{All-contains}
use Rattle.std.proofs.lemmas.Option.{slice_get_within}
use Rattle.tree_definitions.specs.Automaton.{Rule}
use Rattle.tree_definitions.specs.Relation.{Relation, Row, Has, Matrix, Holds, IsAt, IsSquare}
use Rattle.tree_definitions.proofs.Matrices.{holds_within, rows_of, rows_hold, rows_say, rows_square}
use Rattle.tree_definitions.proofs.Members.{at_unique, at_within, place_of, contains_at}
use Rattle.bit_rows.specs.Rows.{IsLeastFrom, IsEmptyFrom}
use Rattle.trim_ops.specs.Marking.{AreWithin, IsWithin, IsByParent}
use Rattle.simulations.specs.Clearing.{IsPartOf, Clearing, Catches, Seen}
use Rattle.child_exchange.specs.Exchanging.{IsExchanged}
use Rattle.simulations.specs.UpCases.{IsUpMatrix, KeepsFinals, GreatestUpBy, UpCases, AreExchanged, IsUpCase, IsUpCaseBelow, IsUpCaseAt, IsUpCaseOf, IsExchangeOf, IsUpUnder, AreUpUnder, RestsOnParents, IsUpSettled}
use Rattle.child_exchange.proofs.Exchanges.{set_itself}

pub exchanged_weaker : (rules : List Rule) (R S : Relation) → ((x y : ℕ) → R x y → S x y) → (rule : Rule) (p r : ℕ) → IsExchanged rules R rule p r → IsExchanged rules S rule p r
exchanged_weaker rules R S f rule p r h = (h.0, h.1, h.2, h.3, h.4, f rule.parent h.1.parent h.5)

-- where no rule with the exchanged child leads above, no simulation within has the pair
pub up_not_within : (rules : List Rule) (sim : Matrix) (i : ℕ) (rule : Rule) (p q r : ℕ) → IsAt rules i rule → IsAt rule.kids p q → ¬ IsExchanged rules (Holds sim) rule p r
    → (m : Matrix) → IsUpMatrix rules m → IsPartOf m sim → ¬ Holds m q r
up_not_within rules sim i rule p q r at kat fails m up within h = fails (exchanged_weaker rules (Holds m) (Holds sim) within rule p r (up i rule p q r at kat h))

pub exchanged_then : (rules : List Rule) (Early Late D : UpCases) (a b c : Matrix) → AreExchanged rules Early a b → AreExchanged rules Late b c → IsPartOf b a → IsPartOf c b
    → ((rule : Rule) (p r : ℕ) → D rule p r → Early rule p r ⊎ Late rule p r) → AreExchanged rules D a c
exchanged_then rules Early Late D a b c one two fewer fewer2 split rule p q r d at ne h = elim (split rule p r d) [
  | inl x ↦ one rule p q r x at ne (fewer2 q r h)
  | inr y ↦ exchanged_weaker rules (Holds b) (Holds a) fewer rule p r (two rule p q r y at ne h)
]

pub exchanged_past : (rules : List Rule) (Early D : UpCases) (a b : Matrix) → AreExchanged rules Early a b → ((rule : Rule) (p r : ℕ) → D rule p r → Early rule p r) → AreExchanged rules D a b
exchanged_past rules Early D a b one split rule p q r d at ne h = one rule p q r (split rule p r d) at ne h

-- the states that a child is below, one after the other
module _ (rules : List Rule) (here : Rule) (p q : ℕ) (kat : IsAt here.kids p q) (row : Row) (sim0 sim : Matrix)
    (members : (y : ℕ) → Has row y ↔ Holds sim q y) (from : ℕ) (one : AreExchanged rules (IsUpCaseBelow here p from) sim0 sim) where
  in_row : (rule : Rule) (y z x : ℕ) → rule ≡ here → y ≡ p → IsAt rule.kids y z → Holds sim z x → Has row x
  in_row rule y z x e f at h =
      let there : IsAt here.kids p z = subst (λ w. IsAt here.kids w z) f (subst (λ (o : Rule). IsAt o.kids y z) e at) in
      (members x).1 (subst (λ w. Holds sim w x) (at_unique here.kids p z q there kat) h)

  pub kid_next : (r : ℕ) (sim2 : Matrix) → IsLeastFrom row from r → IsPartOf sim sim0 → IsPartOf sim2 sim
      → AreExchanged rules (IsUpCase here p r) sim sim2 → AreExchanged rules (IsUpCaseBelow here p (r + 1)) sim0 sim2
  kid_next r sim2 least fewer fewer2 two rule y z x d at ne h = ⊎_elim
      (λ (l : x < from). one rule y z x (d.0, d.1, l) at ne (fewer2 z x h))
      (λ (l : from ≤ x).
      let k : r ≤ x = least.least x l (in_row rule y z x d.0 d.1 at (fewer2 z x h)) in
      let s : x ≡ r = let w = d.2 in omega (arith, w, k) in
      exchanged_weaker rules (Holds sim) (Holds sim0) fewer rule y x (two rule y z x (d.0, d.1, s) at ne h))
      (cases_lt x from)

  pub kid_ends : (n : ℕ) → IsEmptyFrom row from → AreExchanged rules (IsUpCaseBelow here p n) sim0 sim
  kid_ends n none rule y z x d at ne h = ⊎_elim
      (λ (l : x < from). one rule y z x (d.0, d.1, l) at ne h)
      (λ (l : from ≤ x). absurd (none x l (in_row rule y z x d.0 d.1 at h)))
      (cases_lt x from)

-- the places of a rule one after the other
pub place_next : (n : ℕ) (rules : List Rule) (here : Rule) (p : ℕ) (sim0 sim sim2 : Matrix) → IsSquare n sim2 → AreExchanged rules (IsUpCaseAt here p) sim0 sim
    → AreExchanged rules (IsUpCaseBelow here p n) sim sim2 → IsPartOf sim sim0 → IsPartOf sim2 sim → AreExchanged rules (IsUpCaseAt here (p + 1)) sim0 sim2
place_next n rules here p sim0 sim sim2 square one two fewer fewer2 rule y q r (e, l) at ne h = ⊎_elim
    (λ (f : y ≡ p). exchanged_weaker rules (Holds sim) (Holds sim0) fewer rule y r (two rule y q r (e, f, (holds_within n sim2 square q r h).1) at ne h))
    (λ (d : y ≢ p). one rule y q r (e, omega arith) at ne (fewer2 q r h))
    (cases_eq y p)

-- the rules one after the other
pub rule_next : (rules : List Rule) (i : ℕ) (here : Rule) (sim0 sim sim2 : Matrix) → IsAt rules i here → AreExchanged rules (IsUpCaseOf rules i) sim0 sim
    → AreExchanged rules (IsUpCaseAt here (length here.kids)) sim sim2 → IsPartOf sim sim0 → IsPartOf sim2 sim → AreExchanged rules (IsUpCaseOf rules (i + 1)) sim0 sim2
rule_next rules i here sim0 sim sim2 iat one two fewer fewer2 rule y q r (j, l, jat) at ne h = ⊎_elim
    (λ (e : j ≡ i).
    let same : rule ≡ here = at_unique rules i rule here (subst (λ z. IsAt rules z rule) e jat) iat in
    let w : y < length here.kids = slice_get_within here.kids y q (subst (λ (o : Rule). IsAt o.kids y q) same at) in
    exchanged_weaker rules (Holds sim) (Holds sim0) fewer rule y r (two rule y q r (same, w) at ne h))
    (λ (d : j ≢ i). one rule y q r (j, omega arith, jat) at ne (fewer2 q r h))
    (cases_eq j i)

pub rule_ends : (rules : List Rule) (k : ℕ) (sim0 sim : Matrix) → length rules ≤ k → AreExchanged rules (IsUpCaseOf rules k) sim0 sim → IsUpSettled rules sim0 sim
rule_ends rules k sim0 sim end one i rule p q r at kat ne h = one rule p q r (i, (let w = slice_get_within rules i rule at in omega (arith, w, end)), at) kat ne h

-- one more rule of the list above
pub up_under_next : (rules : List Rule) (here : Rule) (list : List ℕ) (k s : ℕ) (over : Rule) → IsAt list k s → IsAt rules s over
    → (rule : Rule) (p r : ℕ) → IsUpUnder rules here list (k + 1) rule p r → IsUpUnder rules here list k rule p r ⊎ IsExchangeOf here over rule p r
up_under_next rules here list k s over kat sat rule p r (x, t, other, l, tat, oat, is) = ⊎_elim
    (λ (e : x ≡ k).
    let st : t ≡ s = at_unique list k t s (subst (λ z. IsAt list z t) e tat) kat in
    let which : other ≡ over = at_unique rules s other over (subst (λ z. IsAt rules z other) st oat) sat in
    inr (subst (λ (o : Rule). IsExchangeOf here o rule p r) which is))
    (λ (d : x ≢ k). inl (x, t, other, omega arith, tat, oat, is))
    (cases_eq x k)

pub up_under_whole : (rules : List Rule) (here : Rule) (list : List ℕ) (k k2 : ℕ) → length list ≤ k2 → (rule : Rule) (p r : ℕ) → IsUpUnder rules here list k rule p r → IsUpUnder rules here list k2 rule p r
up_under_whole rules here list k k2 end rule p r (x, t, other, l, tat, oat, is) = (x, t, other, (let w = slice_get_within list x t tat in omega (arith, w, end)), tat, oat, is)

-- one more rule of the list below
pub up_rules_next : (rules : List Rule) (below : List ℕ) (j i : ℕ) (here : Rule) (above : List ℕ) → IsAt below j i → IsAt rules i here → (rule : Rule) (p r : ℕ)
    → AreUpUnder rules below (j + 1) above rule p r → AreUpUnder rules below j above rule p r ⊎ IsUpUnder rules here above (length above) rule p r
up_rules_next rules below j i here above jat iat rule p r (at, x, first, l, xat, fat, k, under) = ⊎_elim
    (λ (e : at ≡ j).
    let same : x ≡ i = at_unique below j x i (subst (λ z. IsAt below z x) e xat) jat in
    let which : first ≡ here = at_unique rules i first here (subst (λ z. IsAt rules z first) same fat) iat in
    inr (up_under_whole rules here above k (length above) (omega arith) rule p r (subst (λ (o : Rule). IsUpUnder rules o above k rule p r) which under)))
    (λ (d : at ≢ j). inl (at, x, first, omega arith, xat, fat, k, under))
    (cases_eq at j)

pub up_rules_whole : (rules : List Rule) (below : List ℕ) (j j2 : ℕ) (above : List ℕ) → length below ≤ j2 → (rule : Rule) (p r : ℕ) → AreUpUnder rules below j above rule p r → AreUpUnder rules below j2 above rule p r
up_rules_whole rules below j j2 above end rule p r (at, x, first, l, xat, fat, k, under) = (at, x, first, (let w = slice_get_within below at x xat in omega (arith, w, end)), xat, fat, k, under)

-- one more lost pair
pub up_rests_next : (rules : List Rule) (by_parent : List (List ℕ)) (below : List ℕ) (lost : Row) (from s : ℕ) (above : List ℕ) → IsLeastFrom lost from s → IsAt by_parent s above
    → (rule : Rule) (p r : ℕ) → RestsOnParents rules by_parent below lost (s + 1) rule p r → RestsOnParents rules by_parent below lost from rule p r ⊎ AreUpUnder rules below (length below) above rule p r
up_rests_next rules by_parent below lost from s above least sat rule p r (x, l, has, list, xat, j, under) = ⊎_elim
    (λ (b : x < from). inl (x, b, has, list, xat, j, under))
    (λ (b : from ≤ x).
    let k : s ≤ x = least.least x b has in
    let e : x ≡ s = omega (arith, k, l) in
    let same : list ≡ above = at_unique by_parent s list above (subst (λ z. IsAt by_parent z list) e xat) sat in
    inr (up_rules_whole rules below j (length below) above (omega arith) rule p r (subst (λ z. AreUpUnder rules below j z rule p r) same under)))
    (cases_lt x from)

pub up_rests_whole : (rules : List Rule) (by_parent : List (List ℕ)) (below : List ℕ) (lost : Row) (from n : ℕ) → IsEmptyFrom lost from
    → (rule : Rule) (p r : ℕ) → RestsOnParents rules by_parent below lost n rule p r → RestsOnParents rules by_parent below lost from rule p r
up_rests_whole rules by_parent below lost from n none rule p r (x, l, has, list, xat, j, under) = ⊎_elim
    (λ (b : x < from). (x, b, has, list, xat, j, under))
    (λ (b : from ≤ x). absurd (none x b has))
    (cases_lt x from)

-- what a marked row lost is looked at, so that each case leads above by what is seen then
module _ (n : ℕ) (rules : List Rule) (by_parent : List (List ℕ)) (size : length by_parent ≡ n) (u : IsByParent rules by_parent)
    (seen sim : Matrix) (marks : Row) (q : ℕ) (below : List ℕ) (bat : IsAt by_parent q below) (marks1 : Row) (seen2 : Matrix) (lost : Row) (sim2 : Matrix) (marks2 : Row)
    (s : Seen n seen sim marks) (k : Catches n sim q seen lost seen2) (c : Clearing n (IsUpMatrix rules) sim marks1 sim2 marks2)
    (a : AreExchanged rules (RestsOnParents rules by_parent below lost n) sim sim2) where
  rests : (i : ℕ) (rule : Rule) (p r : ℕ) → IsAt rules i rule → rule.parent ≡ q → (j : ℕ) (over : Rule) → IsAt rules j over → IsExchangeOf rule over rule p r
      → Has lost over.parent → RestsOnParents rules by_parent below lost n rule p r
  rests i rule p r at e j over jat is has =
      let l : over.parent < n = let w = slice_get_within lost over.parent true has in let f = k.long in omega (arith, w, f) in
      let list = at_within by_parent over.parent (omega (arith, l, size)) in
      let b = place_of below i (u.whole below i rule (subst (λ z. IsAt by_parent z below) (sym e) bat) at) in
      let o = place_of list.0 j (u.whole list.0 j over list.1 jat) in
      (over.parent, l, has, list.0, list.1, b.0 + 1, (b.0, i, rule, omega arith, b.1, at, o.0 + 1, (o.0, j, over, omega arith, o.1, jat, is)))

  pub up_settled_next : IsUpSettled rules seen sim → IsUpSettled rules seen2 sim2
  up_settled_next settled i rule p x r at kat ne h =
      let old = settled i rule p x r at kat ne (c.fewer x r h) in
      elim (k.parted rule.parent old.1.parent old.5) [
        | inl z ↦ (old.0, old.1, old.2, old.3, old.4, z)
        | inr (e, has) ↦
            exchanged_weaker rules (Holds sim) (Holds seen2) (λ y z m. k.kept y z (s.within y z m) m) rule p r
            (a rule p x r (rests i rule p r at e old.0 old.1 old.2 (refl, old.3, old.4) has) kat ne h)
      ]

-- with no mark left, what is seen is the relation
pub up_settled_alone : (n : ℕ) (rules : List Rule) (seen sim : Matrix) (marks : Row) → Seen n seen sim marks → ((x : ℕ) → ¬ Has marks x)
    → IsUpSettled rules seen sim → IsUpSettled rules sim sim
up_settled_alone n rules seen sim marks s none settled i rule p q r at kat ne h =
    exchanged_weaker rules (Holds seen) (Holds sim) (λ y z o. elim (s.lost y z o) [ inl on ↦ on | inr m ↦ absurd (none y m) ]) rule p r (settled i rule p q r at kat ne h)

-- the identity is an upward simulation
module _ (n : ℕ) (rules : List Rule) (within : AreWithin n rules) where
  same : Matrix
  same = rows_of n ◌≡◌ ℕ_discrete

  same_up : IsUpMatrix rules same
  unfolding same
  same_up i rule p q r at kat h =
      let e : q ≡ r = (rows_say n ◌≡◌ ℕ_discrete q r h).2 in
      let w = All-contains (IsWithin n) rules rule within (contains_at rules i rule at) in
      (i, rule, at, refl, set_itself rule.kids p r (subst (IsAt rule.kids p) e kat), rows_hold n ◌≡◌ ℕ_discrete rule.parent rule.parent w.parent w.parent refl)

  same_keeps : (finals : List ℕ) → KeepsFinals finals same
  unfolding same
  same_keeps finals q r h f = subst (Contains finals) (rows_say n ◌≡◌ ℕ_discrete q r h).2 f

  same_square : IsSquare n same
  unfolding same
  same_square = rows_square n ◌≡◌ ℕ_discrete

  same_holds : (q : ℕ) → q < n → Holds same q q
  unfolding same
  same_holds q l = rows_hold n ◌≡◌ ℕ_discrete q q l l refl

  -- a relation within the start that has each part of it which is a simulation, itself one but for equal states, is the greatest
  module _ (finals : List ℕ) (start sim : Matrix) (keeps : KeepsFinals finals start)
      (start_each : (m : Matrix) → IsSquare n m → KeepsFinals finals m → IsPartOf m start)
      (square : IsSquare n sim) (fewer : IsPartOf sim start) (settled : IsUpSettled rules sim sim)
      (each : (m : Matrix) → IsUpMatrix rules m → IsPartOf m start → IsPartOf m sim) where
    whole : IsUpMatrix rules sim
    whole i rule p q r at kat h = ⊎_elim
        (λ (e : q ≡ r).
        let w = All-contains (IsWithin n) rules rule within (contains_at rules i rule at) in
        let on : Holds sim rule.parent rule.parent = each same same_up (start_each same same_square (same_keeps finals)) rule.parent rule.parent (same_holds rule.parent w.parent) in
        (i, rule, at, refl, set_itself rule.kids p r (subst (IsAt rule.kids p) e kat), on))
        (λ (d : q ≢ r). settled i rule p q r at kat d h)
        (cases_eq q r)

    pub greatest_up_by_parts : (q r : ℕ) → Holds sim q r ↔ GreatestUpBy n finals rules q r
    greatest_up_by_parts q r = (
      λ h. (sim, square, (λ x y k f. keeps x y (fewer x y k) f), whole, h),
      λ g. each g.0 g.3 (start_each g.0 g.1 g.2) q r g.4,
    )
