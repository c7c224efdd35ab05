-- The groups of one parent, and the rules of a table.
use Rattle.std.proofs.Common.{◌≡◌, ◌≢◌, ◌↔◌, ◌⊎◌, inl, inr, ℕ, zero, suc, ◌+◌, ◌<◌, ◌≤◌, List, [], ◌∷◌, length, get_or, map, set, Some, Result, Ok, Err, IfOk, IfErr, refl, sym, ap, subst, ◌∙◌, arith, ⊎_elim, ◌++◌, Bool, true, false, IsTrue}
use Rattle.std.specs.Prelude.{All, AllPairs, Contains, OnOk, OnErr}
use Rattle.std.specs.List.{insert, remove}
use Rattle.std.specs.List.Sorted.{IsSearchInRange, IsBinarySearchResult, IsStrictlyIncreasing}
use Rattle.std.specs.Ordering.{nat_cmp}
use Rattle.std.specs.declared.cmp.Ordering.TheVariants.{Less, Equal, Greater}
use Rattle.std.proofs.lemmas.Bool.{cases_eq, cases_lt}
use Rattle.std.proofs.lemmas.Cmp.{nat_cmp_total, ranked}
use Rattle.std.specs.Cmp.{nat_cmp_is}
use Rattle.std.proofs.lemmas.List.{get_or-map, length-map, get_or-set_same, get_or-set_other, map-set, map-append, length_push, get_or_append_left, get_or_past}
use Rattle.std.proofs.Math.Seq.{map-set_same, get_or-append_seam}
use Rattle.std.proofs.lemmas.List.Elements.{All-cons, All-contains, All-set}
use Rattle.std.proofs.lemmas.List.Kept.{AllPairs-cons}
use Rattle.tree_definitions.specs.Automaton.{Rule}
use Rattle.tree_definitions.specs.Relation.{IsAt, Row, Has}
use Rattle.tree_definitions.proofs.Members.{contains_none, contains_head, contains_tail, contains_cases, contains_at}
use Rattle.shared_clusters.specs.Gap.{HasGapAt}
use Rattle.shared_clusters.specs.Clusters.{Group, HasTuple, Gains, Loses, GainsTuple, LosesTuple, IsCluster, cluster_at, HasRule, GainsRule, LosesRule, KeepsParents, IsEmpty}
use Rattle.shared_clusters.proofs.Gaps.{searched, pairs_insert, pairs_remove, pairs_head, pairs_tail, all_insert, all_remove, contains_insert, at_get_or, at_range}

abbrev pub Rises : Group → Group → Type 0
Rises g h = g.symbol < h.symbol

-- ---- the tuples of the first group, and of the others

pub has_here : (g : Group) (gs : List Group) (a : ℕ) (t : List ℕ) → g.symbol ≡ a → Contains g.tuples t → HasTuple (g ∷ gs) a t
has_here g gs a t e m = (g, contains_head g gs, e, m)

pub has_there : (g : Group) (gs : List Group) (a : ℕ) (t : List ℕ) → HasTuple gs a t → HasTuple (g ∷ gs) a t
has_there g gs a t h = (h.0, contains_tail g gs h.0 h.1, h.2, h.3)

pub has_cases : (g : Group) (gs : List Group) (a : ℕ) (t : List ℕ) → HasTuple (g ∷ gs) a t → ((g.symbol ≡ a) × Contains g.tuples t) ⊎ HasTuple gs a t
has_cases g gs a t h =
    ⊎_elim
    (λ (e : g ≡ h.0). inl (ap (λ v. v.symbol) e ∙ h.2, subst (λ v. Contains v.tuples t) (sym e) h.3))
    (λ m. inr (h.0, m, h.2, h.3))
    (contains_cases g gs h.0 h.1)

-- a later group has a greater symbol
later : (g : Group) (gs : List Group) (a : ℕ) (t : List ℕ) → AllPairs Rises (g ∷ gs) → HasTuple gs a t → g.symbol < a
later g gs a t rising h = subst (λ b. g.symbol < b) h.2 (All-contains (Rises g) gs h.0 (pairs_head Rises g gs rising) h.1)

later_at : (g : Group) (gs : List Group) (i : ℕ) (h : Group) → AllPairs Rises (g ∷ gs) → IsAt gs i h → g.symbol < h.symbol
later_at g gs i h rising at = All-contains (Rises g) gs h (pairs_head Rises g gs rising) (contains_at gs i h at)

-- the tuples of the group at a place are those under its symbol
pub tuples_at : (gs : List Group) (i : ℕ) (g : Group) (a : ℕ) → AllPairs Rises gs → IsAt gs i g → g.symbol ≡ a → (t : List ℕ) → Contains g.tuples t ↔ HasTuple gs a t
tuples_at [] i g a rising at e t = absurd cc
tuples_at (h ∷ hs) zero g a rising at e t =
    let here : h ≡ g = cc in (
      λ m. has_here h hs a t (ap (λ v. v.symbol) here ∙ e) (subst (λ v. Contains v.tuples t) (sym here) m),
      λ m. ⊎_elim
          (λ (p : (h.symbol ≡ a) × Contains h.tuples t). subst (λ v. Contains v.tuples t) here p.1)
          (λ (n : HasTuple hs a t). let lt : h.symbol < a = later h hs a t rising n in let same : h.symbol ≡ a = ap (λ v. v.symbol) here ∙ e in absurd (omega arith))
          (has_cases h hs a t m),
    )
tuples_at (h ∷ hs) (suc i) g a rising at e t =
    let rest = tuples_at hs i g a (pairs_tail Rises h hs rising) at e t in
    let lt : h.symbol < g.symbol = later_at h hs i g rising at in (
      λ m. has_there h hs a t (rest.0 m),
      λ m. ⊎_elim (λ (p : (h.symbol ≡ a) × Contains h.tuples t). let same : h.symbol ≡ a = p.0 in absurd (omega arith)) (λ n. rest.1 n) (has_cases h hs a t m),
    )

-- what a search finds among the groups
pub group_place : (gs : List Group) (a : ℕ) (r : Result ℕ ℕ) → AllPairs Rises gs → IsSearchInRange r (length gs) → IsBinarySearchResult (λ g. nat_cmp g.symbol a) gs r
    → IfOk r (λ i. (g : Group) × IsAt gs i g × (g.symbol ≡ a)) × IfErr r (λ i. HasGapAt (λ g b. g.symbol < b) (λ b g. b < g.symbol) gs a i)
group_place gs a r rising within found = go r within found
  where
    ordered : AllPairs (λ g h. nat_cmp g.symbol h.symbol ≡ Less) gs
    ordered i j d lt in_range = sym (nat_cmp_is _ _ Less (rising i j d lt in_range))

    go : (r : Result ℕ ℕ) → IsSearchInRange r (length gs) → IsBinarySearchResult (λ g. nat_cmp g.symbol a) gs r
        → IfOk r (λ i. (g : Group) × IsAt gs i g × (g.symbol ≡ a)) × IfErr r (λ i. HasGapAt (λ g b. g.symbol < b) (λ b g. b < g.symbol) gs a i)
    go (Ok i) within found =
        let p = searched nat_cmp_total (λ (g : Group). g.symbol) gs a (Ok i) ordered within found in
        ((p.0, p.1, ranked _ _ Equal (sym p.2)), tt)
    go (Err i) within found =
        let gap = searched nat_cmp_total (λ (g : Group). g.symbol) gs a (Err i) ordered within found in (
          tt,
          record {
            within = gap.within;
            before = λ k d lt. ranked _ _ Less (sym (gap.before k d lt));
            after = λ k d le lt. ranked _ _ Less (sym (gap.after k d le lt));
          },
        )

-- a symbol with a gap has no tuple
pub no_group : (gs : List Group) (a i : ℕ) → HasGapAt (λ g b. g.symbol < b) (λ b g. b < g.symbol) gs a i → (t : List ℕ) → HasTuple gs a t → ⊥
no_group gs a i gap t h =
    let m = h.1 in
    let is : (get_or gs m.0 h.0).symbol ≡ a = ap (λ v. v.symbol) m.2 ∙ h.2 in
    ⊎_elim
    (λ (lt : m.0 < i). let below : (get_or gs m.0 h.0).symbol < a = gap.before m.0 h.0 lt in absurd (omega arith))
    (λ (ge : i ≤ m.0). let above : a < (get_or gs m.0 h.0).symbol = gap.after m.0 h.0 ge m.1 in absurd (omega arith))
    (cases_lt m.0 i)

-- ---- edits of one group

-- the group at a place gives way to one with the same symbol
pub rising_set : (gs : List Group) (i : ℕ) (g h : Group) → AllPairs Rises gs → IsAt gs i g → h.symbol ≡ g.symbol → AllPairs Rises (set gs i h)
rising_set [] i g h rising at e = absurd cc
rising_set (k ∷ ks) zero g h rising at e =
    let here : k ≡ g = cc in
    let same : k.symbol ≡ h.symbol = ap (λ v. v.symbol) here ∙ sym e in
    AllPairs-cons Rises h ks (λ j d lt. subst (λ s. s < (get_or ks j d).symbol) same (pairs_head Rises k ks rising j d lt)) (pairs_tail Rises k ks rising)
rising_set (k ∷ ks) (suc i) g h rising at e =
    AllPairs-cons Rises k (set ks i h)
    (All-set (Rises k) ks i h (subst (λ s. k.symbol < s) (sym e) (later_at k ks i g rising at)) (pairs_head Rises k ks rising))
    (rising_set ks i g h (pairs_tail Rises k ks rising) at e)

pub gain_set : (gs : List Group) (i : ℕ) (g h : Group) (a : ℕ) (x : List ℕ) → IsAt gs i g → g.symbol ≡ a → h.symbol ≡ g.symbol → Gains g.tuples h.tuples x → GainsTuple gs (set gs i h) a x
gain_set [] i g h a x at e same gains b t = absurd cc
gain_set (k ∷ ks) zero g h a x at e same gains b t =
    let here : k ≡ g = cc in (
      λ m. ⊎_elim
          (λ (p : (h.symbol ≡ b) × Contains h.tuples t). ⊎_elim
          (λ (new : t ≡ x). inl (sym p.0 ∙ same ∙ e, new))
          (λ (old : Contains g.tuples t). inr (has_here k ks b t (ap (λ v. v.symbol) here ∙ sym same ∙ p.0) (subst (λ v. Contains v.tuples t) (sym here) old)))
          ((gains t).0 p.1))
          (λ n. inr (has_there k ks b t n))
          (has_cases h ks b t m),
      λ m. ⊎_elim
          (λ (p : (b ≡ a) × (t ≡ x)). has_here h ks b t (same ∙ e ∙ sym p.0) ((gains t).1 (inl p.1)))
          (λ (n : HasTuple (k ∷ ks) b t). ⊎_elim
          (λ (p : (k.symbol ≡ b) × Contains k.tuples t). has_here h ks b t (same ∙ sym (ap (λ v. v.symbol) here) ∙ p.0) ((gains t).1 (inr (subst (λ v. Contains v.tuples t) here p.1))))
          (λ o. has_there h ks b t o)
          (has_cases k ks b t n))
          m,
    )
gain_set (k ∷ ks) (suc i) g h a x at e same gains b t =
    let rest = gain_set ks i g h a x at e same gains b t in (
      λ m. ⊎_elim
          (λ (p : (k.symbol ≡ b) × Contains k.tuples t). inr (has_here k ks b t p.0 p.1))
          (λ n. ⊎_elim (λ new. inl new) (λ old. inr (has_there k ks b t old)) (rest.0 n))
          (has_cases k (set ks i h) b t m),
      λ m. ⊎_elim
          (λ new. has_there k (set ks i h) b t (rest.1 (inl new)))
          (λ (n : HasTuple (k ∷ ks) b t). ⊎_elim
          (λ (p : (k.symbol ≡ b) × Contains k.tuples t). has_here k (set ks i h) b t p.0 p.1)
          (λ o. has_there k (set ks i h) b t (rest.1 (inr o)))
          (has_cases k ks b t n))
          m,
    )

pub gain_insert : (gs : List Group) (i a : ℕ) (x : List ℕ) → i ≤ length gs → GainsTuple gs (insert gs i (record { symbol = a; tuples = x ∷ [] })) a x
gain_insert gs i a x le b t =
    let g : Group = record { symbol = a; tuples = x ∷ [] } in (
      λ m. ⊎_elim
          (λ (e : g ≡ m.0). inl (sym m.2 ∙ sym (ap (λ v. v.symbol) e), sym (only (subst (λ v. Contains v.tuples t) (sym e) m.3))))
          (λ k. inr (m.0, k, m.2, m.3))
          ((contains_insert gs i g le m.0).0 m.1),
      λ m. ⊎_elim
          (λ (p : (b ≡ a) × (t ≡ x)). (g, (contains_insert gs i g le g).1 (inl refl), sym p.0, subst (Contains (x ∷ [])) (sym p.1) (contains_head x [])))
          (λ (n : HasTuple gs b t). (n.0, (contains_insert gs i g le n.0).1 (inr n.1), n.2, n.3))
          m,
    )
  where
    only : Contains (x ∷ []) t → x ≡ t
    only m = ⊎_elim (λ e. e) (λ k. absurd (contains_none t k)) (contains_cases x [] t m)

pub lose_set : (gs : List Group) (i : ℕ) (g h : Group) (a : ℕ) (x : List ℕ) → AllPairs Rises gs → IsAt gs i g → g.symbol ≡ a → h.symbol ≡ g.symbol → Loses g.tuples h.tuples x → LosesTuple gs (set gs i h) a x
lose_set [] i g h a x rising at e same loses b t = absurd cc
lose_set (k ∷ ks) zero g h a x rising at e same loses b t =
    let here : k ≡ g = cc in
    let symbol : k.symbol ≡ a = ap (λ v. v.symbol) here ∙ e in (
      λ m. ⊎_elim
          (λ (p : (h.symbol ≡ b) × Contains h.tuples t). let q = (loses t).0 p.1 in
          (has_here k ks b t (symbol ∙ sym e ∙ sym same ∙ p.0) (subst (λ v. Contains v.tuples t) (sym here) q.0), λ (w : (b ≡ a) × (t ≡ x)). q.1 w.1))
          (λ (n : HasTuple ks b t). (has_there k ks b t n, λ (w : (b ≡ a) × (t ≡ x)). let lt : k.symbol < b = later k ks b t rising n in let f : b ≡ a = w.0 in omega arith))
          (has_cases h ks b t m),
      λ m. ⊎_elim
          (λ (p : (k.symbol ≡ b) × Contains k.tuples t). has_here h ks b t (same ∙ e ∙ sym symbol ∙ p.0)
          ((loses t).1 (subst (λ v. Contains v.tuples t) here p.1, λ (f : t ≡ x). m.1 (sym p.0 ∙ symbol, f))))
          (λ n. has_there h ks b t n)
          (has_cases k ks b t m.0),
    )
lose_set (k ∷ ks) (suc i) g h a x rising at e same loses b t =
    let rest = lose_set ks i g h a x (pairs_tail Rises k ks rising) at e same loses b t in
    let lt : k.symbol < g.symbol = later_at k ks i g rising at in (
      λ m. ⊎_elim
          (λ (p : (k.symbol ≡ b) × Contains k.tuples t). (has_here k ks b t p.0 p.1, λ (w : (b ≡ a) × (t ≡ x)). let u : k.symbol ≡ b = p.0 in let f : b ≡ a = w.0 in omega arith))
          (λ n. let q = rest.0 n in (has_there k ks b t q.0, q.1))
          (has_cases k (set ks i h) b t m),
      λ m. ⊎_elim
          (λ (p : (k.symbol ≡ b) × Contains k.tuples t). has_here k (set ks i h) b t p.0 p.1)
          (λ n. has_there k (set ks i h) b t (rest.1 (n, m.1)))
          (has_cases k ks b t m.0),
    )

-- a group with one tuple goes
pub lose_remove : (gs : List Group) (i : ℕ) (g : Group) (a : ℕ) (x : List ℕ) → AllPairs Rises gs → IsAt gs i g → g.symbol ≡ a → g.tuples ≡ x ∷ [] → LosesTuple gs (remove gs i) a x
lose_remove [] i g a x rising at e only b t = absurd cc
lose_remove (k ∷ ks) zero g a x rising at e only b t =
    let here : k ≡ g = cc in
    let symbol : k.symbol ≡ a = ap (λ v. v.symbol) here ∙ e in (
      λ n. (has_there k ks b t n, λ (w : (b ≡ a) × (t ≡ x)). let lt : k.symbol < b = later k ks b t rising n in let f : b ≡ a = w.0 in omega arith),
      λ m. ⊎_elim
          (λ (p : (k.symbol ≡ b) × Contains k.tuples t).
          let one : Contains (x ∷ []) t = subst (λ l. Contains l t) (ap (λ v. v.tuples) here ∙ only) p.1 in
          absurd (m.1 (sym p.0 ∙ symbol, ⊎_elim (λ (f : x ≡ t). sym f) (λ (n : Contains [] t). absurd (contains_none t n)) (contains_cases x [] t one))))
          (λ n. n)
          (has_cases k ks b t m.0),
    )
lose_remove (k ∷ ks) (suc i) g a x rising at e only b t =
    let rest = lose_remove ks i g a x (pairs_tail Rises k ks rising) at e only b t in
    let lt : k.symbol < g.symbol = later_at k ks i g rising at in (
      λ m. ⊎_elim
          (λ (p : (k.symbol ≡ b) × Contains k.tuples t). (has_here k ks b t p.0 p.1, λ (w : (b ≡ a) × (t ≡ x)). let u : k.symbol ≡ b = p.0 in let f : b ≡ a = w.0 in omega arith))
          (λ n. let q = rest.0 n in (has_there k ks b t q.0, q.1))
          (has_cases k (remove ks i) b t m),
      λ m. ⊎_elim
          (λ (p : (k.symbol ≡ b) × Contains k.tuples t). has_here k (remove ks i) b t p.0 p.1)
          (λ n. has_there k (remove ks i) b t (rest.1 (n, m.1)))
          (has_cases k ks b t m.0),
    )

pub lose_none : (gs : List Group) (a : ℕ) (x : List ℕ) → (HasTuple gs a x → ⊥) → LosesTuple gs gs a x
lose_none gs a x absent b t = (λ m. (m, λ (w : (b ≡ a) × (t ≡ x)). absent (subst (λ c. HasTuple gs c x) w.0 (subst (HasTuple gs b) w.1 m))), λ m. m.0)

-- ---- the rules of a table

pub same_rule : (r s : Rule) → r.parent ≡ s.parent → r.symbol ≡ s.symbol → r.kids ≡ s.kids → r ≡ s
same_rule r s p a k =
    let by_symbol : ℕ → Rule = λ v. record { symbol = v; kids = r.kids; parent = r.parent } in
    let by_kids : List ℕ → Rule = λ v. record { symbol = s.symbol; kids = v; parent = r.parent } in
    let by_parent : ℕ → Rule = λ v. record { symbol = s.symbol; kids = s.kids; parent = v } in
    ap by_symbol a ∙ ap by_kids k ∙ ap by_parent p

-- the cluster of one parent is exchanged
pub cluster_set : (cs : List (List Group)) (p : ℕ) (new : List Group) (q : ℕ) → p < length cs → q ≡ p → cluster_at (set cs p new) q ≡ new
cluster_set cs p new q lt e = subst (λ i. get_or (set cs p new) i [] ≡ new) (sym e) (get_or-set_same cs p new [] lt)

pub gain_rule : (cs : List (List Group)) (new : List Group) (rule : Rule) → rule.parent < length cs → GainsTuple (cluster_at cs rule.parent) new rule.symbol rule.kids → GainsRule cs (set cs rule.parent new) rule
gain_rule cs new rule lt gains r =
    ⊎_elim
    (λ (e : r.parent ≡ rule.parent).
    let is = cluster_set cs rule.parent new r.parent lt e in
    let g = gains r.symbol r.kids in (
      λ m. ⊎_elim (λ (w : (r.symbol ≡ rule.symbol) × (r.kids ≡ rule.kids)). inl (same_rule r rule e w.0 w.1)) (λ n. inr (subst (λ p. HasTuple (cluster_at cs p) r.symbol r.kids) (sym e) n)) (g.0 (subst (λ c. HasTuple c r.symbol r.kids) is m)),
      λ m. subst (λ c. HasTuple c r.symbol r.kids) (sym is)
          (g.1 (⊎_elim (λ (w : r ≡ rule). inl (ap (λ v. v.symbol) w, ap (λ v. v.kids) w)) (λ n. inr (subst (λ p. HasTuple (cluster_at cs p) r.symbol r.kids) e n)) m)),
    ))
    (λ (away : r.parent ≡ rule.parent → ⊥).
    let is : cluster_at (set cs rule.parent new) r.parent ≡ cluster_at cs r.parent = get_or-set_other cs rule.parent r.parent new [] away in (
      λ m. inr (subst (λ c. HasTuple c r.symbol r.kids) is m),
      λ m. ⊎_elim (λ (w : r ≡ rule). absurd (away (ap (λ v. v.parent) w))) (λ n. subst (λ c. HasTuple c r.symbol r.kids) (sym is) n) m,
    ))
    (cases_eq r.parent rule.parent)

pub lose_rule : (cs : List (List Group)) (new : List Group) (rule : Rule) → rule.parent < length cs → LosesTuple (cluster_at cs rule.parent) new rule.symbol rule.kids → LosesRule cs (set cs rule.parent new) rule
lose_rule cs new rule lt loses r =
    ⊎_elim
    (λ (e : r.parent ≡ rule.parent).
    let is = cluster_set cs rule.parent new r.parent lt e in
    let g = loses r.symbol r.kids in (
      λ m. let q = g.0 (subst (λ c. HasTuple c r.symbol r.kids) is m) in (subst (λ p. HasTuple (cluster_at cs p) r.symbol r.kids) (sym e) q.0, λ (w : r ≡ rule). q.1 (ap (λ v. v.symbol) w, ap (λ v. v.kids) w)),
      λ m. subst (λ c. HasTuple c r.symbol r.kids) (sym is)
          (g.1 (subst (λ p. HasTuple (cluster_at cs p) r.symbol r.kids) e m.0, λ (w : (r.symbol ≡ rule.symbol) × (r.kids ≡ rule.kids)). m.1 (same_rule r rule e w.0 w.1))),
    ))
    (λ (away : r.parent ≡ rule.parent → ⊥).
    let is : cluster_at (set cs rule.parent new) r.parent ≡ cluster_at cs r.parent = get_or-set_other cs rule.parent r.parent new [] away in (
      λ m. (subst (λ c. HasTuple c r.symbol r.kids) is m, λ (w : r ≡ rule). away (ap (λ v. v.parent) w)),
      λ m. subst (λ c. HasTuple c r.symbol r.kids) (sym is) m.0,
    ))
    (cases_eq r.parent rule.parent)

-- the symbols of a parent's groups
pub symbols_rise : (gs : List Group) → AllPairs Rises gs → IsStrictlyIncreasing (map (λ g. g.symbol) gs)
symbols_rise [] h = λ k lt. absurd (omega arith)
symbols_rise (g ∷ gs) h = λ k lt.
    let long = length-map (g ∷ gs) (λ (v : Group). v.symbol) in
    subst (λ y. get_or (map (λ (v : Group). v.symbol) (g ∷ gs)) k 0 < y) (sym (get_or-map (λ (v : Group). v.symbol) (g ∷ gs) (k + 1) g 0 (omega arith)))
    (subst (λ x. x < (get_or (g ∷ gs) (k + 1) g).symbol) (sym (get_or-map (λ (v : Group). v.symbol) (g ∷ gs) k g 0 (omega arith))) (h k (k + 1) g (omega arith) (omega arith)))

pub symbols_members : (gs : List Group) → All (λ g. g.tuples ≢ []) gs → (a : ℕ) → Contains (map (λ g. g.symbol) gs) a ↔ ((kids : List ℕ) × HasTuple gs a kids)
symbols_members gs filled a = (there gs filled, λ h. back gs h.0 h.1)
  where
    some : (ts : List (List ℕ)) → ts ≢ [] → (t : List ℕ) × Contains ts t
    some [] n = absurd (n refl)
    some (t ∷ ts) n = (t, contains_head t ts)

    there : (gs : List Group) → All (λ g. g.tuples ≢ []) gs → Contains (map (λ g. g.symbol) gs) a → (kids : List ℕ) × HasTuple gs a kids
    there [] filled m = absurd (contains_none a m)
    there (g ∷ gs) filled m =
        ⊎_elim
        (λ (e : g.symbol ≡ a). let t = some g.tuples (filled 0 g (omega arith)) in (t.0, has_here g gs a t.0 e t.1))
        (λ n. let r = there gs (λ k d lt. filled (suc k) d (omega arith)) n in (r.0, has_there g gs a r.0 r.1))
        (contains_cases g.symbol (map (λ (v : Group). v.symbol) gs) a m)

    back : (gs : List Group) (t : List ℕ) → HasTuple gs a t → Contains (map (λ g. g.symbol) gs) a
    back [] t h = absurd (contains_none h.0 h.1)
    back (g ∷ gs) t h =
        ⊎_elim
        (λ (p : (g.symbol ≡ a) × Contains g.tuples t). subst (Contains (g.symbol ∷ map (λ (v : Group). v.symbol) gs)) p.0 (contains_head g.symbol (map (λ (v : Group). v.symbol) gs)))
        (λ n. contains_tail g.symbol (map (λ (v : Group). v.symbol) gs) a (back gs t n))
        (has_cases g gs a t h)

-- ---- in the words of the calls on a parent's groups

-- what stands at the place that a search found
pub found_is : (items gs : List Group) (i a : ℕ) (was : Group) → items ≡ gs → ((g : Group) × IsAt gs i g × (g.symbol ≡ a)) → was ≡ get_or items i was → IsAt gs i was × (was.symbol ≡ a)
found_is items gs i a was shown found is =
    let same : was ≡ found.0 = is ∙ ap (λ l. get_or l i was) shown ∙ at_get_or gs i found.0 was found.1 in
    (subst (IsAt gs i) (sym same) found.1, ap (λ v. v.symbol) same ∙ found.2)

pub cluster_at_set : (items gs : List Group) (i : ℕ) (was new : Group) → items ≡ gs → IsCluster gs → IsAt gs i was → new.symbol ≡ was.symbol → (was.tuples ≢ [] → new.tuples ≢ []) → IsCluster (set items i new)
cluster_at_set items gs i was new shown cluster at same filled =
    subst (λ l. IsCluster (set l i new)) (sym shown) (record {
      symbols = rising_set gs i was new cluster.symbols at same;
      filled = All-set (λ g. g.tuples ≢ []) gs i new (filled (All-contains (λ g. g.tuples ≢ []) gs was cluster.filled (contains_at gs i was at))) cluster.filled;
    })

pub cluster_insert : (items new gs : List Group) (i a : ℕ) (x : List ℕ) → items ≡ gs → IsCluster gs → HasGapAt (λ g b. g.symbol < b) (λ b g. b < g.symbol) gs a i
    → new ≡ insert items i (record { symbol = a; tuples = x ∷ [] }) → IsCluster new × GainsTuple gs new a x
cluster_insert items new gs i a x shown cluster gap made =
    let g : Group = record { symbol = a; tuples = x ∷ [] } in
    let is : new ≡ insert gs i g = made ∙ ap (λ l. insert l i g) shown in
    let filled : g.tuples ≢ [] = λ e. cc in
    let place : HasGapAt Rises Rises gs g i = record { within = gap.within; before = gap.before; after = gap.after } in (
      subst IsCluster (sym is) (record { symbols = pairs_insert Rises gs i g cluster.symbols place; filled = all_insert (λ h. h.tuples ≢ []) gs i g cluster.filled filled }),
      subst (λ l. GainsTuple gs l a x) (sym is) (gain_insert gs i a x gap.within),
    )

pub cluster_remove : (items new gs : List Group) (i a : ℕ) (was : Group) (x : List ℕ) → items ≡ gs → IsCluster gs → IsAt gs i was → was.symbol ≡ a → was.tuples ≡ x ∷ []
    → new ≡ remove items i → IsCluster new × LosesTuple gs new a x
cluster_remove items new gs i a was x shown cluster at e only made =
    let is : new ≡ remove gs i = made ∙ ap (λ l. remove l i) shown in (
      subst IsCluster (sym is) (record { symbols = pairs_remove Rises gs i cluster.symbols; filled = all_remove (λ h. h.tuples ≢ []) gs i cluster.filled }),
      subst (λ l. LosesTuple gs l a x) (sym is) (lose_remove gs i was a x cluster.symbols at e only),
    )

-- a group that gains a tuple, or stays, isn't empty
pub still_filled : {E : Type 0} (r : Result Bool E) (old new : Group) (x : List ℕ) → OnOk r (Gains old.tuples new.tuples x) → OnErr r (new ≡ old) → old.tuples ≢ [] → new.tuples ≢ []
still_filled (Ok b) old new x gains stays some = λ e. contains_none x (subst (λ l. Contains l x) e ((gains x).1 (inl refl)))
still_filled (Err f) old new x gains stays some = λ e. some (sym (ap (λ v. v.tuples) stays) ∙ e)

pub absent_iff : (b : Bool) (P Q : Type 0) → P ↔ Q → IsTrue b ↔ (P → ⊥) → IsTrue b ↔ (Q → ⊥)
absent_iff b P Q same h = (λ t q. h.0 t (same.1 q), λ n. h.1 (λ p. n (same.0 p)))

pub present_iff : (b : Bool) (P Q : Type 0) → P ↔ Q → IsTrue b ↔ P → IsTrue b ↔ Q
present_iff b P Q same h = (λ t. same.0 (h.0 t), λ q. h.1 (same.1 q))

-- ---- the clusters of a table, which stand behind shared pointers

module _ {X : Type 0} (f : X → List Group) (items : List X) (cs : List (List Group)) (shown : map f items ≡ cs) where
  -- the cluster of a parent in range
  pub before_is : (i : ℕ) (was : X) → i < length cs → was ≡ get_or items i was → f was ≡ cluster_at cs i
  before_is i was lt is =
      let long = length-map items f in
      let long2 : length (map f items) ≡ length cs = ap length shown in
      ap f is ∙ sym (get_or-map f items i was [] (omega arith)) ∙ ap (λ l. get_or l i []) shown

  pub after_is : (i : ℕ) (new : X) (value : List Group) → f new ≡ value → map f (set items i new) ≡ set cs i value
  after_is i new value held = map-set f items i new ∙ ap (λ l. set l i (f new)) shown ∙ ap (set cs i) held

  pub same_after : (i : ℕ) (was new : X) → was ≡ get_or items i was → f new ≡ f was → map f (set items i new) ≡ cs
  same_after i was new is held = map-set_same f items i new was (held ∙ ap f is) ∙ shown

  pub gain_shared : (shape rule : Rule) (was new : X) (before after : List Group) → shape ≡ rule → rule.parent < length cs → was ≡ get_or items shape.parent was → before ≡ f was → f new ≡ after
      → GainsTuple before after shape.symbol shape.kids → GainsRule cs (map f (set items shape.parent new)) rule
  gain_shared shape rule was new before after same lt is old held gains =
      let within : shape.parent < length cs = subst (λ r. r.parent < length cs) (sym same) lt in
      subst (λ l. GainsRule cs l rule) (sym (after_is shape.parent new after held))
      (subst (GainsRule cs (set cs shape.parent after)) same
      (gain_rule cs after shape within (subst (λ l. GainsTuple l after shape.symbol shape.kids) (old ∙ before_is shape.parent was within is) gains)))

  pub lose_shared : (shape rule : Rule) (was new : X) (before after : List Group) → shape ≡ rule → rule.parent < length cs → was ≡ get_or items shape.parent was → before ≡ f was → f new ≡ after
      → LosesTuple before after shape.symbol shape.kids → LosesRule cs (map f (set items shape.parent new)) rule
  lose_shared shape rule was new before after same lt is old held loses =
      let within : shape.parent < length cs = subst (λ r. r.parent < length cs) (sym same) lt in
      subst (λ l. LosesRule cs l rule) (sym (after_is shape.parent new after held))
      (subst (LosesRule cs (set cs shape.parent after)) same
      (lose_rule cs after shape within (subst (λ l. LosesTuple l after shape.symbol shape.kids) (old ∙ before_is shape.parent was within is) loses)))

  pub has_shared : (shape rule : Rule) (was : X) (before : List Group) → shape ≡ rule → rule.parent < length cs → was ≡ get_or items shape.parent was → before ≡ f was
      → HasTuple before shape.symbol shape.kids ↔ HasRule cs rule
  has_shared shape rule was before same lt is old =
      let within : shape.parent < length cs = subst (λ r. r.parent < length cs) (sym same) lt in
      subst (λ r. HasTuple before shape.symbol shape.kids ↔ HasRule cs r) same
      (subst (λ l. HasTuple before shape.symbol shape.kids ↔ HasTuple l shape.symbol shape.kids) (old ∙ before_is shape.parent was within is) (λ h. h, λ h. h))

has_or : (keep : Row) (p : ℕ) → Has keep p ⊎ (Has keep p → ⊥)
has_or [] p = inr (λ e. cc)
has_or (true ∷ bs) zero = inl refl
has_or (false ∷ bs) zero = inr (λ e. cc)
has_or (b ∷ bs) (suc p) = has_or bs p

-- below n, the clusters of kept parents stay, and the others are empty
pub record KeptBelow (keep : Row) (old new : List (List Group)) (n : ℕ) : Type 0 where
  pub long : length new ≡ n
  pub kept : (p : ℕ) → p < n → Has keep p → cluster_at new p ≡ cluster_at old p
  pub dropped : (p : ℕ) → p < n → (Has keep p → ⊥) → cluster_at new p ≡ []

pub kept_none : (keep : Row) (old : List (List Group)) → KeptBelow keep old [] 0
kept_none keep old = record { long = refl; kept = λ p lt h. absurd (omega arith); dropped = λ p lt h. absurd (omega arith) }

pub kept_more : {X : Type 0} (f : X → List Group) (items : List X) (done : List X) (new : X) (keep : Row) (n : ℕ) (was none : X) → n < length items → was ≡ get_or items n was → f none ≡ []
    → (Has keep n → f new ≡ f was) → ((Has keep n → ⊥) → f new ≡ f none) → KeptBelow keep (map f items) (map f done) n → KeptBelow keep (map f items) (map f (done ++ new ∷ [])) (n + 1)
kept_more f items done new keep n was none lt is empty here away h =
    let joined : map f (done ++ new ∷ []) ≡ map f done ++ f new ∷ [] = map-append f done (new ∷ []) in
    let long : length (map f done) ≡ n = h.long in
    let last : get_or (map f done ++ f new ∷ []) n [] ≡ f new = subst (λ k. get_or (map f done ++ f new ∷ []) k [] ≡ f new) long (get_or-append_seam (map f done) (f new) [] []) in
    subst (λ l. KeptBelow keep (map f items) l (n + 1)) (sym joined) (record {
      long = length_push (map f done) (f new) ∙ ap (λ k. k + 1) long;
      kept = λ p within has. ⊎_elim
          (λ (e : p ≡ n). subst (λ k. get_or (map f done ++ f new ∷ []) k [] ≡ get_or (map f items) k []) (sym e)
          (last ∙ here (subst (Has keep) e has) ∙ ap f is ∙ sym (get_or-map f items n was [] lt)))
          (λ (d : p ≡ n → ⊥). let low : p < length (map f done) = omega arith in get_or_append_left (map f done) (f new ∷ []) [] p low ∙ h.kept p (omega arith) has)
          (cases_eq p n);
      dropped = λ p within no_place. ⊎_elim
          (λ (e : p ≡ n). subst (λ k. get_or (map f done ++ f new ∷ []) k [] ≡ []) (sym e) (last ∙ away (λ k. no_place (subst (Has keep) (sym e) k)) ∙ empty))
          (λ (d : p ≡ n → ⊥). let low : p < length (map f done) = omega arith in get_or_append_left (map f done) (f new ∷ []) [] p low ∙ h.dropped p (omega arith) no_place)
          (cases_eq p n);
    })

has_range : (keep : Row) (p : ℕ) → Has keep p → p < length keep
has_range keep p h = at_range keep p true h

pub keeps_all : (keep : Row) (old new : List (List Group)) → length keep ≡ length old → KeptBelow keep old new (length old) → KeepsParents old new keep
keeps_all keep old new wide h r =
    let long : length new ≡ length old = h.long in
    ⊎_elim
    (λ (lt : r.parent < length old). ⊎_elim
    (λ (k : Has keep r.parent).
    let is = h.kept r.parent lt k in
    (λ m. (subst (λ c. HasTuple c r.symbol r.kids) is m, k), λ m. subst (λ c. HasTuple c r.symbol r.kids) (sym is) m.0))
    (λ (n : Has keep r.parent → ⊥).
    let is = h.dropped r.parent lt n in
    (λ m. absurd (no_tuple r.symbol r.kids (subst (λ c. HasTuple c r.symbol r.kids) is m)), λ m. absurd (n m.1)))
    (has_or keep r.parent))
    (λ (ge : length old ≤ r.parent).
    let is : cluster_at new r.parent ≡ [] = get_or_past new r.parent [] (omega arith) in (
      λ m. absurd (no_tuple r.symbol r.kids (subst (λ c. HasTuple c r.symbol r.kids) is m)),
      λ m. let lt : r.parent < length keep = has_range keep r.parent m.1 in absurd (omega arith),
    ))
    (cases_lt r.parent (length old))
  where
    no_tuple : (a : ℕ) (t : List ℕ) → HasTuple [] a t → ⊥
    no_tuple a t m = contains_none m.0 m.1

-- where each cluster is empty, there is no rule
pub all_empty : (cs : List (List Group)) → All (λ c. c ≡ []) cs → IsEmpty cs
all_empty cs h r m =
    ⊎_elim
    (λ (lt : r.parent < length cs). none (subst (λ c. HasTuple c r.symbol r.kids) (h r.parent [] lt) m))
    (λ (ge : length cs ≤ r.parent). none (subst (λ c. HasTuple c r.symbol r.kids) (get_or_past cs r.parent [] ge) m))
    (cases_lt r.parent (length cs))
  where
    none : HasTuple [] r.symbol r.kids → ⊥
    none n = contains_none n.0 n.1
