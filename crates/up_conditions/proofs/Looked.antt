-- Rules looked up by symbol and by first child.
use Rattle.std.proofs.Common.{◌≡◌, ◌↔◌, ◌⊎◌, inl, inr, ℕ, ◌<◌, ◌≤◌, ◌+◌, List, [], ◌∷◌, length, get_or, Some, sym, ap, ◌∙◌, subst, arith}
use Rattle.std.specs.Prelude.{Contains}
use Rattle.std.proofs.lemmas.Bool.{cases_lt}
use Rattle.std.proofs.lemmas.List.Elements.{All-contains}
use Rattle.std.proofs.lemmas.Option.{slice_get_within}
use Rattle.tree_definitions.specs.Tree.{Symbol}
use Rattle.tree_definitions.specs.Automaton.{Automaton, Rule, IsLabel, FitsRule}
use Rattle.tree_definitions.specs.Relation.{Row, Has, IsAt}
use Rattle.tree_definitions.proofs.Listing.{at_label, label_at}
use Rattle.tree_definitions.proofs.Members.{at_unique, contains_at}
use Rattle.ta_model.specs.Listing.{IsListed}
use Rattle.trim_ops.specs.Marking.{IsWithin}
use Rattle.up_conditions.specs.Choosing.{AreOpen, HasKidIn}
use Rattle.up_conditions.specs.Stepping.{AreListsOf, AreUnder, IsPlaceOf, IsUnder, IsUnderFrom, StepLists, first_kid}
use Rattle.up_conditions.proofs.Chosen.{no_sets_begin}

pub first_below : (n : ℕ) (rule : Rule) → IsWithin n rule → first_kid n rule < n + 1
first_below n rule w = by_kids rule.kids w.kids
  where
    by_kids : (kids : List ℕ) → ((i : ℕ) (d : ℕ) → i < length kids → get_or kids i d < n) → get_or kids 0 n < n + 1
    by_kids [] all = omega arith
    by_kids (k ∷ ks) all = let l : k < n = all 0 0 (omega arith) in omega (arith, l)

first_at : (n q : ℕ) (kids : List ℕ) → get_or kids 0 n ≡ q → q < n → IsAt kids 0 q
first_at n q [] e l = absurd (omega (arith, e, l))
first_at n q (k ∷ ks) e l = ap Some e

at_first : (n q : ℕ) (kids : List ℕ) → IsAt kids 0 q → get_or kids 0 n ≡ q
at_first n q [] at = absurd cc
at_first n q (k ∷ ks) at = let same : k ≡ q = cc in same

module _ (B : Automaton) (lists : StepLists) (are : AreListsOf B lists) where
  pub lists_under : (symbol : ℕ) (list : List ℕ) → IsAt lists.by_symbol symbol list → AreUnder B.rules symbol list
  lists_under symbol list at r = (
    λ m. are.by_symbol.within symbol list at r m,
    λ u. are.by_symbol.whole r u.0 list u.1 (subst (λ k. IsAt lists.by_symbol k list) (sym u.2) at),
  )

  module _ (symbol q from : ℕ) (set : Row) (list : List ℕ) (at : IsAt lists.by_first q list) (below : q < length B.states) (on : from ≤ q) (has : Has set q) (least : (s : ℕ) → from ≤ s → Has set s → q ≤ s) where
    pub from_next : (found more : List ℕ) → ((r : ℕ) → Contains found r ↔ ((p : ℕ) × (p < from) × Has set p × IsUnderFrom B.rules symbol p r))
        → ((r : ℕ) → Contains more r ↔ (Contains found r ⊎ (Contains list r × IsUnder B.rules symbol r)))
        → (r : ℕ) → Contains more r ↔ ((p : ℕ) × (p < q + 1) × Has set p × IsUnderFrom B.rules symbol p r)
    from_next found more before added r = (
      λ m. elim ((added r).0 m) [
        | inl old ↦ let h = (before r).0 old in (h.0, (let l = h.1 in omega (arith, l, on)), h.2, h.3)
        | inr new ↦
            let u = new.1 in
            let w = are.by_first.within q list at r new.0 in
            let same : w.0 ≡ u.0 = at_unique B.rules r w.0 u.0 w.1 u.1 in
            let first : first_kid (length B.states) u.0 ≡ q = subst (λ (o : Rule). first_kid (length B.states) o ≡ q) same w.2 in
            (q, omega arith, has, (u.0, u.1, u.2, first_at (length B.states) q u.0.kids first below))
      ],
      λ h. elim (cases_lt h.0 from) [
        | inl early ↦ (added r).1 (inl ((before r).1 (h.0, early, h.2, h.3)))
        | inr late ↦
            let up = least h.0 late h.2 in
            let l = h.1 in
            let same : h.0 ≡ q = omega (arith, up, l) in
            let u = h.3 in
            let first : first_kid (length B.states) u.0 ≡ q = at_first (length B.states) h.0 u.0.kids u.3 ∙ same in
            (added r).1 (inr (are.by_first.whole r u.0 list u.1 (subst (λ k. IsAt lists.by_first k list) (sym first) at), (u.0, u.1, u.2)))
      ],
    )

-- the rules under a symbol are those that are open at the start
pub under_open : (B : Automaton) → IsListed B → (a : Symbol) (k : ℕ) (list : List ℕ) → IsPlaceOf B.symbols a k → AreUnder B.rules k list → AreOpen B a [] list
under_open B listed a k list place under = record {
  within = λ r m.
      let u = (under r).0 m in
      let f = All-contains (FitsRule B) B.rules u.0 listed.automaton.fitting (contains_at B.rules r u.0 u.1) in
      let w = slice_get_within B.symbols u.0.symbol f.symbol.0 f.symbol.1 in
      let its = u.2 in
      (u.0, u.1, subst (λ i. IsLabel B i a) (sym its) (label_at B k a listed.narrow (place.here (omega (arith, w, its)))), no_sets_begin u.0.kids);
  whole = λ r rule at label begin. (under r).1 (rule, at, place.only rule.symbol (at_label B rule.symbol a listed.narrow label));
}

-- those with the first child in a set, looked up by it
pub from_under : (rules : List Rule) (symbol count : ℕ) (set : Row) (list found : List ℕ) → AreUnder rules symbol list → count ≡ 0 → ((r : ℕ) → Contains found r ↔ ((q : ℕ) × Has set q × IsUnderFrom rules symbol q r))
    → (r : ℕ) → Contains found r ↔ (Contains list r × HasKidIn rules count set r)
from_under rules symbol count set list found under start members r = (
  λ m.
      let h = (members r).0 m in
      let u = h.2 in
      ((under r).1 (u.0, u.1, u.2), (u.0, h.0, u.1, subst (λ i. IsAt u.0.kids i h.0) (sym start) u.3, h.1)),
  λ h.
      let u = (under r).0 h.0 in
      let k = h.1 in
      let same : k.0 ≡ u.0 = at_unique rules r k.0 u.0 k.2 u.1 in
      let kat : IsAt u.0.kids 0 k.1 = subst (λ i. IsAt u.0.kids i k.1) start (subst (λ (o : Rule). IsAt o.kids count k.1) same k.3) in
      (members r).1 (k.1, k.4, (u.0, u.1, u.2, kat)),
)
