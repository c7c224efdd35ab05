use Rattle.std.proofs.Common.{◌≡◌, ◌⊎◌, inl, inr, ◌<◌, ◌+◌, ℕ, List, length, get_or, refl, sym, ap, ◌∙◌, subst, arith, ⊎_elim}
use Rattle.std.proofs.lemmas.Bool.{cases_eq}
use Rattle.std.proofs.lemmas.List.Elements.{All-contains, Contains-get_or}
use Rattle.std.proofs.lemmas.Option.{slice_get_read, slice_get_within, slice_get-get_or}
use Rattle.tree_definitions.specs.Automaton.{Rule}
use Rattle.tree_definitions.specs.Relation.{IsAt}
use Rattle.tree_definitions.proofs.Members.{contains_at}
use Rattle.trim_ops.specs.Marking.{IsWithin, Indexing}
use Rattle.trim_ops.proofs.Indexing.{indexing_add}
use Rattle.trim_ops.proofs.index.rules_by_child.Goals as goal

kid_within : (n : ℕ) (rules : List Rule) (r : ℕ) (rule : Rule) (list : List ℕ) (k : ℕ) → ((i : ℕ) (d : Rule) → i < length rules → IsWithin n (get_or rules i d))
    → r < length rules → rule ≡ get_or rules r rule → list ≡ rule.kids → k < length list → get_or list k 0 < n
kid_within n rules r rule list k all l is e lk =
    let at : IsAt rules r rule = slice_get_read rules (length rules) r rule refl l is in
    let w = All-contains (IsWithin n) rules rule all (contains_at rules r rule at) in
    subst (λ xs. get_or xs k 0 < n) (sym e) (w.kids k 0 (subst (λ xs. k < length xs) e lk))

pub add-requires : goal.add-requires
add-requires c =
    let kids : c.as_slice-k-items.result.now ≡ c.index-rules-r.result.kids = c.as_slice-k-items.ensures ∙ ap (λ (o : Rule). o.kids) c.rule.view_is in
    let h = kid_within c.args.states c.args.rules.now c.loop-r.r c.index-rules-r.result c.as_slice-k-items.result.now c.loop-k.k-index c.requires.within
    c.loop-r-test.true c.index-rules-r.is kids c.loop-k-test.true in
    let e = c.loop-k.invariant.size in
    omega (arith, h, e)

pub loop-k-preserved : goal.loop-k-preserved
loop-k-preserved c =
    let rules = c.args.rules.now in
    let n = c.args.states in
    let r = c.loop-r.r in
    let k = c.loop-k.k-index in
    let list = c.as_slice-k-items.result.now in
    let rule = c.index-rules-r.result in
    let kids : list ≡ rule.kids = c.as_slice-k-items.ensures ∙ ap (λ (o : Rule). o.kids) c.rule.view_is in
    let h = kid_within n rules r rule list k c.requires.within c.loop-r-test.true c.index-rules-r.is kids c.loop-k-test.true in
    let rat : IsAt rules r rule = slice_get_read rules (length rules) r rule refl c.loop-r-test.true c.index-rules-r.is in
    let kat : IsAt rule.kids k (get_or list k 0) = subst (λ xs. IsAt xs k (get_or list k 0)) kids (slice_get-get_or list k 0 c.loop-k-test.true) in
    let m = indexing_add rules n (λ s i. (s < r) ⊎ ((s ≡ r) × (i < k))) (λ s i. (s < r) ⊎ ((s ≡ r) × (i < k + 1))) c.loop-k.index (get_or list k 0) r rule k rat kat h c.loop-k.invariant
    (λ s i d. elim d [
      | inl l ↦ inl (inl l)
      | inr (e, l) ↦ ⊎_elim (λ (f : i ≡ k). inr (e, f)) (λ (g : i ≡ k → ⊥). inl (inr (e, omega arith))) (cases_eq i k)
    ]) in
    let P : List (List ℕ) → Type 0 = λ u. Indexing rules n (λ s i. (s < r) ⊎ ((s ≡ r) × (i < k + 1))) u in
    subst P (sym c.in_ok-add.ensures) m

pub returns-clause-index : goal.returns-clause-index
returns-clause-index c =
    let rules = c.args.rules.now in
    let m = c.loop-r.invariant in
    record {
      within = λ q list at k d l. m.within q list at (get_or list k d) (Contains-get_or list k d l);
      whole = λ q list s rule i qat sat iat. m.whole q list s rule i qat sat iat (let w = slice_get_within rules s rule sat in omega (arith, w, c.loop-r-test.false));
    }
