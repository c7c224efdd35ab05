-- What the two limits say of two automata.
use Rattle.std.proofs.Common.{◌≡◌, ◌≢◌, ◌⊎◌, inl, inr, ℕ, ◌<◌, ◌≤◌, List, map, length, get_or, refl, sym, ap, ◌∙◌, subst, arith}
use Rattle.std.specs.Prelude.{Contains, AllPairs}
use Rattle.std.specs.List.{AllZip}
use Rattle.std.proofs.lemmas.List.{length-map}
use Rattle.tree_definitions.specs.Tree.{Symbol}
use Rattle.tree_definitions.specs.Automaton.{Automaton, Rule, IsNarrow, IsRule, HasRule}
use Rattle.tree_definitions.specs.Joint.{joint_symbols}
use Rattle.tree_definitions.specs.Product.{Both, AreReachedTogether}
use Rattle.tree_definitions.specs.Relation.{IsAt}
use Rattle.tree_definitions.proofs.Listing.{label_at, at_label}
use Rattle.tree_definitions.proofs.Members.{at_unique, place_of, contains_at}
use Rattle.tree_definitions.proofs.Standing.{label_once}
use Rattle.ta_model.specs.Listing.{IsListed}
use Rattle.bool_ops.specs.Closing.{both, AreAlike, AreHeld, Fits, IsClosed, HasTooMany}
use Rattle.bool_ops.specs.Joined.{StandFor, pairs_of, renumbered}
use Rattle.bool_ops.specs.Results.{HasMoreStates, HasMoreRules, PairRule, IsProductRule}
use Rattle.bool_ops.proofs.Assembled.{lefts_of, rights_of, pairs_again}
use Rattle.bool_ops.proofs.Bridge.{together_exactly}
use Rattle.bool_ops.proofs.Counted.{no_more, images, images_apart}
use Rattle.bool_ops.proofs.Filed.{at_distinct}
use Rattle.bool_ops.proofs.Stands.{fits_at, from_map, at_map, zip_at, left_symbol, right_symbol, stand_for}
use Rattle.bool_ops.proofs.WellFormed.{zip_length}

-- one rule stands at one place
one_place : (A : Automaton) → IsListed A → (r s : ℕ) (a : Symbol) (kids : List ℕ) (p : ℕ) → IsRule A r a kids p → IsRule A s a kids p → r ≡ s
unfolding IsRule
one_place A listed r s a kids p (k, label, at) (l, label2, at2) =
    let same : k ≡ l = label_once A listed.automaton listed.narrow k l a label label2 in
    at_distinct A.rules r s (record { symbol = l; kids = kids; parent = p }) listed.automaton.rules (subst (λ z. IsAt A.rules r (record { symbol = z; kids = kids; parent = p })) same at) at2

-- one place has one rule
one_rule : (A : Automaton) → IsNarrow A → (r : ℕ) (a b : Symbol) (ks ls : List ℕ) (p q : ℕ) → IsRule A r a ks p → IsRule A r b ls q → (a ≡ b) × (ks ≡ ls) × (p ≡ q)
unfolding IsRule
one_rule A narrow r a b ks ls p q (k, label, at) (l, label2, at2) =
    let one : Rule = record { symbol = k; kids = ks; parent = p } in
    let other : Rule = record { symbol = l; kids = ls; parent = q } in
    let same : one ≡ other = at_unique A.rules r one other at at2 in (
      at_unique A.symbols l a b (subst (λ z. IsAt A.symbols z a) (ap (λ (o : Rule). o.symbol) same) (at_label A k a narrow label)) (at_label A l b narrow label2),
      ap (λ (o : Rule). o.kids) same,
      ap (λ (o : Rule). o.parent) same,
    )

-- the rules of A and B at the two places make up the rule
abbrev pub IsMadeOf : Automaton → Automaton → Both → PairRule → Type 0
IsMadeOf A B y rule =
    IsRule A y.left rule.symbol (map (λ x. x.left) rule.kids) rule.parent.left × IsRule B y.right rule.symbol (map (λ x. x.right) rule.kids) rule.parent.right

made_once : (A B : Automaton) → IsListed A → IsListed B → (x y : Both) (rule : PairRule) → IsMadeOf A B x rule → IsMadeOf A B y rule → x ≡ y
made_once A B ours theirs x y rule h k =
    ap (λ z. both z x.right) (one_place A ours x.left y.left rule.symbol (map (λ z. z.left) rule.kids) rule.parent.left h.0 k.0)
    ∙ ap (both y.left) (one_place B theirs x.right y.right rule.symbol (map (λ z. z.right) rule.kids) rule.parent.right h.1 k.1)

makes_one : (A B : Automaton) → IsNarrow A → IsNarrow B → (o u : PairRule) (y : Both) → IsMadeOf A B y o → IsMadeOf A B y u → o ≡ u
makes_one A B ours theirs o u y h k =
    let l = one_rule A ours y.left o.symbol u.symbol (map (λ x. x.left) o.kids) (map (λ x. x.left) u.kids) o.parent.left u.parent.left h.0 k.0 in
    let r = one_rule B theirs y.right o.symbol u.symbol (map (λ x. x.right) o.kids) (map (λ x. x.right) u.kids) o.parent.right u.parent.right h.1 k.1 in
    let kids : o.kids ≡ u.kids =
    sym (pairs_again o.kids) ∙ ap (λ ps. pairs_of ps (map (λ x. x.right) o.kids)) l.1 ∙ ap (pairs_of (map (λ x. x.left) u.kids)) r.1 ∙ pairs_again u.kids in
    let parent : o.parent ≡ u.parent = ap (λ z. both z o.parent.right) l.2 ∙ ap (both u.parent.left) r.2 in
    ap (λ z. record { symbol = z; kids = o.kids; parent = o.parent }) l.0
    ∙ ap (λ z. record { symbol = u.symbol; kids = z; parent = o.parent }) kids
    ∙ ap (λ z. record { symbol = u.symbol; kids = u.kids; parent = z }) parent

module _ (A B : Automaton) (S : List Symbol) (numbers : List ℕ) (ours : IsListed A) (theirs : IsListed B) (joint : S ≡ joint_symbols A.symbols B.symbols)
    (distinct : AllPairs ◌≢◌ S) (zip : AllZip (IsAt S) numbers B.symbols) where
  abbrev Theirs : List Rule
  Theirs = map (renumbered numbers) B.rules

  stands : StandFor S (HasRule A) (HasRule B) A.rules Theirs
  stands = stand_for A B S numbers ours theirs joint distinct zip

  pub more_states : (pairs : List Both) → HasTooMany A.rules Theirs pairs → HasMoreStates A B 1000000
  more_states pairs h = (pairs, h.distinct, λ x k. (together_exactly S (HasRule A) (HasRule B) A.rules Theirs stands x).0 (h.sound x k), h.many)

  module _ (pairs found : List Both) (c : IsClosed A.rules Theirs pairs found) where
    reached_in : (x : Both) → Contains pairs x → AreReachedTogether A B x
    reached_in x h = (together_exactly S (HasRule A) (HasRule B) A.rules Theirs stands x).0 ((c.exact x).0 h)

    reached_out : (x : Both) → AreReachedTogether A B x → Contains pairs x
    reached_out x h = (c.exact x).1 ((together_exactly S (HasRule A) (HasRule B) A.rules Theirs stands x).1 h)

    pub fewer_states : HasMoreStates A B 1000000 → ⊥
    fewer_states (xs, apart, reached, many) =
        let most = no_more {X = Both} {Y = Both} (λ x y. x ≡ y) (λ x z y e d. e ∙ sym d) xs pairs apart (λ x h. (x, reached_out x (reached x h), refl)) in
        let few = c.few in
        omega (arith, most, few, many)

    held_pair : (left right : Rule) → AreAlike left right → AreHeld pairs left.kids right.kids → (x : Both) → Contains (pairs_of left.kids right.kids) x → AreReachedTogether A B x
    held_pair left right alike held x h =
        let at = place_of (pairs_of left.kids right.kids) x h in
        let lat : IsAt left.kids at.0 x.left =
        subst (λ ks. IsAt ks at.0 x.left) (lefts_of left.kids right.kids alike.kids) (at_map (λ (y : Both). y.left) (pairs_of left.kids right.kids) at.0 x at.1) in
        let rat : IsAt right.kids at.0 x.right =
        subst (λ ks. IsAt ks at.0 x.right) (rights_of left.kids right.kids alike.kids) (at_map (λ (y : Both). y.right) (pairs_of left.kids right.kids) at.0 x at.1) in
        reached_in x (held at.0 x.left x.right lat rat)

    -- the rule that the rules at two places make up
    made : (y : Both) → Fits A.rules Theirs pairs y → (rule : PairRule) × IsMadeOf A B y rule × IsProductRule A B rule
    unfolding IsRule
    made y h =
        let a = (fits_at A ours.automaton y.left h.left h.left_at).symbol in
        let m = from_map (renumbered numbers) B.rules y.right h.right h.right_at in
        let b = (fits_at B theirs.automaton y.right m.0 m.1).symbol in
        let here : IsAt S h.left.symbol a.0 = left_symbol A B S numbers ours theirs joint distinct zip h.left.symbol a.0 a.1 in
        let there : IsAt S (get_or numbers m.0.symbol 0) b.0 = right_symbol A B S numbers ours theirs joint distinct zip m.0.symbol b.0 b.1 in
        let number : get_or numbers m.0.symbol 0 ≡ h.left.symbol = ap (λ (o : Rule). o.symbol) m.2 ∙ sym h.alike.symbol in
        let same : b.0 ≡ a.0 = at_unique S h.left.symbol b.0 a.0 (subst (λ k. IsAt S k b.0) number there) here in
        let ks = h.left.kids in
        let ls = h.right.kids in
        let kids : m.0.kids ≡ map (λ x. x.right) (pairs_of ks ls) = ap (λ (o : Rule). o.kids) m.2 ∙ sym (rights_of ks ls h.alike.kids) in
        let parent : m.0.parent ≡ h.right.parent = ap (λ (o : Rule). o.parent) m.2 in
        let rule : PairRule = record { symbol = a.0; kids = pairs_of ks ls; parent = both h.left.parent h.right.parent } in
        let mine : IsRule A y.left a.0 (map (λ x. x.left) (pairs_of ks ls)) h.left.parent =
        (h.left.symbol, label_at A h.left.symbol a.0 ours.narrow a.1, subst (λ zs. IsAt A.rules y.left (record { symbol = h.left.symbol; kids = zs; parent = h.left.parent })) (sym (lefts_of ks ls h.alike.kids)) h.left_at) in
        let other : IsRule B y.right a.0 (map (λ x. x.right) (pairs_of ks ls)) h.right.parent = (
          m.0.symbol,
          label_at B m.0.symbol a.0 theirs.narrow (subst (IsAt B.symbols m.0.symbol) same b.1),
          subst (λ z. IsAt B.rules y.right (record { symbol = m.0.symbol; kids = map (λ x. x.right) (pairs_of ks ls); parent = z })) parent
              (subst (λ zs. IsAt B.rules y.right (record { symbol = m.0.symbol; kids = zs; parent = m.0.parent })) kids m.1),
        ) in
        (rule, (mine, other), record { left = (y.left, mine); right = (y.right, other); together = held_pair h.left h.right h.alike h.held })

    pub more_rules : AllPairs ◌≢◌ found → 2000000 < length found → HasMoreRules A B 2000000
    more_rules apart many =
        let M : Both → PairRule → Type 0 = λ y rule. IsMadeOf A B y rule × IsProductRule A B rule in
        let all = images M found (λ y h. let m = made y (c.fits y h) in (m.0, (m.1, m.2))) in
        let long = zip_length M found all.0 all.1 in (
          all.0,
          images_apart M (λ x y rule h k. made_once A B ours theirs x y rule h.0 k.0) found all.0 all.1 apart,
          λ rule h.
              let at = place_of all.0 rule h in
              (zip_at M found all.0 at.0 rule all.1 at.1).2.1,
          omega (arith, long, many),
        )

    -- the places of the rules that make up a rule of the product are found
    module _ (few : length found ≤ 2000000) where
      found_in : (y : Both) → Contains found y ⊎ (2000000 < length found) → Contains found y
      found_in y (inl h) = h
      found_in y (inr l) = absurd (omega arith)

      places : (rule : PairRule) → IsProductRule A B rule → (y : Both) × Contains found y × IsMadeOf A B y rule
      unfolding IsRule
      places rule h =
          let r = h.left.0 in
          let s = h.right.0 in
          let left : Rule = record { symbol = h.left.1.0; kids = map (λ x. x.left) rule.kids; parent = rule.parent.left } in
          let line : Rule = record { symbol = h.right.1.0; kids = map (λ x. x.right) rule.kids; parent = rule.parent.right } in
          let sat : IsAt Theirs s (renumbered numbers line) = at_map (renumbered numbers) B.rules s line h.right.1.2 in
          let here : IsAt S left.symbol rule.symbol = left_symbol A B S numbers ours theirs joint distinct zip left.symbol rule.symbol (at_label A left.symbol rule.symbol ours.narrow h.left.1.1) in
          let there : IsAt S (get_or numbers line.symbol 0) rule.symbol = right_symbol A B S numbers ours theirs joint distinct zip line.symbol rule.symbol (at_label B line.symbol rule.symbol theirs.narrow h.right.1.1) in
          let alike : AreAlike left (renumbered numbers line) = record {
            symbol = at_distinct S left.symbol (get_or numbers line.symbol 0) rule.symbol distinct here there;
            kids = length-map rule.kids (λ x. x.left) ∙ sym (length-map rule.kids (λ x. x.right));
          } in
          let held : AreHeld pairs left.kids line.kids = λ i p q pat qat.
          let m = from_map (λ (x : Both). x.left) rule.kids i p pat in
          let n = from_map (λ (x : Both). x.right) rule.kids i q qat in
          let same : m.0 ≡ n.0 = at_unique rule.kids i m.0 n.0 m.1 n.1 in
          let right : m.0.right ≡ q = ap (λ (x : Both). x.right) same ∙ n.2 in
          subst (Contains pairs) (ap (λ z. both z m.0.right) m.2 ∙ ap (both p) right) (reached_out m.0 (h.together m.0 (contains_at rule.kids i m.0 m.1))) in
          (both r s, found_in (both r s) (c.whole r s left (renumbered numbers line) h.left.1.2 sat alike held), (h.left.1, h.right.1))

      pub fewer_rules : HasMoreRules A B 2000000 → ⊥
      fewer_rules (rules, apart, product, many) =
          let most = no_more (λ rule y. IsMadeOf A B y rule) (makes_one A B ours.narrow theirs.narrow) rules found apart (λ rule h. places rule (product rule h)) in
          omega (arith, most, few, many)
