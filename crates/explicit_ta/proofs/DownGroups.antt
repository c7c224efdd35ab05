-- The groups of a left state and a set of right states, from the rules of both by joint parents.
use Rattle.std.proofs.Common.{◌≡◌, ◌≢◌, ◌↔◌, inl, inr, ℕ, ◌+◌, ◌<◌, ◌≤◌, List, length, map, refl, sym, subst, arith, ⊎_elim}
use Rattle.std.specs.Prelude.{All, AllPairs, Contains}
use Rattle.std.specs.List.{AllZip}
use Rattle.std.proofs.lemmas.List.Elements.{All-contains, Contains-append_cases}
use Rattle.tree_definitions.specs.Tree.{Symbol}
use Rattle.tree_definitions.specs.Automaton.{Automaton, Rule, HasRule, IsState, FitsRule, IsNumber}
use Rattle.tree_definitions.specs.Joint.{JointRule, right, joint_symbols}
use Rattle.tree_definitions.specs.Relation.{Row, IsAt}
use Rattle.tree_definitions.proofs.Listing.{number_at}
use Rattle.ta_model.specs.declared.joint.DownGroup.{DownGroup}
use Rattle.ta_model.specs.DownGroups.{AreDownGroups, IsDownGroup}
use Rattle.ta_model.specs.Pairing.{ArePaired}
use Rattle.shared_clusters.specs.Clusters.{Group, HasRule as Keeps, AreSymbolsOf}
use Rattle.explicit_ta.specs.Down.{AreBehind, AreDownGroupsAt, IsDownGroupAt}
use Rattle.explicit_ta.specs.Index.{AreRulesOf}
use Rattle.explicit_ta.specs.Pair.{joint_rules, moved}
use Rattle.explicit_ta.proofs.Bridges.{Ties, rising_apart, under_symbol}
use Rattle.explicit_ta.proofs.Lists.{image_out}
use Rattle.explicit_ta.proofs.Parts.{all_from}
use Rattle.explicit_ta.proofs.Unions.{a_ties, joint_ties, left_label, sums_tell}

-- the states of B at their joint places
all_behind : (A : Automaton) (kids : List ℕ) → All (λ q. length A.states ≤ q) (map (right A) kids)
all_behind A kids = all_from (λ q. length A.states ≤ q) (map (right A) kids) (λ q m.
    let o = image_out (right A) kids q m in
    let is : length A.states + o.0 ≡ q = o.2 in
    omega (arith, is))

module _ (A B : Automaton) (paired : ArePaired A B) (symbols : List Symbol) (places : List ℕ) (are : symbols ≡ joint_symbols A.symbols B.symbols)
    (distinct : AllPairs ◌≢◌ symbols) (placed : AllZip (IsAt symbols) places B.symbols) (clusters : List (List Group)) (n : ℕ) (kept : AreRulesOf clusters n (joint_rules A B places)) where
  left : Ties A.symbols (HasRule A) A.rules
  left = a_ties A B paired symbols places are distinct placed

  both : Ties symbols (JointRule A B) (joint_rules A B places)
  both = joint_ties A B paired symbols places are distinct placed

  -- a joint rule to a place of A is a rule of A
  of_left : (a : Symbol) (kids : List ℕ) (q : ℕ) → IsState A q → JointRule A B a kids q ↔ HasRule A a kids q
  of_left a kids q low = (
    λ h. ⊎_elim (λ r. r) (λ r. let e : q ≡ length A.states + r.1 = r.3 in absurd (omega (arith, low, e))) h,
    λ r. inl r,
  )

  low_parent : (r : Rule) → Contains A.rules r → r.parent < length A.states
  low_parent r m = (All-contains (FitsRule A) A.rules r paired.left.automaton.fitting m).parent

  -- a joint rule to a place of B is a rule of B
  of_right : (a : Symbol) (kids : List ℕ) (s : ℕ) → JointRule A B a (map (right A) kids) (right A s) ↔ HasRule B a kids s
  of_right a kids s = (
    λ h. ⊎_elim
        (λ r. let o = left.out a (map (right A) kids) (right A s) r in let low = low_parent (record { symbol = o.0; kids = map (right A) kids; parent = right A s }) o.2 in absurd (omega (arith, low)))
        (λ r.
        let tuple : kids ≡ r.0 = sums_tell (length A.states) kids r.0 r.2 in
        let sum : length A.states + s ≡ length A.states + r.1 = r.3 in
        let state : s ≡ r.1 = omega (arith, sum) in
        subst (λ p. HasRule B a kids p) (sym state) (subst (λ ks. HasRule B a ks r.1) (sym tuple) r.4))
        h,
    λ r. inr (kids, s, refl, refl, r),
  )

  -- the rules of the table under the place of a symbol
  keeps : (k : ℕ) (a : Symbol) (kids : List ℕ) (q : ℕ) → IsAt symbols k a → Keeps clusters (record { symbol = k; kids = kids; parent = q }) ↔ JointRule A B a kids q
  keeps k a kids q at =
      let rule : Rule = record { symbol = k; kids = kids; parent = q } in
      let under = under_symbol symbols (JointRule A B) (joint_rules A B places) both k a kids q at in
      (λ m. under.0 ((kept.same rule).0 m), λ h. (kept.same rule).1 (under.1 h))

  pub behind : AreBehind clusters (length A.states)
  behind rule stands late = ⊎_elim
      (λ m. let low = low_parent rule m in absurd (omega (arith, low, late)))
      (λ m. let o = image_out (moved A places) B.rules rule m in subst (λ (r : Rule). All (λ q. length A.states ≤ q) r.kids) o.2 (all_behind A o.0.kids))
      (Contains-append_cases A.rules (map (moved A places) B.rules) rule ((kept.same rule).0 stands))

  module _ (q : ℕ) (state : IsState A q) (set : Row) where
    group_is : (group : DownGroup) (a : Symbol) → IsAt symbols group.symbol a → IsDownGroupAt clusters (length A.states) q set group → IsDownGroup A B q set a group
    group_is group a at h = record {
      rules = record {
        distinct = rising_apart group.rules h.rule_tuples.rising;
        members = λ kids.
            let there = keeps group.symbol a kids q at in
            let of = of_left a kids q state in
            (λ m. of.0 (there.0 ((h.rule_tuples.members kids).0 m)), λ r. (h.rule_tuples.members kids).1 (there.1 (of.1 r)));
      };
      tuples = record {
        distinct = rising_apart group.tuples h.set_tuples.rising;
        members = λ kids. (
          λ m.
              let w = (h.set_tuples.members kids).0 m in
              (w.0, w.1, (of_right a kids w.0).0 ((keeps group.symbol a (map (right A) kids) (right A w.0) at).0 w.2)),
          λ d. (h.set_tuples.members kids).1 (d.0, d.1, (keeps group.symbol a (map (right A) kids) (right A d.0) at).1 ((of_right a kids d.0).1 d.2)),
        );
      };
    }

    -- the place of a symbol under which q has a rule is its number
    number : (k : ℕ) (a : Symbol) (kids : List ℕ) → IsAt symbols k a → HasRule A a kids q → IsNumber A.bits A.symbols k a
    number k a kids at r =
        let o = left.out a kids q r in
        let same : o.0 ≡ k = both.one_place o.0 k a (left_label A B paired symbols places are distinct placed o.0 a o.1) at in
        number_at A.bits A.symbols k a paired.left.narrow (subst (λ i. IsAt A.symbols i a) same o.1)

    pub down_groups_are : (found : List ℕ) (groups : List DownGroup) → AreSymbolsOf clusters q found → AreDownGroupsAt clusters (length A.states) q set found groups → AreDownGroups A B q set groups
    down_groups_are found groups of h = record {
      sound = λ g m.
          let here = h.each g m in
          let kids = here.some.0 in
          let rule : Rule = record { symbol = g.symbol; kids = kids; parent = q } in
          let label = both.labelled rule ((kept.same rule).0 here.some.1) in
          let r = (of_left label.0 kids q state).0 ((keeps g.symbol label.0 kids q label.1).0 here.some.1) in
          (label.0, kids, number g.symbol label.0 kids label.1 r, r, group_is g label.0 label.1 here);
      covering = λ a kids r.
          let o = both.out a kids q (inl r) in
          let symbol = (of.members o.0).1 (kids, (kept.same (record { symbol = o.0; kids = kids; parent = q })).1 o.2) in
          let g = h.all_symbols o.0 symbol in
          (g.0, g.1, group_is g.0 a (subst (λ k. IsAt symbols k a) (sym g.2) o.1) (h.each g.0 g.1));
    }
