-- The groups of two automata, from the left rules by children and the right rules under joint symbols.
use Rattle.std.proofs.Common.{◌≡◌, ◌≢◌, ◌↔◌, ℕ, ◌<◌, List, length, get_or, map, refl, sym, ap, subst, arith}
use Rattle.std.specs.Prelude.{All, AllPairs, Contains, slice_index}
use Rattle.std.specs.List.{AllZip}
use Rattle.std.proofs.lemmas.List.Elements.{All-contains, Contains-get_or}
use Rattle.std.proofs.lemmas.Option.{slice_get_within}
use Rattle.tree_definitions.specs.Tree.{Symbol}
use Rattle.tree_definitions.specs.Automaton.{Automaton, Rule, HasRule, IsAutomaton, FitsRule}
use Rattle.tree_definitions.specs.Cover.{Post}
use Rattle.tree_definitions.specs.Joint.{joint_symbols}
use Rattle.tree_definitions.specs.Relation.{Row, IsAt}
use Rattle.tree_definitions.proofs.Members.{at_unique}
use Rattle.tree_definitions.proofs.Listing.{number_at}
use Rattle.ta_model.specs.declared.joint.UpGroup.{UpGroup}
use Rattle.ta_model.specs.Macrostates.{Macrostates}
use Rattle.ta_model.specs.Pairing.{ArePaired}
use Rattle.ta_model.specs.UpGroups.{AreUpGroups, IsUpGroup}
use Rattle.shared_clusters.proofs.Rules.{same_rule}
use Rattle.explicit_ta.specs.Index.{AreLeads, HaveSameRules}
use Rattle.explicit_ta.specs.Steps.{AreGroupsAt, IsGroupAt, IsReachedUnder, relabelled}
use Rattle.explicit_ta.proofs.Bridges.{Ties, automaton_ties, one_place_of, under_symbol}
use Rattle.explicit_ta.proofs.Lists.{image_in, image_out}
use Rattle.explicit_ta.proofs.Parts.{at_append}
use Rattle.explicit_ta.proofs.Unions.{zip_long, zip_place}

-- what holds of the right rules and does not speak of symbols holds of the steps
pub steps_keep : (P : Rule → Type 0) (places : List ℕ) (rules steps : List Rule) → HaveSameRules steps (map (relabelled places) rules) → ((r : Rule) → Contains rules r → P (relabelled places r)) → All P steps
steps_keep P places rules steps same all k d lt =
    let r = get_or steps k d in
    let o = image_out (relabelled places) rules r ((same r).0 (Contains-get_or steps k d lt)) in
    subst P o.2 (all o.0 o.1)

-- the symbols of the right rules have joint places
pub symbols_within : (B : Automaton) → IsAutomaton B → (symbols : List Symbol) (places : List ℕ) → AllZip (IsAt symbols) places B.symbols → All (λ r. r.symbol < length places) B.rules
symbols_within B fits symbols places placed k d lt =
    let r = get_or B.rules k d in
    let label = (All-contains (FitsRule B) B.rules r fits.fitting (Contains-get_or B.rules k d lt)).symbol in
    let within = slice_get_within B.symbols r.symbol label.0 label.1 in
    let long = zip_long symbols B.symbols places placed in
    omega (arith, within, long)

module _ (A B : Automaton) (paired : ArePaired A B) (symbols : List Symbol) (places : List ℕ) (are : symbols ≡ joint_symbols A.symbols B.symbols)
    (distinct : AllPairs ◌≢◌ symbols) (placed : AllZip (IsAt symbols) places B.symbols) where
  a_ties : Ties A.symbols (HasRule A) A.rules
  a_ties = automaton_ties A paired.left.automaton paired.left.narrow

  b_ties : Ties B.symbols (HasRule B) B.rules
  b_ties = automaton_ties B paired.right.automaton paired.right.narrow

  left_label : (k : ℕ) (a : Symbol) → IsAt A.symbols k a → IsAt symbols k a
  left_label k a at = subst (λ l. IsAt l k a) (sym are) (at_append A.symbols _ k a at)

  -- the right rules under joint symbols
  steps_ties : Ties symbols (HasRule B) (map (relabelled places) B.rules)
  steps_ties = record {
    out = λ a kids q h.
        let o = b_ties.out a kids q h in
        (slice_index places o.0, zip_place symbols B.symbols places o.0 a placed o.1, image_in (relabelled places) B.rules (record { symbol = o.0; kids = kids; parent = q }) o.2);
    within = λ k a kids q at m.
        let o = image_out (relabelled places) B.rules (record { symbol = k; kids = kids; parent = q }) m in
        let label = b_ties.labelled o.0 o.1 in
        let there : IsAt symbols k label.0 = subst (λ i. IsAt symbols i label.0) (ap (λ (v : Rule). v.symbol) o.2) (zip_place symbols B.symbols places o.0.symbol label.0 placed label.1) in
        let same : label.0 ≡ a = at_unique symbols k label.0 a there at in
        let rule : HasRule B a o.0.kids o.0.parent = subst (λ b. HasRule B b o.0.kids o.0.parent) same (b_ties.within o.0.symbol label.0 o.0.kids o.0.parent label.1 o.1) in
        subst (λ (r : Rule). HasRule B a r.kids r.parent) o.2 rule;
    labelled = λ r m.
        let o = image_out (relabelled places) B.rules r m in
        let label = b_ties.labelled o.0 o.1 in
        (label.0, subst (λ i. IsAt symbols i label.0) (ap (λ (v : Rule). v.symbol) o.2) (zip_place symbols B.symbols places o.0.symbol label.0 placed label.1));
    one_place = λ k l a at_k at_l. one_place_of symbols distinct k l a at_k at_l;
  }

  module _ (steps : List Rule) (same : HaveSameRules steps (map (relabelled places) B.rules)) (kids : List ℕ) (pairs : List (ℕ × ℕ)) (leads : AreLeads A.rules kids pairs) (sets : List Row) (store : Macrostates) where
    -- what the steps under the joint place of a symbol reach is the step of B
    post_is : (k : ℕ) (a : Symbol) → IsAt symbols k a → (s : ℕ) → IsReachedUnder steps k sets s ↔ Post B a sets s
    post_is k a at s = (
      λ w.
          let is : w.0 ≡ record { symbol = k; kids = w.0.kids; parent = s } = same_rule w.0 (record { symbol = k; kids = w.0.kids; parent = s }) w.3 w.2 refl in
          (w.0.kids, steps_ties.within k a w.0.kids s at (subst (Contains (map (relabelled places) B.rules)) is ((same w.0).0 w.1)), w.4),
      λ p.
          let rule : Rule = record { symbol = k; kids = p.0; parent = s } in
          (rule, (same rule).1 ((under_symbol symbols (HasRule B) (map (relabelled places) B.rules) steps_ties k a p.0 s at).1 p.1), refl, refl, p.2),
    )

    group_is : (group : UpGroup) (a : Symbol) → IsAt A.symbols group.symbol a → IsGroupAt pairs steps sets store group → IsUpGroup A B kids sets store a group
    group_is group a at h = record {
      distinct = h.distinct;
      parents = λ p.
          let rule = under_symbol A.symbols (HasRule A) A.rules a_ties group.symbol a kids p at in (
            λ m. rule.0 ((leads group.symbol p).0 ((h.parents p).0 m)),
            λ r. (h.parents p).1 ((leads group.symbol p).1 (rule.1 r)),
          );
      stored = h.stored;
      set = λ s. let step = post_is group.symbol a (left_label group.symbol a at) s in (λ m. step.0 ((h.set s).0 m), λ p. (h.set s).1 (step.1 p));
    }

    pub up_groups_are : (groups : List UpGroup) → AreGroupsAt pairs steps sets store groups → AreUpGroups A B kids sets store groups
    up_groups_are groups h = record {
      sound = λ g m.
          let here = h.each g m in
          let p = here.some.0 in
          let rule : Rule = record { symbol = g.symbol; kids = kids; parent = p } in
          let stands = (leads g.symbol p).0 here.some.1 in
          let label = a_ties.labelled rule stands in
          (label.0, p, number_at A.bits A.symbols g.symbol label.0 paired.left.narrow label.1, a_ties.within g.symbol label.0 kids p label.1 stands, group_is g label.0 label.1 here);
      covering = λ a p rule.
          let o = a_ties.out a kids p rule in
          let g = h.all_symbols o.0 p ((leads o.0 p).1 o.2) in
          (g.0, g.1, group_is g.0 a (subst (λ k. IsAt A.symbols k a) (sym g.2) o.1) (h.each g.0 g.1));
    }
