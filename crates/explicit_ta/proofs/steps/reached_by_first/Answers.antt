use Rattle.std.proofs.Common.{◌≡◌, ◌<◌, ◌≤◌, ◌+◌, ◌-◌, ℕ, List, length, get_or, map, take, drop, refl, sym, ◌∙◌, subst, arith}
use Rattle.std.proofs.lemmas.List.{length-drop, take_all}
use Rattle.std.specs.List.{AllZip}
use Rattle.std.specs.List.Sorted.{IsNonDecreasingBy}
use Rattle.std.proofs.lemmas.List.Sorted.{IsNonDecreasingBy-drop}
use Rattle.bit_rows.specs.Rows.{IsEmptyFrom, IsLeastFrom}
use Rattle.tree_definitions.specs.Automaton.{Rule}
use Rattle.tree_definitions.specs.Relation.{Row, Has}
use Rattle.ta_model.specs.Macrostates.{Macrostates, row_at}
use Rattle.ta_model.proofs.Interning.{row_read}
use Rattle.explicit_ta.specs.Steps.{first_kid}
use Rattle.explicit_ta.proofs.Stepping.{none_below, none_later, reached_all, reached_more, reached_skip, some_passed, zip_place}
use Rattle.explicit_ta.proofs.steps.reached_by_first.Goals as goal

-- the first child of a rule whose children are in the sets is in the first set
heads : (store : Macrostates) (sets : List ℕ) (set : Row) → row_at store (get_or sets 0 0) ≡ set → 0 < length sets → (r : Rule) → AllZip Has (map (row_at store) sets) r.kids → Has set (first_kid r)
heads store sets set is some r z = subst (λ (row : Row). Has row (first_kid r)) is (zip_place store sets r.kids z 0 some)

pub returns-in_default-clause-members : goal.returns-in_default-clause-members
returns-in_default-clause-members c =
    let store = c.args.store.now in
    let sets = c.args.sets.now in
    let rules = c.args.rules.now in
    let set = c.row-first.result.now in
    let rule = c.index-rules-i.result in
    let inv = c.loop-i.invariant in
    let empty : IsEmptyFrom set (first_kid rule) = subst (IsEmptyFrom set) c.first_of-kid.ensures (c.in_default.ensures.none.0 refl) in
    reached_all rules (map (row_at store) sets) (length rules) c.loop-i.row (omega arith)
    (reached_skip rules (map (row_at store) sets) set (heads store sets set (row_read store (get_or sets 0 0) set c.row-first.ensures.value) c.requires.some) c.loop-i.i (length rules) c.loop-i.row inv.within
    (none_later rules c.requires.rising set c.loop-i.i rule c.loop-i-test.true c.index-rules-i.is empty (length rules)) inv.members)

pub loop-i-preserved-then-q-kid : goal.loop-i-preserved-then-q-kid
loop-i-preserved-then-q-kid c = record {
  long = c.add_parent.ensures.long ∙ c.loop-i.invariant.long;
  within = omega (arith, c.loop-i-test.true);
  members = reached_more c.args.rules.now (map (row_at c.args.store.now) c.args.sets.now) c.loop-i.i c.index-rules-i-then-q-kid.result c.loop-i.row c.add_parent.new.row c.loop-i-test.true c.index-rules-i-then-q-kid.is
      c.loop-i.invariant.members c.add_parent.ensures.members;
}

-- the rules from a place on
rest_is : (rules : List Rule) (i : ℕ) → take (length rules - i) (drop i rules) ≡ drop i rules
rest_is rules i = let long = length-drop i rules in take_all (length rules - i) (drop i rules) (omega (arith, long))

pub below-i-requires : goal.below-i-requires
below-i-requires c = subst (IsNonDecreasingBy first_kid) (sym (rest_is c.args.rules.now c.loop-i.i)) (IsNonDecreasingBy-drop first_kid c.loop-i.i c.args.rules.now c.requires.rising)

pub loop-i-smaller : goal.loop-i-smaller
loop-i-smaller c =
    let rules = c.args.rules.now in
    let set = c.row-first.result.now in
    let rule = c.index-rules-i.result in
    let q = c.in-Some.q in
    let n = c.below-i.result in
    let i = c.loop-i.i in
    let least : IsLeastFrom set (first_kid rule) q = subst (λ k. IsLeastFrom set k q) c.first_of-kid.ensures c.in-Some.ensures.least in
    let next : (d : Rule) → n < length (drop i rules) → q ≤ first_kid (get_or (drop i rules) n d) =
    subst (λ (rs : List Rule). (d : Rule) → n < length rs → q ≤ first_kid (get_or rs n d)) (rest_is rules i) c.below-i.ensures.next in
    let some : 0 < n = some_passed rules c.requires.rising set i rule c.loop-i-test.true c.index-rules-i.is q n least (λ e. c.if-q-kid.false (e ∙ sym c.first_of-kid.ensures)) next in
    omega (arith, some, c.loop-i-test.true)

pub loop-i-preserved : goal.loop-i-preserved
loop-i-preserved c =
    let store = c.args.store.now in
    let sets = c.args.sets.now in
    let rules = c.args.rules.now in
    let set = c.row-first.result.now in
    let rule = c.index-rules-i.result in
    let q = c.in-Some.q in
    let n = c.below-i.result in
    let i = c.loop-i.i in
    let inv = c.loop-i.invariant in
    let least : IsLeastFrom set (first_kid rule) q = subst (λ k. IsLeastFrom set k q) c.first_of-kid.ensures c.in-Some.ensures.least in
    let bound : n ≤ length (drop i rules) = subst (λ (rs : List Rule). n ≤ length rs) (rest_is rules i) c.below-i.ensures.bound in
    let long = length-drop i rules in
    let front : (k : ℕ) (d : Rule) → k < n → first_kid (get_or (drop i rules) k d) < q =
    subst (λ (rs : List Rule). (k : ℕ) (d : Rule) → k < n → first_kid (get_or rs k d) < q) (rest_is rules i) c.below-i.ensures.front in
    record {
      long = inv.long;
      within = omega (arith, bound, long, c.loop-i-test.true);
      members = reached_skip rules (map (row_at store) sets) set (heads store sets set (row_read store (get_or sets 0 0) set c.row-first.ensures.value) c.requires.some) i (i + n) c.loop-i.row (omega arith)
          (none_below rules c.requires.rising set i rule c.loop-i-test.true c.index-rules-i.is q n least front) inv.members;
    }

pub returns-clause-members : goal.returns-clause-members
returns-clause-members c =
    reached_all c.args.rules.now (map (row_at c.args.store.now) c.args.sets.now) c.loop-i.i c.loop-i.row c.loop-i-test.false c.loop-i.invariant.members
