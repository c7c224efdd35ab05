use Rattle.std.proofs.Common.{◌≡◌, ◌<◌, ℕ, List, true, false, length, sym, ap, ◌∙◌, subst}
use Rattle.std.specs.Prelude.{All, IsTrue, not}
use Rattle.std.proofs.lemmas.Result.{IfOk-weaker}
use Rattle.tree_definitions.specs.Automaton.{Rule}
use Rattle.tree_definitions.specs.Cover.{Pair}
use Rattle.tree_definitions.specs.DownCert.{SentTo}
use Rattle.tree_definitions.specs.Relation.{Has, Holds}
use Rattle.tree_definitions.proofs.Listing.{rank_of}
use Rattle.down_conditions.specs.Choosing.{Assigns, Covers, Hits, Misses, tuple_at}
use Rattle.down_conditions.specs.Covering.{AreShifted, Shifted}
use Rattle.down_conditions.specs.Refuting.{IsRuleCovered, Refutes}
use Rattle.down_conditions.proofs.Chosen.{covered_by, refuted_by, tuple_down}
use Rattle.down_conditions.proofs.Shifting.{held_covered}
use Rattle.down_conditions.proofs.Stepping.{held_grows}
use Rattle.down_conditions.proofs.choices.rule_is_refuted.Goals as goal

pub returns-then-some_held-clause-covered : goal.returns-then-some_held-clause-covered
returns-then-some_held-clause-covered c t pairs shifted choice is =
    let h = c.some_held.ensures.0 c.if-some_held.true in (
      h.0,
      h.1,
      h.2,
      held_covered c.args.a.now (Holds c.args.both.now) pairs c.args.wides.now shifted (SentTo c.args.b.now c.args.symbol.now c.args.set.now choice h.0) (Has c.args.empty.now)
          (λ s m. absurd (c.requires.empty s m)) h.1 h.3,
    )

pub can_miss-requires-clause-list : goal.can_miss-requires-clause-list
can_miss-requires-clause-list c =
    let B = c.args.b.now in
    let listed : All (λ r. r < length B.rules) c.deref.result.now = subst (All (λ r. r < length B.rules)) (sym c.deref.ensures.value) c.in_ok-list.ensures.within in
    subst (λ (xs : List Rule). All (λ r. r < length xs) c.deref.result.now) (sym c.rules.ensures.value) listed

pub can_miss-requires-clause-tuples : goal.can_miss-requires-clause-tuples
can_miss-requires-clause-tuples c k l =
    let B = c.args.b.now in
    let a = c.args.symbol.now in
    let set = c.args.set.now in
    let items = c.in_ok-list.list.items in
    let list = c.deref.result.now in
    let e = c.deref.ensures.value in
    let d = tuple_down B a set items c.in_ok-list.ensures.within c.in_ok-list.ensures.downs k (subst (λ (xs : List ℕ). k < length xs) e l) in
    let rank = rank_of B c.rules.ensures.listed.automaton a (tuple_at B.rules items k) d.0 d.2 ∙ sym c.requires.rank in
    subst (λ (xs : List Rule). length (tuple_at xs list k) ≡ length c.args.kids.now) (sym c.rules.ensures.value)
    (subst (λ (xs : List ℕ). length (tuple_at B.rules xs k) ≡ length c.args.kids.now) (sym e) rank)

pub can_miss-requires-clause-none : goal.can_miss-requires-clause-none
can_miss-requires-clause-none c i h =
    let R = Holds c.args.both.now in
    let held = held_grows R c.args.wides.now h.0 (Shifted (length c.states-m.result.now) (λ s. ⊥)) (Has c.args.empty.now) (λ s m. absurd m.2) h.2 in
    let b : true ≡ false = sym (c.some_held.ensures.1 (i, h.0, h.1, held)) ∙ c.if-some_held.false in
    cc

pub returns-clause-refuted : goal.returns-clause-refuted
returns-clause-refuted c =
    let A = c.args.a.now in
    let B = c.args.b.now in
    let R = Holds c.args.both.now in
    let a = c.args.symbol.now in
    let set = c.args.set.now in
    let kids = c.args.kids.now in
    let wides = c.args.wides.now in
    let items = c.in_ok-list.list.items in
    let list = c.deref.result.now in
    let rules = c.rules.result.now in
    let m = length c.states-m.result.now in
    let long = ap (λ (xs : List (List ℕ)). length xs) c.states-m.ensures.value in
    let Found : ℕ → List Rule → List ℕ → Type 0 = λ k rs xs. (to : ℕ → ℕ) × Assigns (length xs) (length kids) to × Misses (Covers R wides k kids) (tuple_at rs xs) (length xs) to in
    IfOk-weaker c.can_miss.result (λ yes. IsTrue yes → Found m rules list)
    (λ yes. IsTrue yes → (pairs : List Pair) → AreShifted (length A.states) pairs wides → (choice : List ℕ → ℕ) × Refutes A B R pairs set a kids choice)
    (λ yes found t pairs shifted.
    let h = subst (λ k. Found k B.rules items) long (subst (λ (rs : List Rule). Found m rs items) c.rules.ensures.value (subst (λ (xs : List ℕ). Found m rules xs) c.deref.ensures.value (found t))) in
    refuted_by B a set items c.in_ok-list.ensures.within c.in_ok-list.ensures.downs A R pairs wides shifted kids h.0 h.1 h.2)
    c.can_miss.ensures.misses

pub returns-clause-covered : goal.returns-clause-covered
returns-clause-covered c =
    let A = c.args.a.now in
    let B = c.args.b.now in
    let R = Holds c.args.both.now in
    let a = c.args.symbol.now in
    let set = c.args.set.now in
    let kids = c.args.kids.now in
    let wides = c.args.wides.now in
    let items = c.in_ok-list.list.items in
    let list = c.deref.result.now in
    let rules = c.rules.result.now in
    let m = length c.states-m.result.now in
    let long = ap (λ (xs : List (List ℕ)). length xs) c.states-m.ensures.value in
    let Hit : ℕ → List Rule → List ℕ → Type 0 = λ k rs xs. (to : ℕ → ℕ) → Assigns (length xs) (length kids) to → Hits (Covers R wides k kids) (tuple_at rs xs) (length xs) to in
    IfOk-weaker c.can_miss.result (λ yes. IsTrue (not yes) → Hit m rules list)
    (λ yes. IsTrue (not yes) → (pairs : List Pair) → AreShifted (length A.states) pairs wides → IsRuleCovered A B R pairs set a kids)
    (λ yes hits t pairs shifted.
    let h = subst (λ k. Hit k B.rules items) long (subst (λ (rs : List Rule). Hit m rs items) c.rules.ensures.value (subst (λ (xs : List ℕ). Hit m rules xs) c.deref.ensures.value (hits t))) in
    covered_by B a set items c.in_ok-list.ensures.within c.in_ok-list.ensures.downs A R pairs wides shifted kids h)
    c.can_miss.ensures.hits
