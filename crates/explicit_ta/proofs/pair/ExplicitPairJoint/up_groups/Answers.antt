use Rattle.std.proofs.Common.{◌≡◌, ◌<◌, ℕ, length, map, sym, ap, ◌∙◌, subst}
use Rattle.std.specs.Prelude.{All, IfOk}
use Rattle.std.proofs.lemmas.Result.{IfOk-weaker}
use Rattle.std.proofs.lemmas.List.Elements.{All-contains}
use Rattle.tree_definitions.specs.Automaton.{FitsRule, Rule}
use Rattle.ta_model.specs.Macrostates.{row_at}
use Rattle.ta_model.specs.UpGroups.{AreUpGroups}
use Rattle.explicit_ta.specs.Index.{AreLeads}
use Rattle.explicit_ta.specs.Pair.{Two}
use Rattle.explicit_ta.specs.Steps.{AreGroupsAt}
use Rattle.explicit_ta.proofs.Indexing.{leads_moved}
use Rattle.explicit_ta.proofs.UpSteps.{steps_keep, up_groups_are}
use Rattle.explicit_ta.proofs.pair.ExplicitPairJoint.up_groups.Goals as goal

-- the store has a place for each right state
width : (states : ℕ) (t p : Two) → states ≡ length p.right.states → t ≡ p → length t.right.states ≡ states
width states t p e same = ap (λ (o : Two). length o.right.states) same ∙ sym e

pub groups_at-requires-clause-kids : goal.groups_at-requires-clause-kids
groups_at-requires-clause-kids c =
    let A = c.self.inside.left in
    let B = c.self.inside.right in
    let places = c.self.inside.places.items in
    let n : length B.states ≡ c.args.store.now.states = width c.args.store.now.states (record { left = A; right = B }) c.args.self.now c.requires.states c.self.view_is in
    subst (λ m. All (λ (r : Rule). All (λ q. q < m) r.kids) c.self.inside.steps) n
    (steps_keep (λ (r : Rule). All (λ q. q < length B.states) r.kids) places B.rules c.self.inside.steps c.self.invariant.up.steps_of
    (λ r m. (All-contains (FitsRule B) B.rules r c.self.invariant.paired.right.automaton.fitting m).kids))

pub groups_at-requires-clause-parents : goal.groups_at-requires-clause-parents
groups_at-requires-clause-parents c =
    let A = c.self.inside.left in
    let B = c.self.inside.right in
    let places = c.self.inside.places.items in
    let n : length B.states ≡ c.args.store.now.states = width c.args.store.now.states (record { left = A; right = B }) c.args.self.now c.requires.states c.self.view_is in
    subst (λ m. All (λ (r : Rule). r.parent < m) c.self.inside.steps) n
    (steps_keep (λ (r : Rule). r.parent < length B.states) places B.rules c.self.inside.steps c.self.invariant.up.steps_of
    (λ r m. (All-contains (FitsRule B) B.rules r c.self.invariant.paired.right.automaton.fitting m).parent))

pub returns-clause-groups : goal.returns-clause-groups
returns-clause-groups c =
    let A = c.self.inside.left in
    let B = c.self.inside.right in
    let symbols = c.self.inside.symbols in
    let places = c.self.inside.places.items in
    let steps = c.self.inside.steps in
    let kids = c.args.kids.now in
    let rows = map (row_at c.args.store.now) c.args.sets.now in
    let pairs = c.deref.result.now in
    let store = c.groups_at.new.store in
    let leads : AreLeads A.rules kids pairs =
    subst (AreLeads A.rules kids) (sym c.deref.ensures.value) (leads_moved c.self.inside.by_kids A.rules kids c.in_ok-pairs.pairs.items c.self.invariant.up.by_kids_of c.in_ok-pairs.ensures.members) in
    subst (λ (t : Two). IfOk c.groups_at.result (λ v. AreUpGroups t.left t.right kids rows store v.items)) c.self.view_is
    (IfOk-weaker c.groups_at.result (λ v. AreGroupsAt pairs steps rows store v.items) (λ v. AreUpGroups A B kids rows store v.items)
    (λ v h. up_groups_are A B c.self.invariant.paired symbols places c.self.invariant.symbols_are c.symbols-distinct.ensures.alphabet.distinct c.self.invariant.placed steps c.self.invariant.up.steps_of kids pairs leads rows store v.items h)
    c.groups_at.ensures.groups)
