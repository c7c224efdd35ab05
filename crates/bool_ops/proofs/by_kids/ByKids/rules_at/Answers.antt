use Rattle.std.proofs.Common.{ℕ, List, get_or, Contains, sym, subst, arith}
use Rattle.std.specs.Prelude.{All, ◌<◌}
use Rattle.std.proofs.lemmas.List.Elements.{All-append, Contains-append_left, Contains-append_right, Contains-get_or}
use Rattle.std.proofs.lemmas.Option.{slice_get_within}
use Rattle.tree_definitions.specs.Relation.{IsAt}
use Rattle.tree_definitions.proofs.Members.{at_unique}
use Rattle.bool_ops.proofs.Paths.{place_more, place_all}
use Rattle.bool_ops.proofs.by_kids.ByKids.rules_at.Goals as goal

pub loop-node-preserved-then-len-node : goal.loop-node-preserved-then-len-node
loop-node-preserved-then-len-node c =
    let lists = c.args.self.now.lists in
    let level = c.args.level.now in
    let i = c.loop-node.node-index in
    let Listed : ℕ → Type 0 = λ n. (list : List ℕ) (s : ℕ) → IsAt lists n list → Contains list s → Contains c.loop-node.rules.items s in
    record {
      within = c.loop-node.invariant.within;
      whole = place_more Listed level i c.loop-node-test.true c.loop-node.invariant.whole
          (λ list s lat h. let w = slice_get_within lists (get_or level i 0) list lat in absurd (omega (arith, w, c.if-len-node.true, c.len.ensures)));
    }

pub loop-node-preserved : goal.loop-node-preserved
loop-node-preserved c =
    let lists = c.args.self.now.lists in
    let level = c.args.level.now in
    let i = c.loop-node.node-index in
    let node = get_or level i 0 in
    let rules = c.loop-node.rules.items in
    let here = c.at.result.now in
    let after = c.extend_from_slice.new.self.items in
    let Listed : ℕ → Type 0 = λ n. (list : List ℕ) (s : ℕ) → IsAt lists n list → Contains list s → Contains after s in
    record {
      within = λ m each. subst (All (λ s. s < m)) (sym c.in_ok-extend_from_slice.ensures.items)
          (All-append (λ s. s < m) rules here (c.loop-node.invariant.within m each) (λ k d l. each node here c.at.ensures (get_or here k d) (Contains-get_or here k d l)));
      whole = place_more Listed level i c.loop-node-test.true
          (λ k n l nat list s lat h. subst (λ xs. Contains xs s) (sym c.in_ok-extend_from_slice.ensures.items)
          (Contains-append_left rules here s (c.loop-node.invariant.whole k n l nat list s lat h)))
          (λ list s lat h. subst (λ xs. Contains xs s) (sym c.in_ok-extend_from_slice.ensures.items)
          (Contains-append_right rules here s (subst (λ xs. Contains xs s) (at_unique lists node list here lat c.at.ensures) h)));
    }

pub returns-clause-whole : goal.returns-clause-whole
returns-clause-whole c n s list h lat k =
    let Listed : ℕ → Type 0 = λ n. (list : List ℕ) (s : ℕ) → IsAt c.args.self.now.lists n list → Contains list s → Contains c.loop-node.rules.items s in
    place_all Listed c.args.level.now c.loop-node.node-index c.loop-node-test.false c.loop-node.invariant.whole n h list s lat k
