use Rattle.std.proofs.Common.{◌≡◌, ◌∙◌, ◌<◌, ◌+◌, ◌∷◌, ◌++◌, [], ℕ, List, true, false, length, map, refl, sym, ap, subst, arith}
use Rattle.std.specs.Prelude.{All, slice_index}
use Rattle.std.proofs.lemmas.Option.{slice_get_read}
use Rattle.tree_definitions.specs.Relation.{Has, IsAt}
use Rattle.tree_definitions.specs.Witness.{NodeRow}
use Rattle.tree_definitions.proofs.Members.{at_unique}
use Rattle.witness_trees.specs.Nodes.{AreOfRank, NodeList}
use Rattle.antichain_up.proofs.Marks.{mark_read}
use Rattle.antichain_up.proofs.Pruned.{IsPruned, earlier_kids, kids_within, label_within, prune_all, prune_needed, prune_none, prune_one, prune_past, rank_fits}
use Rattle.antichain_up.proofs.answers.add_needed.Goals as goal

pub needed-requires-clause-earlier : goal.needed-requires-clause-earlier
needed-requires-clause-earlier c = earlier_kids c.args.nodes.now.symbols c.args.entries.now c.requires.nodes

pub loop-k-init : goal.loop-k-init
loop-k-init c =
    let symbols = c.args.nodes.now.symbols in
    let marks = c.in_ok-marks.marks.items in
    let P : List NodeRow → List ℕ → Type 0 = λ nodes numbers. IsPruned symbols c.args.entries.now marks 0 nodes numbers in
    record {
      symbols = refl;
      pruned = subst (λ nodes. P nodes c.in_ok-numbers.numbers.items) (sym c.requires.none) (subst (λ numbers. P [] numbers) (sym c.in_ok-numbers.ensures.items) (prune_none symbols c.args.entries.now marks));
    }

pub add_node-requires-clause-symbol : goal.add_node-requires-clause-symbol
add_node-requires-clause-symbol c =
    let entries = c.args.entries.now in
    let k = c.loop-k.k in
    let e = c.index-entries-k.result in
    let at : IsAt entries k e = slice_get_read entries (length entries) k e refl c.loop-k-test.true c.index-entries-k.is in
    let l = label_within c.args.nodes.now.symbols entries c.requires.nodes k e at in
    subst (λ symbols. e.symbol < length symbols) (sym c.loop-k.invariant.symbols) l

pub add_node-requires-clause-kids : goal.add_node-requires-clause-kids
add_node-requires-clause-kids c =
    let entries = c.args.entries.now in
    let k = c.loop-k.k in
    let e = c.index-entries-k.result in
    let at : IsAt entries k e = slice_get_read entries (length entries) k e refl c.loop-k-test.true c.index-entries-k.is in
    let many : k ≡ length c.deref.result.now = sym (ap length c.deref.ensures.value ∙ c.loop-k.invariant.pruned.many) in
    subst (λ n. All (λ j. j < n) e.kids) many (earlier_kids c.args.nodes.now.symbols entries c.requires.nodes k e at)

pub add_node-requires-clause-rank : goal.add_node-requires-clause-rank
add_node-requires-clause-rank c =
    let entries = c.args.entries.now in
    let k = c.loop-k.k in
    let e = c.index-entries-k.result in
    let at : IsAt entries k e = slice_get_read entries (length entries) k e refl c.loop-k-test.true c.index-entries-k.is in
    let r = rank_fits c.args.nodes.now.symbols entries c.requires.nodes k e at in
    subst (λ symbols. AreOfRank symbols e.symbol e.kids) (sym c.loop-k.invariant.symbols) r

pub add_node-requires-clause-earlier : goal.add_node-requires-clause-earlier
add_node-requires-clause-earlier c =
    let symbols = c.args.nodes.now.symbols in
    let entries = c.args.entries.now in
    let marks = c.in_ok-marks.marks.items in
    let rows = c.loop-k.nodes.rows in
    let k = c.loop-k.k in
    let e = c.index-entries-k.result in
    let at : IsAt entries k e = slice_get_read entries (length entries) k e refl c.loop-k-test.true c.index-entries-k.is in
    let within : k < length marks = subst (λ n. k < n) (sym c.in_ok-marks.ensures.many) c.loop-k-test.true in
    let here : Has marks k = mark_read marks k c.index.result.now true within c.index.ensures c.if-not-index.false in
    let below = kids_within symbols entries marks k rows c.loop-k.numbers.items (earlier_kids symbols entries c.requires.nodes) c.loop-k.invariant.pruned e at c.in_ok-marks.ensures here in
    subst (λ (ns : List ℕ). All (λ j. slice_index ns j < length rows) e.kids) (sym c.deref.ensures.value) below

pub loop-k-preserved-then-not-index : goal.loop-k-preserved-then-not-index
loop-k-preserved-then-not-index c =
    let entries = c.args.entries.now in
    let marks = c.in_ok-marks.marks.items in
    let k = c.loop-k.k in
    let within : k < length marks = subst (λ n. k < n) (sym c.in_ok-marks.ensures.many) c.loop-k-test.true in
    let off : IsAt marks k false = mark_read marks k c.index.result.now false within c.index.ensures c.if-not-index.true in
    let none : ¬ Has marks k = λ has. (let e : true ≡ false = at_unique marks k true false has off in cc) in
    record {
      symbols = c.loop-k.invariant.symbols;
      pruned = subst (IsPruned c.args.nodes.now.symbols entries marks (k + 1) c.loop-k.nodes.rows) (sym c.in_ok-push.ensures.items)
          (prune_past c.args.nodes.now.symbols entries marks k c.loop-k.nodes.rows c.loop-k.numbers.items (earlier_kids c.args.nodes.now.symbols entries c.requires.nodes) c.loop-k.invariant.pruned none);
    }

pub loop-k-preserved : goal.loop-k-preserved
loop-k-preserved c =
    let symbols = c.args.nodes.now.symbols in
    let entries = c.args.entries.now in
    let marks = c.in_ok-marks.marks.items in
    let numbers = c.loop-k.numbers.items in
    let rows = c.loop-k.nodes.rows in
    let k = c.loop-k.k in
    let e = c.index-entries-k.result in
    let at : IsAt entries k e = slice_get_read entries (length entries) k e refl c.loop-k-test.true c.index-entries-k.is in
    let within : k < length marks = subst (λ n. k < n) (sym c.in_ok-marks.ensures.many) c.loop-k-test.true in
    let here : Has marks k = mark_read marks k c.index.result.now true within c.index.ensures c.if-not-index.false in
    let one = prune_one symbols entries marks k rows numbers (earlier_kids symbols entries c.requires.nodes) c.loop-k.invariant.pruned e at c.in_ok-marks.ensures here in
    let added = c.in_ok-number.ensures.added in
    let grown : c.add_node.new.nodes.rows ≡ rows ++ record { symbol = e.symbol; kids = map (slice_index numbers) e.kids } ∷ [] =
    ap (λ (n : NodeList). n.rows) added ∙ ap (λ (ns : List ℕ). rows ++ record { symbol = e.symbol; kids = map (slice_index ns) e.kids } ∷ []) c.deref.ensures.value in
    let pushed : c.push-in-loop-k.new.self.items ≡ numbers ++ length rows ∷ [] = c.in_ok-push-2.ensures.items ∙ ap (λ n. numbers ++ n ∷ []) c.in_ok-number.ensures.number in
    record {
      symbols = ap (λ (n : NodeList). n.symbols) added ∙ c.loop-k.invariant.symbols;
      pruned = subst (λ ns. IsPruned symbols entries marks (k + 1) ns c.push-in-loop-k.new.self.items) (sym grown)
          (subst (IsPruned symbols entries marks (k + 1) (rows ++ record { symbol = e.symbol; kids = map (slice_index numbers) e.kids } ∷ [])) (sym pushed) one);
    }

pub returns : goal.returns
returns c =
    let all : length c.args.entries.now ≡ c.loop-k.k = let a = c.loop-k.auto.k-end in let b = c.loop-k-test.false in omega (arith, a, b) in
    record {
      same = c.loop-k.invariant.symbols;
      tree = prune_all c.args.nodes.now.symbols c.args.entries.now c.in_ok-marks.marks.items c.loop-k.k c.loop-k.nodes.rows c.loop-k.numbers.items all c.in_ok-marks.ensures c.loop-k.invariant.pruned;
      needed = prune_needed c.args.nodes.now.symbols c.args.entries.now c.in_ok-marks.marks.items c.loop-k.k c.loop-k.nodes.rows c.loop-k.numbers.items all c.in_ok-marks.ensures c.loop-k.invariant.pruned;
    }
