-- The lines of nodes, one node at a time.
use Rattle.std.proofs.Common.{◌≡◌, ℕ, suc, ◌+◌, ◌<◌, List, [], ◌∷◌, ◌++◌, length, take, Some, sym, ap, ◌∙◌, append_assoc, append-nil, arith}
use Rattle.std.proofs.lemmas.List.{take_more, length-take-le}
use Rattle.std.proofs.lemmas.Option.{get_or_from_slice_get, slice_get_within}
use Rattle.tree_definitions.specs.Tree.{Symbol}
use Rattle.tree_definitions.specs.Relation.{IsAt}
use Rattle.tree_definitions.specs.Witness.{NodeRow}
use Rattle.tree_definitions.proofs.Members.{at_unique}
use Rattle.witness_trees.specs.NodesText.{lines_text, node_text}

pub lines_push : (symbols : List Symbol) (k : ℕ) (nodes : List NodeRow) (node : NodeRow) → lines_text symbols k (nodes ++ node ∷ []) ≡ lines_text symbols k nodes ++ node_text symbols (k + length nodes) node
lines_push symbols k [] node =
    let e : k + 0 ≡ k = omega arith in
    append-nil (node_text symbols k node) ∙ ap (λ n. node_text symbols n node) (sym e)
lines_push symbols k (x ∷ xs) node =
    let e : suc k + length xs ≡ k + suc (length xs) = omega arith in
    ap (λ t. node_text symbols k x ++ t) (lines_push symbols (suc k) xs node ∙ ap (λ n. lines_text symbols (suc k) xs ++ node_text symbols n node) e)
    ∙ sym (append_assoc (node_text symbols k x) (lines_text symbols (suc k) xs) (node_text symbols (k + suc (length xs)) node))

-- a node given by its symbol and children apart
pub same_node : (nodes : List NodeRow) (k symbol : ℕ) (kids : List ℕ) → (a : NodeRow) × IsAt nodes k a × (symbol ≡ a.symbol) → (b : NodeRow) × IsAt nodes k b × (kids ≡ b.kids) → IsAt nodes k (record { symbol = symbol; kids = kids })
same_node nodes k symbol kids h g =
    let e : h.0 ≡ g.0 = at_unique nodes k h.0 g.0 h.1 g.1 in
    let same : h.0 ≡ record { symbol = symbol; kids = kids } = λ i. record { symbol = sym h.2 i; kids = (ap (λ (x : NodeRow). x.kids) e ∙ sym g.2) i } in
    h.1 ∙ ap Some same

pub lines_more : (symbols : List Symbol) (nodes : List NodeRow) (k : ℕ) (node : NodeRow) → IsAt nodes k node → lines_text symbols 0 (take (k + 1) nodes) ≡ lines_text symbols 0 (take k nodes) ++ node_text symbols k node
lines_more symbols nodes k node at =
    let within : k < length nodes = slice_get_within nodes k node at in
    let one : take (k + 1) nodes ≡ take k nodes ++ node ∷ [] = take_more nodes k node within ∙ ap (λ x. take k nodes ++ x ∷ []) (get_or_from_slice_get nodes k node node at) in
    let n : 0 + length (take k nodes) ≡ k = omega (arith, length-take-le k nodes (omega arith)) in
    ap (lines_text symbols 0) one ∙ lines_push symbols 0 (take k nodes) node ∙ ap (λ i. lines_text symbols 0 (take k nodes) ++ node_text symbols i node) n
