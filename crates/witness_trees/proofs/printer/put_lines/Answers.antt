use Rattle.std.proofs.Common.{◌≡◌, ◌++◌, ap, sym, ◌∙◌, append_assoc, take}
use Rattle.witness_trees.specs.NodesText.{lines_text, node_text}
use Rattle.witness_trees.proofs.Texts.{same_node, lines_more}
use Rattle.witness_trees.proofs.printer.put_lines.Goals as goal

pub loop-k-preserved : goal.loop-k-preserved
loop-k-preserved c =
    let symbols = c.args.nodes.now.symbols in
    let rows = c.args.nodes.now.rows in
    let k = c.loop-k.k in
    let node = same_node rows k c.symbol.result c.kids.result.now c.symbol.ensures c.kids.ensures in
    let more = lines_more symbols rows k (record { symbol = c.symbol.result; kids = c.kids.result.now }) node in
    let wrote : c.put_line.new.out.items ≡ c.loop-k.out.items ++ node_text symbols k (record { symbol = c.symbol.result; kids = c.kids.result.now }) = rw c.symbols-symbols.ensures.value at c.in_ok-put_line.ensures in
    wrote ∙ ap (λ t. t ++ node_text symbols k (record { symbol = c.symbol.result; kids = c.kids.result.now })) c.loop-k.invariant
    ∙ append_assoc c.args.out.now.items (lines_text symbols 0 (take k rows)) (node_text symbols k (record { symbol = c.symbol.result; kids = c.kids.result.now }))
    ∙ ap (λ t. c.args.out.now.items ++ t) (sym more)
