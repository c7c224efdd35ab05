use Rattle.std.proofs.Common.{◌≡◌, ℕ, List, ap, sym, ◌∙◌}
use Rattle.std.specs.Hash as fed
use Rattle.std.specs.List.{fold}
use Rattle.bit_rows.specs.Bits.{words_of}
use Rattle.bit_rows.proofs.BitLemmas.{words_of-bits}
use Rattle.bit_rows.proofs.row.RowHash.hash.Goals as goal

pub returns : goal.returns
returns g c =
    let words : c.as_slice.result.now ≡ words_of c.args.self.now =
    c.as_slice.ensures.value ∙ sym (words_of-bits c.self.inside.len c.self.inside.words.items c.self.invariant) ∙ ap words_of c.self.view_is in
    c.hash.ensures ∙ ap (λ (ws : List ℕ). fold g.H.Hasher.write c.args.state.now (fed.slice fed.u64 ws)) words
