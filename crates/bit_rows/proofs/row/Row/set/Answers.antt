use Rattle.std.proofs.Common.{◌≡◌, ◌↔◌, ◌⊎◌, ◌<◌, ◌/◌, ◌%◌, ◌*◌, ◌^◌, length, get_or, set, true, ap, sym, ◌∙◌, arith, subst, bit_or}
use Rattle.std.proofs.lemmas.Grind.{get_or_default_zero}
use Rattle.std.proofs.lemmas.List.{length-set}
use Rattle.bit_rows.specs.Rows.{Has}
use Rattle.bit_rows.proofs.BitLemmas.{length-bits, in_room, IsPlaced, IsPlaced-or, IsRow-placed, bits-placed}
use Rattle.bit_rows.proofs.RowLemmas.{Has-set_true}
use Rattle.bit_rows.proofs.row.Row.set.Goals as goal

pub index_mut-requires : goal.index_mut-requires
index_mut-requires c =
    let lt : c.args.i < c.self.inside.len = omega (arith, length-bits c.self.inside.len c.self.inside.words.items, ap length c.self.view_is) in
    omega (arith, in_room c.self.inside.len c.args.i (length c.self.inside.words.items) c.self.invariant.room lt)

pub invariant_of-self : goal.invariant_of-self
invariant_of-self c =
    let n = c.self.inside.len in
    let ws = c.self.inside.words.items in
    let i = c.args.i in
    let lt : i < n = omega (arith, length-bits n ws, ap length c.self.view_is) in
    let room : i / 64 < length ws = in_room n i (length ws) c.self.invariant.room lt in
    let x = c.index_mut.result.now in
    let e : x ≡ get_or ws (i / 64) 0 = c.index_mut.ensures.value ∙ get_or_default_zero ws (i / 64) x room in
    let w = bit_or x (1 * 2 ^ (i % 64) % 2 ^ 64) in
    let p : IsPlaced ws i w true = IsPlaced-or ws i x e (c.self.invariant.fits (i / 64)) in
    IsRow-placed n ws i w true c.self.invariant p lt

pub returns-clause-value : goal.returns-clause-value
returns-clause-value c =
    let n = c.self.inside.len in
    let ws = c.self.inside.words.items in
    let i = c.args.i in
    let lt : i < n = omega (arith, length-bits n ws, ap length c.self.view_is) in
    let room : i / 64 < length ws = in_room n i (length ws) c.self.invariant.room lt in
    let x = c.index_mut.result.now in
    let e : x ≡ get_or ws (i / 64) 0 = c.index_mut.ensures.value ∙ get_or_default_zero ws (i / 64) x room in
    let w = bit_or x (1 * 2 ^ (i % 64) % 2 ^ 64) in
    let p : IsPlaced ws i w true = IsPlaced-or ws i x e (c.self.invariant.fits (i / 64)) in
    bits-placed n ws i w true p room lt ∙ ap (λ xs. set xs i true) c.self.view_is

pub returns-clause-long : goal.returns-clause-long
returns-clause-long c =
    let n = c.self.inside.len in
    let ws = c.self.inside.words.items in
    let i = c.args.i in
    let lt : i < n = omega (arith, length-bits n ws, ap length c.self.view_is) in
    let room : i / 64 < length ws = in_room n i (length ws) c.self.invariant.room lt in
    let x = c.index_mut.result.now in
    let e : x ≡ get_or ws (i / 64) 0 = c.index_mut.ensures.value ∙ get_or_default_zero ws (i / 64) x room in
    let w = bit_or x (1 * 2 ^ (i % 64) % 2 ^ 64) in
    let p : IsPlaced ws i w true = IsPlaced-or ws i x e (c.self.invariant.fits (i / 64)) in
    ap length (bits-placed n ws i w true p room lt ∙ ap (λ xs. set xs i true) c.self.view_is) ∙ length-set c.args.self.now i true

pub returns-clause-members : goal.returns-clause-members
returns-clause-members c =
    let n = c.self.inside.len in
    let ws = c.self.inside.words.items in
    let i = c.args.i in
    let lt : i < n = omega (arith, length-bits n ws, ap length c.self.view_is) in
    let room : i / 64 < length ws = in_room n i (length ws) c.self.invariant.room lt in
    let x = c.index_mut.result.now in
    let e : x ≡ get_or ws (i / 64) 0 = c.index_mut.ensures.value ∙ get_or_default_zero ws (i / 64) x room in
    let w = bit_or x (1 * 2 ^ (i % 64) % 2 ^ 64) in
    let p : IsPlaced ws i w true = IsPlaced-or ws i x e (c.self.invariant.fits (i / 64)) in
    λ s. subst (λ ys. Has ys s ↔ ((s ≡ c.args.i) ⊎ Has c.args.self.now s)) (sym (bits-placed n ws i w true p room lt ∙ ap (λ xs. set xs i true) c.self.view_is)) (Has-set_true c.args.self.now i c.requires s)
