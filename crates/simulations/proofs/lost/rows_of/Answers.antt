use Rattle.std.proofs.Common.{◌≡◌, ℕ, zero, suc, ◌+◌, [], ◌∷◌, ◌++◌, take, add-one, sym, ap, ◌∙◌}
use Rattle.tree_definitions.specs.Relation.{Row, Matrix, IsAt}
use Rattle.simulations.proofs.lost.rows_of.Goals as goal

take_suc : (xs : Matrix) (i : ℕ) (x : Row) → IsAt xs i x → take (suc i) xs ≡ take i xs ++ x ∷ []
take_suc [] i x e = absurd cc
take_suc (y ∷ ys) zero x e = let same : y ≡ x = cc in ap (λ z. z ∷ []) same
take_suc (y ∷ ys) (suc i) x e = ap (λ zs. y ∷ zs) (take_suc ys i x e)

take_more : (xs : Matrix) (i : ℕ) (x : Row) → IsAt xs i x → take (i + 1) xs ≡ take i xs ++ x ∷ []
take_more xs i x e = rw add-one (take_suc xs i x e)

one_more : (items rows sim : Matrix) (i : ℕ) (row copy : Row) → items ≡ rows ++ copy ∷ [] → rows ≡ take i sim → copy ≡ row → IsAt sim i row → items ≡ take (i + 1) sim
one_more items rows sim i row copy e f g at =
    e ∙ ap (λ xs. xs ++ copy ∷ []) f ∙ ap (λ x. take i sim ++ x ∷ []) g ∙ sym (take_more sim i row at)

pub loop-i-preserved : goal.loop-i-preserved
loop-i-preserved c =
    one_more c.push.new.self.items c.loop-i.rows.items c.args.sim.now c.loop-i.i c.row.result.now c.in_ok-copy.field-0
    c.in_ok-push.ensures.items c.loop-i.invariant c.in_ok-copy.ensures c.row.ensures.value
