use Rattle.std.proofs.Common.{◌≡◌, ◌≢◌, inl, inr, length, get_or, sym, subst, arith, ⊎_elim}
use Rattle.std.specs.Prelude.{Contains}
use Rattle.std.proofs.lemmas.Bool.{cases_eq}
use Rattle.std.proofs.lemmas.Option.{slice_get-get_or, slice_get_within}
use Rattle.tree_definitions.specs.Relation.{Holds, IsAt, IsSquare}
use Rattle.tree_definitions.proofs.Matrices.{holds_within}
use Rattle.tree_definitions.proofs.Members.{at_unique, contains_at, place_of}
use Rattle.simulations.proofs.upward.pairs_of_finals.Goals as goal

pub loop-q-preserved : goal.loop-q-preserved
loop-q-preserved c =
    let finals = c.args.finals.now in
    let i = c.loop-q.q-index in
    let x = get_or finals i 0 in
    let at : IsAt finals i x = slice_get-get_or finals i 0 c.loop-q-test.true in
    let is_final = c.in_ok-is_final.is_final in
    let members = c.in_ok-is_final.ensures.members in
    let inv = c.loop-q.invariant in
    let v = c.clear_outside.ensures in
    let sim2 = c.clear_outside.new.sim in
    record {
      square = subst (λ n. IsSquare n sim2) c.in_ok-is_final.ensures.long v.square;
      done = λ k q y l kat h. ⊎_elim
          (λ (e : k ≡ i).
          let same : q ≡ x = at_unique finals i q x (subst (λ z. IsAt finals z q) e kat) at in
          (members y).0 (v.judged y (holds_within (length is_final) sim2 v.square q y h).1 (subst (λ z. Holds sim2 z y) same h)))
          (λ (d : k ≢ i). inv.done k q y (omega arith) kat (v.fewer q y h))
          (cases_eq k i);
      each = λ m square keeps q y h. elim (v.only q y (inv.each m square keeps q y h)) [
        | inl on ↦ on
        | inr (e, off) ↦ absurd (off ((members y).1 (keeps q y h (subst (Contains finals) (sym e) (contains_at finals i x at)))))
      ];
    }

pub returns-clause-finals : goal.returns-clause-finals
returns-clause-finals c q r h f =
    let finals = c.args.finals.now in
    let k = place_of finals q f in
    let w = slice_get_within finals k.0 q k.1 in
    c.loop-q.invariant.done k.0 q r (omega (arith, w, c.loop-q-test.false)) k.1 h
