use Rattle.std.proofs.Common.{◌≡◌, ◌≢◌, true, false, length, refl, sym, ◌∙◌, subst, arith, ⊎_elim}
use Rattle.std.proofs.lemmas.Bool.{cases_eq}
use Rattle.std.proofs.lemmas.Option.{slice_get_read, slice_get_within}
use Rattle.tree_definitions.specs.Cover.{Pair}
use Rattle.tree_definitions.specs.Relation.{Has, Holds, IsAt}
use Rattle.down_conditions.specs.Covering.{IsCovered, IsCoveredElsewhere}
use Rattle.down_conditions.proofs.Shifting.{other_by_place, pair_of_wide, place_of_other}
use Rattle.down_conditions.proofs.apart.first_by_index.Goals as goal

pub returns-then-is_covered-clause-some : goal.returns-then-is_covered-clause-some
returns-then-is_covered-clause-some c =
    let A = c.args.a.now in
    let R = Holds c.args.both.now in
    let pairs = c.args.pairs.now in
    let wides = c.args.wides.now in
    let i = c.loop-at.at in
    let wide = c.index-wides-at.result in
    let wat : IsAt wides i wide = slice_get_read wides (length wides) i wide refl c.loop-at-test.true c.index-wides-at.is in
    let pair = pair_of_wide A R pairs wides c.requires.shifted (λ s. ⊥) (λ s. ⊥) i wide wat in
    let other = subst (λ (o : Pair). IsCoveredElsewhere R wides i o.state (Has o.set)) c.wide.view_is (c.is_covered.ensures.0 c.if-is_covered.true) in
    record {
      here = (i, pair.0, omega arith, pair.1, other_by_place A R pairs wides c.requires.shifted i pair.0 wide pair.1 wat other);
      none_before = λ k l m. let f = m.2 in c.loop-at.invariant m.0 m.1 (omega (arith, l, f)) m.3 m.4;
    }

pub loop-at-preserved : goal.loop-at-preserved
loop-at-preserved c k x l kat h =
    let A = c.args.a.now in
    let R = Holds c.args.both.now in
    let pairs = c.args.pairs.now in
    let wides = c.args.wides.now in
    let i = c.loop-at.at in
    let wide = c.index-wides-at.result in
    let wat : IsAt wides i wide = slice_get_read wides (length wides) i wide refl c.loop-at-test.true c.index-wides-at.is in
    ⊎_elim
    (λ (e : k ≡ i).
    let other = place_of_other A R pairs wides c.requires.shifted i x wide (subst (λ j. IsAt pairs j x) e kat) wat (subst (λ j. IsCovered A R pairs j x) e h) in
    let inside = subst (λ (o : Pair). IsCoveredElsewhere R wides i o.state (Has o.set)) (sym c.wide.view_is) other in
    let b : true ≡ false = sym (c.is_covered.ensures.1 inside) ∙ c.if-is_covered.false in
    cc)
    (λ (d : k ≢ i). c.loop-at.invariant k x (omega arith) kat h)
    (cases_eq k i)

pub returns-clause-none : goal.returns-clause-none
returns-clause-none c i j x y ne xat yat covers =
    let w = slice_get_within c.args.pairs.now j y yat in
    let long = c.requires.shifted.long in
    c.loop-at.invariant j y (omega (arith, w, long, c.loop-at-test.false)) yat (i, x, ne, xat, covers)
