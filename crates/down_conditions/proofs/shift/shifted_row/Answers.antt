use Rattle.std.proofs.Common.{◌≡◌, ◌≢◌, ◌+◌, ◌<◌, ◌≤◌, inl, inr, true, ap, ◌∙◌, arith, ⊎_elim}
use Rattle.std.proofs.lemmas.Bool.{cases_eq, cases_lt}
use Rattle.std.proofs.lemmas.Option.{slice_get_within}
use Rattle.down_conditions.proofs.shift.shifted_row.Goals as goal

pub loop-t-preserved : goal.loop-t-preserved
loop-t-preserved c =
    let set = c.args.set.now in
    let m = c.args.m in
    let t = c.in-Some.t in
    let on = c.in-Some.ensures.least.set in
    let w = slice_get_within set t true on in
    let inv = c.loop-t.invariant in
    record {
      up = omega (arith, w);
      long = c.set.ensures.long ∙ inv.long;
      members = λ s. (
        λ h. elim ((c.set.ensures.members s).0 h) [
          | inl e ↦ (t, e, (omega arith, on))
          | inr old ↦ let k = (inv.members s).0 old in (k.0, k.1, ((let l = k.2.0 in let f = c.in-Some.ensures.least.from_on in omega (arith, l, f)), k.2.1))
        ],
        λ k. ⊎_elim
            (λ (e : k.0 ≡ t). (c.set.ensures.members s).1 (inl (k.1 ∙ ap (λ z. m + z) e)))
            (λ (d : k.0 ≢ t). ⊎_elim
            (λ (early : k.0 < c.loop-t.from). (c.set.ensures.members s).1 (inr ((inv.members s).1 (k.0, k.1, (early, k.2.1)))))
            (λ (late : c.loop-t.from ≤ k.0). let least = c.in-Some.ensures.least.least k.0 late k.2.1 in let l = k.2.0 in absurd (omega (arith, least, l, d)))
            (cases_lt k.0 c.loop-t.from))
            (cases_eq k.0 t),
      );
    }
