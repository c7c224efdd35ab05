use Rattle.std.proofs.Common.{◌≡◌, ◌++◌, ◌∷◌, [], inl, inr, ℕ, true, false, List, cond, sym, ap, subst, ◌∙◌, arith}
use Rattle.std.specs.Prelude.{Contains}
use Rattle.std.specs.Global.{Vec}
use Rattle.std.specs.List.{list_any}
use Rattle.std.proofs.lemmas.List.Elements.{Contains-push, Contains-push_cases, Contains-append_left}
use Rattle.std.proofs.lemmas.Option.{slice_get_within}
use Rattle.tree_definitions.specs.DownTrail.{DownEntry}
use Rattle.tree_definitions.proofs.Members.{at_within}
use Rattle.listed_pairs.specs.DownEntries.{entries_of}
use Rattle.down_trails.specs.Keys.{IsKeyOf, RepeatsEntry, parts_of}
use Rattle.down_trails.proofs.Alike.{alike_key, any_key, key_alike, key_eq, not_false, not_true, some_key}
use Rattle.down_trails.proofs.Splitting.{length_entries}
use Rattle.down_trails.proofs.Stepping.{all_at_next}
use Rattle.down_trails.proofs.repeats.first_repeated_entry.Goals as goal

pub loop-at-init : goal.loop-at-init
loop-at-init c = record {
  filed = λ i x l at. absurd (omega arith);
  from = λ key m. absurd (let e = c.with_hasher-seen.ensures.len in let l = m.1 in omega (arith, e, l));
  fresh = λ i x l at h. omega arith;
}

pub loop-at-preserved : goal.loop-at-preserved
loop-at-preserved c =
    let A = c.args.a.now in
    let B = c.args.b.now in
    let all = entries_of c.args.entries.now in
    let i = c.loop-at.at in
    let inv = c.loop-at.invariant in
    let long = length_entries c.args.entries.now in
    let x = at_within all i (omega (arith, long, c.loop-at-test.true)) in
    let v : Vec (Vec ℕ) = c.in_ok-key.key in
    let old : List (Vec (Vec ℕ)) = c.loop-at.seen.keys in
    let new : List (Vec (Vec ℕ)) = c.insert.new.self.keys in
    let absent : list_any (key_eq v) old ≡ false = not_false c.in_ok-insert.field-0 (list_any (key_eq v) old) c.in_ok-insert.ensures.added c.if-not-branch.false in
    let keys : new ≡ old ++ v ∷ [] = c.in_ok-insert.ensures.keys ∙ ap (λ b. cond b old (old ++ v ∷ [])) absent in
    let mine : IsKeyOf A B all x.0 (parts_of v) = c.in_ok-key.ensures x.0 x.1 in
    record {
      filed = all_at_next all (λ k (e : DownEntry). (key : Vec (Vec ℕ)) × Contains new key × IsKeyOf A B all e (parts_of key)) i x.0
          (λ k e l at. let h = inv.filed k e l at in (h.0, subst (λ ks. Contains ks h.0) (sym keys) (Contains-append_left old (v ∷ []) h.0 h.1), h.2)) x.1
          (v, subst (λ ks. Contains ks v) (sym keys) (Contains-push old v), mine);
      from = λ key m. elim (Contains-push_cases old v key (subst (λ ks. Contains ks key) keys m)) [
        | inl h ↦ let k = inv.from key h in (k.0, k.1, (let l = k.2 in omega (arith, l)), k.3, k.4)
        | inr e ↦ (i, x.0, omega arith, x.1, subst (λ (z : Vec (Vec ℕ)). IsKeyOf A B all x.0 (parts_of z)) e mine)
      ];
      fresh = all_at_next all (λ k (e : DownEntry). RepeatsEntry A B all k e → ⊥) i x.0 inv.fresh x.1
          (λ h.
          let f = inv.filed h.0 h.1 h.2 h.3 in
          let same : parts_of f.0 ≡ parts_of v = alike_key A B c.rules-rules.ensures.listed.narrow all c.requires.fits h.1 x.0 (parts_of f.0) (parts_of v) f.2 mine h.4 in
          let b : true ≡ false = sym (any_key old v f.0 f.1 (sym same)) ∙ absent in
          cc);
    }

pub returns-then-not-branch-clause-some : goal.returns-then-not-branch-clause-some
returns-then-not-branch-clause-some c =
    let A = c.args.a.now in
    let B = c.args.b.now in
    let all = entries_of c.args.entries.now in
    let i = c.loop-at.at in
    let inv = c.loop-at.invariant in
    let long = length_entries c.args.entries.now in
    let x = at_within all i (omega (arith, long, c.loop-at-test.true)) in
    let v : Vec (Vec ℕ) = c.in_ok-key.key in
    let old : List (Vec (Vec ℕ)) = c.loop-at.seen.keys in
    let there : list_any (key_eq v) old ≡ true = not_true c.in_ok-insert.field-0 (list_any (key_eq v) old) c.in_ok-insert.ensures.added c.if-not-branch.true in
    let mine : IsKeyOf A B all x.0 (parts_of v) = c.in_ok-key.ensures x.0 x.1 in
    let s = some_key old v there in
    let f = inv.from s.0 s.1 in
    record {
      here = (i, x.0, omega arith, x.1, (f.0, f.1, f.2, f.3, key_alike A B c.rules-rules.ensures.listed.narrow all c.requires.fits f.0 i f.1 x.0 (parts_of s.0) (parts_of v) f.3 x.1 f.4 mine (sym s.2)));
      none_before = λ k l m. let e = m.2 in inv.fresh m.0 m.1 (omega arith) m.3 m.4;
    }

pub returns-clause-none : goal.returns-clause-none
returns-clause-none c i j later earlier l lat eat h =
    let long = length_entries c.args.entries.now in
    let w = slice_get_within (entries_of c.args.entries.now) i later lat in
    c.loop-at.invariant.fresh i later (omega (arith, w, long, c.loop-at-test.false)) lat (j, earlier, l, eat, h)
