use Rattle.std.proofs.Common.{◌≡◌, ◌∙◌, ◌<◌, ◌+◌, ◌-◌, ℕ, true, false, inl, inr, ◌⊎◌, get_or, length, refl, sym, ap, subst, arith}
use Rattle.std.specs.Prelude.{◌↔◌, All, Contains}
use Rattle.std.proofs.lemmas.Bool.{false≢true}
use Rattle.std.proofs.lemmas.List.{length-set}
use Rattle.std.proofs.lemmas.Option.{slice_get_read, slice_get_within, get_or_from_slice_get}
use Rattle.tree_definitions.specs.Relation.{Has, IsAt}
use Rattle.antichain_up.specs.Entries.{EntryRow}
use Rattle.antichain_up.proofs.Marks.{flag_has, marked}
use Rattle.antichain_up.proofs.Pruned.{AreClosed, closed_one, closed_past}
use Rattle.antichain_up.proofs.answers.mark_needed.Goals as goal

pub loop-k-init : goal.loop-k-init
loop-k-init c =
    let marks = c.args.marks.now in
    let last = c.args.last in
    let entries = c.args.entries.now in
    let many = c.requires.many in
    let end = c.requires.last in
    let within : last < length marks = omega (arith, many, end) in
    record {
      within = omega (arith, end);
      many = length-set marks last true ∙ many;
      last = (marked marks last last within).1 (inl refl);
      kids = λ i j e l at has m. let w = slice_get_within entries i e at in absurd (omega (arith, l, w, end));
      only = λ i has. elim ((marked marks last i within).0 has) [ inl same ↦ inl (end ∙ ap (λ n. n + 1) (sym same)) | inr before ↦ absurd (c.requires.none i before) ];
    }

pub mark-requires : goal.mark-requires
mark-requires c i d l =
    let k = c.loop-k.k - 1 in
    let entries = c.args.entries.now in
    let inv = c.loop-k.invariant in
    let e = c.index-entries-k.result in
    let test = c.loop-k-test.true in
    let bound = inv.within in
    let within : k < length entries = omega (arith, test, bound) in
    let at : IsAt entries k e = slice_get_read entries (length entries) k e refl within c.index-entries-k.is in
    let kids : e.kids ≡ c.as_slice.result.now = sym (c.as_slice.ensures ∙ ap (λ (x : EntryRow). x.kids) c.entry.view_is) in
    let below : get_or c.as_slice.result.now i d < k = subst (λ ks. All (λ j. j < k) ks) kids (c.requires.earlier k e at) i d l in
    let many = inv.many in
    omega (arith, below, within, many)

pub loop-k-preserved-then-marks-k : goal.loop-k-preserved-then-marks-k
loop-k-preserved-then-marks-k c =
    let k = c.loop-k.k - 1 in
    let entries = c.args.entries.now in
    let inv = c.loop-k.invariant in
    let e = c.index-entries-k.result in
    let test = c.loop-k-test.true in
    let bound = inv.within in
    let within : k < length entries = omega (arith, test, bound) in
    let next : c.loop-k.k ≡ k + 1 = omega (arith, test) in
    let at : IsAt entries k e = slice_get_read entries (length entries) k e refl within c.index-entries-k.is in
    let kids : c.as_slice.result.now ≡ e.kids = c.as_slice.ensures ∙ ap (λ (x : EntryRow). x.kids) c.entry.view_is in
    let set : (j : ℕ) → Has c.mark.new.marks j ↔ (Has c.loop-k.marks j ⊎ Contains e.kids j) = λ j. subst (λ ks. Has c.mark.new.marks j ↔ (Has c.loop-k.marks j ⊎ Contains ks j)) kids (c.mark.ensures.set j) in
    record {
      within = omega (arith, bound);
      many = c.mark.ensures.many ∙ inv.many;
      last = (c.mark.ensures.set c.args.last).1 (inl inv.last);
      kids = closed_one entries c.requires.earlier k e at c.loop-k.marks (subst (λ n. AreClosed entries n c.loop-k.marks) next inv.kids) c.mark.new.marks
          set;
      only = λ i has. elim ((set i).0 has) [
        | inl before ↦ elim (inv.only i before) [
          | inl end ↦ inl end
          | inr (j, f, fat, fhas, m) ↦ inr (j, f, fat, (set j).1 (inl fhas), m)
        ]
        | inr m ↦ inr (k, e, at, (set k).1 (inl (flag_has c.loop-k.marks k c.if-marks-k.true)), m)
      ];
    }

pub loop-k-preserved : goal.loop-k-preserved
loop-k-preserved c =
    let k = c.loop-k.k - 1 in
    let entries = c.args.entries.now in
    let inv = c.loop-k.invariant in
    let test = c.loop-k-test.true in
    let bound = inv.within in
    let next : c.loop-k.k ≡ k + 1 = omega (arith, test) in
    let none : ¬ Has c.loop-k.marks k = λ h. false≢true (sym c.if-marks-k.false ∙ get_or_from_slice_get c.loop-k.marks k true false h) in
    record {
      within = omega (arith, bound);
      many = inv.many;
      last = inv.last;
      only = inv.only;
      kids = closed_past entries k c.loop-k.marks none (subst (λ n. AreClosed entries n c.loop-k.marks) next inv.kids);
    }
