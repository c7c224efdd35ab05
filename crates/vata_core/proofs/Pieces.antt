-- A line that is written in pieces.
use Rattle.std.proofs.Common.{◌≤◌, ℕ, ◌+◌, List, ◌++◌, length, take, inl, inr, sym, subst, arith, length-append}
use Rattle.std.specs.declared.option.Option.{Option}
use Rattle.std.specs.Io.KnownBytes.{Appends}
use Rattle.std.proofs.KnownBytes.{Appends-trans}
use Rattle.std.proofs.lemmas.List.{take-append-le}
use Rattle.std.proofs.Math.Seq.{take-append-add}
use Rattle.vata_outside.specs.Outside.{AppendsPrefix, Rose}
use Rattle.vata_core.specs.Lines.{Tells}

-- a count that rose later rose from before
pub rose_before : (a b c : ℕ) → a ≤ b → Rose b c → Rose a c
rose_before a b c h r = omega (arith, h, r)

-- the front was cut
pub told_cut : (old new : Option (List ℕ)) (before now : ℕ) (front back : List ℕ) → AppendsPrefix old new front × Rose before now → Tells old new before now (front ++ back)
told_cut old new before now front back h = record {
  whole = inr h.1;
  part = (
    h.0.0,
    omega (arith, h.0.1, length-append front back),
    subst (Appends old new) (sym (take-append-le h.0.0 front back h.0.1)) h.0.2,
  );
}

-- the front was written, and then the back was cut
pub cut_later : (old mid new : Option (List ℕ)) (front back : List ℕ) → Appends old mid front → AppendsPrefix mid new back → AppendsPrefix old new (front ++ back)
cut_later old mid new front back w h = (
  length front + h.0,
  omega (arith, h.1, length-append front back),
  subst (Appends old new) (sym (take-append-add front back h.0)) (Appends-trans old mid new front (take h.0 back) w h.2),
)

-- the front was written, and then the back was told
pub told_more : (old mid new : Option (List ℕ)) (before then now : ℕ) (front back : List ℕ) → Appends old mid front → before ≤ then → Tells mid new then now back → Tells old new before now (front ++ back)
told_more old mid new before then now front back w h t = record {
  whole = elim t.whole [
    | inl all ↦ inl (Appends-trans old mid new front back w all)
    | inr rose ↦ inr (rose_before before then now h rose)
  ];
  part = cut_later old mid new front back w t.part;
}

-- the middle was cut
pub told_in_middle : (old mid new : Option (List ℕ)) (before then now : ℕ) (front middle back : List ℕ) → Appends old mid front → before ≤ then → AppendsPrefix mid new middle × Rose then now
    → Tells old new before now (front ++ middle ++ back)
told_in_middle old mid new before then now front middle back w h cut =
    told_cut old new before now (front ++ middle) back (cut_later old mid new front middle w cut.0, rose_before before then now h cut.1)
