-- What several writes to a sink did.
use Rattle.std.proofs.Common.{◌≡◌, ℕ, List, ◌++◌, length, take, drop, sym, ap, ◌∙◌, subst, append_assoc, take-append-drop, arith, length-append}
use Rattle.std.proofs.Math.Seq.{take-append_seam}
use Rattle.std.specs.declared.option.Option.{Option}
use Rattle.std.specs.Io.KnownBytes.{Appends, Keeps}
use Rattle.std.proofs.KnownBytes.{Appends-trans, Appends-kept}
use Rattle.vata_outside.specs.Outside.{AppendsPrefix}

-- some of the bytes were written, and the rest is left
abbrev pub Written : List ℕ → List ℕ → Option (List ℕ) → Option (List ℕ) → Type 0
Written bytes rest old new = (front : List ℕ) × (bytes ≡ front ++ rest) × Appends old new front

-- one more write took n bytes of the rest
pub written_more : (bytes rest : List ℕ) (n : ℕ) (a b c : Option (List ℕ)) → Written bytes rest a b → Appends b c (take n rest) → Written bytes (drop n rest) a c
written_more bytes rest n a b c w p =
    (w.0 ++ take n rest, w.1 ∙ ap (λ l. w.0 ++ l) (sym (take-append-drop n rest)) ∙ sym (append_assoc w.0 (take n rest) (drop n rest)), Appends-trans a b c w.0 (take n rest) w.2 p)

-- a write that failed leaves a prefix
pub written_prefix : (bytes rest : List ℕ) (a b c : Option (List ℕ)) → Written bytes rest a b → Keeps b c → AppendsPrefix a c bytes
written_prefix bytes rest a b c w p =
    let e : take (length w.0) bytes ≡ w.0 = ap (take (length w.0)) w.1 ∙ take-append_seam w.0 rest in
    (length w.0, omega (arith, ap length w.1, length-append w.0 rest), subst (Appends a c) (sym e) (Appends-kept a b c w.0 w.2 p))
