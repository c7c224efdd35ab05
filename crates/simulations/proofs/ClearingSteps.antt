-- Pairs cleared one after the other.
use Rattle.std.proofs.Common.{◌≡◌, ◌≢◌, ◌↔◌, ◌⊎◌, inl, inr, ℕ, ◌<◌, [], length, get_or, set, refl, sym, ap, ◌∙◌, subst, arith, ⊎_elim}
use Rattle.std.proofs.lemmas.Bool.{cases_eq}
use Rattle.std.proofs.lemmas.List.{length-set}
use Rattle.std.proofs.lemmas.List.Elements.{All-set}
use Rattle.tree_definitions.specs.Relation.{Row, Has, Matrix, Holds, IsSquare}
use Rattle.tree_definitions.proofs.Matrices.{dec_has}
use Rattle.bit_matrix.proofs.MatrixLemmas.{row_from_Holds, Holds_from_row, row_length, Holds-set_same, Holds-set_other}
use Rattle.simulations.specs.Clearing.{Kind, IsPartOf, IsMarked, Clearing, Catches, Seen}

pub clearing_none : (n : ℕ) (K : Kind) (sim : Matrix) (marks : Row) → IsMarked n sim marks → Clearing n K sim marks sim marks
clearing_none n K sim marks a = record {
  now = a;
  fewer = λ x y h. h;
  each = λ m k w. w;
  marked = λ x h. h;
  lost = λ x y h. inl h;
  only = λ x h. inl h;
}

pub clearing_then : (n : ℕ) (K : Kind) (sim : Matrix) (marks : Row) (sim2 : Matrix) (marks2 : Row) (sim3 : Matrix) (marks3 : Row)
    → Clearing n K sim marks sim2 marks2 → Clearing n K sim2 marks2 sim3 marks3 → Clearing n K sim marks sim3 marks3
clearing_then n K sim marks sim2 marks2 sim3 marks3 a b = record {
  now = b.now;
  each = λ m k w. b.each m k (a.each m k w);
  fewer = λ x y h. a.fewer x y (b.fewer x y h);
  marked = λ x h. b.marked x (a.marked x h);
  lost = λ x y h. elim (a.lost x y h) [
    | inl k ↦ b.lost x y k
    | inr m ↦ inr (b.marked x m)
  ];
  only = λ x h. elim (b.only x h) [
    | inl k ↦ elim (a.only x k) [
      | inl old ↦ inl old
      | inr w ↦ inr (w.0, w.1, λ z. w.2 (b.fewer x w.0 z))
    ]
    | inr w ↦ inr (w.0, a.fewer x w.0 w.1, w.2)
  ];
}

-- one pair is cleared, and its row is marked
pub clearing_one : (n : ℕ) (K : Kind) (sim : Matrix) (marks : Row) (q r : ℕ) (sim2 : Matrix) (marks2 : Row)
    → IsMarked n sim marks → Holds sim q r → ((m : Matrix) → K m → IsPartOf m sim → ¬ Holds m q r) → IsSquare n sim2
    → ((x y : ℕ) → Holds sim2 x y ↔ (Holds sim x y × ((x ≡ q) × (y ≡ r) → ⊥)))
    → length marks2 ≡ length marks → ((s : ℕ) → Has marks2 s ↔ ((s ≡ q) ⊎ Has marks s))
    → Clearing n K sim marks sim2 marks2
clearing_one n K sim marks q r sim2 marks2 a on fails square pairs long members = record {
  now = record { square = square; long = long ∙ a.long };
  each = λ m k w x y h. (pairs x y).1 (w x y h, λ e. fails m k w (subst (λ z. Holds m z r) e.0 (subst (Holds m x) e.1 h)));
  fewer = λ x y h. ((pairs x y).0 h).0;
  marked = λ x h. (members x).1 (inr h);
  lost = λ x y h. ⊎_elim
      (λ (e : x ≡ q). inr ((members x).1 (inl e)))
      (λ (d : x ≢ q). inl ((pairs x y).1 (h, λ e. d e.0)))
      (cases_eq x q);
  only = λ x h. elim ((members x).0 h) [
    | inl e ↦ inr (r, subst (λ z. Holds sim z r) (sym e) on, λ k. ((pairs x r).0 k).1 (e, refl))
    | inr old ↦ inl old
  ];
}

-- nothing was marked, and what was seen is the first relation
pub seen_first : (n : ℕ) (K : Kind) (sim : Matrix) (marks : Row) (sim2 : Matrix) (marks2 : Row) → IsSquare n sim → ((s : ℕ) → ¬ Has marks s)
    → Clearing n K sim marks sim2 marks2 → Seen n sim sim2 marks2
seen_first n K sim marks sim2 marks2 square none c = record {
  now = c.now;
  square = square;
  within = c.fewer;
  lost = c.lost;
  only = λ x h. elim (c.only x h) [ inl m ↦ absurd (none x m) | inr w ↦ w ];
}

-- a marked row is looked at: its mark is taken, it catches up, and what rests on its pairs is cleared
module _ (n : ℕ) (K : Kind) (seen sim : Matrix) (marks : Row) (q : ℕ) (marks1 : Row) (seen2 : Matrix) (lost : Row) (sim2 : Matrix) (marks2 : Row)
    (s : Seen n seen sim marks) (members : (x : ℕ) → Has marks1 x ↔ ((x ≢ q) × Has marks x)) (k : Catches n sim q seen lost seen2)
    (c : Clearing n K sim marks1 sim2 marks2) where
  still : (x y : ℕ) → Holds sim x y → Holds seen2 x y
  still x y h = k.kept x y (s.within x y h) h

  pub seen_next : Seen n seen2 sim2 marks2
  seen_next = record {
    now = c.now;
    square = k.square;
    within = λ x y h. still x y (c.fewer x y h);
    lost = λ x y h. elim (s.lost x y (k.fewer x y h)) [
      | inl on ↦ c.lost x y on
      | inr m ↦ ⊎_elim
          (λ (e : x ≡ q). c.lost x y (subst (λ z. Holds sim z y) (sym e) (k.caught y (subst (λ z. Holds seen2 z y) e h))))
          (λ (d : x ≢ q). inr (c.marked x ((members x).1 (d, m))))
          (cases_eq x q)
    ];
    only = λ x h. elim (c.only x h) [
      | inr w ↦ (w.0, still x w.0 w.1, w.2)
      | inl m ↦
          let old = (members x).0 m in
          let w = s.only x old.1 in
          elim (k.parted x w.0 w.1) [
            | inl on ↦ (w.0, on, λ h. w.2 (c.fewer x w.0 h))
            | inr e ↦ absurd (old.0 e.0)
          ]
    ];
  }

-- the marked row lost a pair, so fewer are seen
pub seen_falls : (n : ℕ) (seen sim : Matrix) (marks : Row) (q : ℕ) (seen2 : Matrix) (lost : Row) → Seen n seen sim marks → Has marks q
    → Catches n sim q seen lost seen2 → (y : ℕ) × Holds seen q y × ¬ Holds seen2 q y
seen_falls n seen sim marks q seen2 lost s m k = let w = s.only q m in (w.0, w.1, λ h. w.2 (k.caught w.0 h))

-- row q of `seen` without what `sim` lacks there, and what that is
pub catches : (n : ℕ) (sim : Matrix) (q : ℕ) (seen : Matrix) (row old lost new : Row) → q < n → IsSquare n seen
    → ((y : ℕ) → Has row y ↔ Holds sim q y) → old ≡ get_or seen q []
    → length lost ≡ length old → ((y : ℕ) → Has lost y ↔ (Has old y × (Has row y → ⊥)))
    → length new ≡ length old → ((y : ℕ) → Has new y ↔ (Has old y × Has row y))
    → Catches n sim q seen lost (set seen q new)
catches n sim q seen row old lost new l square members is long gone long2 both = record {
  square = record { rows = length-set seen q new ∙ square.rows; columns = All-set (λ row. length row ≡ n) seen q new (long2 ∙ old_long) square.columns };
  long = long ∙ old_long;
  fewer = λ x y h. ⊎_elim
      (λ (e : x ≡ q). let k = (both y).0 ((same y).0 (subst (λ z. Holds (set seen q new) z y) e h)) in subst (λ z. Holds seen z y) (sym e) (before y k.0))
      (λ (d : x ≢ q). (Holds-set_other seen q new x d y).0 h)
      (cases_eq x q);
  kept = λ x y h k. ⊎_elim
      (λ (e : x ≡ q). subst (λ z. Holds (set seen q new) z y) (sym e)
      ((same y).1 ((both y).1 (after y (subst (λ z. Holds seen z y) e h), (members y).1 (subst (λ z. Holds sim z y) e k)))))
      (λ (d : x ≢ q). (Holds-set_other seen q new x d y).1 h)
      (cases_eq x q);
  parted = λ x y h. ⊎_elim
      (λ (e : x ≡ q). here x y e (after y (subst (λ z. Holds seen z y) e h)) (dec_has row y))
      (λ (d : x ≢ q). inl ((Holds-set_other seen q new x d y).1 h))
      (cases_eq x q);
  caught = λ y h. (members y).0 ((both y).0 ((same y).0 h)).1;
}
  where
    within : q < length seen
    within = let e = square.rows in omega (arith, e, l)

    old_long : length old ≡ n
    old_long = ap length is ∙ row_length n seen (record { rows = square.rows; columns = square.columns }) q l

    same : (y : ℕ) → Holds (set seen q new) q y ↔ Has new y
    same y = Holds-set_same seen q new within y

    before : (y : ℕ) → Has old y → Holds seen q y
    before y h = Holds_from_row seen q y (subst (λ z. Has z y) is h)

    after : (y : ℕ) → Holds seen q y → Has old y
    after y h = subst (λ z. Has z y) (sym is) (row_from_Holds seen q y h)

    here : (x y : ℕ) → x ≡ q → Has old y → Dec (Has row y) → Holds (set seen q new) x y ⊎ ((x ≡ q) × Has lost y)
    here x y e h (yes on) = inl (subst (λ z. Holds (set seen q new) z y) (sym e) ((same y).1 ((both y).1 (h, on))))
    here x y e h (no off) = inr (e, (gone y).1 (h, off))
