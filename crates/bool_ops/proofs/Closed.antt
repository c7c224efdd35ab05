-- Steps of the loop that closes the set of pairs.
use Rattle.std.proofs.Common.{◌≡◌, ◌⊎◌, inl, inr, ℕ, ◌<◌, ◌≤◌, List, [], ◌∷◌, length, length-append, sym, ap, ◌∙◌, subst, arith}
use Rattle.std.specs.Prelude.{Contains}
use Rattle.tree_definitions.specs.Automaton.{Rule}
use Rattle.tree_definitions.specs.Product.{Both}
use Rattle.tree_definitions.specs.Relation.{IsAt}
use Rattle.tree_definitions.proofs.Members.{at_unique, place_of, contains_at}
use Rattle.bool_ops.specs.Closing.{Adds, both, AreAlike, Together, by_rules, AreHeld, Fits, AddsBelow, Grows, Took, Settled}
use Rattle.bool_ops.proofs.Filed.{adds_cases, adds_here, adds_keeps, adds_only, adds_at}

adds_longer : (old : List Both) (x : Both) (new : List Both) → Adds old x new → length old ≤ length new
adds_longer old x new a = elim (adds_cases old x new a) [
  | inl h ↦ let e = ap length h.1 in omega (arith, e)
  | inr h ↦ let e = ap length h.1 ∙ length-append old (x ∷ []) in omega (arith, e)
]

module _ (old : List Both) (most : ℕ) (x : Both) (new : List Both) where
  below_at : AddsBelow old most x new → (i : ℕ) (y : Both) → IsAt old i y → IsAt new i y
  below_at (inl a) i y h = adds_at old x new a i y h
  below_at (inr k) i y h = subst (λ l. IsAt l i y) (sym k.1) h

  below_longer : AddsBelow old most x new → length old ≤ length new
  below_longer (inl a) = adds_longer old x new a
  below_longer (inr k) = let e = ap length k.1 in omega (arith, e)

  below_keeps : AddsBelow old most x new → (y : Both) → Contains old y → Contains new y
  below_keeps (inl a) y h = adds_keeps old x new a y h
  below_keeps (inr k) y h = subst (λ l. Contains l y) (sym k.1) h

  below_only : AddsBelow old most x new → (y : Both) → Contains new y → Contains old y ⊎ (x ≡ y)
  below_only (inl a) y h = adds_only old x new a y h
  below_only (inr k) y h = inl (subst (λ l. Contains l y) k.1 h)

  below_here : AddsBelow old most x new → Contains new x ⊎ (most < length new)
  below_here (inl a) = inl (adds_here old x new a)
  below_here (inr k) = let e = ap length k.1 in let l = k.0 in inr (omega (arith, e, l))

module _ (ours theirs : List Rule) where
  pub grows_none : (pairs found : List Both) → Grows ours theirs pairs found pairs found
  grows_none pairs found = record {
    places = λ i x h. h;
    longer = omega arith;
    rules = λ x h. h;
    more = omega arith;
    sound = λ s. s;
    fits = λ f. f;
  }

  pub grows_on : (p f p1 f1 p2 f2 : List Both) → Grows ours theirs p f p1 f1 → Grows ours theirs p1 f1 p2 f2 → Grows ours theirs p f p2 f2
  grows_on p f p1 f1 p2 f2 a b = record {
    places = λ i x h. b.places i x (a.places i x h);
    longer = let l = a.longer in let m = b.longer in omega (arith, l, m);
    rules = λ x h. b.rules x (a.rules x h);
    more = let l = a.more in let m = b.more in omega (arith, l, m);
    sound = λ s. b.sound (a.sound s);
    fits = λ k. b.fits (a.fits k);
  }

  pub grows_keeps : (p f p2 f2 : List Both) → Grows ours theirs p f p2 f2 → (x : Both) → Contains p x → Contains p2 x
  grows_keeps p f p2 f2 g x h = let at = place_of p x h in contains_at p2 at.0 x (g.places at.0 x at.1)

  pub took_kept : (p f p2 f2 : List Both) (parent rules : Both) → Grows ours theirs p f p2 f2 → Took p f parent rules → Took p2 f2 parent rules
  took_kept p f p2 f2 parent rules g t = record {
    state = elim t.state [ inl h ↦ inl (grows_keeps p f p2 f2 g parent h) | inr l ↦ inr (let m = g.longer in omega (arith, l, m)) ];
    rule = elim t.rule [ inl h ↦ inl (g.rules rules h) | inr l ↦ inr (let m = g.more in omega (arith, l, m)) ];
  }

  -- what is settled stays so, and for a smaller base
  pub settled_kept : (base base2 p f p2 f2 : List Both) (r s : ℕ) → ((x : Both) → Contains base2 x → Contains base x) → Grows ours theirs p f p2 f2
      → Settled ours theirs base p f r s → Settled ours theirs base2 p2 f2 r s
  settled_kept base base2 p f p2 f2 r s sub g h left right rat sat alike held =
      took_kept p f p2 f2 (both left.parent right.parent) (both r s) g (h left right rat sat alike (λ i x y xat yat. sub (both x y) (held i x y xat yat)))

  -- two rules that aren't both alike and held
  pub settled_past : (base p f : List Both) (r s : ℕ) (left right : Rule) → IsAt ours r left → IsAt theirs s right
      → (AreAlike left right → AreHeld base left.kids right.kids → ⊥) → Settled ours theirs base p f r s
  settled_past base p f r s left right rat sat none l2 r2 rat2 sat2 alike held =
      let a : l2 ≡ left = at_unique ours r l2 left rat2 rat in
      let b : r2 ≡ right = at_unique theirs s r2 right sat2 sat in
      absurd (none (subst (AreAlike left) b (subst (λ l. AreAlike l r2) a alike))
      (subst (λ (z : Rule). AreHeld base left.kids z.kids) b (subst (λ (z : Rule). AreHeld base z.kids r2.kids) a held)))

  module _ (p f p2 f2 : List Both) (r s : ℕ) (left right : Rule) (rat : IsAt ours r left) (sat : IsAt theirs s right) (alike : AreAlike left right)
      (held : AreHeld p left.kids right.kids) (states : AddsBelow p 1000000 (both left.parent right.parent) p2) (rules : AddsBelow f 2000000 (both r s) f2) where
    held_on : (x : Both) → Fits ours theirs p x → Fits ours theirs p2 x
    held_on x k = record {
      left = k.left;
      right = k.right;
      left_at = k.left_at;
      right_at = k.right_at;
      alike = k.alike;
      held = λ i a b aat bat. below_keeps p 1000000 (both left.parent right.parent) p2 states (both a b) (k.held i a b aat bat);
    }

    pub taken_grows : Grows ours theirs p f p2 f2
    taken_grows = record {
      places = below_at p 1000000 (both left.parent right.parent) p2 states;
      longer = below_longer p 1000000 (both left.parent right.parent) p2 states;
      rules = below_keeps f 2000000 (both r s) f2 rules;
      more = below_longer f 2000000 (both r s) f2 rules;
      sound = λ sound x h. elim (below_only p 1000000 (both left.parent right.parent) p2 states x h) [
        | inl old ↦ sound x old
        | inr e ↦ subst (Together ours theirs) e (by_rules r s left right rat sat alike (λ i a b aat bat. sound (both a b) (held i a b aat bat)))
      ];
      fits = λ fits x h. elim (below_only f 2000000 (both r s) f2 rules x h) [
        | inl old ↦ held_on x (fits x old)
        | inr e ↦ subst (Fits ours theirs p2) e (held_on (both r s) (record { left = left; right = right; left_at = rat; right_at = sat; alike = alike; held = held }))
      ];
    }

    pub taken_settled : Settled ours theirs p p2 f2 r s
    taken_settled l2 r2 rat2 sat2 alike2 held2 =
        let a : left ≡ l2 = at_unique ours r left l2 rat rat2 in
        let b : right ≡ r2 = at_unique theirs s right r2 sat sat2 in
        subst (λ (z : Rule). Took p2 f2 (both l2.parent z.parent) (both r s)) b
        (subst (λ (z : Rule). Took p2 f2 (both z.parent right.parent) (both r s)) a
        (record {
          state = below_here p 1000000 (both left.parent right.parent) p2 states;
          rule = below_here f 2000000 (both r s) f2 rules;
        }))
