-- The parts of a product make the product.
use Rattle.std.proofs.Common.{◌≡◌, ◌≢◌, ◌⊎◌, ◌↔◌, inl, inr, ℕ, zero, suc, ◌<◌, ◌≤◌, List, [], ◌∷◌, map, length, codes, refl, sym, ap, ◌∙◌, subst, arith}
use Rattle.std.specs.Prelude.{Contains, AllPairs}
use Rattle.std.specs.List.{AllZip}
use Rattle.std.proofs.lemmas.Option.{slice_get_within}
use Rattle.tree_definitions.specs.Tree.{Symbol}
use Rattle.tree_definitions.specs.Automaton.{Automaton, Rule, IsNarrow, IsRule, HasRule, IsAutomaton}
use Rattle.tree_definitions.specs.Product.{Both, Precedes, MultipliesTo, pair_name}
use Rattle.tree_definitions.specs.Relation.{Row, Has, IsAt}
use Rattle.tree_definitions.specs.Joint.{joint_symbols}
use Rattle.tree_definitions.proofs.Listing.{label_at, at_label}
use Rattle.tree_definitions.proofs.Members.{at_unique, place_of, contains_at}
use Rattle.bool_ops.specs.Closing.{both, AreAlike, AreHeld, IsClosed}
use Rattle.bool_ops.specs.Joined.{StandFor, IsPairOf, AreFinals, pairs_of}
use Rattle.bool_ops.proofs.Filed.{at_distinct}
use Rattle.bool_ops.proofs.Bridge.{together_exactly, lines_alike}
use Rattle.bool_ops.proofs.Stands.{zip_at}

pub zip_right : {X Y : Type 0} (R : X → Y → Type 0) (xs : List X) (ys : List Y) (i : ℕ) (x : X) → AllZip R xs ys → IsAt xs i x → (y : Y) × IsAt ys i y × R x y
zip_right R [] [] i x z e = absurd cc
zip_right R [] (b ∷ ys) i x z e = absurd z
zip_right R (a ∷ xs) [] i x z e = absurd z
zip_right R (a ∷ xs) (b ∷ ys) zero x z e = let d : a ≡ x = cc in (b, refl, subst (λ w. R w b) d z.0)
zip_right R (a ∷ xs) (b ∷ ys) (suc i) x z e = zip_right R xs ys i x z.1 e

-- the places of a row of pairs are unique, and so are the pairs
pub same_places : (Z : List Both) → AllPairs ◌≢◌ Z → (ks ls : List ℕ) (xs : List Both) → AllZip (IsAt Z) ks xs → AllZip (IsAt Z) ls xs → ks ≡ ls
same_places Z d [] [] [] z w = refl
same_places Z d [] (l ∷ ls) [] z w = absurd w
same_places Z d (k ∷ ks) ls [] z w = absurd z
same_places Z d [] ls (x ∷ xs) z w = absurd z
same_places Z d (k ∷ ks) [] (x ∷ xs) z w = absurd w
same_places Z d (k ∷ ks) (l ∷ ls) (x ∷ xs) z w = ap (λ a. a ∷ ks) (at_distinct Z k l x d z.0 w.0) ∙ ap (λ zs. l ∷ zs) (same_places Z d ks ls xs z.1 w.1)

pub same_pairs : (Z : List Both) (ks : List ℕ) (xs ys : List Both) → AllZip (IsAt Z) ks xs → AllZip (IsAt Z) ks ys → xs ≡ ys
same_pairs Z [] [] [] z w = refl
same_pairs Z [] (x ∷ xs) ys z w = absurd z
same_pairs Z [] [] (y ∷ ys) z w = absurd w
same_pairs Z (k ∷ ks) [] ys z w = absurd z
same_pairs Z (k ∷ ks) (x ∷ xs) [] z w = absurd w
same_pairs Z (k ∷ ks) (x ∷ xs) (y ∷ ys) z w = ap (λ a. a ∷ xs) (at_unique Z k x y z.0 w.0) ∙ ap (λ zs. y ∷ zs) (same_pairs Z ks xs ys z.1 w.1)

pub lefts_of : (ps qs : List ℕ) → length ps ≡ length qs → map (λ x. x.left) (pairs_of ps qs) ≡ ps
lefts_of [] qs e = refl
lefts_of (p ∷ ps) [] e = absurd (omega (arith, e))
lefts_of (p ∷ ps) (q ∷ qs) e = ap (λ xs. p ∷ xs) (lefts_of ps qs (omega (arith, e)))

pub rights_of : (ps qs : List ℕ) → length ps ≡ length qs → map (λ x. x.right) (pairs_of ps qs) ≡ qs
rights_of [] [] e = refl
rights_of [] (q ∷ qs) e = absurd (omega (arith, e))
rights_of (p ∷ ps) [] e = absurd (omega (arith, e))
rights_of (p ∷ ps) (q ∷ qs) e = ap (λ xs. q ∷ xs) (rights_of ps qs (omega (arith, e)))

pub pairs_again : (xs : List Both) → pairs_of (map (λ x. x.left) xs) (map (λ x. x.right) xs) ≡ xs
pairs_again [] = refl
pairs_again (x ∷ xs) = ap (λ ys. x ∷ ys) (pairs_again xs)

held_of : (Z : List Both) (ks : List ℕ) (xs : List Both) → AllZip (IsAt Z) ks xs → AreHeld Z (map (λ x. x.left) xs) (map (λ x. x.right) xs)
held_of Z [] [] z i p q pat qat = absurd cc
held_of Z [] (x ∷ xs) z i p q pat qat = absurd z
held_of Z (k ∷ ks) [] z i p q pat qat = absurd z
held_of Z (k ∷ ks) (x ∷ xs) z zero p q pat qat =
    let e : x.left ≡ p = cc in
    let d : x.right ≡ q = cc in
    subst (λ b. Contains Z (both p b)) d (subst (λ a. Contains Z (both a x.right)) e (contains_at Z k x z.0))
held_of Z (k ∷ ks) (x ∷ xs) z (suc i) p q pat qat = held_of Z ks xs z.1 i p q pat qat

module _ (A B : Automaton) (S : List Symbol) (theirs : List Rule) (pairs found Z : List Both) (L R : Row) (fs : List ℕ) (rs : List Rule)
    (joint : S ≡ joint_symbols A.symbols B.symbols) (f : StandFor S (HasRule A) (HasRule B) A.rules theirs) (c : IsClosed A.rules theirs pairs found)
    (few : length found ≤ 2000000) (rising : AllPairs Precedes Z) (distinct : AllPairs ◌≢◌ Z) (members : (x : Both) → Contains Z x ↔ Contains pairs x)
    (lefts : (q : ℕ) → Has L q ↔ Contains A.finals q) (rights : (q : ℕ) → Has R q ↔ Contains B.finals q) (finals : AreFinals Z L R (length Z) fs)
    (zip : AllZip (IsPairOf A.rules theirs Z) found rs) where
  abbrev U : Automaton
  U = record { bits = 0; name = codes "isect"; symbols = S; states = map pair_name Z; finals = fs; rules = rs }

  -- what is known of the rule at a place
  pub alike_at : (y : Both) (rule : Rule) → Contains found y → (m : IsPairOf A.rules theirs Z y rule) → AreAlike m.left m.right
  alike_at y rule h m =
      let k = c.fits y h in
      subst (AreAlike m.left) (at_unique theirs y.right k.right m.right k.right_at m.right_at)
      (subst (λ l. AreAlike l k.right) (at_unique A.rules y.left k.left m.left k.left_at m.left_at) k.alike)

  rule_out : (a : Symbol) (kids : List ℕ) (k : ℕ) → HasRule U a kids k → (xs : List Both) × (x : Both) × AllZip (IsAt Z) kids xs × IsAt Z k x
      × HasRule A a (map (λ x. x.left) xs) x.left × HasRule B a (map (λ x. x.right) xs) x.right
  unfolding IsRule
  rule_out a kids k (r, (n, label, at)) =
      let rule : Rule = record { symbol = n; kids = kids; parent = k } in
      let pair = zip_at (IsPairOf A.rules theirs Z) found rs r rule zip at in
      let y = pair.0 in
      let m = pair.2 in
      let alike = alike_at y rule (contains_at found r y pair.1) m in
      let here : IsAt S m.left.symbol a = subst (λ z. IsAt S z a) m.symbol (at_label U n a refl label) in
      let there : IsAt S m.right.symbol a = subst (λ z. IsAt S z a) alike.symbol here in (
        pairs_of m.left.kids m.right.kids,
        both m.left.parent m.right.parent,
        m.kids,
        m.parent,
        (f.left a (map (λ x. x.left) (pairs_of m.left.kids m.right.kids)) m.left.parent).1
            (y.left, m.left.symbol, here, subst (λ ks. IsAt A.rules y.left (record { symbol = m.left.symbol; kids = ks; parent = m.left.parent })) (sym (lefts_of m.left.kids m.right.kids alike.kids)) m.left_at),
        (f.right a (map (λ x. x.right) (pairs_of m.left.kids m.right.kids)) m.right.parent).1
            (y.right, m.right.symbol, there, subst (λ ks. IsAt theirs y.right (record { symbol = m.right.symbol; kids = ks; parent = m.right.parent })) (sym (rights_of m.left.kids m.right.kids alike.kids)) m.right_at),
      )

  found_in : (y : Both) → Contains found y ⊎ (2000000 < length found) → Contains found y
  found_in y (inl h) = h
  found_in y (inr l) = absurd (omega arith)

  rule_in : (a : Symbol) (kids : List ℕ) (k : ℕ) → ((xs : List Both) × (x : Both) × AllZip (IsAt Z) kids xs × IsAt Z k x
      × HasRule A a (map (λ x. x.left) xs) x.left × HasRule B a (map (λ x. x.right) xs) x.right) → HasRule U a kids k
  unfolding IsRule
  rule_in a kids k (xs, x, kz, kat, ha, hb) =
      let ps = map (λ x. x.left) xs in
      let qs = map (λ x. x.right) xs in
      let m = (f.left a ps x.left).0 ha in
      let n = (f.right a qs x.right).0 hb in
      let left : Rule = record { symbol = m.1; kids = ps; parent = x.left } in
      let right : Rule = record { symbol = n.1; kids = qs; parent = x.right } in
      let alike : AreAlike left right = lines_alike S (HasRule A) (HasRule B) A.rules theirs f a ps qs x.left x.right m n in
      let held : AreHeld pairs ps qs = λ i p q pat qat. (members (both p q)).0 (held_of Z kids xs kz i p q pat qat) in
      let in_found = found_in (both m.0 n.0) (c.whole m.0 n.0 left right m.3 n.3 alike held) in
      let place = place_of found (both m.0 n.0) in_found in
      let made = zip_right (IsPairOf A.rules theirs Z) found rs place.0 (both m.0 n.0) zip place.1 in
      let rule = made.0 in
      let p = made.2 in
      let is_left : p.left ≡ left = at_unique A.rules m.0 p.left left p.left_at m.3 in
      let is_right : p.right ≡ right = at_unique theirs n.0 p.right right p.right_at n.3 in
      let symbol : rule.symbol ≡ m.1 = p.symbol ∙ ap (λ (o : Rule). o.symbol) is_left in
      let row : AllZip (IsAt Z) rule.kids xs =
      subst (AllZip (IsAt Z) rule.kids) (pairs_again xs)
      (subst (λ (o : Rule). AllZip (IsAt Z) rule.kids (pairs_of ps o.kids)) is_right (subst (λ (o : Rule). AllZip (IsAt Z) rule.kids (pairs_of o.kids p.right.kids)) is_left p.kids)) in
      let same : rule.kids ≡ kids = same_places Z distinct rule.kids kids xs row kz in
      let top : IsAt Z rule.parent x =
      subst (λ (o : Rule). IsAt Z rule.parent (both x.left o.parent)) is_right (subst (λ (o : Rule). IsAt Z rule.parent (both o.parent p.right.parent)) is_left p.parent) in
      let parent : rule.parent ≡ k = at_distinct Z rule.parent k x distinct top kat in
      let there : IsAt rs place.0 (record { symbol = m.1; kids = kids; parent = k }) =
      subst (λ z. IsAt rs place.0 (record { symbol = m.1; kids = kids; parent = z })) parent
      (subst (λ z. IsAt rs place.0 (record { symbol = m.1; kids = z; parent = rule.parent })) same
      (subst (λ z. IsAt rs place.0 (record { symbol = z; kids = rule.kids; parent = rule.parent })) symbol made.1)) in
      (place.0, (m.1, label_at U m.1 a refl m.2, there))

  pub multiplies : IsNarrow A → IsAutomaton U → MultipliesTo A B U Z
  multiplies narrow fitting = record {
    bits = sym narrow;
    name = refl;
    symbols = λ n. joint;
    rising = rising;
    reached = λ x.
        let t = together_exactly S (HasRule A) (HasRule B) A.rules theirs f x in
        (λ h. t.0 ((c.exact x).0 ((members x).0 h)), λ h. (members x).1 ((c.exact x).1 (t.1 h)));
    states = refl;
    finals = λ k. (
      λ h. let g = (finals.members k).0 h in (g.1.0, g.1.1, (lefts g.1.0.left).0 g.1.2, (rights g.1.0.right).0 g.1.3),
      λ (x, at, l, r). (finals.members k).1 (slice_get_within Z k x at, (x, at, (lefts x.left).1 l, (rights x.right).1 r)),
    );
    rules = λ a kids k. (rule_out a kids k, rule_in a kids k);
    fitting = fitting;
  }
