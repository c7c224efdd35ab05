-- The rules of two automata over their joint symbols.
use Rattle.std.proofs.Common.{◌≡◌, ◌≢◌, ℕ, zero, suc, List, [], ◌∷◌, ◌++◌, map, length, get_or, Some, refl, sym, ap, subst}
use Rattle.std.specs.Prelude.{AllPairs}
use Rattle.std.specs.List.{AllZip}
use Rattle.std.proofs.lemmas.List.Elements.{All-contains}
use Rattle.std.proofs.lemmas.Option.{get_or_from_slice_get}
use Rattle.tree_definitions.specs.Tree.{Symbol}
use Rattle.tree_definitions.specs.Automaton.{Automaton, Rule, IsRule, HasRule, IsAutomaton, FitsRule}
use Rattle.tree_definitions.specs.Relation.{IsAt}
use Rattle.tree_definitions.specs.Joint.{joint_symbols}
use Rattle.tree_definitions.proofs.Listing.{label_at, at_label}
use Rattle.tree_definitions.proofs.Members.{at_unique, contains_at}
use Rattle.ta_model.specs.Listing.{IsListed}
use Rattle.bool_ops.specs.Joined.{renumbered, HasLine, StandFor}

at_longer : {X : Type 0} (xs ys : List X) (i : ℕ) (x : X) → IsAt xs i x → IsAt (xs ++ ys) i x
at_longer [] ys i x e = absurd cc
at_longer (z ∷ xs) ys zero x e = e
at_longer (z ∷ xs) ys (suc i) x e = at_longer xs ys i x e

pub at_map : {X Y : Type 0} (f : X → Y) (xs : List X) (i : ℕ) (x : X) → IsAt xs i x → IsAt (map f xs) i (f x)
at_map f [] i x e = absurd cc
at_map f (z ∷ xs) zero x e = let d : z ≡ x = cc in ap (λ y. Some (f y)) d
at_map f (z ∷ xs) (suc i) x e = at_map f xs i x e

pub from_map : {X Y : Type 0} (f : X → Y) (xs : List X) (i : ℕ) (y : Y) → IsAt (map f xs) i y → (x : X) × IsAt xs i x × (f x ≡ y)
from_map f [] i y e = absurd cc
from_map f (z ∷ xs) zero y e = let d : f z ≡ y = cc in (z, refl, d)
from_map f (z ∷ xs) (suc i) y e = from_map f xs i y e

pub zip_at : {X Y : Type 0} (R : X → Y → Type 0) (xs : List X) (ys : List Y) (i : ℕ) (y : Y) → AllZip R xs ys → IsAt ys i y → (x : X) × IsAt xs i x × R x y
zip_at R [] [] i y z e = absurd cc
zip_at R [] (b ∷ ys) i y z e = absurd z
zip_at R (a ∷ xs) [] i y z e = absurd z
zip_at R (a ∷ xs) (b ∷ ys) zero y z e = let d : b ≡ y = cc in (a, refl, subst (R a) d z.0)
zip_at R (a ∷ xs) (b ∷ ys) (suc i) y z e = zip_at R xs ys i y z.1 e

pub fits_at : (A : Automaton) → IsAutomaton A → (r : ℕ) (rule : Rule) → IsAt A.rules r rule → FitsRule A rule
fits_at A fits r rule at = All-contains (FitsRule A) A.rules rule fits.fitting (contains_at A.rules r rule at)

module _ (A B : Automaton) (symbols : List Symbol) (numbers : List ℕ) (ours : IsListed A) (theirs : IsListed B) (joint : symbols ≡ joint_symbols A.symbols B.symbols)
    (distinct : AllPairs ◌≢◌ symbols) (zip : AllZip (IsAt symbols) numbers B.symbols) where
  pub left_symbol : (k : ℕ) (a : Symbol) → IsAt A.symbols k a → IsAt symbols k a
  left_symbol k a h = subst (λ s. IsAt s k a) (sym joint) (at_longer A.symbols _ k a h)

  pub right_symbol : (k : ℕ) (a : Symbol) → IsAt B.symbols k a → IsAt symbols (get_or numbers k 0) a
  right_symbol k a h =
      let n = zip_at (IsAt symbols) numbers B.symbols k a zip h in
      subst (λ z. IsAt symbols z a) (sym (get_or_from_slice_get numbers k n.0 0 n.1)) n.2

  left_in : (a : Symbol) (kids : List ℕ) (q : ℕ) → HasRule A a kids q → HasLine symbols A.rules a kids q
  unfolding IsRule
  left_in a kids q (r, (k, label, at)) = (r, k, left_symbol k a (at_label A k a ours.narrow label), at)

  left_out : (a : Symbol) (kids : List ℕ) (q : ℕ) → HasLine symbols A.rules a kids q → HasRule A a kids q
  unfolding IsRule
  left_out a kids q (r, k, here, at) =
      let b = (fits_at A ours.automaton r (record { symbol = k; kids = kids; parent = q }) at).symbol in
      let same : b.0 ≡ a = at_unique symbols k b.0 a (left_symbol k b.0 b.1) here in
      (r, (k, label_at A k a ours.narrow (subst (IsAt A.symbols k) same b.1), at))

  right_in : (a : Symbol) (kids : List ℕ) (q : ℕ) → HasRule B a kids q → HasLine symbols (map (renumbered numbers) B.rules) a kids q
  unfolding IsRule
  right_in a kids q (r, (k, label, at)) =
      (r, get_or numbers k 0, right_symbol k a (at_label B k a theirs.narrow label), at_map (renumbered numbers) B.rules r (record { symbol = k; kids = kids; parent = q }) at)

  right_out : (a : Symbol) (kids : List ℕ) (q : ℕ) → HasLine symbols (map (renumbered numbers) B.rules) a kids q → HasRule B a kids q
  unfolding IsRule
  right_out a kids q (r, n, here, at) =
      let m = from_map (renumbered numbers) B.rules r (record { symbol = n; kids = kids; parent = q }) at in
      let line = m.0 in
      let b = (fits_at B theirs.automaton r line m.1).symbol in
      let number : get_or numbers line.symbol 0 ≡ n = ap (λ (o : Rule). o.symbol) m.2 in
      let same : b.0 ≡ a = at_unique symbols n b.0 a (subst (λ z. IsAt symbols z b.0) number (right_symbol line.symbol b.0 b.1)) here in
      let ks : line.kids ≡ kids = ap (λ (o : Rule). o.kids) m.2 in
      let ps : line.parent ≡ q = ap (λ (o : Rule). o.parent) m.2 in
      let there : IsAt B.rules r (record { symbol = line.symbol; kids = kids; parent = q }) =
      subst (λ z. IsAt B.rules r (record { symbol = line.symbol; kids = kids; parent = z })) ps
      (subst (λ z. IsAt B.rules r (record { symbol = line.symbol; kids = z; parent = line.parent })) ks m.1) in
      (r, (line.symbol, label_at B line.symbol a theirs.narrow (subst (IsAt B.symbols line.symbol) same b.1), there))

  pub stand_for : StandFor symbols (HasRule A) (HasRule B) A.rules (map (renumbered numbers) B.rules)
  stand_for = record {
    distinct = distinct;
    left = λ a kids q. (left_in a kids q, left_out a kids q);
    right = λ a kids q. (right_in a kids q, right_out a kids q);
    left_fits = λ r rule at. let f = (fits_at A ours.automaton r rule at).symbol in (f.0, left_symbol rule.symbol f.0 f.1, f.2);
    right_fits = λ s rule at.
        let m = from_map (renumbered numbers) B.rules s rule at in
        let f = (fits_at B theirs.automaton s m.0 m.1).symbol in (
          f.0,
          subst (λ (o : Rule). IsAt symbols o.symbol f.0) m.2 (right_symbol m.0.symbol f.0 f.1),
          subst (λ (o : Rule). length o.kids ≡ f.0.rank) m.2 f.2,
        );
  }
