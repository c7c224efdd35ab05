-- Symbols that are looked up in a list of distinct ones.
use Rattle.std.proofs.Common.{◌≡◌, ◌≢◌, ℕ, ◌<◌, ◌≤◌, true, false, cond, List, [], ◌∷◌, ◌++◌, length, length-append, length-take, take, get_or, Option, Some, None, Contains, refl, sym, ap, ◌∙◌, subst, ⊎_elim, arith}
use Rattle.std.specs.Prelude.{AllPairs, IfSome, IfNone}
use Rattle.std.specs.List.{position, list_any}
use Rattle.std.proofs.lemmas.Bool.{cases_Bool}
use Rattle.std.proofs.lemmas.List.{get_or_default, get_or-take}
use Rattle.std.proofs.lemmas.List.Quantifiers.{position-Some, all_pairs_push}
use Rattle.std.proofs.lemmas.List.Elements.{All-contains, All-push}
use Rattle.std.proofs.lemmas.List.Folds.{list_any_at}
use Rattle.std.proofs.lemmas.Option.{slice_get-get_or}
use Rattle.indexmap.proofs.CallerLemmas.{Contains-list_any}
use Rattle.tree_definitions.specs.Tree.{Symbol}
use Rattle.tree_definitions.specs.Joint.{same_symbol}
use Rattle.tree_definitions.specs.Relation.{IsAt}
use Rattle.tree_definitions.proofs.Members.{contains_at}
use Rattle.witness_trees.specs.Judged.{place_in}
use Rattle.witness_trees.specs.Nodes.{AreSymbols}
use Rattle.witness_trees.proofs.Lines.{place_means}
use Rattle.witness_trees.proofs.Spelled.{place_back}
use Rattle.witness_trees.proofs.Symbols.{same_symbol as is_same, symbol_test}

-- the first place that passes the test is the symbol's
pub position_finds : (xs : List Symbol) (x : Symbol) (i : ℕ) → position (same_symbol x) xs ≡ Some i → IsAt xs i x
position_finds xs x i e =
    let at = position-Some (same_symbol x) xs i x e in
    slice_get-get_or xs i x at.0 ∙ ap Some (sym (is_same x (get_or xs i x) at.1))

pub any_member : (xs : List Symbol) (x : Symbol) → Contains xs x → list_any (same_symbol x) xs ≡ true
any_member xs x h = list_any_at (same_symbol x) xs h.0 x h.1 (symbol_test x (get_or xs h.0 x) (sym h.2))

pub member_any : (xs : List Symbol) (x : Symbol) → list_any (same_symbol x) xs ≡ true → Contains xs x
member_any xs x e = Contains-list_any same_symbol is_same xs x e

-- a copy of a symbol that the list lacks is put behind the others
pub appended : (old new : List Symbol) (copy s : Symbol) → copy ≡ s → (Contains old s → ⊥)
    → new ≡ cond (list_any (same_symbol copy) old) old (old ++ copy ∷ []) → new ≡ old ++ s ∷ []
appended old new copy s is lacks keys =
    ⊎_elim
    (λ (t : list_any (same_symbol copy) old ≡ true). absurd (lacks (subst (Contains old) is (member_any old copy t))))
    (λ (f : list_any (same_symbol copy) old ≡ false). keys ∙ ap (λ b. cond b old (old ++ copy ∷ [])) f ∙ ap (λ x. old ++ x ∷ []) is)
    (cases_Bool (list_any (same_symbol copy) old))

pub still_symbols : (old : List Symbol) (s : Symbol) → AreSymbols old → (Contains old s → ⊥) → length old < 4294967294 → s.rank ≤ 255 → AreSymbols (old ++ s ∷ [])
still_symbols old s h lacks room small = record {
  distinct = all_pairs_push ◌≢◌ old s h.distinct (λ k d l e. lacks (k, l, get_or_default old k s d l ∙ e));
  few = simp length-append (omega arith);
  ranks = All-push (λ (a : Symbol). a.rank ≤ 255) old s h.ranks small;
}

-- a symbol of distinct ones doesn't stand before itself
pub not_before : (ys : List Symbol) (i : ℕ) (y : Symbol) → AllPairs ◌≢◌ ys → i < length ys → y ≡ get_or ys i y → Contains (take i ys) y → ⊥
not_before ys i y apart l at h =
    let k : h.0 < i = omega (arith, length-take i ys, h.1) in
    apart h.0 i y k l (sym (get_or-take i ys h.0 y k) ∙ h.2 ∙ at)

-- no symbol has a rank past one byte
pub none_so_wide : (symbols : List Symbol) (name : List ℕ) (rank : ℕ) → AreSymbols symbols → 255 < rank → None ≡ place_in symbols name rank
none_so_wide symbols name rank h wide = go (place_in symbols name rank) refl
  where
    go : (place : Option ℕ) → place_in symbols name rank ≡ place → None ≡ place_in symbols name rank
    go None e = sym e
    go (Some i) e =
        let a = place_means symbols name rank i e in
        let small : a.0.rank ≤ 255 = All-contains (λ (s : Symbol). s.rank ≤ 255) symbols a.0 h.ranks (contains_at symbols i a.0 a.1) in
        absurd (omega (arith, a.2, small))

-- what is found is the place of the name and the rank
pub found_called : (symbols : List Symbol) (a : Symbol) (place : Option ℕ) → AreSymbols symbols → IfSome place (λ i. IsAt symbols i a) → IfNone place (Contains symbols a → ⊥)
    → place ≡ place_in symbols a.name a.rank
found_called symbols a (Some i) h at lacks = sym (place_back symbols i a h.distinct at)
found_called symbols a None h at lacks = go (place_in symbols a.name a.rank) refl
  where
    go : (place : Option ℕ) → place_in symbols a.name a.rank ≡ place → None ≡ place_in symbols a.name a.rank
    go None e = sym e
    go (Some i) e =
        let b = place_means symbols a.name a.rank i e in
        let same : b.0 ≡ a = (λ j. record { name = b.3 j; rank = sym b.2 j }) in
        absurd (lacks (subst (Contains symbols) same (contains_at symbols i b.0 b.1)))
