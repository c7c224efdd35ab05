-- The test whether two symbols are the same.
use Rattle.std.proofs.Common.{◌≡◌, true, false, Bool, refl, ap, eqb}
use Rattle.std.specs.Prelude.{◌&&◌}
use Rattle.std.specs.Str.{bytes_eq}
use Rattle.std.proofs.lemmas.Bool.{eqb-true, eq-eqb}
use Rattle.std.proofs.lemmas.Slice.Eq.{bytes_eq-Decides}
use Rattle.tree_definitions.specs.Tree.{Symbol}

pub and_parts : (x y : Bool) → (x && y) ≡ true → (x ≡ true) × (y ≡ true)
and_parts true y h = (refl, h)
and_parts false y h = absurd cc

pub and_both : (x y : Bool) → x ≡ true → y ≡ true → (x && y) ≡ true
and_both true y h k = k
and_both false y h k = absurd cc

pub same_symbol : (a b : Symbol) → (bytes_eq a.name b.name && eqb a.rank b.rank) ≡ true → a ≡ b
same_symbol a b h =
    let p = and_parts (bytes_eq a.name b.name) (eqb a.rank b.rank) h in
    let e = (bytes_eq-Decides a.name b.name).0 p.0 in
    let f = eqb-true a.rank b.rank p.1 in
    λ i. record { name = e i; rank = f i }

pub symbol_test : (a b : Symbol) → a ≡ b → (bytes_eq a.name b.name && eqb a.rank b.rank) ≡ true
symbol_test a b e =
    and_both (bytes_eq a.name b.name) (eqb a.rank b.rank) ((bytes_eq-Decides a.name b.name).1 (ap (λ (x : Symbol). x.name) e)) (eq-eqb a.rank b.rank (ap (λ (x : Symbol). x.rank) e))
