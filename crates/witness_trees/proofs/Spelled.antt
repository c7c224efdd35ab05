-- What is printed is read again, part by part.
use Rattle.std.proofs.Common.{◌≡◌, ◌≢◌, ℕ, zero, suc, ◌+◌, ◌-◌, ◌^◌, ◌<◌, Bool, true, false, cond, List, [], ◌∷◌, ◌++◌, length, get_or, map, Option, Some, None, refl, sym, ap, ap₂, ◌∙◌, append_assoc, append-nil, arith, rules}
use Rattle.std.specs.Prelude.{option_map, All, AllPairs, ◌&&◌, ◌==◌, nat_le}
use Rattle.std.specs.List.{AllByRecursion, list_all, flat_map}
use Rattle.std.specs.Fmt.{decimal}
use Rattle.std.specs.Str.{bytes_eq}
use Rattle.std.proofs.lemmas.Bool.{eq-eqb, ne_eqb, le-leb}
use Rattle.std.proofs.lemmas.Fmt.{digits_decimal, digits_value-decimal, first_decimal}
use Rattle.std.proofs.lemmas.Str.Parse.{IsNumeralModel, numerals_by_fold}
use Rattle.std.specs.Option.{option_map_or}
use Rattle.std.proofs.lemmas.Option.{slice_get_within, get_or_from_slice_get}
use Rattle.std.proofs.lemmas.List.{length-map}
use Rattle.std.proofs.lemmas.List.Elements.{All-from_recursion, recursion_from_All, All-contains}
use Rattle.std.proofs.lemmas.List.Splits.{slice_split_none, slice_split_at}
use Rattle.tree_definitions.specs.Name.{IsName, is_name_byte}
use Rattle.tree_definitions.specs.Tree.{Symbol}
use Rattle.tree_definitions.specs.Relation.{IsAt}
use Rattle.tree_definitions.specs.Witness.{NodeRow, FitsNode}
use Rattle.witness_trees.specs.NodesText.{name_at, number_text, kids_text}
use Rattle.witness_trees.specs.Judged.{Is, BadAt, ◌>>=◌, is_nil, cut_at, is_digit, is_number, number_after, number_of, pieces_at, numbers_in, kids_in, call_of, call_in, Written, written_in, place_in, is_in_order, named_node, written_node, node_in}
use Rattle.tree_definitions.proofs.Members.{contains_at}
use Rattle.witness_trees.proofs.Symbols.{and_parts, and_both, same_symbol, symbol_test}

-- the byte c doesn't stand in it
abbrev pub IsFree : ℕ → List ℕ → Type 0
IsFree c word = AllByRecursion (λ b. (b == c) ≡ false) word

-- a byte that fails a test doesn't stand where all pass
pub free_of : (p : ℕ → Bool) (c : ℕ) → p c ≡ false → (word : List ℕ) → list_all p word ≡ true → IsFree c word
free_of p c bad [] e = tt
free_of p c bad (b ∷ word) e =
    let both = and_parts (p b) (list_all p word) e in
    (ne_eqb b c (λ same. let t : true ≡ false = sym both.0 ∙ ap p same ∙ bad in absurd cc), free_of p c bad word both.1)

pub free_append : (c : ℕ) (xs ys : List ℕ) → IsFree c xs → IsFree c ys → IsFree c (xs ++ ys)
free_append c [] ys a b = b
free_append c (x ∷ xs) ys a b = (a.0, free_append c xs ys a.1 b)

pub name_bytes : (n : List ℕ) → IsName n → list_all is_name_byte n ≡ true
name_bytes n h = (and_parts _ _ (and_parts _ _ (and_parts _ _ h).0).0).1

pub name_free : (c : ℕ) → is_name_byte c ≡ false → (n : List ℕ) → IsName n → IsFree c n
name_free c bad n h = free_of is_name_byte c bad n (name_bytes n h)

pub cut_free : (c : ℕ) (xs ys : List ℕ) → IsFree c xs → cut_at c (xs ++ c ∷ ys) ≡ Some (xs, ys)
cut_free c [] ys free = ap (λ t. cond t (Some ([], ys)) (option_map (λ p. (c ∷ p.0, p.1)) (cut_at c ys))) (eq-eqb c c refl)
cut_free c (x ∷ xs) ys free =
    ap (λ t. cond t (Some ([], xs ++ c ∷ ys)) (option_map (λ p. (x ∷ p.0, p.1)) (cut_at c (xs ++ c ∷ ys)))) free.0
    ∙ ap (option_map (λ p. (x ∷ p.0, p.1))) (cut_free c xs ys free.1)

pub cut_nowhere : (c : ℕ) (xs : List ℕ) → IsFree c xs → cut_at c xs ≡ None
cut_nowhere c [] free = refl
cut_nowhere c (x ∷ xs) free =
    ap (λ t. cond t (Some ([], xs)) (option_map (λ p. (x ∷ p.0, p.1)) (cut_at c xs))) free.0 ∙ ap (option_map (λ p. (x ∷ p.0, p.1))) (cut_nowhere c xs free.1)

-- numbers
pub numeral : IsNumeralModel (λ ds. list_all is_digit ds ≡ true) (number_after 0)
numeral = numerals_by_fold _ (search rules) number_after (search rules)

pub decimal_digits : (n : ℕ) → n < 2 ^ 64 → list_all is_digit (decimal n) ≡ true
decimal_digits n h = digits_decimal numeral n h

pub decimal_value : (n : ℕ) → n < 2 ^ 64 → number_of (decimal n) ≡ n
decimal_value n h = digits_value-decimal numeral n h

number_from_digits : (ds : List ℕ) → list_all is_digit ds ≡ true → 48 < get_or ds 0 0 → is_number ds ≡ true
number_from_digits [] all first = absurd (omega arith)
number_from_digits (d ∷ ds) all first = ap (λ t. cond t (is_nil ds) (list_all is_digit (d ∷ ds))) (ne_eqb d 48 (λ e. omega arith)) ∙ all

pub decimal_number : (n : ℕ) → 0 < n → n < 2 ^ 64 → is_number (decimal n) ≡ true
decimal_number n one h = number_from_digits (decimal n) (decimal_digits n h) (first_decimal n one h)

pub number_free : (c : ℕ) → is_digit c ≡ false → (n : ℕ) → n < 2 ^ 64 → IsFree c (decimal n)
number_free c bad n h = free_of is_digit c bad (decimal n) (decimal_digits n h)

-- words with commas between them
pub one_piece : (c : ℕ) (word : List ℕ) → IsFree c word → pieces_at c word ≡ word ∷ []
one_piece c word free = slice_split_none (λ b. b == c) word (All-from_recursion _ word free)

pub next_piece : (c : ℕ) (word more : List ℕ) → IsFree c word → pieces_at c (word ++ c ∷ more) ≡ word ∷ pieces_at c more
next_piece c word more free = slice_split_at (λ b. b == c) word c more (All-from_recursion _ word free) (eq-eqb c c refl)

-- numbers that fit 64 bits
abbrev pub AreSmall : List ℕ → Type 0
AreSmall ks = AllByRecursion (λ k. suc k < 2 ^ 64) ks

pieces_back : (k : ℕ) (ks : List ℕ) → suc k < 2 ^ 64 → AreSmall ks → pieces_at 44 (number_text k ++ flat_map (λ j. 44 ∷ number_text j) ks) ≡ map number_text (k ∷ ks)
pieces_back k [] small all = ap (pieces_at 44) (append-nil (number_text k)) ∙ one_piece 44 (number_text k) (number_free 44 refl (suc k) small)
pieces_back k (j ∷ ks) small all =
    next_piece 44 (number_text k) (number_text j ++ flat_map (λ i. 44 ∷ number_text i) ks) (number_free 44 refl (suc k) small) ∙ ap (λ l. number_text k ∷ l) (pieces_back j ks all.0 all.1)

all_numbers : (ks : List ℕ) → AreSmall ks → list_all is_number (map number_text ks) ≡ true
all_numbers [] all = refl
all_numbers (k ∷ ks) all = and_both _ _ (decimal_number (suc k) (omega arith) all.0) (all_numbers ks all.1)

all_values : (ks : List ℕ) → AreSmall ks → map number_of (map number_text ks) ≡ map suc ks
all_values [] all = refl
all_values (k ∷ ks) all = ap₂ (λ m ms. m ∷ ms) (decimal_value (suc k) all.0) (all_values ks all.1)

numbers_back : (k : ℕ) (ks : List ℕ) → suc k < 2 ^ 64 → AreSmall ks → numbers_in (number_text k ++ flat_map (λ j. 44 ∷ number_text j) ks) ≡ Some (map suc (k ∷ ks))
unfolding numbers_in
numbers_back k ks small all =
    ap (λ ws. cond (list_all is_number ws) (Some (map number_of ws)) None) (pieces_back k ks small all)
    ∙ ap (λ t. cond t (Some (map number_of (map number_text (k ∷ ks)))) None) (all_numbers (k ∷ ks) (small, all))
    ∙ ap Some (all_values (k ∷ ks) (small, all))

commas_free : (c : ℕ) → is_digit c ≡ false → (44 == c) ≡ false → (ks : List ℕ) → AreSmall ks → IsFree c (flat_map (λ j. 44 ∷ number_text j) ks)
commas_free c bad comma [] all = tt
commas_free c bad comma (k ∷ ks) all = (comma, free_append c (number_text k) _ (number_free c bad (suc k) all.0) (commas_free c bad comma ks all.1))

pub inner_free : (c : ℕ) → is_digit c ≡ false → (44 == c) ≡ false → (k : ℕ) (ks : List ℕ) → suc k < 2 ^ 64 → AreSmall ks → IsFree c (number_text k ++ flat_map (λ j. 44 ∷ number_text j) ks)
inner_free c bad comma k ks small all = free_append c (number_text k) _ (number_free c bad (suc k) small) (commas_free c bad comma ks all)

kids_back : (k : ℕ) (ks : List ℕ) → suc k < 2 ^ 64 → AreSmall ks → kids_in (number_text k ++ flat_map (λ j. 44 ∷ number_text j) ks ++ 41 ∷ []) ≡ Some (map suc (k ∷ ks))
unfolding kids_in
kids_back k ks small all =
    ap (λ o. o >>= λ p. cond (is_nil p.1) (numbers_in p.0) None) (cut_free 41 (number_text k ++ flat_map (λ j. 44 ∷ number_text j) ks) [] (inner_free 41 refl refl k ks small all))
    ∙ numbers_back k ks small all

-- a name and children
pub call_back : (name : List ℕ) (ks : List ℕ) → IsName name → AreSmall ks → call_in (name ++ kids_text ks) ≡ Some (name, map suc ks)
unfolding call_in
call_back name [] h all =
    ap (λ bytes. call_of bytes (cut_at 40 bytes)) (append-nil name) ∙ ap (call_of name) (cut_nowhere 40 name (name_free 40 refl name h)) ∙ ap (λ t. cond t (Some (name, [])) None) h
call_back name (k ∷ ks) h all =
    ap (call_of (name ++ kids_text (k ∷ ks))) (cut_free 40 name (number_text k ++ flat_map (λ j. 44 ∷ number_text j) ks ++ 41 ∷ []) (name_free 40 refl name h))
    ∙ ap (λ t. cond t (kids_in (number_text k ++ flat_map (λ j. 44 ∷ number_text j) ks ++ 41 ∷ []) >>= λ kids. Some (name, kids)) None) h
    ∙ ap (λ o. o >>= λ kids. Some (name, kids)) (kids_back k ks all.0 all.1)

-- the line of node k, without its line feed
abbrev pub line_text : ℕ → List ℕ → List ℕ → List ℕ
line_text k name ks = number_text k ++ 32 ∷ name ++ kids_text ks

pub written_back : (k : ℕ) (name : List ℕ) (ks : List ℕ) → suc k < 2 ^ 64 → IsName name → AreSmall ks → written_in (line_text k name ks) ≡ Some (record { number = suc k; place = length (number_text k) + 1; name = name; kids = map suc ks })
unfolding written_in
written_back k name ks small h all =
    ap (λ l. cut_at 32 l >>= from) (append_assoc (number_text k) (32 ∷ name) (kids_text ks))
    ∙ ap (λ o. o >>= from) (cut_free 32 (number_text k) (name ++ kids_text ks) (number_free 32 refl (suc k) small))
    ∙ ap (λ t. cond t (call_in (name ++ kids_text ks) >>= λ c. Some (made (number_of (number_text k)) (length (number_text k)) c.0 c.1)) None) (decimal_number (suc k) (omega arith) small)
    ∙ ap (λ o. o >>= λ c. Some (made (number_of (number_text k)) (length (number_text k)) c.0 c.1)) (call_back name ks h all)
    ∙ ap (λ n. Some (made n (length (number_text k)) name (map suc ks))) (decimal_value (suc k) small)
  where
    made : ℕ → ℕ → List ℕ → List ℕ → Written
    made n l name ks = record { number = n; place = l + 1; name = name; kids = ks }

    from : List ℕ × List ℕ → Option Written
    from p = cond (is_number p.0) (call_in p.1 >>= λ c. Some (made (number_of p.0) (length p.0) c.0 c.1)) None

no_test : (x a : Symbol) → x ≢ a → (bytes_eq x.name a.name && (x.rank == a.rank)) ≡ false
no_test x a other = go (bytes_eq x.name a.name && (x.rank == a.rank)) refl
  where
    go : (t : Bool) → (bytes_eq x.name a.name && (x.rank == a.rank)) ≡ t → t ≡ false
    go true e = absurd (other (same_symbol x a e))
    go false e = refl

-- the place of a symbol among distinct ones
pub place_back : (symbols : List Symbol) (i : ℕ) (a : Symbol) → AllPairs ◌≢◌ symbols → IsAt symbols i a → place_in symbols a.name a.rank ≡ Some i
place_back [] i a apart at = absurd cc
place_back (x ∷ xs) zero a apart at =
    let same : x ≡ a = cc in
    ap (λ t. cond t (Some 0) (option_map suc (place_in xs a.name a.rank))) (symbol_test x a same)
place_back (x ∷ xs) (suc i) a apart at =
    let within = slice_get_within xs i a at in
    let other : x ≢ a = λ e. apart 0 (suc i) a (omega arith) (omega arith) (e ∙ sym (get_or_from_slice_get xs i a a at)) in
    ap (λ t. cond t (Some 0) (option_map suc (place_in xs a.name a.rank))) (no_test x a other)
    ∙ ap (option_map suc) (place_back xs i a (λ p q d lt in_range. apart (suc p) (suc q) d (omega arith) (omega arith)) at)

pub suc_within : (k : ℕ) (ks : List ℕ) → AllByRecursion (λ j. j < k) ks → list_all (λ n. nat_le 1 n && nat_le n k) (map suc ks) ≡ true
suc_within k [] h = refl
suc_within k (j ∷ ks) h = and_both _ _ (and_both _ _ (le-leb 1 (suc j) (omega arith)) (le-leb (suc j) k (omega (arith, h.0)))) (suc_within k ks h.1)

pub pred_suc : (ks : List ℕ) → map (λ n. n - 1) (map suc ks) ≡ ks
pred_suc [] = refl
pred_suc (k ∷ ks) = ap₂ (λ m ms. m ∷ ms) (omega arith) (pred_suc ks)

pub small_earlier : (k : ℕ) → suc k < 2 ^ 64 → (ks : List ℕ) → AllByRecursion (λ j. j < k) ks → AreSmall ks
small_earlier k small [] h = tt
small_earlier k small (j ∷ ks) h = (omega (arith, h.0), small_earlier k small ks h.1)

pub name_found : (symbols : List Symbol) (i : ℕ) (a : Symbol) → IsAt symbols i a → name_at symbols i ≡ a.name
name_found symbols i a at = ap (λ o. option_map_or (λ (x : Symbol). x.name) o []) at

-- a printed line is judged as its node
pub node_back : (symbols : List Symbol) (k at : ℕ) (node : NodeRow) → AllPairs ◌≢◌ symbols → All (λ a. IsName a.name) symbols → suc k < 2 ^ 64 → FitsNode symbols k node → node_in symbols k at (line_text k (name_at symbols node.symbol) node.kids) ≡ Is node
unfolding node_in
node_back symbols k at node apart names small fits =
    let a = fits.symbol.0 in
    let earlier = recursion_from_All (λ j. j < k) node.kids fits.earlier in
    let name : name_at symbols node.symbol ≡ a.name = name_found symbols node.symbol a fits.symbol.1 in
    let named : IsName a.name = All-contains (λ (x : Symbol). IsName x.name) symbols a names (contains_at symbols node.symbol a fits.symbol.1) in
    let w : Written = record { number = suc k; place = length (number_text k) + 1; name = a.name; kids = map suc node.kids } in
    let rank : length (map suc node.kids) ≡ a.rank = length-map node.kids suc ∙ fits.symbol.2 in
    let found : place_in symbols a.name (length (map suc node.kids)) ≡ Some node.symbol = ap (place_in symbols a.name) rank ∙ place_back symbols node.symbol a apart fits.symbol.1 in
    let number : (suc k == k + 1) ≡ true = eq-eqb (suc k) (k + 1) (omega arith) in
    let order : is_in_order k w ≡ true = and_both _ _ number (suc_within k node.kids earlier) in
    ap (λ n. written_node symbols k at (written_in (line_text k n node.kids))) name
    ∙ ap (written_node symbols k at) (written_back k a.name node.kids small named (small_earlier k small node.kids earlier))
    ∙ ap (named_node k at w) found
    ∙ ap (λ t. cond t (Is (made (map (λ n. n - 1) (map suc node.kids)))) (BadAt at)) order
    ∙ ap (λ ks. Is (made ks)) (pred_suc node.kids)
  where
    made : List ℕ → NodeRow
    made ks = record { symbol = node.symbol; kids = ks }
