-- What reading says of a text of nodes.
use Rattle.std.specs.Prelude.{ℕ, zero, suc, ◌+◌, ◌-◌, ◌*◌, Bool, true, false, ◌&&◌, ◌==◌, nat_le, nat_eq, List, [], ◌∷◌, ◌++◌, length, map, drop, codes, Option, Some, None, option_map, option_and_then, if◌then◌else◌}
use Rattle.std.specs.List.{list_all, slice_split, starts_with}
use Rattle.std.specs.Str.{bytes_eq}
use Rattle.tree_definitions.specs.Name.{is_name}
use Rattle.tree_definitions.specs.Tree.{Symbol}
use Rattle.tree_definitions.specs.Witness.{NodeRow}

infixl 10 ◌>>=◌
abbrev pub ◌>>=◌ : {A B : Type 0} → Option A → (A → Option B) → Option B
o >>= f = option_and_then f o

-- the text is this, or it fails at a byte: by its form, or by a name that is no symbol's
pub data Verdict (X : Type 0) : Type 0 where
  Is : X → Verdict X
  BadAt : ℕ → Verdict X
  UnknownAt : ℕ → Verdict X

-- what follows where the first part is right
abbrev pub then_judged : {X Y : Type 0} → Verdict X → (X → Verdict Y) → Verdict Y
then_judged (Is x) f = f x
then_judged (BadAt at) f = BadAt at
then_judged (UnknownAt at) f = UnknownAt at

abbrev pub is_nil : List ℕ → Bool
is_nil [] = true
is_nil (b ∷ bs) = false

-- the bytes before the first mark and those after it, where there is one
abbrev pub cut_at : ℕ → List ℕ → Option (List ℕ × List ℕ)
cut_at mark [] = None
cut_at mark (b ∷ bs) = if b == mark then Some ([], bs) else option_map (λ p. (b ∷ p.0, p.1)) (cut_at mark bs)

abbrev pub is_digit : ℕ → Bool
is_digit b = nat_le 48 b && nat_le b 57

-- decimal digits without a leading zero
abbrev pub is_number : List ℕ → Bool
is_number [] = false
is_number (d ∷ ds) = if d == 48 then is_nil ds else list_all is_digit (d ∷ ds)

-- the number with n before these digits
abbrev pub number_after : ℕ → List ℕ → ℕ
number_after n [] = n
number_after n (d ∷ ds) = number_after (10 * n + (d - 48)) ds

-- the number that digits write
abbrev pub number_of : List ℕ → ℕ
number_of ds = number_after 0 ds

-- the pieces between the marks
abbrev pub pieces_at : ℕ → List ℕ → List (List ℕ)
pieces_at mark bytes = slice_split (λ b. b == mark) bytes

-- numbers with commas between them
unfoldable pub numbers_in : List ℕ → Option (List ℕ)
numbers_in bytes =
    let words = pieces_at 44 bytes in if list_all is_number words then Some (map number_of words) else None

-- what stands after an opening parenthesis: numbers, and the closing one at the end
unfoldable pub kids_in : List ℕ → Option (List ℕ)
kids_in bytes = cut_at 41 bytes >>= λ p. if is_nil p.1 then numbers_in p.0 else None

-- a node's line as written: its number, where its symbol's name stands and which it is, and the numbers of its children
pub record Written : Type 0 where
  pub number : ℕ
  pub place : ℕ
  pub name : List ℕ
  pub kids : List ℕ

-- a name alone, or a name and children
abbrev pub call_of : List ℕ → Option (List ℕ × List ℕ) → Option (List ℕ × List ℕ)
call_of bytes None = if is_name bytes then Some (bytes, []) else None
call_of bytes (Some p) = if is_name p.0 then (kids_in p.1 >>= λ kids. Some (p.0, kids)) else None

unfoldable pub call_in : List ℕ → Option (List ℕ × List ℕ)
call_in bytes = call_of bytes (cut_at 40 bytes)

-- the line, where its spelling is that of a node: a number, a space, a name, and children where there are some
unfoldable pub written_in : List ℕ → Option Written
written_in line = cut_at 32 line >>= λ p. if is_number p.0 then (call_in p.1 >>= λ c. Some (record {
  number = number_of p.0;
  place = length p.0 + 1;
  name = c.0;
  kids = c.1;
})) else None

-- the place of the symbol with this name and rank
abbrev pub place_in : List Symbol → List ℕ → ℕ → Option ℕ
place_in [] name rank = None
place_in (a ∷ rest) name rank = if bytes_eq a.name name && (a.rank == rank) then Some 0 else option_map suc (place_in rest name rank)

-- the number is that of node k, counted from 1, and the children are earlier nodes
abbrev pub is_in_order : ℕ → Written → Bool
is_in_order k w = (w.number == k + 1) && list_all (λ n. nat_le 1 n && nat_le n k) w.kids

-- the node that a line as written stands for: its name is judged first, then its numbers
abbrev pub named_node : ℕ → ℕ → Written → Option ℕ → Verdict NodeRow
named_node k at w None = UnknownAt (at + w.place)
named_node k at w (Some i) = if is_in_order k w then Is (record { symbol = i; kids = map (λ n. n - 1) w.kids }) else BadAt at

abbrev pub written_node : List Symbol → ℕ → ℕ → Option Written → Verdict NodeRow
written_node symbols k at None = BadAt at
written_node symbols k at (Some w) = named_node k at w (place_in symbols w.name (length w.kids))

-- the line of node k, which begins at this byte: its spelling is judged first
unfoldable pub node_in : List Symbol → ℕ → ℕ → List ℕ → Verdict NodeRow
node_in symbols k at line = written_node symbols k at (written_in line)

-- one line, where there is one, and then what stands behind it
abbrev pub line_then : List Symbol → ℕ → ℕ → (NodeRow → ℕ → List ℕ → Verdict (List NodeRow)) → Option (List ℕ × List ℕ) → Verdict (List NodeRow)
line_then symbols k at next None = BadAt at
line_then symbols k at next (Some p) = then_judged (node_in symbols k at p.0) (λ node. next node (at + length p.0 + 1) p.1)

-- the text from this byte on, where so many nodes are due after those read: a line for each, and nothing behind them
unfoldable pub lines_in : List Symbol → ℕ → ℕ → List NodeRow → List ℕ → Verdict (List NodeRow)
lines_in symbols zero at nodes [] = Is nodes
lines_in symbols zero at nodes (b ∷ bs) = BadAt at
lines_in symbols (suc due) at nodes bytes =
    line_then symbols (length nodes) at (λ node after rest. lines_in symbols due after (nodes ++ node ∷ []) rest) (cut_at 10 bytes)

-- how many nodes the first line says, which is at least one
unfoldable pub count_in : List ℕ → Option ℕ
count_in line =
    if starts_with nat_eq line (codes "nodes ") && is_number (drop 6 line) && nat_le 1 (number_of (drop 6 line)) then Some (number_of (drop 6 line)) else None

abbrev pub counted : List Symbol → ℕ → List ℕ → Option ℕ → Verdict (List NodeRow)
counted symbols at rest None = BadAt 0
counted symbols at rest (Some due) = lines_in symbols due at [] rest

abbrev pub first_then : List Symbol → Option (List ℕ × List ℕ) → Verdict (List NodeRow)
first_then symbols None = BadAt 0
first_then symbols (Some p) = counted symbols (length p.0 + 1) p.1 (count_in p.0)

-- what reading says of the text: its lines are judged in order
unfoldable pub judged : List Symbol → List ℕ → Verdict (List NodeRow)
judged symbols text = first_then symbols (cut_at 10 text)
