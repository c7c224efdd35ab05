-- What is read is the printed text of the nodes.
use Rattle.std.proofs.Common.{◌≡◌, ℕ, zero, suc, ◌+◌, ◌-◌, ◌^◌, ◌<◌, ◌≤◌, Bool, true, false, cond, List, [], ◌∷◌, ◌++◌, length, drop, map, Option, Some, None, refl, sym, ap, ap₂, ◌∙◌, subst, append_assoc, append-nil, arith}
use Rattle.std.specs.Prelude.{option_map, ◌&&◌, ◌==◌, nat_le, nat_eq, codes}
use Rattle.std.specs.List.{list_all, flat_map, join_with_byte, starts_with}
use Rattle.std.specs.Fmt.{decimal}
use Rattle.std.proofs.lemmas.Bool.{eqb-true, eq-eqb, leb-true}
use Rattle.std.proofs.lemmas.Fmt.{decimal-digits_value}
use Rattle.std.proofs.lemmas.List.{length_push}
use Rattle.std.proofs.lemmas.List.Splits.{join_with_byte-slice_split, length-slice_split}
use Rattle.tree_definitions.specs.Name.{is_name}
use Rattle.tree_definitions.specs.Tree.{Symbol}
use Rattle.tree_definitions.specs.Relation.{IsAt}
use Rattle.tree_definitions.specs.Witness.{NodeRow, FitsNode, AreNodes}
use Rattle.witness_trees.specs.NodesText.{name_at, number_text, kids_text, lines_text, nodes_text}
use Rattle.witness_trees.specs.Judged.{Verdict, Is, BadAt, UnknownAt, then_judged, ◌>>=◌, is_nil, cut_at, is_digit, is_number, number_of, pieces_at, numbers_in, kids_in, call_of, call_in, Written, written_in, place_in, is_in_order, named_node, written_node, node_in, line_then, lines_in, count_in, counted, first_then, judged}
use Rattle.witness_trees.proofs.Symbols.{and_parts}
use Rattle.witness_trees.proofs.Lines.{place_means, node_fits}
use Rattle.witness_trees.proofs.Whole.{cut_shorter}
use Rattle.witness_trees.proofs.Spelled.{line_text, name_found, numeral}

-- what a test let through
pub passed : {A : Type 0} (t : Bool) (o : Option A) (x : A) → cond t o None ≡ Some x → (t ≡ true) × (o ≡ Some x)
passed true o x h = (refl, h)
passed false o x h = absurd cc

-- the value that a step went on with
pub went_on : {A B : Type 0} (o : Option A) (f : A → Option B) (y : B) → (o >>= f) ≡ Some y → (x : A) × (o ≡ Some x) × (f x ≡ Some y)
went_on None f y h = absurd cc
went_on (Some x) f y h = (x, refl, h)

-- the two sides of a cut, with the mark between
pub cut_joined : (c : ℕ) (bytes : List ℕ) (p : List ℕ × List ℕ) → cut_at c bytes ≡ Some p → bytes ≡ p.0 ++ c ∷ p.1
cut_joined c [] p h = absurd cc
cut_joined c (b ∷ bs) p h = go (b == c) refl h (λ q e. cut_joined c bs q e)
  where
    later : (o : Option (List ℕ × List ℕ)) → cut_at c bs ≡ o → option_map (λ q. (b ∷ q.0, q.1)) o ≡ Some p → ((q : List ℕ × List ℕ) → cut_at c bs ≡ Some q → bs ≡ q.0 ++ c ∷ q.1) → b ∷ bs ≡ p.0 ++ c ∷ p.1
    later None e k more = absurd cc
    later (Some q) e k more =
        let made : List ℕ × List ℕ = (b ∷ q.0, q.1) in
        let same : made ≡ p = cc in
        ap (λ xs. b ∷ xs) (more q e) ∙ ap (λ (x : List ℕ × List ℕ). x.0 ++ c ∷ x.1) same

    go : (t : Bool) → (b == c) ≡ t → cond t (Some ([], bs)) (option_map (λ q. (b ∷ q.0, q.1)) (cut_at c bs)) ≡ Some p → ((q : List ℕ × List ℕ) → cut_at c bs ≡ Some q → bs ≡ q.0 ++ c ∷ q.1) → b ∷ bs ≡ p.0 ++ c ∷ p.1
    go true e k more =
        let made : List ℕ × List ℕ = ([], bs) in
        let same : made ≡ p = cc in
        ap (λ x. x ∷ bs) (eqb-true b c e) ∙ ap (λ (x : List ℕ × List ℕ). x.0 ++ c ∷ x.1) same
    go false e k more = later (cut_at c bs) refl k more

nil_is : (xs : List ℕ) → is_nil xs ≡ true → xs ≡ []
nil_is [] h = refl
nil_is (x ∷ xs) h = absurd cc

-- digits without a leading zero are the decimal of their number
pub number_written : (ds : List ℕ) → is_number ds ≡ true → number_of ds < 2 ^ 64 → decimal (number_of ds) ≡ ds
number_written [] h small = absurd cc
number_written (d ∷ ds) h small = go (d == 48) refl h
  where
    go : (t : Bool) → (d == 48) ≡ t → cond t (is_nil ds) (list_all is_digit (d ∷ ds)) ≡ true → decimal (number_of (d ∷ ds)) ≡ d ∷ ds
    go true e k =
        let none = nil_is ds k in
        let zeroth = eqb-true d 48 e in
        let digits : list_all is_digit (d ∷ ds) ≡ true = ap₂ (λ x xs. list_all is_digit (x ∷ xs)) zeroth none in
        let one : length (d ∷ ds) ≡ 1 = ap (λ xs. suc (length xs)) none in
        decimal-digits_value numeral (d ∷ ds) digits (omega arith) (λ _. one) small
    go false e k = decimal-digits_value numeral (d ∷ ds) k (omega arith) (λ same. absurd (differs same)) small
      where
        differs : d ≡ 48 → ⊥
        differs same = let t : true ≡ false = sym (eq-eqb d 48 same) ∙ e in cc

-- numbers that are earlier ones of node k, counted from 1, as places
abbrev pub InOrder : ℕ → List ℕ → Type 0
InOrder k ns = list_all (λ n. nat_le 1 n && nat_le n k) ns ≡ true

places : List ℕ → List ℕ
places ns = map (λ n. n - 1) ns

word_written : (k : ℕ) → k < 2 ^ 63 → (w : List ℕ) → is_number w ≡ true → (nat_le 1 (number_of w) && nat_le (number_of w) k) ≡ true → number_text (number_of w - 1) ≡ w
word_written k small w h order =
    let parts = and_parts _ _ order in
    let one : 1 ≤ number_of w = leb-true 1 (number_of w) parts.0 in
    let low : number_of w ≤ k = leb-true (number_of w) k parts.1 in
    let e : suc (number_of w - 1) ≡ number_of w = omega arith in
    ap decimal e ∙ number_written w h (omega arith)

-- words joined by commas, as the children's numbers
joined : (k : ℕ) → k < 2 ^ 63 → (w : List ℕ) (ws : List (List ℕ)) → list_all is_number (w ∷ ws) ≡ true → InOrder k (map number_of (w ∷ ws)) → join_with_byte 44 (w ∷ ws) ≡ number_text (number_of w - 1) ++ flat_map (λ j. 44 ∷ number_text j) (map (λ n. n - 1) (map number_of ws))
joined k small w [] h order =
    let hs = and_parts (is_number w) true h in
    let os = and_parts (nat_le 1 (number_of w) && nat_le (number_of w) k) true order in
    sym (append-nil (number_text (number_of w - 1)) ∙ word_written k small w hs.0 os.0)
joined k small w (v ∷ ws) h order =
    let hs = and_parts (is_number w) (list_all is_number (v ∷ ws)) h in
    let os = and_parts (nat_le 1 (number_of w) && nat_le (number_of w) k) (list_all (λ n. nat_le 1 n && nat_le n k) (map number_of (v ∷ ws))) order in
    ap₂ (λ x xs. x ++ 44 ∷ xs) (sym (word_written k small w hs.0 os.0)) (joined k small v ws hs.1 os.1)

-- the children
kids_written : (k : ℕ) → k < 2 ^ 63 → (bytes ns : List ℕ) → kids_in bytes ≡ Some ns → InOrder k ns → 40 ∷ bytes ≡ kids_text (map (λ n. n - 1) ns)
unfolding kids_in numbers_in
kids_written k small bytes ns h order =
    let s = went_on (cut_at 41 bytes) _ ns h in
    let p = s.0 in
    let t = passed (is_nil p.1) (numbers_in p.0) ns s.2 in
    let none = nil_is p.1 t.0 in
    let u = passed (list_all is_number (pieces_at 44 p.0)) (Some (map number_of (pieces_at 44 p.0))) ns t.1 in
    let whole : bytes ≡ p.0 ++ 41 ∷ [] = cut_joined 41 bytes p s.1 ∙ ap (λ xs. p.0 ++ 41 ∷ xs) none in
    ap (λ bs. 40 ∷ bs) whole ∙ go p.0 (pieces_at 44 p.0) (join_with_byte-slice_split 44 p.0) (some_piece p.0) u.0 u.1
  where
    some_piece : (bs : List ℕ) → 0 < length (pieces_at 44 bs)
    some_piece bs = omega (arith, length-slice_split (λ b. b == 44) bs)

    go : (inner : List ℕ) (ws : List (List ℕ)) → join_with_byte 44 ws ≡ inner → 0 < length ws → list_all is_number ws ≡ true → Some (map number_of ws) ≡ Some ns → 40 ∷ inner ++ 41 ∷ [] ≡ kids_text (map (λ n. n - 1) ns)
    go inner [] e some all v = absurd (omega arith)
    go inner (w ∷ ws) e some all v =
        let values : map number_of (w ∷ ws) ≡ ns = cc in
        let order' : InOrder k (map number_of (w ∷ ws)) = subst (InOrder k) (sym values) order in
        ap (λ bs. 40 ∷ bs ++ 41 ∷ []) (sym e ∙ joined k small w ws all order') ∙ ap (λ xs. kids_text (map (λ n. n - 1) xs)) values

call_written : (k : ℕ) → k < 2 ^ 63 → (bytes name ns : List ℕ) → call_in bytes ≡ Some (name, ns) → InOrder k ns → bytes ≡ name ++ kids_text (map (λ n. n - 1) ns)
unfolding call_in
call_written k small bytes name ns h order = go (cut_at 40 bytes) refl h
  where
    pair : List ℕ → List ℕ → List ℕ × List ℕ
    pair a b = (a, b)

    go : (o : Option (List ℕ × List ℕ)) → cut_at 40 bytes ≡ o → call_of bytes o ≡ Some (pair name ns) → bytes ≡ name ++ kids_text (map (λ n. n - 1) ns)
    go None e k' =
        let t = passed (is_name bytes) (Some (pair bytes [])) (pair name ns) k' in
        let same : pair bytes [] ≡ pair name ns = let v = t.1 in cc in
        let first : bytes ≡ name = ap (λ (x : List ℕ × List ℕ). x.0) same in
        let second : [] ≡ ns = ap (λ (x : List ℕ × List ℕ). x.1) same in
        sym (append-nil bytes) ∙ ap₂ (λ a b. a ++ kids_text (map (λ n. n - 1) b)) first second
    go (Some p) e k' =
        let t = passed (is_name p.0) _ (pair name ns) k' in
        let s = went_on (kids_in p.1) _ (pair name ns) t.1 in
        let same : pair p.0 s.0 ≡ pair name ns = let v = s.2 in cc in
        let first : p.0 ≡ name = ap (λ (x : List ℕ × List ℕ). x.0) same in
        let second : s.0 ≡ ns = ap (λ (x : List ℕ × List ℕ). x.1) same in
        let order' : InOrder k s.0 = subst (InOrder k) (sym second) order in
        cut_joined 40 bytes p e ∙ ap (λ bs. p.0 ++ bs) (kids_written k small p.1 s.0 s.1 order') ∙ ap₂ (λ a b. a ++ kids_text (map (λ n. n - 1) b)) first second

-- a line that was judged in order is the printed one
written_line : (k : ℕ) → k < 2 ^ 63 → (line : List ℕ) (w : Written) → written_in line ≡ Some w → is_in_order k w ≡ true → line ≡ line_text k w.name (map (λ n. n - 1) w.kids)
unfolding written_in
written_line k small line w h order =
    let os = and_parts (w.number == k + 1) (list_all (λ n. nat_le 1 n && nat_le n k) w.kids) order in
    let s = went_on (cut_at 32 line) _ w h in
    let p = s.0 in
    let t = passed (is_number p.0) _ w s.2 in
    let u = went_on (call_in p.1) _ w t.1 in
    let c = u.0 in
    let made : Written = record { number = number_of p.0; place = length p.0 + 1; name = c.0; kids = c.1 } in
    let same : made ≡ w = let v = u.2 in cc in
    let number : number_of p.0 ≡ suc k = ap (λ (x : Written). x.number) same ∙ eqb-true w.number (k + 1) os.0 ∙ (omega arith) in
    let digits : p.0 ≡ number_text k = sym (number_written p.0 t.0 (omega arith)) ∙ ap decimal number in
    let order' : InOrder k c.1 = subst (InOrder k) (sym (ap (λ (x : Written). x.kids) same)) os.1 in
    let rest : p.1 ≡ c.0 ++ kids_text (map (λ n. n - 1) c.1) = call_written k small p.1 c.0 c.1 u.1 order' in
    cut_joined 32 line p s.1 ∙ ap₂ (λ a b. a ++ 32 ∷ b) digits rest
    ∙ sym (append_assoc (number_text k) (32 ∷ c.0) (kids_text (map (λ n. n - 1) c.1)))
    ∙ ap (λ (x : Written). line_text k x.name (map (λ n. n - 1) x.kids)) same

pub node_line : (symbols : List Symbol) (k at : ℕ) → k < 2 ^ 63 → (line : List ℕ) (node : NodeRow) → node_in symbols k at line ≡ Is node → line ≡ line_text k (name_at symbols node.symbol) node.kids
unfolding node_in
node_line symbols k at small line node h = spelled (written_in line) refl h
  where
    ordered : (w : Written) (i : ℕ) → written_in line ≡ Some w → place_in symbols w.name (length w.kids) ≡ Some i → (t : Bool) → is_in_order k w ≡ t → cond t (Is (record { symbol = i; kids = map (λ n. n - 1) w.kids })) (BadAt at) ≡ Is node → line ≡ line_text k (name_at symbols node.symbol) node.kids
    ordered w i e found false o r = absurd cc
    ordered w i e found true o r =
        let made : NodeRow = record { symbol = i; kids = map (λ n. n - 1) w.kids } in
        let same : made ≡ node = cc in
        let a = place_means symbols w.name (length w.kids) i found in
        let name : w.name ≡ name_at symbols i = sym (name_found symbols i a.0 a.1 ∙ a.3) in
        written_line k small line w e o ∙ ap (λ x. line_text k x (map (λ n. n - 1) w.kids)) name ∙ ap (λ (x : NodeRow). line_text k (name_at symbols x.symbol) x.kids) same

    named : (w : Written) → written_in line ≡ Some w → (place : Option ℕ) → place_in symbols w.name (length w.kids) ≡ place → named_node k at w place ≡ Is node → line ≡ line_text k (name_at symbols node.symbol) node.kids
    named w e None f r = absurd cc
    named w e (Some i) f r = ordered w i e f (is_in_order k w) refl r

    spelled : (o : Option Written) → written_in line ≡ o → written_node symbols k at o ≡ Is node → line ≡ line_text k (name_at symbols node.symbol) node.kids
    spelled None e r = absurd cc
    spelled (Some w) e r = named w e (place_in symbols w.name (length w.kids)) refl r

-- the bytes are the lines of further nodes, which are those that are due
pub record Continues (symbols : List Symbol) (due : ℕ) (nodes rows : List NodeRow) (bytes : List ℕ) : Type 0 where
  pub more : List NodeRow
  pub all : rows ≡ nodes ++ more
  pub as_many : length more ≡ due
  pub printed : bytes ≡ lines_text symbols (length nodes) more
  pub fewer : length more ≤ length bytes
  pub fitting : (j : ℕ) (node : NodeRow) → IsAt more j node → FitsNode symbols (length nodes + j) node

pub lines_inverse : (symbols : List Symbol) (due at : ℕ) (nodes rows : List NodeRow) (bytes : List ℕ) → length nodes + length bytes < 2 ^ 63 → lines_in symbols due at nodes bytes ≡ Is rows → Continues symbols due nodes rows bytes
unfolding lines_in
lines_inverse symbols zero at nodes rows [] small h =
    let same : nodes ≡ rows = cc in
    record {
      more = [];
      all = sym same ∙ sym (append-nil nodes);
      as_many = refl;
      printed = refl;
      fewer = omega arith;
      fitting = λ j node p. absurd cc;
    }
lines_inverse symbols zero at nodes rows (b ∷ bs) small h = absurd cc
lines_inverse symbols (suc due) at nodes rows bytes small h =
    cut (cut_at 10 bytes) refl h (λ after ns rest le k. lines_inverse symbols due after ns rows rest le k)
  where
    Later : Type 0
    Later = (after : ℕ) (ns : List NodeRow) (rest : List ℕ) → length ns + length rest < 2 ^ 63 → lines_in symbols due after ns rest ≡ Is rows → Continues symbols due ns rows rest

    grown : (node : NodeRow) → suc (length nodes) ≡ length (nodes ++ node ∷ [])
    grown node = omega (arith, length_push nodes node)

    line : (p : List ℕ × List ℕ) → cut_at 10 bytes ≡ Some p → (v : Verdict NodeRow) → node_in symbols (length nodes) at p.0 ≡ v → then_judged v (λ node. lines_in symbols due (at + length p.0 + 1) (nodes ++ node ∷ []) p.1) ≡ Is rows → Later → Continues symbols (suc due) nodes rows bytes
    line p e (BadAt byte) s k later = absurd cc
    line p e (UnknownAt byte) s k later = absurd cc
    line p e (Is node) s k later =
        let number = length nodes in
        let shorter = cut_shorter 10 bytes p e in
        let longer = grown node in
        let rest = later (at + length p.0 + 1) (nodes ++ node ∷ []) p.1 (omega arith) k in
        let is : p.0 ≡ line_text number (name_at symbols node.symbol) node.kids = node_line symbols number at (omega arith) p.0 node s in
        let behind : p.1 ≡ lines_text symbols (suc number) rest.more = rest.printed ∙ ap (λ m. lines_text symbols m rest.more) (sym longer) in
        record {
          more = node ∷ rest.more;
          all = rest.all ∙ append_assoc nodes (node ∷ []) rest.more;
          as_many = ap suc rest.as_many;
          printed = cut_joined 10 bytes p e ∙ ap₂ (λ a b. a ++ 10 ∷ b) is behind ∙ sym (append_assoc (line_text number (name_at symbols node.symbol) node.kids) (10 ∷ []) (lines_text symbols (suc number) rest.more));
          fewer = omega (arith, shorter, rest.fewer);
          fitting = fits node rest.more (node_fits symbols number at p.0 node s) rest.fitting;
        }
      where
        fits : (x : NodeRow) (more : List NodeRow) → FitsNode symbols (length nodes) x → ((j : ℕ) (y : NodeRow) → IsAt more j y → FitsNode symbols (length (nodes ++ x ∷ []) + j) y) → (j : ℕ) (y : NodeRow) → IsAt (x ∷ more) j y → FitsNode symbols (length nodes + j) y
        fits x more first others zero y q =
            let same : x ≡ y = cc in
            let e' : length nodes ≡ length nodes + 0 = omega arith in
            subst (λ n. FitsNode symbols n y) e' (subst (FitsNode symbols (length nodes)) same first)
        fits x more first others (suc j) y q =
            let g = grown x in
            let e' : length (nodes ++ x ∷ []) + j ≡ length nodes + suc j = omega arith in
            subst (λ n. FitsNode symbols n y) e' (others j y q)

    cut : (o : Option (List ℕ × List ℕ)) → cut_at 10 bytes ≡ o → line_then symbols (length nodes) at (λ node after rest. lines_in symbols due after (nodes ++ node ∷ []) rest) o ≡ Is rows → Later → Continues symbols (suc due) nodes rows bytes
    cut None e k later = absurd cc
    cut (Some p) e k later = line p e (node_in symbols (length nodes) at p.0) refl k later

starts_joined : (needle xs : List ℕ) → starts_with nat_eq xs needle ≡ true → xs ≡ needle ++ drop (length needle) xs
starts_joined [] xs h = refl
starts_joined (b ∷ bs) [] h = absurd cc
starts_joined (b ∷ bs) (x ∷ xs) h =
    let p = and_parts (nat_eq b x) (starts_with nat_eq xs bs) h in
    ap₂ (λ a as'. a ∷ as') (sym (eqb-true b x p.0)) (starts_joined bs xs p.1)

-- the first line
count_written : (line : List ℕ) (n : ℕ) → count_in line ≡ Some n → n < 2 ^ 64 → (line ≡ codes "nodes " ++ decimal n) × (1 ≤ n)
unfolding count_in
count_written line n h small =
    let t = passed (starts_with nat_eq line (codes "nodes ") && is_number (drop 6 line) && nat_le 1 (number_of (drop 6 line))) (Some (number_of (drop 6 line))) n h in
    let two = and_parts (starts_with nat_eq line (codes "nodes ") && is_number (drop 6 line)) (nat_le 1 (number_of (drop 6 line))) t.0 in
    let one = and_parts (starts_with nat_eq line (codes "nodes ")) (is_number (drop 6 line)) two.0 in
    let value : number_of (drop 6 line) ≡ n = let v = t.1 in cc in
    let digits : drop 6 line ≡ decimal n = sym (number_written (drop 6 line) one.1 (omega arith)) ∙ ap decimal value in
    (starts_joined (codes "nodes ") line one.0 ∙ ap (λ ds. codes "nodes " ++ ds) digits, subst (λ m. 1 ≤ m) value (leb-true 1 (number_of (drop 6 line)) two.1))

-- what is judged to be nodes is their text
pub judged_inverse : (symbols : List Symbol) (text : List ℕ) (rows : List NodeRow) → length text < 2 ^ 62 → judged symbols text ≡ Is rows → AreNodes symbols rows × (0 < length rows) × (text ≡ nodes_text (record { symbols = symbols; rows = rows }))
unfolding judged nodes_text
judged_inverse symbols text rows small h = first (cut_at 10 text) refl h
  where
    whole : (p : List ℕ × List ℕ) → cut_at 10 text ≡ Some p → (n : ℕ) → count_in p.0 ≡ Some n → Continues symbols n [] rows p.1 → AreNodes symbols rows × (0 < length rows) × (text ≡ nodes_text (record { symbols = symbols; rows = rows }))
    whole p e n c r =
        let shorter = cut_shorter 10 text p e in
        let is : rows ≡ r.more = r.all in
        let count : length rows ≡ n = ap length r.all ∙ r.as_many in
        let bound : n < 2 ^ 64 = omega (arith, r.fewer, r.as_many) in
        let head = count_written p.0 n c bound in
        let fits : AreNodes symbols rows = λ j node q.
        let e' : 0 + j ≡ j = omega arith in
        subst (λ m. FitsNode symbols m node) e' (r.fitting j node (subst (λ xs. IsAt xs j node) is q)) in
        let line : p.0 ≡ codes "nodes " ++ decimal (length rows) = head.0 ∙ ap (λ m. codes "nodes " ++ decimal m) (sym count) in
        let rest : p.1 ≡ lines_text symbols 0 rows = r.printed ∙ ap (lines_text symbols 0) (sym is) in
        (fits, omega (arith, head.1, count), cut_joined 10 text p e ∙ ap₂ (λ a b. a ++ 10 ∷ b) line rest ∙ sym (append_assoc (codes "nodes " ++ decimal (length rows)) (10 ∷ []) (lines_text symbols 0 rows)))

    counted_so : (p : List ℕ × List ℕ) → cut_at 10 text ≡ Some p → (o : Option ℕ) → count_in p.0 ≡ o → counted symbols (length p.0 + 1) p.1 o ≡ Is rows → AreNodes symbols rows × (0 < length rows) × (text ≡ nodes_text (record { symbols = symbols; rows = rows }))
    counted_so p e None c k = absurd cc
    counted_so p e (Some n) c k =
        let shorter = cut_shorter 10 text p e in
        whole p e n c (lines_inverse symbols n (length p.0 + 1) [] rows p.1 (omega arith) k)

    first : (o : Option (List ℕ × List ℕ)) → cut_at 10 text ≡ o → first_then symbols o ≡ Is rows → AreNodes symbols rows × (0 < length rows) × (text ≡ nodes_text (record { symbols = symbols; rows = rows }))
    first None e k = absurd cc
    first (Some p) e k = counted_so p e (count_in p.0) refl k
