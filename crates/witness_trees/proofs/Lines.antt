-- Judging the lines of nodes, one at a time.
use Rattle.std.proofs.Common.{◌≡◌, ℕ, suc, ◌+◌, ◌-◌, ◌<◌, ◌≤◌, inl, inr, Bool, true, false, eqb, cond, List, [], ◌∷◌, ◌++◌, length, take, drop, map, Option, Some, None, Err, refl, sym, ap, ap₂, ◌∙◌, subst, arith}
use Rattle.std.specs.Prelude.{option_map, All, ◌&&◌, ◌==◌, nat_le}
use Rattle.std.specs.List.{list_all}
use Rattle.std.specs.Str.{bytes_eq}
use Rattle.std.proofs.lemmas.Bool.{cases_lt, eqb-true, ne_eqb, leb-true, lt-leb, and_right}
use Rattle.std.proofs.lemmas.Slice.Eq.{bytes_eq-Decides}
use Rattle.std.proofs.lemmas.List.{drop_more, drop_all, length-take-le, length-drop, drop-drop, length-map, length_push}
use Rattle.std.proofs.lemmas.List.Elements.{All-nil, All-cons}
use Rattle.tree_definitions.specs.Tree.{Symbol}
use Rattle.tree_definitions.specs.Relation.{IsAt}
use Rattle.tree_definitions.specs.Witness.{NodeRow, FitsNode, AreNodes}
use Rattle.witness_trees.specs.Judged.{Verdict, Is, BadAt, UnknownAt, then_judged, cut_at, Written, written_in, place_in, is_in_order, named_node, written_node, node_in, line_then, lines_in}
use Rattle.witness_trees.specs.Answers.{Answers, Spells, capped, capped_line}
use Rattle.witness_trees.specs.declared.reader.NodesTextError.{NodesTextError}
use Rattle.witness_trees.specs.declared.reader.NodesTextError.TheVariants as errors
use Rattle.witness_trees.proofs.Symbols.{and_parts}
use Rattle.witness_trees.proofs.Reaching.{at_push}

-- the symbol that was found
pub place_means : (symbols : List Symbol) (name : List ℕ) (rank i : ℕ) → place_in symbols name rank ≡ Some i → (a : Symbol) × IsAt symbols i a × (rank ≡ a.rank) × (a.name ≡ name)
place_means [] name rank i h = absurd cc
place_means (a ∷ rest) name rank i h = go (bytes_eq a.name name && (a.rank == rank)) refl h (λ j e. place_means rest name rank j e)
  where
    Found : ℕ → Type 0
    Found n = (b : Symbol) × IsAt (a ∷ rest) n b × (rank ≡ b.rank) × (b.name ≡ name)

    later : (n : ℕ) (place : Option ℕ) → place_in rest name rank ≡ place → option_map suc place ≡ Some n → ((j : ℕ) → place_in rest name rank ≡ Some j → (b : Symbol) × IsAt rest j b × (rank ≡ b.rank) × (b.name ≡ name)) → Found n
    later n None e k more = absurd cc
    later n (Some j) e k more =
        let next : suc j ≡ n = cc in
        let m = more j e in
        (m.0, subst (λ p. IsAt (a ∷ rest) p m.0) next m.1, m.2, m.3)

    go : (t : Bool) → (bytes_eq a.name name && (a.rank == rank)) ≡ t → cond t (Some 0) (option_map suc (place_in rest name rank)) ≡ Some i → ((j : ℕ) → place_in rest name rank ≡ Some j → (b : Symbol) × IsAt rest j b × (rank ≡ b.rank) × (b.name ≡ name)) → Found i
    go true e k more =
        let zeroth : 0 ≡ i = cc in
        let p = and_parts (bytes_eq a.name name) (eqb a.rank rank) e in
        (a, subst (λ n. IsAt (a ∷ rest) n a) zeroth refl, sym (eqb-true a.rank rank p.1), (bytes_eq-Decides a.name name).0 p.0)
    go false e k more = later i (place_in rest name rank) refl k more

-- a number that is held capped is judged alike
number_same : (k n : ℕ) → k < 4294967295 → (capped n == k + 1) ≡ (n == k + 1)
number_same k n small = elim (cases_lt 4294967296 n) [
  | inl above ↦ ne_eqb (capped n) (k + 1) (λ e. omega arith) ∙ sym (ne_eqb n (k + 1) (λ e. omega arith))
  | inr low ↦ let e : capped n ≡ n = omega arith in ap (λ m. m == k + 1) e
]

kid_same : (k n : ℕ) → k < 4294967295 → (nat_le 1 (capped n) && nat_le (capped n) k) ≡ (nat_le 1 n && nat_le n k)
kid_same k n small = elim (cases_lt 4294967296 n) [
  | inl above ↦ and_right (nat_le 1 (capped n)) (nat_le (capped n) k) (lt-leb (capped n) k (omega arith)) ∙ sym (and_right (nat_le 1 n) (nat_le n k) (lt-leb n k (omega arith)))
  | inr low ↦ let e : capped n ≡ n = omega arith in ap (λ m. nat_le 1 m && nat_le m k) e
]

pub kids_same : (k : ℕ) → k < 4294967295 → (ns : List ℕ) → list_all (λ n. nat_le 1 n && nat_le n k) (map capped ns) ≡ list_all (λ n. nat_le 1 n && nat_le n k) ns
kids_same k small [] = refl
kids_same k small (n ∷ ns) = ap₂ ◌&&◌ (kid_same k n small) (kids_same k small ns)

order_same : (k : ℕ) (w : Written) → k < 4294967295 → is_in_order k (capped_line w) ≡ is_in_order k w
order_same k w small = ap₂ ◌&&◌ (number_same k w.number small) (kids_same k small w.kids)

pub places_same : (k : ℕ) → k < 4294967295 → (ns : List ℕ) → list_all (λ n. nat_le 1 n && nat_le n k) ns ≡ true → map (λ n. n - 1) (map capped ns) ≡ map (λ n. n - 1) ns
places_same k small [] h = refl
places_same k small (n ∷ ns) h =
    let both = and_parts (nat_le 1 n && nat_le n k) (list_all (λ n. nat_le 1 n && nat_le n k) ns) h in
    let low : n ≤ k = leb-true n k (and_parts (nat_le 1 n) (nat_le n k) both.0).1 in
    let e : capped n - 1 ≡ n - 1 = omega arith in
    ap₂ (λ m ms. m ∷ ms) e (places_same k small ns both.1)

named_same : (k at : ℕ) (w : Written) (place : Option ℕ) → k < 4294967295 → named_node k at (capped_line w) place ≡ named_node k at w place
named_same k at w None small = refl
named_same k at w (Some i) small = go (is_in_order k w) refl
  where
    node : List ℕ → NodeRow
    node kids = record { symbol = i; kids = kids }

    go : (t : Bool) → is_in_order k w ≡ t → named_node k at (capped_line w) (Some i) ≡ named_node k at w (Some i)
    go true e =
        let kids = places_same k small w.kids (and_parts (w.number == k + 1) (list_all (λ n. nat_le 1 n && nat_le n k) w.kids) e).1 in
        ap (λ t. cond t (Is (node (map (λ n. n - 1) (map capped w.kids)))) (BadAt at)) (order_same k w small ∙ e)
        ∙ ap (λ ks. Is (node ks)) kids
        ∙ sym (ap (λ t. cond t (Is (node (map (λ n. n - 1) w.kids))) (BadAt at)) e)
    go false e =
        ap (λ t. cond t (Is (node (map (λ n. n - 1) (map capped w.kids)))) (BadAt at)) (order_same k w small ∙ e)
        ∙ sym (ap (λ t. cond t (Is (node (map (λ n. n - 1) w.kids))) (BadAt at)) e)

-- what is said of a line that was read with capped numbers
pub node_judged : (symbols : List Symbol) (k at : ℕ) (line : List ℕ) (l : Written) → k < 4294967295 → option_map capped_line (written_in line) ≡ Some l → node_in symbols k at line ≡ named_node k at l (place_in symbols l.name (length l.kids))
unfolding node_in
node_judged symbols k at line l small h = go (written_in line) h
  where
    go : (o : Option Written) → option_map capped_line o ≡ Some l → written_node symbols k at o ≡ named_node k at l (place_in symbols l.name (length l.kids))
    go None e = absurd cc
    go (Some w) e =
        let same : capped_line w ≡ l = cc in
        sym (named_same k at w (place_in symbols w.name (length w.kids)) small)
        ∙ ap (λ n. named_node k at (capped_line w) (place_in symbols w.name n)) (sym (length-map w.kids capped))
        ∙ ap (λ (x : Written). named_node k at x (place_in symbols x.name (length x.kids))) same

pub node_misspelled : (symbols : List Symbol) (k at : ℕ) (line : List ℕ) → option_map capped_line (written_in line) ≡ None → node_in symbols k at line ≡ BadAt at
unfolding node_in
node_misspelled symbols k at line h = go (written_in line) h
  where
    go : (o : Option Written) → option_map capped_line o ≡ None → written_node symbols k at o ≡ BadAt at
    go None e = refl
    go (Some w) e = absurd cc

pub named_unknown : (k at : ℕ) (w : Written) (place : Option ℕ) → place ≡ None → named_node k at w place ≡ UnknownAt (at + w.place)
named_unknown k at w place e = ap (named_node k at w) e

pub named_bad : (k at i : ℕ) (w : Written) (place : Option ℕ) → place ≡ Some i → is_in_order k w ≡ false → named_node k at w place ≡ BadAt at
named_bad k at i w place e h = ap (named_node k at w) e ∙ ap (λ t. cond t (Is (node (map (λ n. n - 1) w.kids))) (BadAt at)) h
  where
    node : List ℕ → NodeRow
    node kids = record { symbol = i; kids = kids }

pub named_right : (k at i : ℕ) (w : Written) (place : Option ℕ) → place ≡ Some i → is_in_order k w ≡ true → named_node k at w place ≡ Is (record { symbol = i; kids = map (λ n. n - 1) w.kids })
named_right k at i w place e h = ap (named_node k at w) e ∙ ap (λ t. cond t (Is (node (map (λ n. n - 1) w.kids))) (BadAt at)) h
  where
    node : List ℕ → NodeRow
    node kids = record { symbol = i; kids = kids }

pub small_kids : (k : ℕ) → k < 4294967295 → (ns : List ℕ) → list_all (λ n. nat_le 1 n && nat_le n k) ns ≡ true → All (λ n. n ≤ 4294967295) ns
small_kids k small [] h = All-nil (λ n. n ≤ 4294967295)
small_kids k small (n ∷ ns) h =
    let both = and_parts (nat_le 1 n && nat_le n k) (list_all (λ n. nat_le 1 n && nat_le n k) ns) h in
    let low : n ≤ k = leb-true n k (and_parts (nat_le 1 n) (nat_le n k) both.0).1 in
    All-cons (λ n. n ≤ 4294967295) n ns (omega arith) (small_kids k small ns both.1)

pub earlier_kids : (k : ℕ) (ns : List ℕ) → list_all (λ n. nat_le 1 n && nat_le n k) ns ≡ true → All (λ j. j < k) (map (λ n. n - 1) ns)
earlier_kids k [] h = All-nil (λ j. j < k)
earlier_kids k (n ∷ ns) h =
    let both = and_parts (nat_le 1 n && nat_le n k) (list_all (λ n. nat_le 1 n && nat_le n k) ns) h in
    let parts = and_parts (nat_le 1 n) (nat_le n k) both.0 in
    let one : 1 ≤ n = leb-true 1 n parts.0 in
    let low : n ≤ k = leb-true n k parts.1 in
    All-cons (λ j. j < k) (n - 1) (map (λ n. n - 1) ns) (omega arith) (earlier_kids k ns both.1)

-- a line that is judged a node has one that fits
pub node_fits : (symbols : List Symbol) (k at : ℕ) (line : List ℕ) (node : NodeRow) → node_in symbols k at line ≡ Is node → FitsNode symbols k node
unfolding node_in
node_fits symbols k at line node h = spelled (written_in line) h
  where
    ordered : (w : Written) (i : ℕ) → place_in symbols w.name (length w.kids) ≡ Some i → (t : Bool) → is_in_order k w ≡ t → cond t (Is (record { symbol = i; kids = map (λ n. n - 1) w.kids })) (BadAt at) ≡ Is node → FitsNode symbols k node
    ordered w i found false e r = absurd cc
    ordered w i found true e r =
        let made : NodeRow = record { symbol = i; kids = map (λ n. n - 1) w.kids } in
        let same : made ≡ node = cc in
        let a = place_means symbols w.name (length w.kids) i found in
        let fits : FitsNode symbols k made = record {
          symbol = (a.0, a.1, length-map w.kids (λ n. n - 1) ∙ a.2);
          earlier = earlier_kids k w.kids (and_parts (w.number == k + 1) (list_all (λ n. nat_le 1 n && nat_le n k) w.kids) e).1;
        } in
        subst (FitsNode symbols k) same fits

    named : (w : Written) (place : Option ℕ) → place_in symbols w.name (length w.kids) ≡ place → named_node k at w place ≡ Is node → FitsNode symbols k node
    named w None e r = absurd cc
    named w (Some i) e r = ordered w i e (is_in_order k w) refl r

    spelled : (o : Option Written) → written_node symbols k at o ≡ Is node → FitsNode symbols k node
    spelled None r = absurd cc
    spelled (Some w) r = named w (place_in symbols w.name (length w.kids)) refl r

-- one more node that fits
pub nodes_push : (symbols : List Symbol) (nodes : List NodeRow) (node : NodeRow) → AreNodes symbols nodes → FitsNode symbols (length nodes) node → AreNodes symbols (nodes ++ node ∷ [])
nodes_push symbols nodes node all fits k x at = elim (at_push nodes node k x at) [
  | inl e ↦ all k x e
  | inr e ↦ subst (λ n. FitsNode symbols n x) (sym e.0) (subst (FitsNode symbols (length nodes)) e.1 fits)
]

-- the first i of so many nodes were read, and the text is judged as what stands from this byte on
pub record IsReadTo (symbols : List Symbol) (due from : ℕ) (text : List ℕ) (i at : ℕ) (nodes : List NodeRow) : Type 0 where
  pub count : length nodes ≡ i
  pub reaches : i ≤ at
  pub within_text : at ≤ length text
  pub fitting : AreNodes symbols nodes
  pub same : lines_in symbols (due - i) at nodes (drop at text) ≡ lines_in symbols due from [] (drop from text)

module _ (symbols : List Symbol) (due from : ℕ) (text : List ℕ) where
  pub read_none : (nodes : List NodeRow) → nodes ≡ [] → from ≤ length text → IsReadTo symbols due from text 0 from nodes
  read_none nodes e le = subst (IsReadTo symbols due from text 0 from) (sym e) (record {
    count = refl;
    reaches = omega arith;
    within_text = le;
    fitting = λ k x at. absurd cc;
    same = let d : due - 0 ≡ due = omega arith in ap (λ n. lines_in symbols n from [] (drop from text)) d;
  })

  -- one line more
  turn : (i at : ℕ) (nodes : List NodeRow) → i < due → IsReadTo symbols due from text i at nodes → line_then symbols (length nodes) at (λ node after rest. lines_in symbols (due - (i + 1)) after (nodes ++ node ∷ []) rest) (cut_at 10 (drop at text)) ≡ lines_in symbols due from [] (drop from text)
  unfolding lines_in
  turn i at nodes lt r =
      let d : suc (due - (i + 1)) ≡ due - i = omega arith in
      ap (λ n. lines_in symbols n at nodes (drop at text)) d ∙ r.same

  pub read_cut : (i at : ℕ) (nodes : List NodeRow) → i < due → IsReadTo symbols due from text i at nodes → cut_at 10 (drop at text) ≡ None → lines_in symbols due from [] (drop from text) ≡ BadAt at
  read_cut i at nodes lt r none =
      sym (turn i at nodes lt r) ∙ ap (line_then symbols (length nodes) at (λ node after rest. lines_in symbols (due - (i + 1)) after (nodes ++ node ∷ []) rest)) none

  -- what is said of a line
  judged_line : (i at end : ℕ) (nodes : List NodeRow) (line : List ℕ) (verdict : Verdict NodeRow) → i < due → IsReadTo symbols due from text i at nodes → cut_at 10 (drop at text) ≡ Some (take end (drop at text), drop (end + 1) (drop at text)) → line ≡ take end (drop at text) → node_in symbols (length nodes) at line ≡ verdict
      → then_judged verdict (λ node. lines_in symbols (due - (i + 1)) (at + length (take end (drop at text)) + 1) (nodes ++ node ∷ []) (drop (end + 1) (drop at text))) ≡ lines_in symbols due from [] (drop from text)
  judged_line i at end nodes line verdict lt r cut is said =
      ap (λ v. then_judged v (λ node. lines_in symbols (due - (i + 1)) (at + length (take end (drop at text)) + 1) (nodes ++ node ∷ []) (drop (end + 1) (drop at text)))) (sym said ∙ ap (node_in symbols (length nodes) at) is)
      ∙ sym (ap (line_then symbols (length nodes) at (λ node after rest. lines_in symbols (due - (i + 1)) after (nodes ++ node ∷ []) rest)) cut)
      ∙ turn i at nodes lt r

  pub read_more : (i at end : ℕ) (nodes new : List NodeRow) (line : List ℕ) (node : NodeRow) → i < due → IsReadTo symbols due from text i at nodes → end < length (drop at text) → cut_at 10 (drop at text) ≡ Some (take end (drop at text), drop (end + 1) (drop at text)) → line ≡ take end (drop at text) → node_in symbols (length nodes) at line ≡ Is node → new ≡ nodes ++ node ∷ [] → IsReadTo symbols due from text (i + 1) (at + (end + 1)) new
  read_more i at end nodes new line node lt r inside cut is said grown =
      let long : length (take end (drop at text)) ≡ end = length-take-le end (drop at text) (omega arith) in
      let after : at + length (take end (drop at text)) + 1 ≡ at + (end + 1) = omega arith in
      let rest : drop (end + 1) (drop at text) ≡ drop (at + (end + 1)) text = drop-drop (end + 1) at text in
      subst (IsReadTo symbols due from text (i + 1) (at + (end + 1))) (sym grown) (record {
        count = length_push nodes node ∙ ap (λ n. n + 1) r.count;
        reaches = omega (arith, r.reaches);
        within_text = omega (arith, length-drop at text, r.within_text);
        fitting = nodes_push symbols nodes node r.fitting (node_fits symbols (length nodes) at line node said);
        same = sym (ap (λ n. lines_in symbols (due - (i + 1)) n (nodes ++ node ∷ []) (drop (end + 1) (drop at text))) after ∙ ap (lines_in symbols (due - (i + 1)) (at + (end + 1)) (nodes ++ node ∷ [])) rest) ∙ judged_line i at end nodes line (Is node) lt r cut is said;
      })

  -- a line that fails
  pub read_fails : {X : Type 0} (view : X → List NodeRow) (i at end : ℕ) (nodes : List NodeRow) (line : List ℕ) (error : NodesTextError) → i < due → IsReadTo symbols due from text i at nodes → cut_at 10 (drop at text) ≡ Some (take end (drop at text), drop (end + 1) (drop at text)) → line ≡ take end (drop at text)
      → Answers {X = NodeRow} (λ n. n) (Err error) (node_in symbols (length nodes) at line) → Answers view (Err error) (lines_in symbols due from [] (drop from text))
  read_fails view i at end nodes line (errors.BadText byte) lt r cut is said = sym (judged_line i at end nodes line (BadAt byte) lt r cut is said)
  read_fails view i at end nodes line (errors.UnknownName byte) lt r cut is said = sym (judged_line i at end nodes line (UnknownAt byte) lt r cut is said)
  read_fails view i at end nodes line errors.Memory lt r cut is said = tt

  pub read_beyond : (i at : ℕ) (nodes : List NodeRow) → due ≤ i → IsReadTo symbols due from text i at nodes → at < length text → lines_in symbols due from [] (drop from text) ≡ BadAt at
  unfolding lines_in
  read_beyond i at nodes le r lt =
      let d : due - i ≡ 0 = omega arith in
      sym r.same ∙ ap (λ n. lines_in symbols n at nodes (drop at text)) d ∙ ap (lines_in symbols 0 at nodes) (drop_more text at 0 lt)

  pub read_all : (i at : ℕ) (nodes : List NodeRow) → due ≤ i → IsReadTo symbols due from text i at nodes → length text ≤ at → lines_in symbols due from [] (drop from text) ≡ Is nodes
  unfolding lines_in
  read_all i at nodes le r past =
      let d : due - i ≡ 0 = omega arith in
      sym r.same ∙ ap (λ n. lines_in symbols n at nodes (drop at text)) d ∙ ap (lines_in symbols 0 at nodes) (drop_all at text past)

-- a line that isn't spelled as a node's
pub line_refused : {X : Type 0} (view : X → Written) (symbols : List Symbol) (k at : ℕ) (line : List ℕ) (error : NodesTextError) → Spells at view (Err error) (option_map capped_line (written_in line)) → Answers {X = NodeRow} (λ n. n) (Err error) (node_in symbols k at line)
line_refused view symbols k at line (errors.BadText byte) h = node_misspelled symbols k at line h.1 ∙ ap BadAt (sym h.0)
line_refused view symbols k at line (errors.UnknownName byte) h = absurd h
line_refused view symbols k at line errors.Memory h = tt
