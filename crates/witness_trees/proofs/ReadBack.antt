-- The printed text of nodes is judged as those nodes.
use Rattle.std.proofs.Common.{◌≡◌, ◌≢◌, ℕ, suc, ◌+◌, ◌^◌, ◌<◌, ◌≤◌, true, cond, List, [], ◌∷◌, ◌++◌, length, Some, None, refl, sym, ap, ◌∙◌, subst, append_assoc, append-nil, arith}
use Rattle.std.specs.Prelude.{All, AllPairs, ◌&&◌, nat_le, codes}
use Rattle.std.specs.Fmt.{decimal}
use Rattle.std.proofs.lemmas.Bool.{le-leb}
use Rattle.std.proofs.lemmas.List.{length_push}
use Rattle.std.proofs.lemmas.List.Elements.{recursion_from_All, All-contains}
use Rattle.tree_definitions.specs.Name.{IsName}
use Rattle.tree_definitions.specs.Tree.{Symbol}
use Rattle.tree_definitions.specs.Relation.{IsAt}
use Rattle.tree_definitions.specs.Witness.{NodeRow, FitsNode}
use Rattle.tree_definitions.proofs.Members.{contains_at}
use Rattle.witness_trees.specs.Nodes.{NodeList, IsNodeList}
use Rattle.witness_trees.specs.NodesText.{name_at, number_text, kids_text, lines_text, nodes_text}
use Rattle.witness_trees.specs.Judged.{Verdict, Is, then_judged, cut_at, number_of, is_number, line_then, lines_in, count_in, counted, first_then, judged}
use Rattle.witness_trees.proofs.Symbols.{and_both}
use Rattle.witness_trees.proofs.Spelled.{IsFree, AreSmall, free_append, name_free, number_free, inner_free, cut_free, decimal_number, decimal_value, line_text, name_found, node_back, small_earlier}

kids_free : (ks : List ℕ) → AreSmall ks → IsFree 10 (kids_text ks)
kids_free [] all = tt
kids_free (k ∷ ks) all = (refl, free_append 10 _ (41 ∷ []) (inner_free 10 refl refl k ks all.0 all.1) (refl, tt))

module _ (symbols : List Symbol) (apart : AllPairs ◌≢◌ symbols) (names : All (λ a. IsName a.name) symbols) where
  line_free : (k : ℕ) (node : NodeRow) → suc k < 2 ^ 64 → FitsNode symbols k node → IsFree 10 (line_text k (name_at symbols node.symbol) node.kids)
  line_free k node small fits =
      let a = fits.symbol.0 in
      let named : IsName a.name = All-contains (λ (x : Symbol). IsName x.name) symbols a names (contains_at symbols node.symbol a fits.symbol.1) in
      let name : IsFree 10 (name_at symbols node.symbol) = subst (IsFree 10) (sym (name_found symbols node.symbol a fits.symbol.1)) (name_free 10 refl a.name named) in
      let kids = kids_free node.kids (small_earlier k small node.kids (recursion_from_All (λ j. j < k) node.kids fits.earlier)) in
      free_append 10 _ (kids_text node.kids) (free_append 10 (number_text k) _ (number_free 10 refl (suc k) small) (refl, name)) kids

  pub lines_back : (done nodes : List NodeRow) (at : ℕ) → ((j : ℕ) (node : NodeRow) → IsAt nodes j node → FitsNode symbols (length done + j) node) → length done + length nodes ≤ 4294967295
      → lines_in symbols (length nodes) at done (lines_text symbols (length done) nodes) ≡ Is (done ++ nodes)
  unfolding lines_in
  lines_back done [] at fits few = ap Is (sym (append-nil done))
  lines_back done (node ∷ nodes) at fits few =
      let k = length done in
      let small : suc k < 2 ^ 64 = omega arith in
      let zeroth : k + 0 ≡ k = omega arith in
      let fit : FitsNode symbols k node = subst (λ n. FitsNode symbols n node) zeroth (fits 0 node refl) in
      let line = line_text k (name_at symbols node.symbol) node.kids in
      let rest = lines_text symbols (suc k) nodes in
      let grown : suc k ≡ length (done ++ node ∷ []) = omega (arith, length_push done node) in
      let later : (j : ℕ) (x : NodeRow) → IsAt nodes j x → FitsNode symbols (length (done ++ node ∷ []) + j) x =
      λ j x p. let e : k + suc j ≡ length (done ++ node ∷ []) + j = omega (arith, grown) in subst (λ n. FitsNode symbols n x) e (fits (suc j) x p) in
      ap (λ bytes. line_then symbols k at next (cut_at 10 bytes)) (append_assoc (line_text k (name_at symbols node.symbol) node.kids) (10 ∷ []) (lines_text symbols (suc k) nodes))
      ∙ ap (line_then symbols k at next) (cut_free 10 line rest (line_free k node small fit))
      ∙ ap (λ v. then_judged v (λ x. next x (at + length line + 1) rest)) (node_back symbols k at node apart names small fit)
      ∙ ap (λ m. lines_in symbols (length nodes) (at + length line + 1) (done ++ node ∷ []) (lines_text symbols m nodes)) grown
      ∙ lines_back (done ++ node ∷ []) nodes (at + length line + 1) later (omega (arith, grown))
      ∙ ap Is (append_assoc done (node ∷ []) nodes)
    where
      next : NodeRow → ℕ → List ℕ → Verdict (List NodeRow)
      next x after bytes = lines_in symbols (length nodes) after (done ++ x ∷ []) bytes

count_back : (n : ℕ) → 0 < n → n < 2 ^ 64 → count_in (codes "nodes " ++ decimal n) ≡ Some n
unfolding count_in
count_back n one small =
    let value = decimal_value n small in
    let is : (is_number (decimal n) && nat_le 1 (number_of (decimal n))) ≡ true = and_both _ _ (decimal_number n one small) (ap (nat_le 1) value ∙ le-leb 1 n (omega arith)) in
    ap (λ t. cond t (Some (number_of (decimal n))) None) is ∙ ap Some value

pub printed_back : (list : NodeList) → IsNodeList list → All (λ a. IsName a.name) list.symbols → 0 < length list.rows → judged list.symbols (nodes_text list) ≡ Is list.rows
unfolding judged nodes_text
printed_back list h names some =
    let n = length list.rows in
    let few = h.few_nodes in
    let small : n < 2 ^ 64 = omega arith in
    let head = codes "nodes " ++ decimal n in
    let free : IsFree 10 (codes "nodes " ++ decimal n) = free_append 10 (codes "nodes ") (decimal n) (refl, (refl, (refl, (refl, (refl, (refl, tt)))))) (number_free 10 refl n small) in
    let fits : (j : ℕ) (node : NodeRow) → IsAt list.rows j node → FitsNode list.symbols (0 + j) node =
    λ j node p. let e : j ≡ 0 + j = omega arith in subst (λ m. FitsNode list.symbols m node) e (h.nodes j node p) in
    ap (λ text. first_then list.symbols (cut_at 10 text)) (append_assoc (codes "nodes " ++ decimal n) (10 ∷ []) (lines_text list.symbols 0 list.rows))
    ∙ ap (first_then list.symbols) (cut_free 10 (codes "nodes " ++ decimal n) (lines_text list.symbols 0 list.rows) free)
    ∙ ap (counted list.symbols (length (codes "nodes " ++ decimal n) + 1) (lines_text list.symbols 0 list.rows)) (count_back n some small)
    ∙ lines_back list.symbols h.distinct names [] list.rows (length (codes "nodes " ++ decimal n) + 1) fits (omega arith)
