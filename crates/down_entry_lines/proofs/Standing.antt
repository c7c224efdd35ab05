-- The names of a line stand within it.
use Rattle.std.proofs.Common.{◌≡◌, ℕ, zero, suc, ◌+◌, ◌-◌, ◌≤◌, Bool, true, false, cond, ◌&&◌, List, [], ◌∷◌, length, length-append, take, map, Option, Some, None, refl, ap, subst, arith}
use Rattle.std.specs.Prelude.{codes, option_map, nat_le}
use Rattle.std.specs.List.{list_all}
use Rattle.std.specs.Str.{bytes_eq}
use Rattle.std.proofs.lemmas.Slice.Eq.{bytes_eq-Decides}
use Rattle.tree_definitions.specs.Name.{is_name}
use Rattle.witness_trees.specs.Judged.{◌>>=◌, is_nil, cut_at, pieces_at, is_number, number_of}
use Rattle.witness_trees.proofs.Symbols.{and_parts}
use Rattle.witness_trees.proofs.Inverse.{passed, went_on, cut_joined}
use Rattle.certificate_lines.specs.Pairs.{spelled_names, spelled_words}
use Rattle.certificate_lines.specs.Telling.{span}
use Rattle.certificate_lines.proofs.Spans.{spelled_means, pieces_span}
use Rattle.down_entry_lines.specs.Entries.{WrittenEntry, RootLine, ChildLine, SplitLine, children_in, rule_of, rule_in, word_at, root_words, ends_with_child, child_words, ends_with_root, pair_words, split_words, written_words, entry_written}
use Rattle.down_entry_lines.specs.Views.{capped_entry, StandsWithin}

-- the first words take no more bytes than all
span_take : (words : List (List ℕ)) (k : ℕ) → span (take k words) ≤ span words
span_take words zero = omega arith
span_take [] (suc k) = omega arith
span_take (w ∷ words) (suc k) = let rest = span_take words k in omega (arith, rest)

-- the words of a pair take these bytes
pair_wide : (words : List (List ℕ)) (k : ℕ) (state : List ℕ) (names : List (List ℕ)) → spelled_words (take k words) ≡ Some (state, names) → length state + 3 + span names ≤ span words
pair_wide words k state names h =
    let m = spelled_means (take k words) state names h in
    let wide : span (take k words) ≡ length state + 1 + (1 + 1 + span names) = ap span m.parts in
    let front = span_take words k in
    omega (arith, wide, front)

-- a symbol with children takes these bytes
rule_wide : (bytes name : List ℕ) (children : List (List ℕ)) → rule_in bytes ≡ Some (name, children) → length name + 1 + span children ≤ length bytes + 1
unfolding rule_in children_in
rule_wide bytes name children h = go (cut_at 40 bytes) refl h
  where
    pair : List ℕ → List (List ℕ) → List ℕ × List (List ℕ)
    pair a b = (a, b)

    go : (o : Option (List ℕ × List ℕ)) → cut_at 40 bytes ≡ o → rule_of bytes o ≡ Some (pair name children) → length name + 1 + span children ≤ length bytes + 1
    go None e k =
        let t = passed (is_name bytes) (Some (pair bytes [])) (pair name children) k in
        let same : pair bytes [] ≡ pair name children = let v = t.1 in cc in
        let first : length bytes ≡ length name = ap (λ (x : List ℕ × List (List ℕ)). length x.0) same in
        let second : 0 ≡ span children = ap (λ (x : List ℕ × List (List ℕ)). span x.1) same in
        omega (arith, first, second)
    go (Some p) e k =
        let t = passed (is_name p.0) _ (pair name children) k in
        let s = went_on (children_in p.1) _ (pair name children) t.1 in
        let same : pair p.0 s.0 ≡ pair name children = let v = s.2 in cc in
        let first : length p.0 ≡ length name = ap (λ (x : List ℕ × List (List ℕ)). length x.0) same in
        let second : span s.0 ≡ span children = ap (λ (x : List ℕ × List (List ℕ)). span x.1) same in
        let u = went_on (cut_at 41 p.1) _ s.0 s.1 in
        let q = u.0 in
        let v = passed (is_nil q.1) (spelled_names (pieces_at 44 q.0)) s.0 u.2 in
        let x = passed (list_all is_name (pieces_at 44 q.0)) (Some (pieces_at 44 q.0)) s.0 v.1 in
        let is : pieces_at 44 q.0 ≡ s.0 = let y = x.1 in cc in
        let inner = pieces_span 44 q.0 in
        let wide = ap span is in
        let outer = ap length (cut_joined 40 bytes p e) in
        let parts = length-append p.0 (40 ∷ p.1) in
        let within = ap length (cut_joined 41 p.1 q u.1) in
        let pieces = length-append q.0 (41 ∷ q.1) in
        omega (arith, first, second, inner, wide, outer, parts, within, pieces)

module _ (size : ℕ) (v : WrittenEntry) where
  root_stands : (words : List (List ℕ)) → 5 + span words ≡ size + 1 → root_words words ≡ Some v → StandsWithin size v
  unfolding root_words
  root_stands words e h =
      let n = length words - 2 in
      let t = passed (nat_le 2 (length words) && bytes_eq (word_at words n) (codes ":")) (spelled_words (take n words) >>= λ p. Some (RootLine p.0 p.1)) v h in
      let s = went_on (spelled_words (take n words)) (λ p. Some (RootLine p.0 p.1)) v t.1 in
      let p = s.0 in
      let same : RootLine p.0 p.1 ≡ v = let x = s.2 in cc in
      let wide = pair_wide words n p.0 p.1 s.1 in
      let stands : StandsWithin size (RootLine p.0 p.1) = omega (arith, wide, e) in
      subst (StandsWithin size) same stands

  child_stands : (words : List (List ℕ)) → 5 + span words ≡ size + 1 → child_words words ≡ Some v → StandsWithin size v
  unfolding child_words
  child_stands words e h =
      let n = length words - 4 in
      let split = number_of (word_at words (length words - 2)) in
      let place = number_of (word_at words (length words - 1)) in
      let t = passed (ends_with_child words) (spelled_words (take n words) >>= λ p. Some (ChildLine p.0 p.1 split place)) v h in
      let s = went_on (spelled_words (take n words)) (λ p. Some (ChildLine p.0 p.1 split place)) v t.1 in
      let p = s.0 in
      let same : ChildLine p.0 p.1 split place ≡ v = let x = s.2 in cc in
      let wide = pair_wide words n p.0 p.1 s.1 in
      let stands : StandsWithin size (ChildLine p.0 p.1 split place) = omega (arith, wide, e) in
      subst (StandsWithin size) same stands

  pair_stands : (words : List (List ℕ)) → 5 + span words ≡ size + 1 → pair_words words ≡ Some v → StandsWithin size v
  pair_stands words e h = go (ends_with_root words) h
    where
      go : (b : Bool) → cond b (root_words words) (child_words words) ≡ Some v → StandsWithin size v
      go true k = root_stands words e k
      go false k = child_stands words e k

  split_stands : (words : List (List ℕ)) → 6 + span words ≡ size + 1 → split_words words ≡ Some v → StandsWithin size v
  unfolding split_words
  split_stands [] e h = absurd cc
  split_stands (a ∷ []) e h = absurd cc
  split_stands (a ∷ b ∷ []) e h = absurd cc
  split_stands (a ∷ b ∷ c ∷ []) e h = absurd cc
  split_stands (number ∷ colon ∷ rule ∷ mark ∷ choice) e h =
      let from = length number + 9 in
      let t = passed (is_number number && (bytes_eq colon (codes ":") && (bytes_eq mark (codes ":") && list_all is_number choice)))
      (rule_in rule >>= λ p. Some (SplitLine (number_of number) from p.0 p.1 (map number_of choice))) v h in
      let first = and_parts (is_number number) (bytes_eq colon (codes ":") && (bytes_eq mark (codes ":") && list_all is_number choice)) t.0 in
      let second = and_parts (bytes_eq colon (codes ":")) (bytes_eq mark (codes ":") && list_all is_number choice) first.1 in
      let one = ap length ((bytes_eq-Decides colon (codes ":")).0 second.0) in
      let s = went_on (rule_in rule) (λ p. Some (SplitLine (number_of number) from p.0 p.1 (map number_of choice))) v t.1 in
      let p = s.0 in
      let same : SplitLine (number_of number) from p.0 p.1 (map number_of choice) ≡ v = let x = s.2 in cc in
      let wide = rule_wide rule p.0 p.1 s.1 in
      let stands : StandsWithin size (SplitLine (number_of number) from p.0 p.1 (map number_of choice)) = omega (arith, wide, one, e) in
      subst (StandsWithin size) same stands

stands_written : (line : List ℕ) (v : WrittenEntry) → entry_written line ≡ Some v → StandsWithin (length line) v
unfolding entry_written
stands_written line v h = go (pieces_at 32 line) (pieces_span 32 line) h
  where
    go : (words : List (List ℕ)) → span words ≡ length line + 1 → written_words words ≡ Some v → StandsWithin (length line) v
    go [] e k = absurd cc
    go (word ∷ words) e k = kind (bytes_eq word (codes "pair")) refl k
      where
        kind : (b : Bool) → bytes_eq word (codes "pair") ≡ b → cond b (pair_words words) (cond (bytes_eq word (codes "split")) (split_words words) None) ≡ Some v → StandsWithin (length line) v
        kind true f j =
            let four = ap length ((bytes_eq-Decides word (codes "pair")).0 f) in
            pair_stands (length line) v words (omega (arith, four, e)) j
        kind false f j =
            let t = passed (bytes_eq word (codes "split")) (split_words words) v j in
            let five = ap length ((bytes_eq-Decides word (codes "split")).0 t.0) in
            split_stands (length line) v words (omega (arith, five, e)) t.1

-- the names of a line that was read stand within it
pub entry_stands : (line : List ℕ) (w : WrittenEntry) → option_map capped_entry (entry_written line) ≡ Some w → StandsWithin (length line) w
entry_stands line w h = go (entry_written line) refl h
  where
    still : (v : WrittenEntry) → StandsWithin (length line) v → StandsWithin (length line) (capped_entry v)
    still (RootLine state members) s = s
    still (ChildLine state members split place) s = s
    still (SplitLine number from name children choice) s = s

    go : (o : Option WrittenEntry) → entry_written line ≡ o → option_map capped_entry o ≡ Some w → StandsWithin (length line) w
    go None e k = absurd cc
    go (Some v) e k =
        let same : capped_entry v ≡ w = cc in
        subst (StandsWithin (length line)) same (still v (stands_written line v e))
