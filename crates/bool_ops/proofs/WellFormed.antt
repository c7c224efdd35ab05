-- The parts of a product make a well-formed automaton.
use Rattle.std.proofs.Common.{◌≡◌, ◌≢◌, inl, ℕ, ◌<◌, ◌≤◌, ◌^◌, List, [], ◌∷◌, ◌++◌, map, filter, length, get_or, Some, codes, refl, sym, ap, ◌∙◌, subst, arith, append_assoc}
use Rattle.std.specs.Prelude.{All, Contains, AllPairs, decimal, not}
use Rattle.std.specs.List.{AllZip, list_any}
use Rattle.std.specs.Char.{digit_value}
use Rattle.std.specs.Str.Parse.{AllDigits}
use Rattle.std.proofs.lemmas.Fmt.{decimal_injective, decimal_is_IsNumeral}
use Rattle.std.proofs.lemmas.List.{length-map, get_or-map}
use Rattle.std.proofs.lemmas.List.Elements.{All-cons, All-nil, All-head, All-tail, All-append, All-filter, All-contains, All-weaker}
use Rattle.std.proofs.lemmas.Option.{slice_get_within, slice_get-get_or, get_or_from_slice_get}
use Rattle.tree_definitions.specs.Tree.{Symbol}
use Rattle.tree_definitions.specs.Automaton.{Automaton, Rule, IsAutomaton, FitsRule, IsState, HasRule}
use Rattle.tree_definitions.specs.Name.{IsName}
use Rattle.tree_definitions.specs.Product.{Both, pair_name}
use Rattle.tree_definitions.specs.Relation.{Row, IsAt}
use Rattle.tree_definitions.specs.Joint.{joint_symbols, same_symbol}
use Rattle.tree_definitions.proofs.Members.{at_unique, contains_at}
use Rattle.ta_model.specs.Listing.{IsListed}
use Rattle.bool_ops.specs.Closing.{both, AreAlike, IsClosed}
use Rattle.bool_ops.specs.Joined.{StandFor, IsPairOf, AreFinals, pairs_of, renumbered}
use Rattle.bool_ops.proofs.Filed.{at_distinct}
use Rattle.bool_ops.proofs.Assembled.{same_pairs, lefts_of, rights_of}
use Rattle.bool_ops.proofs.Stands.{zip_at, from_map}

-- no byte is an underscore
abbrev Plain : List ℕ → Type 0
Plain bs = All (λ b. b ≢ 95) bs

split : (ps qs rs ss : List ℕ) → Plain ps → Plain qs → ps ++ 95 ∷ rs ≡ qs ++ 95 ∷ ss → (ps ≡ qs) × (rs ≡ ss)
split [] [] rs ss p q e = (refl, cc)
split [] (b ∷ qs) rs ss p q e = let d : 95 ≡ b = cc in absurd (All-head (λ b. b ≢ 95) b qs q (sym d))
split (a ∷ ps) [] rs ss p q e = let d : a ≡ 95 = cc in absurd (All-head (λ b. b ≢ 95) a ps p d)
split (a ∷ ps) (b ∷ qs) rs ss p q e =
    let first : a ≡ b = cc in
    let rest : ps ++ 95 ∷ rs ≡ qs ++ 95 ∷ ss = cc in
    let m = split ps qs rs ss (All-tail (λ b. b ≢ 95) a ps p) (All-tail (λ b. b ≢ 95) b qs q) rest in
    (ap (λ z. z ∷ ps) first ∙ ap (λ zs. b ∷ zs) m.0, m.1)

decimal_plain : (n : ℕ) → n < 2 ^ 64 → Plain (decimal n)
decimal_plain n l = plain (decimal n) (decimal_is_IsNumeral n l).0.1
  where
    plain : (ds : List ℕ) → AllDigits 10 ds → Plain ds
    plain [] h = All-nil (λ b. b ≢ 95)
    plain (b ∷ ds) h = All-cons (λ b. b ≢ 95) b ds (λ e. let k : 36 < 10 = subst (λ z. digit_value z < 10) e h.0 in absurd (omega arith)) (plain ds h.1)

name_injective : (x y : Both) → x.left < 2 ^ 64 → x.right < 2 ^ 64 → y.left < 2 ^ 64 → y.right < 2 ^ 64 → pair_name x ≡ pair_name y → x ≡ y
name_injective x y a b c d e =
    let tail : (decimal x.left ++ 95 ∷ []) ++ decimal x.right ≡ (decimal y.left ++ 95 ∷ []) ++ decimal y.right = cc in
    let whole : decimal x.left ++ 95 ∷ decimal x.right ≡ decimal y.left ++ 95 ∷ decimal y.right =
    sym (append_assoc (decimal x.left) (95 ∷ []) (decimal x.right)) ∙ tail ∙ append_assoc (decimal y.left) (95 ∷ []) (decimal y.right) in
    let m = split (decimal x.left) (decimal y.left) (decimal x.right) (decimal y.right) (decimal_plain x.left a) (decimal_plain y.left c) whole in
    let lefts = decimal_injective x.left y.left a c m.0 in
    let rights = decimal_injective x.right y.right b d m.1 in
    ap (λ z. both z x.right) lefts ∙ ap (both y.left) rights

-- the names of distinct pairs are distinct
pub names_apart : (Z : List Both) → AllPairs ◌≢◌ Z → All (λ x. (x.left < 2 ^ 64) × (x.right < 2 ^ 64)) Z → AllPairs ◌≢◌ (map pair_name Z)
names_apart Z apart small i j d l m same =
    let size : length (map pair_name Z) ≡ length Z = length-map Z pair_name in
    let mj : j < length Z = omega arith in
    let mi : i < length Z = omega arith in
    let none : Both = record { left = 0; right = 0 } in
    let xi = small i none mi in
    let xj = small j none mj in
    let e : pair_name (get_or Z i none) ≡ pair_name (get_or Z j none) = sym (get_or-map pair_name Z i none d mi) ∙ same ∙ get_or-map pair_name Z j none d mj in
    apart i j none l mj (name_injective (get_or Z i none) (get_or Z j none) xi.0 xi.1 xj.0 xj.1 e)

pub joint_names : (P : Symbol → Type 0) (xs ys : List Symbol) → All P xs → All P ys → All P (joint_symbols xs ys)
joint_names P xs ys h g = All-append P xs (filter (λ y. not (list_any (same_symbol y) xs)) ys) h (All-filter (λ y. not (list_any (same_symbol y) xs)) P ys g)

-- items at two places differ, by places
pub apart_by_places : {X : Type 0} (xs : List X) → ((i j : ℕ) (x : X) → IsAt xs i x → IsAt xs j x → i ≡ j) → AllPairs ◌≢◌ xs
apart_by_places xs once i j d l m e =
    let mi : i < length xs = omega arith in
    let here : IsAt xs i (get_or xs j d) = slice_get-get_or xs i d mi ∙ ap Some e in
    let same = once i j (get_or xs j d) here (slice_get-get_or xs j d m) in
    omega (arith, same)

pub zip_length : {X Y : Type 0} (R : X → Y → Type 0) (xs : List X) (ys : List Y) → AllZip R xs ys → length xs ≡ length ys
zip_length R [] [] z = refl
zip_length R [] (y ∷ ys) z = absurd z
zip_length R (x ∷ xs) [] z = absurd z
zip_length R (x ∷ xs) (y ∷ ys) z = let e = zip_length R xs ys z.1 in omega (arith, e)

pairs_length : (ps qs : List ℕ) → length ps ≡ length qs → length (pairs_of ps qs) ≡ length ps
pairs_length [] qs e = refl
pairs_length (p ∷ ps) [] e = absurd (omega (arith, e))
pairs_length (p ∷ ps) (q ∷ qs) e = let h = pairs_length ps qs (omega (arith, e)) in omega (arith, h)

-- the renumbered rules stay distinct
pub renumbered_apart : (B : Automaton) (symbols : List Symbol) (numbers : List ℕ) → IsAutomaton B → AllZip (IsAt symbols) numbers B.symbols
    → AllPairs ◌≢◌ (map (renumbered numbers) B.rules)
renumbered_apart B symbols numbers fits zip = apart_by_places (map (renumbered numbers) B.rules) once
  where
    number : (line : Rule) (r : ℕ) → IsAt B.rules r line → (a : Symbol) × IsAt B.symbols line.symbol a × IsAt symbols (get_or numbers line.symbol 0) a
    number line r at =
        let f = (All-contains (FitsRule B) B.rules line fits.fitting (contains_at B.rules r line at)).symbol in
        let n = zip_at (IsAt symbols) numbers B.symbols line.symbol f.0 zip f.1 in
        (f.0, f.1, subst (λ z. IsAt symbols z f.0) (sym (get_or_from_slice_get numbers line.symbol n.0 0 n.1)) n.2)

    once : (i j : ℕ) (x : Rule) → IsAt (map (renumbered numbers) B.rules) i x → IsAt (map (renumbered numbers) B.rules) j x → i ≡ j
    once i j x iat jat =
        let m = from_map (renumbered numbers) B.rules i x iat in
        let n = from_map (renumbered numbers) B.rules j x jat in
        let a = number m.0 i m.1 in
        let b = number n.0 j n.1 in
        let e : renumbered numbers m.0 ≡ renumbered numbers n.0 = m.2 ∙ sym n.2 in
        let same : a.0 ≡ b.0 = at_unique symbols (get_or numbers n.0.symbol 0) a.0 b.0 (subst (λ (o : Rule). IsAt symbols o.symbol a.0) e a.2) b.2 in
        let symbol : m.0.symbol ≡ n.0.symbol = at_distinct B.symbols m.0.symbol n.0.symbol b.0 fits.symbols (subst (IsAt B.symbols m.0.symbol) same a.1) b.1 in
        let kids : m.0.kids ≡ n.0.kids = ap (λ (o : Rule). o.kids) e in
        let parent : m.0.parent ≡ n.0.parent = ap (λ (o : Rule). o.parent) e in
        let line : m.0 ≡ n.0 =
        ap (λ z. record { symbol = z; kids = m.0.kids; parent = m.0.parent }) symbol
        ∙ ap (λ z. record { symbol = n.0.symbol; kids = z; parent = m.0.parent }) kids
        ∙ ap (λ z. record { symbol = n.0.symbol; kids = n.0.kids; parent = z }) parent in
        at_distinct B.rules i j n.0 fits.rules (subst (IsAt B.rules i) line m.1) n.1

module _ (A B : Automaton) (S : List Symbol) (theirs : List Rule) (pairs found Z : List Both) (L R : Row) (fs : List ℕ) (rs : List Rule)
    (f : StandFor S (HasRule A) (HasRule B) A.rules theirs) (c : IsClosed A.rules theirs pairs found) (few : length found ≤ 2000000)
    (distinct : AllPairs ◌≢◌ Z) (found_distinct : AllPairs ◌≢◌ found) (ours_distinct : AllPairs ◌≢◌ A.rules) (theirs_distinct : AllPairs ◌≢◌ theirs)
    (size : length Z ≡ length pairs) (small : All (λ x. (x.left < 2 ^ 64) × (x.right < 2 ^ 64)) Z) (finals : AreFinals Z L R (length Z) fs)
    (zip : AllZip (IsPairOf A.rules theirs Z) found rs) (names : All IsName (map pair_name Z)) (title : IsName (codes "isect"))
    (symbol_names : All (λ a. IsName a.name) S) (few_symbols : length S ≤ 65535) where
  abbrev P : Automaton
  P = record { bits = 0; name = codes "isect"; symbols = S; states = map pair_name Z; finals = fs; rules = rs }

  alike : (y : Both) (rule : Rule) → Contains found y → (m : IsPairOf A.rules theirs Z y rule) → AreAlike m.left m.right
  alike y rule h m =
      let k = c.fits y h in
      subst (AreAlike m.left) (at_unique theirs y.right k.right m.right k.right_at m.right_at)
      (subst (λ l. AreAlike l k.right) (at_unique A.rules y.left k.left m.left k.left_at m.left_at) k.alike)

  same_rule : (i j : ℕ) (rule : Rule) → IsAt rs i rule → IsAt rs j rule → i ≡ j
  same_rule i j rule iat jat =
      let p = zip_at (IsPairOf A.rules theirs Z) found rs i rule zip iat in
      let q = zip_at (IsPairOf A.rules theirs Z) found rs j rule zip jat in
      let m = p.2 in
      let n = q.2 in
      let ma = alike p.0 rule (contains_at found i p.0 p.1) m in
      let na = alike q.0 rule (contains_at found j q.0 q.1) n in
      let row = same_pairs Z rule.kids (pairs_of m.left.kids m.right.kids) (pairs_of n.left.kids n.right.kids) m.kids n.kids in
      let top : both m.left.parent m.right.parent ≡ both n.left.parent n.right.parent = at_unique Z rule.parent _ _ m.parent n.parent in
      let left_kids : m.left.kids ≡ n.left.kids = sym (lefts_of m.left.kids m.right.kids ma.kids) ∙ ap (map (λ x. x.left)) row ∙ lefts_of n.left.kids n.right.kids na.kids in
      let right_kids : m.right.kids ≡ n.right.kids = sym (rights_of m.left.kids m.right.kids ma.kids) ∙ ap (map (λ x. x.right)) row ∙ rights_of n.left.kids n.right.kids na.kids in
      let left_symbol : m.left.symbol ≡ n.left.symbol = sym m.symbol ∙ n.symbol in
      let right_symbol : m.right.symbol ≡ n.right.symbol = sym ma.symbol ∙ left_symbol ∙ na.symbol in
      let left : m.left ≡ n.left = same_record m.left n.left left_symbol left_kids (ap (λ (x : Both). x.left) top) in
      let right : m.right ≡ n.right = same_record m.right n.right right_symbol right_kids (ap (λ (x : Both). x.right) top) in
      let lefts : p.0.left ≡ q.0.left = at_distinct A.rules p.0.left q.0.left n.left ours_distinct (subst (IsAt A.rules p.0.left) left m.left_at) n.left_at in
      let rights : p.0.right ≡ q.0.right = at_distinct theirs p.0.right q.0.right n.right theirs_distinct (subst (IsAt theirs p.0.right) right m.right_at) n.right_at in
      let y : p.0 ≡ q.0 = ap (λ z. both z p.0.right) lefts ∙ ap (both q.0.left) rights in
      at_distinct found i j q.0 found_distinct (subst (IsAt found i) y p.1) q.1
    where
      same_record : (a b : Rule) → a.symbol ≡ b.symbol → a.kids ≡ b.kids → a.parent ≡ b.parent → a ≡ b
      same_record a b e g h =
          ap (λ z. record { symbol = z; kids = a.kids; parent = a.parent }) e
          ∙ ap (λ z. record { symbol = b.symbol; kids = z; parent = a.parent }) g
          ∙ ap (λ z. record { symbol = b.symbol; kids = b.kids; parent = z }) h

  places_within : (ks : List ℕ) (xs : List Both) → AllZip (IsAt Z) ks xs → All (IsState P) ks
  places_within [] [] z = All-nil (IsState P)
  places_within [] (x ∷ xs) z = absurd z
  places_within (k ∷ ks) [] z = absurd z
  places_within (k ∷ ks) (x ∷ xs) z =
      All-cons (IsState P) k ks (let w = slice_get_within Z k x z.0 in let e = length-map Z pair_name in omega (arith, w, e)) (places_within ks xs z.1)

  fitting : (i : ℕ) (rule : Rule) → IsAt rs i rule → FitsRule P rule
  fitting i rule at =
      let p = zip_at (IsPairOf A.rules theirs Z) found rs i rule zip at in
      let m = p.2 in
      let ma = alike p.0 rule (contains_at found i p.0 p.1) m in
      let a = f.left_fits p.0.left m.left m.left_at in
      let count : length rule.kids ≡ length m.left.kids = zip_length (IsAt Z) rule.kids (pairs_of m.left.kids m.right.kids) m.kids ∙ pairs_length m.left.kids m.right.kids ma.kids in
      record {
        symbol = (a.0, subst (λ k. IsAt S k a.0) (sym m.symbol) a.1, count ∙ a.2);
        kids = places_within rule.kids (pairs_of m.left.kids m.right.kids) m.kids;
        parent = let w = slice_get_within Z rule.parent _ m.parent in let e = length-map Z pair_name in omega (arith, w, e);
      }

  pub well_formed : IsListed P
  well_formed = record {
    automaton = record {
      symbols = f.distinct;
      states = names_apart Z distinct small;
      finals = finals.distinct;
      rules = apart_by_places rs same_rule;
      final_states = All-weaker (λ k. k < length Z) (IsState P) (λ k l. let e = length-map Z pair_name in omega (arith, l, e)) fs finals.below;
      fitting = λ i d l. fitting i (get_or rs i d) (slice_get-get_or rs i d l);
      form = inl refl;
    };
    narrow = refl;
    name = title;
    symbol_names = symbol_names;
    state_names = names;
    few_symbols = few_symbols;
    few_states = let e = length-map Z pair_name in let k = c.few in omega (arith, e, k);
    few_rules = let e = zip_length (IsPairOf A.rules theirs Z) found rs zip in omega (arith, e);
  }
