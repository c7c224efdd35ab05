-- Entries are alike where their keys are the same.
use Rattle.std.proofs.Common.{◌≡◌, ℕ, suc, ◌<◌, List, [], ◌∷◌, ◌++◌, Bool, true, false, length, get_or, map, refl, sym, ap, subst, ◌∙◌, ◌&&◌, ◌||◌, arith}
use Rattle.std.specs.Prelude.{nat_eq, not}
use Rattle.std.specs.List.{list_any}
use Rattle.std.specs.Cmp.Lexicographic.{pointwise, bytes_decides}
use Rattle.std.proofs.lemmas.List.{map-append}
use Rattle.std.proofs.lemmas.List.Folds.{list_any_at}
use Rattle.std.specs.Prelude.{Contains}
use Rattle.std.specs.Global.{Vec}
use Rattle.std.proofs.lemmas.Option.{slice_get_within}
use Rattle.tree_definitions.specs.Automaton.{Automaton, IsNarrow, IsRule}
use Rattle.tree_definitions.specs.Cover.{Pair}
use Rattle.tree_definitions.specs.DownTrail.{DownEntry, Root, Child, Split, SentBy, AreAlike, IsPairOf}
use Rattle.tree_definitions.specs.Relation.{AreEqual, Places, Has, IsAt}
use Rattle.tree_definitions.proofs.Members.{at_within, contains_head, contains_tail}
use Rattle.listed_pairs.specs.DownEntries.{FitDownEntries}
use Rattle.down_trails.specs.Keys.{AreMembers, IsKeyOf, IsPairKey, IsSplitKey, parts_of}
use Rattle.down_trails.proofs.Rising.{rising_same}
use Rattle.down_trails.proofs.Splitting.{fits_pair, kids_once, kids_same, pairs_same, same_row, tuples_same}

-- sets with the same members have the same list of them
pub members_once : (P Q : Places) (xs ys : List ℕ) → AreMembers P xs → AreMembers Q ys → AreEqual P Q → xs ≡ ys
members_once P Q xs ys p q h =
    rising_same ◌<◌ (λ x y l k. absurd (omega arith)) xs ys p.rising q.rising (λ s. (λ m. (q.same s).1 ((h s).0 ((p.same s).0 m)), λ m. (p.same s).1 ((h s).1 ((q.same s).0 m))))

pub same_members : (P Q : Places) (xs ys : List ℕ) → AreMembers P xs → AreMembers Q ys → xs ≡ ys → AreEqual P Q
same_members P Q xs ys p q e s = (
  λ m. (q.same s).0 (subst (λ zs. Contains zs s) e ((p.same s).1 m)),
  λ m. (p.same s).0 (subst (λ zs. Contains zs s) (sym e) ((q.same s).1 m)),
)

-- lists of one length that agree at each place are equal
pub same_list : {X : Type 0} (xs ys : List X) → length xs ≡ length ys → ((i : ℕ) (x y : X) → IsAt xs i x → IsAt ys i y → x ≡ y) → xs ≡ ys
same_list [] [] e h = refl
same_list [] (y ∷ ys) e h = absurd (omega (arith, e))
same_list (x ∷ xs) [] e h = absurd (omega (arith, e))
same_list (x ∷ xs) (y ∷ ys) e h = ap (λ z. z ∷ xs) (h 0 x y refl refl) ∙ ap (λ l. y ∷ l) (same_list xs ys (omega (arith, e)) (λ i. h (suc i)))

module _ (A B : Automaton) (narrow : IsNarrow A) (entries : List DownEntry) (fits : FitDownEntries A B entries) where
  pair_alike : (p q : Pair) (k l : List (List ℕ)) → length p.set ≡ length q.set → IsPairKey p k → IsPairKey q l → k ≡ l → p ≡ q
  pair_alike p q k l long h g e =
      let whole : (p.state ∷ []) ∷ h.members ∷ [] ≡ (q.state ∷ []) ∷ g.members ∷ [] = sym h.key_is ∙ e ∙ g.key_is in
      let state : p.state ≡ q.state = cc in
      let ms : h.members ≡ g.members = cc in
      let set : p.set ≡ q.set = same_row p.set q.set long (same_members (Has p.set) (Has q.set) h.members g.members h.set g.set ms) in
      λ i. record { state = state i; set = set i }

  pair_key_once : (p q : Pair) (k l : List (List ℕ)) → IsPairKey p k → IsPairKey q l → p ≡ q → k ≡ l
  pair_key_once p q k l h g e =
      let state : p.state ≡ q.state = ap (λ (x : Pair). x.state) e in
      let ms : h.members ≡ g.members = members_once (Has p.set) (Has q.set) h.members g.members h.set g.set (λ s. (λ m. subst (λ (x : Pair). Has x.set s) e m, λ m. subst (λ (x : Pair). Has x.set s) (sym e) m)) in
      h.key_is ∙ ap (λ z. (z ∷ []) ∷ h.members ∷ []) state ∙ ap (λ z. (q.state ∷ []) ∷ z ∷ []) ms ∙ sym g.key_is

  split_alike : (e r e' r' : ℕ) (choice choice' : List ℕ) (k l : List (List ℕ)) → IsSplitKey A B entries e r choice k → IsSplitKey A B entries e' r' choice' l → k ≡ l
      → AreAlike A B entries (Split e r choice) (Split e' r' choice')
  split_alike e r e' r' choice choice' k l h g same =
      let whole : (h.of.pair.state ∷ []) ∷ h.members ∷ (r ∷ []) ∷ h.sets ≡ (g.of.pair.state ∷ []) ∷ g.members ∷ (r' ∷ []) ∷ g.sets = sym h.key_is ∙ same ∙ g.key_is in
      let state : h.of.pair.state ≡ g.of.pair.state = cc in
      let ms : h.members ≡ g.members = cc in
      let rules : r ≡ r' = cc in
      let sets : h.sets ≡ g.sets = cc in
      let fit = fits_pair A B entries fits e h.of.named.0 h.of.pair h.of.named.1 h.of.named.2 in
      let fit' = fits_pair A B entries fits e' g.of.named.0 g.of.pair g.of.named.1 g.of.named.2 in
      let set : h.of.pair.set ≡ g.of.pair.set = same_row h.of.pair.set g.of.pair.set (fit.set ∙ sym fit'.set) (same_members (Has h.of.pair.set) (Has g.of.pair.set) h.members g.members h.set g.set ms) in
      let pairs : h.of.pair ≡ g.of.pair = λ i. record { state = state i; set = set i } in (
        h.of,
        g.of,
        pairs,
        rules,
        λ place low.
            let count = h.count in
            let at = at_within h.sets place (omega (arith, low, count)) in
            same_members (SentBy h.of.tuples choice place) (SentBy g.of.tuples choice' place) at.0 at.0 (h.each place at.0 at.1) (g.each place at.0 (subst (λ zs. IsAt zs place at.0) sets at.1)) refl,
      )

  split_key_once : (e r e' r' : ℕ) (choice choice' : List ℕ) (k l : List (List ℕ)) → IsSplitKey A B entries e r choice k → IsSplitKey A B entries e' r' choice' l
      → AreAlike A B entries (Split e r choice) (Split e' r' choice') → k ≡ l
  split_key_once e r e' r' choice choice' k l h g (of, of', pairs, rules, sent) =
      let mine = pairs_same A B entries e r h.of of in
      let yours = pairs_same A B entries e' r' g.of of' in
      let pair : h.of.pair ≡ g.of.pair = mine ∙ pairs ∙ sym yours in
      let ms : h.members ≡ g.members = members_once (Has h.of.pair.set) (Has g.of.pair.set) h.members g.members h.set g.set (λ s. (λ m. subst (λ (x : Pair). Has x.set s) pair m, λ m. subst (λ (x : Pair). Has x.set s) (sym pair) m)) in
      let tuples = tuples_same A B entries e r h.of of narrow in
      let tuples' = tuples_same A B entries e' r' g.of of' narrow in
      let kids : length h.of.kids ≡ length of.kids = ap (λ (ks : List ℕ). length ks) (kids_same A B entries e r h.of of) in
      let one_rule : of.kids ≡ of'.kids = kids_once A r of.symbol of'.symbol of.kids of'.kids of.pair.state of'.pair.state of.rule
      (subst (λ z. IsRule A z of'.symbol of'.kids of'.pair.state) (sym rules) of'.rule) in
      let kids' : length of'.kids ≡ length g.of.kids = sym (ap (λ (ks : List ℕ). length ks) (kids_same A B entries e' r' g.of of')) in
      let long : length h.sets ≡ length g.sets = h.count ∙ kids ∙ ap (λ (ks : List ℕ). length ks) one_rule ∙ kids' ∙ sym g.count in
      let sets : h.sets ≡ g.sets = same_list h.sets g.sets long (λ place x y xat yat.
      let w = slice_get_within h.sets place x xat in
      let count = h.count in
      let eq = sent place (omega (arith, w, count, kids)) in
      members_once (SentBy of.tuples choice place) (SentBy of'.tuples choice' place) x y
      (subst (λ ts. AreMembers (SentBy ts choice place) x) tuples (h.each place x xat)) (subst (λ ts. AreMembers (SentBy ts choice' place) y) tuples' (g.each place y yat)) eq) in
      let state : h.of.pair.state ≡ g.of.pair.state = ap (λ (x : Pair). x.state) pair in
      h.key_is ∙ ap (λ z. (z ∷ []) ∷ h.members ∷ (r ∷ []) ∷ h.sets) state ∙ ap (λ z. (g.of.pair.state ∷ []) ∷ z ∷ (r ∷ []) ∷ h.sets) ms
      ∙ ap (λ z. (g.of.pair.state ∷ []) ∷ g.members ∷ (z ∷ []) ∷ h.sets) rules ∙ ap (λ z. (g.of.pair.state ∷ []) ∷ g.members ∷ (r' ∷ []) ∷ z) sets ∙ sym g.key_is

  long_pairs : (i j : ℕ) (x y : DownEntry) (p q : Pair) → IsAt entries i x → IsAt entries j y → IsPairOf x p → IsPairOf y q → length p.set ≡ length q.set
  long_pairs i j x y p q at bt h k = (fits_pair A B entries fits i x p at h).set ∙ sym (fits_pair A B entries fits j y q bt k).set

  pub key_alike : (i j : ℕ) (x y : DownEntry) (k l : List (List ℕ)) → IsAt entries i x → IsAt entries j y → IsKeyOf A B entries x k → IsKeyOf A B entries y l → k ≡ l → AreAlike A B entries x y
  key_alike i j (Root p) (Root q) k l at bt h g e = (q, pair_alike p q k l (long_pairs i j (Root p) (Root q) p q at bt refl refl) h g e, refl)
  key_alike i j (Root p) (Child q s m) k l at bt h g e = (q, pair_alike p q k l (long_pairs i j (Root p) (Child q s m) p q at bt refl refl) h g e, refl)
  key_alike i j (Child p s m) (Root q) k l at bt h g e = (q, pair_alike p q k l (long_pairs i j (Child p s m) (Root q) p q at bt refl refl) h g e, refl)
  key_alike i j (Child p s m) (Child q u n) k l at bt h g e = (q, pair_alike p q k l (long_pairs i j (Child p s m) (Child q u n) p q at bt refl refl) h g e, refl)
  key_alike i j (Root p) (Split f r c) k l at bt h g e = absurd (let w : (p.state ∷ []) ∷ h.members ∷ [] ≡ (g.of.pair.state ∷ []) ∷ g.members ∷ (r ∷ []) ∷ g.sets = sym h.key_is ∙ e ∙ g.key_is in cc)
  key_alike i j (Child p s m) (Split f r c) k l at bt h g e = absurd (let w : (p.state ∷ []) ∷ h.members ∷ [] ≡ (g.of.pair.state ∷ []) ∷ g.members ∷ (r ∷ []) ∷ g.sets = sym h.key_is ∙ e ∙ g.key_is in cc)
  key_alike i j (Split f r c) (Root q) k l at bt h g e = absurd (let w : (h.of.pair.state ∷ []) ∷ h.members ∷ (r ∷ []) ∷ h.sets ≡ (q.state ∷ []) ∷ g.members ∷ [] = sym h.key_is ∙ e ∙ g.key_is in cc)
  key_alike i j (Split f r c) (Child q s m) k l at bt h g e = absurd (let w : (h.of.pair.state ∷ []) ∷ h.members ∷ (r ∷ []) ∷ h.sets ≡ (q.state ∷ []) ∷ g.members ∷ [] = sym h.key_is ∙ e ∙ g.key_is in cc)
  key_alike i j (Split f r c) (Split f' r' c') k l at bt h g e = split_alike f r f' r' c c' k l h g e

  pub alike_key : (x y : DownEntry) (k l : List (List ℕ)) → IsKeyOf A B entries x k → IsKeyOf A B entries y l → AreAlike A B entries x y → k ≡ l
  alike_key (Root p) (Root q) k l h g a = pair_key_once p q k l h g (a.1 ∙ sym a.2)
  alike_key (Root p) (Child q s m) k l h g a = pair_key_once p q k l h g (a.1 ∙ sym a.2)
  alike_key (Child p s m) (Root q) k l h g a = pair_key_once p q k l h g (a.1 ∙ sym a.2)
  alike_key (Child p s m) (Child q u n) k l h g a = pair_key_once p q k l h g (a.1 ∙ sym a.2)
  alike_key (Root p) (Split f r c) k l h g a = absurd a.2
  alike_key (Child p s m) (Split f r c) k l h g a = absurd a.2
  alike_key (Split f r c) (Root q) k l h g a = absurd a.1
  alike_key (Split f r c) (Child q s m) k l h g a = absurd a.1
  alike_key (Split f r c) (Split f' r' c') k l h g a = split_key_once f r f' r' c c' k l h g a

pub parts_pushed : (old new : List (Vec ℕ)) (v : Vec ℕ) → new ≡ old ++ v ∷ [] → map (λ (part : Vec ℕ). part.items) new ≡ map (λ (part : Vec ℕ). part.items) old ++ v.items ∷ []
parts_pushed old new v e = ap (map (λ (part : Vec ℕ). part.items)) e ∙ map-append (λ (part : Vec ℕ). part.items) old (v ∷ [])

-- a set of a pair of an automaton with few states is short
pub fits_few : (A B : Automaton) (entries : List DownEntry) → FitDownEntries A B entries → length B.states < 4294967295 → (i : ℕ) (entry : DownEntry) (p : Pair) → IsAt entries i entry → IsPairOf entry p → length p.set < 4294967296
fits_few A B entries fits few i entry p at h = let e = (fits_pair A B entries fits i entry p at h).set in omega (arith, e, few)

abbrev pub part_eq : Vec ℕ → Vec ℕ → Bool
part_eq a b = pointwise nat_eq a.items b.items

abbrev pub key_eq : Vec (Vec ℕ) → Vec (Vec ℕ) → Bool
key_eq k l = pointwise part_eq k.items l.items

both_true : (a b : Bool) → a ≡ true → b ≡ true → (a && b) ≡ true
both_true true b p q = q
both_true false b p q = p

first_true : (a b : Bool) → (a && b) ≡ true → a ≡ true
first_true true b e = refl
first_true false b e = e

second_true : (a b : Bool) → (a && b) ≡ true → b ≡ true
second_true true b e = e
second_true false b e = absurd cc

parts_same : (xs ys : List (Vec ℕ)) → pointwise part_eq xs ys ≡ true → map (λ (part : Vec ℕ). part.items) xs ≡ map (λ (part : Vec ℕ). part.items) ys
parts_same [] [] e = refl
parts_same [] (y ∷ ys) e = absurd cc
parts_same (x ∷ xs) [] e = absurd cc
parts_same (x ∷ xs) (y ∷ ys) e =
    let h : x.items ≡ y.items = (bytes_decides x.items y.items).0 (first_true (part_eq x y) (pointwise part_eq xs ys) e) in
    ap (λ z. z ∷ map (λ (part : Vec ℕ). part.items) xs) h ∙ ap (λ l. y.items ∷ l) (parts_same xs ys (second_true (part_eq x y) (pointwise part_eq xs ys) e))

parts_test : (xs ys : List (Vec ℕ)) → map (λ (part : Vec ℕ). part.items) xs ≡ map (λ (part : Vec ℕ). part.items) ys → pointwise part_eq xs ys ≡ true
parts_test [] [] e = refl
parts_test [] (y ∷ ys) e = absurd cc
parts_test (x ∷ xs) [] e = absurd cc
parts_test (x ∷ xs) (y ∷ ys) e =
    let h : x.items ≡ y.items = cc in
    let t : map (λ (part : Vec ℕ). part.items) xs ≡ map (λ (part : Vec ℕ). part.items) ys = cc in
    both_true (part_eq x y) (pointwise part_eq xs ys) ((bytes_decides x.items y.items).1 h) (parts_test xs ys t)

pub any_key : (ks : List (Vec (Vec ℕ))) (k l : Vec (Vec ℕ)) → Contains ks l → parts_of k ≡ parts_of l → list_any (key_eq k) ks ≡ true
any_key ks k l m e = list_any_at (key_eq k) ks m.0 l m.1 (parts_test k.items (get_or ks m.0 l).items (e ∙ ap (λ (x : Vec (Vec ℕ)). parts_of x) (sym m.2)))

pub some_key : (ks : List (Vec (Vec ℕ))) (k : Vec (Vec ℕ)) → list_any (key_eq k) ks ≡ true → (l : Vec (Vec ℕ)) × Contains ks l × (parts_of k ≡ parts_of l)
some_key [] k e = absurd cc
some_key (x ∷ xs) k e = go (key_eq k x) refl e (λ t. some_key xs k t)
  where
    go : (b : Bool) → key_eq k x ≡ b → (b || list_any (key_eq k) xs) ≡ true → (list_any (key_eq k) xs ≡ true → (l : Vec (Vec ℕ)) × Contains xs l × (parts_of k ≡ parts_of l)) → (l : Vec (Vec ℕ)) × Contains (x ∷ xs) l × (parts_of k ≡ parts_of l)
    go true f t rest = (x, contains_head x xs, parts_same k.items x.items f)
    go false f t rest = let r = rest t in (r.0, contains_tail x xs r.0 r.1, r.2)

pub members_like : (P Q : Places) (ms : List ℕ) → AreEqual P Q → AreMembers P ms → AreMembers Q ms
members_like P Q ms h m = record { rising = m.rising; same = λ s. (λ c. (h s).0 ((m.same s).0 c), λ q. (m.same s).1 ((h s).1 q)) }

pub not_false : (a b : Bool) → a ≡ not b → a ≡ true → b ≡ false
not_false a true e t = absurd cc
not_false a false e t = refl

pub not_true : (a b : Bool) → a ≡ not b → a ≡ false → b ≡ true
not_true a true e t = refl
not_true a false e t = absurd cc
