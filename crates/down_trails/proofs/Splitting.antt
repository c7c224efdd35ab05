-- What a split speaks of, once.
use Rattle.std.proofs.Common.{◌≡◌, ◌↔◌, ℕ, suc, ◌<◌, List, [], ◌∷◌, Bool, true, false, Some, length, get_or, map, refl, sym, ap, subst, ◌∙◌, arith}
use Rattle.std.specs.Prelude.{option_map, Result, Ok, Err, IfOk, All}
use Rattle.std.proofs.lemmas.Option.{slice_get-map, slice_get_read, slice_get_within}
use Rattle.std.proofs.lemmas.List.Elements.{All-contains, Contains-get_or}
use Rattle.tree_definitions.specs.Tree.{Symbol}
use Rattle.tree_definitions.specs.Automaton.{Automaton, Rule, IsRule, IsLabel, IsNarrow, IsAutomaton, IsState, FitsRule}
use Rattle.tree_definitions.specs.Cover.{Pair, FitsPair}
use Rattle.tree_definitions.specs.DownTrail.{DownEntry, Root, Child, Split, SplitOf, IsPairOf, HasPair, ListsDowns, Precedes, SentBy}
use Rattle.tree_definitions.specs.Relation.{Row, Has, IsAt}
use Rattle.tree_definitions.proofs.Members.{at_unique, contains_at}
use Rattle.tree_definitions.proofs.Listing.{at_label, kid_states, line_of, rule_of_line, rule_parts}
use Rattle.listed_pairs.specs.DownEntries.{FitDownEntries, entries_of, entry_of}
use Rattle.listed_pairs.specs.declared.entry.DownEntry.{DownEntry as Listed}
use Rattle.std.proofs.lemmas.List.{length-map}
use Rattle.smallvec.specs.SmallVec.{SmallVec}
use Rattle.ta_model.specs.Listing.{IsListed}
use Rattle.ta_model.specs.Tuples.{kids_of}
use Rattle.down_trails.specs.Entries.{AreOfStates, IsDivided, SplitsInto}
use Rattle.down_trails.proofs.Rising.{precedes_once, rising_same}

pub at_map : {X Y : Type 0} (f : X → Y) (xs : List X) (i : ℕ) (x : X) → IsAt xs i x → IsAt (map f xs) i (f x)
at_map f xs i x at = slice_get-map f xs i ∙ ap (option_map f) at

pub pair_once : (entry : DownEntry) (p q : Pair) → IsPairOf entry p → IsPairOf entry q → p ≡ q
pair_once (Root pair) p q h k = sym h ∙ k
pair_once (Child pair split place) p q h k = sym h ∙ k
pair_once (Split e r choice) p q h k = absurd h

pub has_pair_once : (entries : List DownEntry) (e : ℕ) (p q : Pair) → HasPair entries e p → HasPair entries e q → p ≡ q
has_pair_once entries e p q h k =
    let same : h.0 ≡ k.0 = at_unique entries e h.0 k.0 h.1 k.1 in
    pair_once k.0 p q (subst (λ (x : DownEntry). IsPairOf x p) same h.2) k.2

-- a line has one list of children, and in a narrow automaton one symbol
pub kids_once : (A : Automaton) (r : ℕ) (a b : Symbol) (xs ys : List ℕ) (p q : ℕ) → IsRule A r a xs p → IsRule A r b ys q → xs ≡ ys
kids_once A r a b xs ys p q h k =
    let one = line_of A r a xs p h in
    let other = line_of A r b ys q k in
    sym one.2 ∙ ap (λ (x : Rule). x.kids) (at_unique A.rules r one.0 other.0 one.1 other.1) ∙ other.2

pub symbol_once : (A : Automaton) → IsNarrow A → (r : ℕ) (a b : Symbol) (xs ys : List ℕ) (p q : ℕ) → IsRule A r a xs p → IsRule A r b ys q → a ≡ b
symbol_once A narrow r a b xs ys p q h k =
    let one = rule_parts A r a xs p h in
    let other = rule_parts A r b ys q k in
    let x : Rule = record { symbol = one.0; kids = xs; parent = p } in
    let y : Rule = record { symbol = other.0; kids = ys; parent = q } in
    let places : one.0 ≡ other.0 = ap (λ (z : Rule). z.symbol) (at_unique A.rules r x y one.2 other.2) in
    at_unique A.symbols other.0 a b (subst (λ n. IsAt A.symbols n a) places (at_label A one.0 a narrow one.1)) (at_label A other.0 b narrow other.1)

pub lists_once : (B : Automaton) (a : Symbol) (set : Row) (xs ys : List (List ℕ)) → ListsDowns B a set xs → ListsDowns B a set ys → xs ≡ ys
lists_once B a set xs ys h k = rising_same Precedes precedes_once xs ys h.rising k.rising (λ t. (λ m. (k.all t).1 ((h.all t).0 m), λ m. (h.all t).1 ((k.all t).0 m)))

module _ (A B : Automaton) (entries : List DownEntry) (e r : ℕ) (of other : SplitOf A B entries e r) where
  pub pairs_same : of.pair ≡ other.pair
  pairs_same = has_pair_once entries e of.pair other.pair of.named other.named

  pub kids_same : of.kids ≡ other.kids
  kids_same = kids_once A r of.symbol other.symbol of.kids other.kids of.pair.state other.pair.state of.rule other.rule

  pub tuples_same : IsNarrow A → of.tuples ≡ other.tuples
  tuples_same narrow =
      let symbols = symbol_once A narrow r of.symbol other.symbol of.kids other.kids of.pair.state other.pair.state of.rule other.rule in
      lists_once B other.symbol other.pair.set of.tuples other.tuples
      (subst (λ (a : Symbol). ListsDowns B a other.pair.set of.tuples) symbols (subst (λ (p : Pair). ListsDowns B of.symbol p.set of.tuples) pairs_same of.listed)) other.listed

same_truth : (x y : Bool) → ((x ≡ true) ↔ (y ≡ true)) → x ≡ y
same_truth true true h = refl
same_truth false false h = refl
same_truth true false h = absurd (let e = h.0 refl in cc)
same_truth false true h = absurd (let e = h.1 refl in cc)

-- rows of one length with the same places are equal
pub same_row : (xs ys : Row) → length xs ≡ length ys → ((s : ℕ) → Has xs s ↔ Has ys s) → xs ≡ ys
same_row [] [] e h = refl
same_row [] (y ∷ ys) e h = absurd (omega (arith, e))
same_row (x ∷ xs) [] e h = absurd (omega (arith, e))
same_row (x ∷ xs) (y ∷ ys) e h =
    let first : x ≡ y = same_truth x y (
      λ t. let f : Some x ≡ Some true = ap Some t in let g = (h 0).0 f in let r : y ≡ true = cc in r,
      λ t. let f : Some y ≡ Some true = ap Some t in let g = (h 0).1 f in let r : x ≡ true = cc in r,
    ) in
    ap (λ z. z ∷ xs) first ∙ ap (λ l. y ∷ l) (same_row xs ys (omega (arith, e)) (λ s. h (suc s)))

-- two facts of the value of a result
pub if_ok_both : {X E : Type 0} (r : Result X E) (P Q : X → Type 0) → IfOk r P → IfOk r Q → IfOk r (λ x. P x × Q x)
if_ok_both (Ok x) P Q p q = (p, q)
if_ok_both (Err e) P Q p q = tt

pub fits_pair : (A B : Automaton) (entries : List DownEntry) → FitDownEntries A B entries → (i : ℕ) (entry : DownEntry) (p : Pair) → IsAt entries i entry → IsPairOf entry p → FitsPair A B p
fits_pair A B entries fits i (Root pair) p at h = subst (FitsPair A B) h (fits i (Root pair) at)
fits_pair A B entries fits i (Child pair split place) p at h = subst (FitsPair A B) h (fits i (Child pair split place) at).0
fits_pair A B entries fits i (Split e r choice) p at h = absurd h

-- the children of a split are those of its rule
pub kids_of_rule : (A B : Automaton) (entries : List DownEntry) (e r : ℕ) (of : SplitOf A B entries e r) (rule : Rule) → IsAt A.rules r rule → of.kids ≡ rule.kids
kids_of_rule A B entries e r of rule at =
    let line = line_of A r of.symbol of.kids of.pair.state of.rule in
    sym line.2 ∙ ap (λ (x : Rule). x.kids) (at_unique A.rules r line.0 rule line.1 at)

-- a split from the pair of its entry, its rule and the tuples
pub split_of : (A B : Automaton) (entries : List DownEntry) (e r : ℕ) → IsDivided A entries e r → (rule : Rule) → IsAt A.rules r rule → (a : Symbol) → IsLabel A rule.symbol a
    → (p : Pair) → HasPair entries e p → (tuples : List (List ℕ)) → ListsDowns B a p.set tuples → SplitsInto A B entries e r tuples
split_of A B entries e r divided rule at a label p named tuples listed =
    let d = divided.1 in
    let which : d.1 ≡ rule = at_unique A.rules r d.1 rule d.3 at in
    let once : d.0 ≡ p = has_pair_once entries e d.0 p d.2 named in
    let parent : rule.parent ≡ p.state = sym (ap (λ (x : Rule). x.parent) which) ∙ d.4 ∙ ap (λ (x : Pair). x.state) once in
    let made : SplitOf A B entries e r = record {
      pair = p;
      symbol = a;
      kids = rule.kids;
      tuples = tuples;
      named = named;
      rule = subst (IsRule A r a rule.kids) parent (rule_of_line A r rule a at label);
      listed = listed;
    } in
    (made, refl)

pub listed_states : (B : Automaton) → IsAutomaton B → (a : Symbol) (set : Row) (tuples : List (List ℕ)) → ListsDowns B a set tuples → AreOfStates B tuples
listed_states B fits a set tuples listed i d l =
    let down = (listed.all (get_or tuples i d)).0 (Contains-get_or tuples i d l) in
    kid_states B fits a (get_or tuples i d) down.0 down.2

pub length_entries : (entries : List Listed) → length (entries_of entries) ≡ length entries
length_entries entries = length-map entries entry_of

-- a rule that is read from the automaton's rules, where some rule stands at this place
pub rule_read : (A : Automaton) (rules : List Rule) (r : ℕ) (rule : Rule) → rules ≡ A.rules → (other : Rule) → IsAt A.rules r other → rule ≡ get_or rules r rule → IsAt A.rules r rule
rule_read A rules r rule same other at is =
    let w = slice_get_within A.rules r other at in
    let long = ap (λ (xs : List Rule). length xs) same in
    subst (λ (xs : List Rule). IsAt xs r rule) same (slice_get_read rules (length rules) r rule refl (omega (arith, w, long)) is)

-- what a row has of the tuples in a slice it has of those in the list
pub row_sent : (slice items : List (SmallVec ℕ)) → slice ≡ items → (row : Row) (choice : List ℕ) (place : ℕ)
    → ((s : ℕ) → Has row s ↔ SentBy (kids_of slice) choice place s) → (s : ℕ) → Has row s ↔ SentBy (kids_of items) choice place s
row_sent slice items same row choice place h = subst (λ (xs : List (SmallVec ℕ)). (s : ℕ) → Has row s ↔ SentBy (kids_of xs) choice place s) same h

-- a child of a rule is a state
pub rule_kid : (A : Automaton) → IsAutomaton A → (r : ℕ) (rule : Rule) → IsAt A.rules r rule → (i q : ℕ) → IsAt rule.kids i q → q < length A.states
rule_kid A fits r rule at i q kid =
    let f = (All-contains (FitsRule A) A.rules rule fits.fitting (contains_at A.rules r rule at)).kids in
    All-contains (IsState A) rule.kids q f (contains_at rule.kids i q kid)

-- the places of the labels of rules are in range
pub labels_within : (B : Automaton) → IsListed B → All (λ (rule : Rule). rule.symbol < length B.symbols) B.rules
labels_within B listed k d l =
    let f = listed.automaton.fitting k d l in
    slice_get_within B.symbols (get_or B.rules k d).symbol f.symbol.0 f.symbol.1

pub labels_read : (B : Automaton) (rules : List Rule) (symbols : List Symbol) → rules ≡ B.rules → symbols ≡ B.symbols → IsListed B → All (λ (rule : Rule). rule.symbol < length symbols) rules
labels_read B rules symbols r s listed =
    subst (λ (xs : List Rule). All (λ (rule : Rule). rule.symbol < length symbols) xs) (sym r)
    (subst (λ (ys : List Symbol). All (λ (rule : Rule). rule.symbol < length ys) B.rules) (sym s) (labels_within B listed))
