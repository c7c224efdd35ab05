-- What is done at each token takes it into the store, or finds the first limit that it passes.
use Rattle.std.proofs.Common.{◌≡◌, ℕ, ◌<◌, ◌≤◌, List, [], ◌∷◌, ◌++◌, length, Some, None, refl, sym, ap, ◌∙◌, subst, arith}
use Rattle.std.specs.List.{AllZip}
use Rattle.std.specs.Str.{bytes_eq}
use Rattle.std.specs.Str.Parse.{digits_value}
use Rattle.std.proofs.lemmas.Slice.Eq.{bytes_eq-Decides}
use Rattle.tree_definitions.specs.Tree.{Symbol}
use Rattle.tree_definitions.specs.Automaton.{Rule}
use Rattle.tree_definitions.specs.Relation.{IsAt}
use Rattle.tree_definitions.specs.Joint.{same_symbol}
use Rattle.timbuk_definitions.specs.Grammar.{Item, Plain, Title, OpName, OpRank, RuleName, RuleArrow, NamedRule}
use Rattle.timbuk_definitions.specs.Reading.{same_rule, title_of, symbol_of, state_of, final_of, rule_in, symbols_of, states_of, finals_of, rules_of, IsRuleAt}
use Rattle.timbuk_definitions.specs.Place.{Limit, Names, Rank, Symbols, States, Rules, IsOver, IsFull}
use Rattle.timbuk_definitions.proofs.Spelled.{symbol_decides, rule_decides}
use Rattle.timbuk_text.specs.declared.table.Action.{Action}
use Rattle.timbuk_text.specs.Store.{Store, HasItems, IsFew}
use Rattle.timbuk_text.specs.Taking.{symbol_read, item, Adds, Takes, IsLeast, Passes, Interns}
use Rattle.timbuk_text.proofs.Listed.{with_option, at_new, zip_weaker, firsts_push, title_after, head_push}

pub no_some : {Y : Type 0} (P : Y → Type 0) → (y : Y) × (None ≡ Some y) × P y → ⊥
no_some P h = absurd (let e = h.1 in cc)

pub one_some : {Y : Type 0} (P : Y → Type 0) (x : Y) → ¬ P x → (y : Y) × (Some x ≡ Some y) × P y → ⊥
one_some P x n h = let e : x ≡ h.0 = (let s = h.1 in cc) in n (subst P (sym e) h.2)

-- the parts that an item adds
pub record Pushes (old new : Store) (items : List Item) (x : Item) : Type 0 where
  pub title : new.title ≡ title_after old.title (title_of x)
  pub one_title : (w : List ℕ) → title_of x ≡ Some w → old.title ≡ None
  pub symbols : new.symbols ≡ with_option same_symbol old.symbols (symbol_of x)
  pub states : new.states ≡ with_option bytes_eq old.states (state_of x)
  pub finals : AllZip (IsAt new.states) new.finals (with_option bytes_eq (finals_of items) (final_of x))
  pub rules : AllZip (IsRuleAt new.symbols new.states) new.rules (with_option same_rule (rules_of items) (rule_in x))

pub pushed : (old new : Store) (items : List Item) (x : Item) → HasItems old items → Pushes old new items x → HasItems new (items ++ x ∷ [])
pushed old new items x h p = record {
  title = p.title ∙ ap (λ t. title_after t (title_of x)) h.title ∙ sym (head_push title_of items x (λ w e. sym h.title ∙ p.one_title w e));
  symbols = p.symbols ∙ ap (λ l. with_option same_symbol l (symbol_of x)) h.symbols ∙ sym (firsts_push same_symbol symbol_decides symbol_of items x);
  states = p.states ∙ ap (λ l. with_option bytes_eq l (state_of x)) h.states ∙ sym (firsts_push bytes_eq bytes_eq-Decides state_of items x);
  finals = subst (AllZip (IsAt new.states) new.finals) (sym (firsts_push bytes_eq bytes_eq-Decides final_of items x)) p.finals;
  rules = subst (AllZip (IsRuleAt new.symbols new.states) new.rules) (sym (firsts_push same_rule rule_decides rule_in items x)) p.rules;
}

pub zip_grown : (old new : List (List ℕ)) → ((i : ℕ) (n : List ℕ) → IsAt old i n → IsAt new i n) → (qs : List ℕ) (ns : List (List ℕ)) → AllZip (IsAt old) qs ns → AllZip (IsAt new) qs ns
zip_grown old new g qs ns h = zip_weaker (IsAt old) (IsAt new) g qs ns h

pub rule_grown : (symbols more : List Symbol) (old new : List (List ℕ)) → ((i : ℕ) (a : Symbol) → IsAt symbols i a → IsAt more i a) → ((i : ℕ) (n : List ℕ) → IsAt old i n → IsAt new i n)
    → (l : Rule) (r : NamedRule) → IsRuleAt symbols old l r → IsRuleAt more new l r
rule_grown symbols more old new f g l r h = record { symbol = f l.symbol r.symbol h.symbol; kids = zip_grown old new g l.kids r.kids h.kids; parent = g l.parent r.parent h.parent }

pub rules_grown : (symbols more : List Symbol) (old new : List (List ℕ)) → ((i : ℕ) (a : Symbol) → IsAt symbols i a → IsAt more i a) → ((i : ℕ) (n : List ℕ) → IsAt old i n → IsAt new i n)
    → (ls : List Rule) (rs : List NamedRule) → AllZip (IsRuleAt symbols old) ls rs → AllZip (IsRuleAt more new) ls rs
rules_grown symbols more old new f g ls rs h = zip_weaker (IsRuleAt symbols old) (IsRuleAt more new) (rule_grown symbols more old new f g) ls rs h

-- an item that adds nothing
bare : (old new : Store) (items : List Item) (x : Item) → HasItems old items → new.title ≡ old.title → new.symbols ≡ old.symbols → new.states ≡ old.states → new.finals ≡ old.finals → new.rules ≡ old.rules
    → title_of x ≡ None → symbol_of x ≡ None → state_of x ≡ None → final_of x ≡ None → rule_in x ≡ None → HasItems new (items ++ x ∷ [])
bare old new items x h t s q f r et es eq ef er = pushed old new items x h (record {
  title = t ∙ sym (ap (title_after old.title) et);
  one_title = λ w e. (let both : None ≡ Some w = sym et ∙ e in cc);
  symbols = s ∙ sym (ap (with_option same_symbol old.symbols) es);
  states = q ∙ sym (ap (with_option bytes_eq old.states) eq);
  finals = subst (AllZip (IsAt new.states) new.finals) (sym (ap (with_option bytes_eq (finals_of items)) ef)) (subst (λ l. AllZip (IsAt l) new.finals (finals_of items)) (sym q) (subst (λ l. AllZip (IsAt old.states) l (finals_of items)) (sym f) h.finals));
  rules = subst (AllZip (IsRuleAt new.symbols new.states) new.rules) (sym (ap (with_option same_rule (rules_of items)) er))
      (subst (λ l. AllZip (IsRuleAt l new.states) new.rules (rules_of items)) (sym s)
      (subst (λ l. AllZip (IsRuleAt old.symbols l) new.rules (rules_of items)) (sym q) (subst (λ l. AllZip (IsRuleAt old.symbols old.states) l (rules_of items)) (sym r) h.rules)));
})

pub within_all : (items : List Item) (x : Item) → ¬ IsOver Names items x → ¬ IsOver Rank items x → ¬ IsOver Symbols items x → ¬ IsOver States items x → ¬ IsOver Rules items x → (what : Limit) → ¬ IsOver what items x
within_all items x n k s q r Names = n
within_all items x n k s q r Rank = k
within_all items x n k s q r Symbols = s
within_all items x n k s q r States = q
within_all items x n k s q r Rules = r

pub long : (w : List ℕ) → length w ≤ 1000 → ¬ (1000 < length w)
long w h k = omega (arith, h, k)

-- the first limit, where those before it are kept
pub names_least : (items : List Item) (x : Item) → IsOver Names items x → IsLeast items x Names
names_least items x o = record { over = o; least = λ other l. absurd (omega (arith, l)) }

pub rank_least : (items : List Item) (x : Item) → IsOver Rank items x → ¬ IsOver Names items x → IsLeast items x Rank
rank_least items x o n = record { over = o; least = elim [ Names ↦ λ l. n | Rank ↦ λ l. absurd (omega (arith, l)) | Symbols ↦ λ l. absurd (omega (arith, l)) | States ↦ λ l. absurd (omega (arith, l)) | Rules ↦ λ l. absurd (omega (arith, l)) ] }

pub symbols_least : (items : List Item) (x : Item) → IsOver Symbols items x → ¬ IsOver Names items x → ¬ IsOver Rank items x → IsLeast items x Symbols
symbols_least items x o n k = record { over = o; least = elim [ Names ↦ λ l. n | Rank ↦ λ l. k | Symbols ↦ λ l. absurd (omega (arith, l)) | States ↦ λ l. absurd (omega (arith, l)) | Rules ↦ λ l. absurd (omega (arith, l)) ] }

pub states_least : (items : List Item) (x : Item) → IsOver States items x → ¬ IsOver Names items x → ¬ IsOver Rank items x → ¬ IsOver Symbols items x → IsLeast items x States
states_least items x o n k s = record { over = o; least = elim [ Names ↦ λ l. n | Rank ↦ λ l. k | Symbols ↦ λ l. s | States ↦ λ l. absurd (omega (arith, l)) | Rules ↦ λ l. absurd (omega (arith, l)) ] }

pub rules_least : (items : List Item) (x : Item) → IsOver Rules items x → ¬ IsOver Names items x → ¬ IsOver Rank items x → ¬ IsOver Symbols items x → ¬ IsOver States items x → IsLeast items x Rules
rules_least items x o n k s q = record { over = o; least = elim [ Names ↦ λ l. n | Rank ↦ λ l. k | Symbols ↦ λ l. s | States ↦ λ l. q | Rules ↦ λ l. absurd (omega (arith, l)) ] }

pub full_as : {X : Type 0} (most : ℕ) (old listed : List X) (x : X) → old ≡ listed → ¬ IsFull most old x → ¬ IsFull most listed x
full_as most old listed x e n = subst (λ l. ¬ IsFull most l x) e n

pub is_full_as : {X : Type 0} (most : ℕ) (old listed : List X) (x : X) → old ≡ listed → IsFull most old x → IsFull most listed x
is_full_as most old listed x e h = subst (λ l. IsFull most l x) e h

abbrev pub TooLong : List ℕ → Type 0
TooLong w = 1000 < length w

-- Nothing is said.
pub plain_taken : (old : Store) (w : List ℕ) → IsFew old → Takes Action.Plain w old old
plain_taken old w few = record {
  adds = λ items t role says h. subst (λ r. Adds old old items (item t r)) (sym says) (record {
    lists = bare old old items (item t Plain) h refl refl refl refl refl refl refl refl refl refl;
    within = within_all items (item t Plain) (no_some TooLong) (λ o. o) (no_some (IsFull 65535 (symbols_of items))) (no_some (IsFull 1000000 (states_of items))) (no_some (IsFull 2000000 (rules_of items)));
  });
  after = refl;
  grows = λ i n h. h;
  few = few;
}

-- The automaton's name.
abbrev titled : Store → List ℕ → Store
titled old w = record old { title = Some w }

pub title_taken : (old : Store) (w : List ℕ) → length w ≤ 1000 → IsFew old → Takes Action.Title w old (titled old w)
title_taken old w short few = record {
  adds = λ items t role says h. subst (λ r. Adds old (titled old w) items (item t r)) (sym says.0) (record {
    lists = pushed old (titled old w) items (item t (Title w)) h (record { title = refl; one_title = λ v e. says.1; symbols = refl; states = refl; finals = h.finals; rules = h.rules });
    within = within_all items (item t (Title w)) (one_some TooLong w (long w short)) (λ o. o) (no_some (IsFull 65535 (symbols_of items))) (no_some (IsFull 1000000 (states_of items))) (no_some (IsFull 2000000 (rules_of items)));
  });
  after = tt;
  grows = λ i n h. h;
  few = record { symbols = few.symbols; states = few.states; rules = few.rules };
}

pub title_long : (old : Store) (w : List ℕ) → 1000 < length w → Passes Action.Title w old Names
title_long old w over = λ items t role says h. subst (λ r. IsLeast items (item t r) Names) (sym says.0) (names_least items (item t (Title w)) (w, refl, over))

-- The name of a symbol.
abbrev headed : Store → List ℕ → Store
headed old w = record old { head = w }

pub op_name_taken : (old : Store) (w : List ℕ) → length w ≤ 1000 → IsFew old → Takes Action.OpName w old (headed old w)
op_name_taken old w short few = record {
  adds = λ items t role says h. subst (λ r. Adds old (headed old w) items (item t r)) (sym says) (record {
    lists = bare old (headed old w) items (item t (OpName w)) h refl refl refl refl refl refl refl refl refl refl;
    within = within_all items (item t (OpName w)) (one_some TooLong w (long w short)) (λ o. o) (no_some (IsFull 65535 (symbols_of items))) (no_some (IsFull 1000000 (states_of items))) (no_some (IsFull 2000000 (rules_of items)));
  });
  after = (refl, refl);
  grows = λ i n h. h;
  few = record { symbols = few.symbols; states = few.states; rules = few.rules };
}

pub op_name_long : (old : Store) (w : List ℕ) → 1000 < length w → Passes Action.OpName w old Names
op_name_long old w over = λ items t role says h. subst (λ r. IsLeast items (item t r) Names) (sym says) (names_least items (item t (OpName w)) (w, refl, over))

-- A list of symbols that grows.
abbrev with_symbols : Store → List Symbol → Store
with_symbols old symbols = record old { symbols = symbols }

symbol_pushed : (old new : Store) (items : List Item) (x : Item) (a : Symbol) (i : ℕ) → HasItems old items → Interns same_symbol 65535 old.symbols new.symbols a i
    → new.title ≡ old.title → new.states ≡ old.states → new.finals ≡ old.finals → new.rules ≡ old.rules
    → title_of x ≡ None → symbol_of x ≡ Some a → state_of x ≡ None → final_of x ≡ None → rule_in x ≡ None → HasItems new (items ++ x ∷ [])
symbol_pushed old new items x a i h s t q f r et es eq ef er = pushed old new items x h (record {
  title = t ∙ sym (ap (title_after old.title) et);
  one_title = λ w e. (let both : None ≡ Some w = sym et ∙ e in cc);
  symbols = s.list ∙ sym (ap (with_option same_symbol old.symbols) es);
  states = q ∙ sym (ap (with_option bytes_eq old.states) eq);
  finals = subst (AllZip (IsAt new.states) new.finals) (sym (ap (with_option bytes_eq (finals_of items)) ef)) (subst (λ l. AllZip (IsAt l) new.finals (finals_of items)) (sym q) (subst (λ l. AllZip (IsAt old.states) l (finals_of items)) (sym f) h.finals));
  rules = subst (AllZip (IsRuleAt new.symbols new.states) new.rules) (sym (ap (with_option same_rule (rules_of items)) er))
      (subst (λ l. AllZip (IsRuleAt new.symbols l) new.rules (rules_of items)) (sym q)
      (subst (λ l. AllZip (IsRuleAt new.symbols old.states) l (rules_of items)) (sym r)
      (rules_grown old.symbols new.symbols old.states old.states (λ j b at. subst (λ l. IsAt l j b) (sym s.list) (at_new same_symbol old.symbols a j b at)) (λ j n at. at) old.rules (rules_of items) h.rules)));
})

abbrev op_symbol : Store → List ℕ → Symbol
op_symbol old w = record { name = old.head; rank = digits_value 10 w }

pub op_rank_taken : (old : Store) (w : List ℕ) (symbols : List Symbol) (i : ℕ) → digits_value 10 w ≤ 32 → Interns same_symbol 65535 old.symbols symbols (op_symbol old w) i → IsFew old → Takes Action.OpRank w old (with_symbols old symbols)
op_rank_taken old w symbols i small s few = record {
  adds = λ items t role says h. subst (λ r. Adds old (with_symbols old symbols) items (item t r)) (sym says) (record {
    lists = symbol_pushed old (with_symbols old symbols) items (item t (OpRank (op_symbol old w))) (op_symbol old w) i h s refl refl refl refl refl refl refl refl refl;
    within = within_all items (item t (OpRank (op_symbol old w))) (no_some TooLong) (λ o. omega (arith, o, small))
        (one_some (IsFull 65535 (symbols_of items)) (op_symbol old w) (full_as 65535 old.symbols (symbols_of items) (op_symbol old w) h.symbols s.room))
        (no_some (IsFull 1000000 (states_of items))) (no_some (IsFull 2000000 (rules_of items)));
  });
  after = refl;
  grows = λ j n h. h;
  few = record { symbols = s.few; states = few.states; rules = few.rules };
}

pub op_rank_high : (old : Store) (w : List ℕ) → 32 < digits_value 10 w → Passes Action.OpRank w old Rank
op_rank_high old w over = λ items t role says h. subst (λ r. IsLeast items (item t r) Rank) (sym says) (rank_least items (item t (OpRank (op_symbol old w))) over (no_some TooLong))

pub op_rank_full : (old : Store) (w : List ℕ) → digits_value 10 w ≤ 32 → IsFull 65535 old.symbols (op_symbol old w) → Passes Action.OpRank w old Symbols
op_rank_full old w small full = λ items t role says h. subst (λ r. IsLeast items (item t r) Symbols) (sym says)
    (symbols_least items (item t (OpRank (op_symbol old w))) (op_symbol old w, refl, is_full_as 65535 old.symbols (symbols_of items) (op_symbol old w) h.symbols full) (no_some TooLong) (λ o. omega (arith, o, small)))

-- The arrow of a rule.
abbrev arrowed : Store → List Symbol → ℕ → Store
arrowed old symbols i = record old { symbols = symbols; symbol = i }

pub arrow_taken : (old : Store) (w : List ℕ) (symbols : List Symbol) (i : ℕ) → Interns same_symbol 65535 old.symbols symbols (symbol_read old) i → IsFew old → Takes Action.Arrow w old (arrowed old symbols i)
arrow_taken old w symbols i s few = record {
  adds = λ items t role says h. subst (λ r. Adds old (arrowed old symbols i) items (item t r)) (sym says) (record {
    lists = symbol_pushed old (arrowed old symbols i) items (item t (RuleArrow (symbol_read old))) (symbol_read old) i h s refl refl refl refl refl refl refl refl refl;
    within = within_all items (item t (RuleArrow (symbol_read old))) (no_some TooLong) (λ o. o)
        (one_some (IsFull 65535 (symbols_of items)) (symbol_read old) (full_as 65535 old.symbols (symbols_of items) (symbol_read old) h.symbols s.room))
        (no_some (IsFull 1000000 (states_of items))) (no_some (IsFull 2000000 (rules_of items)));
  });
  after = (refl, s.at);
  grows = λ j n h. h;
  few = record { symbols = s.few; states = few.states; rules = few.rules };
}

pub arrow_full : (old : Store) (w : List ℕ) → IsFull 65535 old.symbols (symbol_read old) → Passes Action.Arrow w old Symbols
arrow_full old w full = λ items t role says h. subst (λ r. IsLeast items (item t r) Symbols) (sym says)
    (symbols_least items (item t (RuleArrow (symbol_read old))) (symbol_read old, refl, is_full_as 65535 old.symbols (symbols_of items) (symbol_read old) h.symbols full) (no_some TooLong) (λ o. o))

-- The name that begins a rule.
abbrev opened : Store → List ℕ → Store
opened old w = record old { head = w; kids = [] }

pub head_taken : (old : Store) (w : List ℕ) → length w ≤ 1000 → IsFew old → Takes Action.Head w old (opened old w)
head_taken old w short few = record {
  adds = λ items t role says h. subst (λ r. Adds old (opened old w) items (item t r)) (sym says) (record {
    lists = bare old (opened old w) items (item t (RuleName w)) h refl refl refl refl refl refl refl refl refl refl;
    within = within_all items (item t (RuleName w)) (one_some TooLong w (long w short)) (λ o. o) (no_some (IsFull 65535 (symbols_of items))) (no_some (IsFull 1000000 (states_of items))) (no_some (IsFull 2000000 (rules_of items)));
  });
  after = (refl, refl);
  grows = λ i n h. h;
  few = record { symbols = few.symbols; states = few.states; rules = few.rules };
}

pub head_long : (old : Store) (w : List ℕ) → 1000 < length w → Passes Action.Head w old Names
head_long old w over = λ items t role says h. subst (λ r. IsLeast items (item t r) Names) (sym says) (names_least items (item t (RuleName w)) (w, refl, over))
