-- Each file has its automaton.
use Rattle.std.proofs.Common.{◌≡◌, ℕ, ◌⊎◌, inl, inr, true, List, [], ◌∷◌, ◌++◌, length, Option, Some, None, refl, sym, ap, subst, append_assoc}
use Rattle.std.specs.Prelude.{Contains}
use Rattle.std.specs.List.{AllByRecursion, AllZip, filter_map, cons_option}
use Rattle.std.specs.Str.{bytes_eq}
use Rattle.std.proofs.lemmas.List.{append-nil}
use Rattle.std.proofs.lemmas.Slice.Eq.{bytes_eq-Decides}
use Rattle.tree_definitions.specs.Tree.{Symbol}
use Rattle.tree_definitions.specs.Automaton.{Automaton, Rule}
use Rattle.tree_definitions.specs.Relation.{IsAt}
use Rattle.tree_definitions.specs.Joint.{same_symbol}
use Rattle.tree_definitions.proofs.Members.{contains_none, contains_head, contains_tail, contains_cases, place_of}
use Rattle.timbuk_definitions.specs.Token.{Token}
use Rattle.timbuk_definitions.specs.Grammar.{Item, Role, Plain, FinalName, KidName, RuleArrow, ParentName, NamedRule, IsFile}
use Rattle.timbuk_definitions.specs.Reading.{same_rule, symbol_of, state_of, final_of, rule_in, symbols_of, states_of, finals_of, rules_of, name_of, IsRuleAt, HasLists, Spells}
use Rattle.timbuk_definitions.specs.Machine.{Kind, Open, Close, Comma, Colon, Pointer, OpsWord, AutomatonWord, StatesWord, FinalWord, TransitionsWord, Named, kind_of, Slot, InStates, InFinals, InRules, InKids, Spot, Start, InOps, AfterOp, AfterOpColon, AfterAutomaton, AfterTitle, AfterFinal, AfterHead, AfterOpen, AfterComma, AfterClose, AfterPointer, In, AfterState, AfterColon, Move, go, step, step_in, Runs}
use Rattle.timbuk_definitions.specs.Place.{IsBadPlace}
use Rattle.timbuk_definitions.proofs.Sound.{it}
use Rattle.timbuk_definitions.proofs.Complete.{complete}
use Rattle.timbuk_definitions.proofs.Firsts.{first_contains}
use Rattle.timbuk_definitions.proofs.Spelled.{symbol_decides, rule_decides}
use Rattle.timbuk_definitions.proofs.BadPlaces.{file_or_bad}

-- the items add the value by this function
abbrev pub Has : {Y : Type 0} → (Item → Option Y) → List Item → Y → Type 0
Has f done y = Contains (filter_map f done) y

had_later : {Y : Type 0} (o : Option Y) (ys : List Y) (y : Y) → Contains ys y → Contains (cons_option o ys) y
had_later None ys y m = m
had_later (Some x) ys y m = contains_tail x ys y m

has_later : {Y : Type 0} (f : Item → Option Y) (done : List Item) (x : Item) (y : Y) → Has f done y → Has f (done ++ x ∷ []) y
has_later f [] x y m = absurd (contains_none y m)
has_later f (z ∷ done) x y m = go (f z) m (has_later f done x y)
  where
    go : (o : Option _) → Contains (cons_option o (filter_map f done)) y → (Has f done y → Has f (done ++ x ∷ []) y) → Contains (cons_option o (filter_map f (done ++ x ∷ []))) y
    go None m h = h m
    go (Some w) m h = elim (contains_cases w (filter_map f done) y m) [
      | inl e ↦ subst (λ v. Contains (v ∷ filter_map f (done ++ x ∷ [])) y) (sym e) (contains_head y (filter_map f (done ++ x ∷ [])))
      | inr k ↦ contains_tail w (filter_map f (done ++ x ∷ [])) y (h k)
    ]

has_now : {Y : Type 0} (f : Item → Option Y) (done : List Item) (x : Item) (y : Y) → f x ≡ Some y → Has f (done ++ x ∷ []) y
has_now f [] x y e = subst (λ o. Contains (cons_option o []) y) (sym e) (contains_head y [])
has_now f (z ∷ done) x y e = had_later (f z) (filter_map f (done ++ x ∷ [])) y (has_now f done x y e)

abbrev pub KidsKnown : List Item → List (List ℕ) → Type 0
KidsKnown done kids = AllByRecursion (Has state_of done) kids

pub record RuleKnown (done : List Item) (r : NamedRule) : Type 0 where
  pub symbol : Has symbol_of done r.symbol
  pub rank : r.symbol.rank ≡ length r.kids
  pub kids : KidsKnown done r.kids
  pub parent : Has state_of done r.parent

abbrev SlotKnown : List Item → Slot → Type 0
SlotKnown done (InKids n kids) = KidsKnown done kids
SlotKnown done s = Unit {0}

abbrev Known : List Item → Spot → Type 0
Known done (AfterComma n kids) = KidsKnown done kids
Known done (AfterClose n kids) = KidsKnown done kids
Known done (AfterPointer n kids) = KidsKnown done kids × Has symbol_of done (record { name = n; rank = length kids })
Known done (In s) = SlotKnown done s
Known done (AfterState s) = SlotKnown done s
Known done (AfterColon s) = SlotKnown done s
Known done s = Unit {0}

kids_later : (done : List Item) (x : Item) (kids : List (List ℕ)) → KidsKnown done kids → KidsKnown (done ++ x ∷ []) kids
kids_later done x [] h = tt
kids_later done x (k ∷ ks) h = (has_later state_of done x k h.0, kids_later done x ks h.1)

kids_more : (done : List Item) (kids : List (List ℕ)) (w : List ℕ) → KidsKnown done kids → Has state_of done w → KidsKnown done (kids ++ w ∷ [])
kids_more done [] w h m = (m, tt)
kids_more done (k ∷ ks) w h m = (h.0, kids_more done ks w h.1 m)

rule_later : (done : List Item) (x : Item) (r : NamedRule) → RuleKnown done r → RuleKnown (done ++ x ∷ []) r
rule_later done x r h = record { symbol = has_later symbol_of done x r.symbol h.symbol; rank = h.rank; kids = kids_later done x r.kids h.kids; parent = has_later state_of done x r.parent h.parent }

abbrev RoleKnown : List Item → Role → Type 0
RoleKnown done (ParentName r) = RuleKnown done r
RoleKnown done role = Unit {0}

-- a step keeps what is known
abbrev Keeps : List Item → Token → Option Move → Type 0
Keeps done t None = Unit {0}
Keeps done t (Some mv) = Known (done ++ it t mv.role ∷ []) mv.spot × RoleKnown (done ++ it t mv.role ∷ []) mv.role

keeps_in : (s : Slot) (k : Kind) (done : List Item) (t : Token) → SlotKnown done s → Keeps done t (step_in s k)
keeps_in InStates (Named w d) done t h = (tt, tt)
keeps_in InStates FinalWord done t h = (tt, tt)
keeps_in InStates k done t h = tt
keeps_in InFinals (Named w d) done t h = (tt, tt)
keeps_in InFinals TransitionsWord done t h = (tt, tt)
keeps_in InFinals k done t h = tt
keeps_in InRules (Named w d) done t h = (tt, tt)
keeps_in InRules k done t h = tt
keeps_in (InKids n kids) Comma done t h = (kids_later done (it t Plain) kids h, tt)
keeps_in (InKids n kids) Close done t h = (kids_later done (it t Plain) kids h, tt)
keeps_in (InKids n kids) k done t h = tt

slot_later : (s : Slot) (done : List Item) (x : Item) → SlotKnown done s → SlotKnown (done ++ x ∷ []) s
slot_later (InKids n kids) done x h = kids_later done x kids h
slot_later InStates done x h = tt
slot_later InFinals done x h = tt
slot_later InRules done x h = tt

keeps : (s : Spot) (k : Kind) (done : List Item) (t : Token) → Known done s → Keeps done t (step s k)
keeps Start OpsWord done t h = (tt, tt)
keeps Start k done t h = tt
keeps InOps (Named w d) done t h = (tt, tt)
keeps InOps AutomatonWord done t h = (tt, tt)
keeps InOps k done t h = tt
keeps (AfterOp n) Colon done t h = (tt, tt)
keeps (AfterOp n) k done t h = tt
keeps (AfterOpColon n) (Named w true) done t h = (tt, tt)
keeps (AfterOpColon n) k done t h = tt
keeps AfterAutomaton (Named w d) done t h = (tt, tt)
keeps AfterAutomaton StatesWord done t h = (tt, tt)
keeps AfterAutomaton k done t h = tt
keeps AfterTitle StatesWord done t h = (tt, tt)
keeps AfterTitle k done t h = tt
keeps AfterFinal StatesWord done t h = (tt, tt)
keeps AfterFinal k done t h = tt
keeps (AfterHead n) Open done t h = (tt, tt)
keeps (AfterHead n) Pointer done t h = ((tt, has_now symbol_of done (it t (RuleArrow (record { name = n; rank = 0 }))) (record { name = n; rank = 0 }) refl), tt)
keeps (AfterHead n) k done t h = tt
keeps (AfterOpen n) (Named w d) done t h = ((has_now state_of done (it t (KidName 0 w)) w refl, tt), tt)
keeps (AfterOpen n) Close done t h = (tt, tt)
keeps (AfterOpen n) k done t h = tt
keeps (AfterComma n kids) (Named w d) done t h =
    let x : Item = it t (KidName (length kids) w) in
    (kids_more (done ++ x ∷ []) kids w (kids_later done x kids h) (has_now state_of done x w refl), tt)
keeps (AfterComma n kids) k done t h = tt
keeps (AfterClose n kids) Pointer done t h =
    let a : Symbol = record { name = n; rank = length kids } in
    ((kids_later done (it t (RuleArrow a)) kids h, has_now symbol_of done (it t (RuleArrow a)) a refl), tt)
keeps (AfterClose n kids) k done t h = tt
keeps (AfterPointer n kids) (Named w d) done t h =
    let a : Symbol = record { name = n; rank = length kids } in
    let x : Item = it t (ParentName (record { symbol = a; kids = kids; parent = w })) in
    (tt, record { symbol = has_later symbol_of done x a h.1; rank = refl; kids = kids_later done x kids h.0; parent = has_now state_of done x w refl })
keeps (AfterPointer n kids) k done t h = tt
keeps (In s) k done t h = keeps_in s k done t h
keeps (AfterState s) Colon done t h = (slot_later s done (it t Plain) h, tt)
keeps (AfterState s) k done t h = keeps_in s k done t h
keeps (AfterColon s) (Named w true) done t h = (slot_later s done (it t Plain) h, tt)
keeps (AfterColon s) k done t h = tt

-- each rule of the items is known
abbrev pub RulesKnown : List Item → Type 0
RulesKnown done = (r : NamedRule) → Has rule_in done r → RuleKnown done r

last_has : {Y : Type 0} (f : Item → Option Y) (done : List Item) (x : Item) (y : Y) → Has f (done ++ x ∷ []) y → Has f done y ⊎ (f x ≡ Some y)
last_has {Y} f [] x y m = go (f x) m
  where
    go : (o : Option Y) → Contains (cons_option o []) y → Contains [] y ⊎ (o ≡ Some y)
    go None m = inl m
    go (Some w) m = elim (contains_cases w [] y m) [ inl e ↦ inr (ap Some e) | inr k ↦ inl k ]
last_has {Y} f (z ∷ done) x y m = go (f z) m (last_has f done x y)
  where
    go : (o : Option Y) → Contains (cons_option o (filter_map f (done ++ x ∷ []))) y → (Has f (done ++ x ∷ []) y → Has f done y ⊎ (f x ≡ Some y)) → Contains (cons_option o (filter_map f done)) y ⊎ (f x ≡ Some y)
    go None m h = h m
    go (Some w) m h = after (contains_cases w (filter_map f (done ++ x ∷ [])) y m) h
      where
        after : (w ≡ y) ⊎ Has f (done ++ x ∷ []) y → (Has f (done ++ x ∷ []) y → Has f done y ⊎ (f x ≡ Some y)) → Contains (w ∷ filter_map f done) y ⊎ (f x ≡ Some y)
        after (inl e) h = inl (subst (Contains (w ∷ filter_map f done)) e (contains_head w (filter_map f done)))
        after (inr k) h = elim (h k) [ inl m ↦ inl (contains_tail w (filter_map f done) y m) | inr e ↦ inr e ]

rules_keep : (done : List Item) (x : Item) → RulesKnown done → RoleKnown (done ++ x ∷ []) x.role → RulesKnown (done ++ x ∷ [])
rules_keep done x known here r m = elim (last_has rule_in done x r m) [ inl k ↦ rule_later done x r (known r k) | inr e ↦ now x.role here e ]
  where
    now : (role : Role) → RoleKnown (done ++ x ∷ []) role → rule_in (it x.token role) ≡ Some r → RuleKnown (done ++ x ∷ []) r
    now (ParentName q) h e = let same : q ≡ r = cc in subst (RuleKnown (done ++ x ∷ [])) same h
    now _ h e = absurd cc

run_known : (xs done : List Item) (s t : Spot) → Known done s → RulesKnown done → Runs s xs t → RulesKnown (done ++ xs)
run_known [] done s t known rules r = subst RulesKnown (sym (append-nil done)) rules
run_known (x ∷ xs) done s t known rules r =
    let kept : Keeps done x.token (go x.role r.0) = subst (Keeps done x.token) r.1.1 (keeps s (kind_of x.token) done x.token known) in
    subst RulesKnown (append_assoc done (x ∷ []) xs) (run_known xs (done ++ x ∷ []) r.0 t kept.0 (rules_keep done x rules kept.1) r.2)

-- a list of values that stand in another has places
places_for : {X : Type 0} (all xs : List X) → AllByRecursion (Contains all) xs → (is : List ℕ) × AllZip (IsAt all) is xs
places_for all [] h = ([], tt)
places_for all (x ∷ xs) h = let p = place_of all x h.0 in let rest = places_for all xs h.1 in (p.0 ∷ rest.0, (p.1, rest.1))

pub each_contains : {X : Type 0} (P : X → Type 0) (xs : List X) → ((x : X) → Contains xs x → P x) → AllByRecursion P xs
each_contains P [] f = tt
each_contains P (x ∷ xs) f = (f x (contains_head x xs), each_contains P xs (λ y m. f y (contains_tail x xs y m)))

final_is_state : (x : Item) (w : List ℕ) → final_of x ≡ Some w → state_of x ≡ Some w
final_is_state x w e = go x.role e
  where
    go : (role : Role) → final_of (it x.token role) ≡ Some w → state_of (it x.token role) ≡ Some w
    go (FinalName v) e = e
    go _ e = absurd cc

finals_known : (xs : List Item) (w : List ℕ) → Has final_of xs w → Has state_of xs w
finals_known [] w m = m
finals_known (x ∷ xs) w m = go (final_of x) refl m (finals_known xs w)
  where
    go : (o : Option (List ℕ)) → final_of x ≡ o → Contains (cons_option o (filter_map final_of xs)) w → (Has final_of xs w → Has state_of xs w) → Has state_of (x ∷ xs) w
    go None e m h = had_later (state_of x) (filter_map state_of xs) w (h m)
    go (Some v) e m h = after (contains_cases v (filter_map final_of xs) w m)
      where
        after : (v ≡ w) ⊎ Has final_of xs w → Has state_of (x ∷ xs) w
        after (inl s) = subst (λ o. Contains (cons_option o (filter_map state_of xs)) w) (sym (final_is_state x v e)) (subst (Contains (v ∷ filter_map state_of xs)) s (contains_head v (filter_map state_of xs)))
        after (inr k) = had_later (state_of x) (filter_map state_of xs) w (h k)

module _ (items : List Item) (rules : RulesKnown items) where
  state_listed : (w : List ℕ) → Has state_of items w → Contains (states_of items) w
  state_listed w m = (first_contains bytes_eq bytes_eq-Decides (filter_map state_of items) w).1 m

  kids_listed : (ws : List (List ℕ)) → KidsKnown items ws → AllByRecursion (Contains (states_of items)) ws
  kids_listed [] h = tt
  kids_listed (w ∷ ws) h = (state_listed w h.0, kids_listed ws h.1)

  line_for : (r : NamedRule) → RuleKnown items r → (l : Rule) × IsRuleAt (symbols_of items) (states_of items) l r
  line_for r h =
      let s = place_of (symbols_of items) r.symbol ((first_contains same_symbol symbol_decides (filter_map symbol_of items) r.symbol).1 h.symbol) in
      let k = places_for (states_of items) r.kids (kids_listed r.kids h.kids) in
      let p = place_of (states_of items) r.parent (state_listed r.parent h.parent) in
      (record { symbol = s.0; kids = k.0; parent = p.0 }, record { symbol = s.1; kids = k.1; parent = p.1 })

  lines_for : (rs : List NamedRule) → AllByRecursion (RuleKnown items) rs → (ls : List Rule) × AllZip (IsRuleAt (symbols_of items) (states_of items)) ls rs
  lines_for [] h = ([], tt)
  lines_for (r ∷ rs) h = let l = line_for r h.0 in let rest = lines_for rs h.1 in (l.0 ∷ rest.0, (l.1, rest.1))

  some_lists : (A : Automaton) × HasLists items A
  some_lists =
      let finals = places_for (states_of items) (finals_of items) (each_contains (Contains (states_of items)) (finals_of items)
      (λ w m. state_listed w (finals_known items w ((first_contains bytes_eq bytes_eq-Decides (filter_map final_of items) w).0 m)))) in
      let lines = lines_for (rules_of items) (each_contains (RuleKnown items) (rules_of items) (λ r m. rules r ((first_contains same_rule rule_decides (filter_map rule_in items) r).0 m))) in (
        record { bits = 0; name = name_of items; symbols = symbols_of items; states = states_of items; finals = finals.0; rules = lines.0 },
        record { narrow = refl; name = refl; symbols = refl; states = refl; finals = finals.1; rules = lines.1 },
      )

pub file_rules : (items : List Item) → IsFile items → RulesKnown items
file_rules items f = let e = complete items f in run_known items [] Start e.spot tt (λ r m. absurd (contains_none r m)) e.runs

pub file_lists : (items : List Item) → IsFile items → (A : Automaton) × HasLists items A
file_lists items f = some_lists items (file_rules items f)

-- each text spells an automaton or has a bad place
pub spells_or_bad : (text : List ℕ) → ((A : Automaton) × Spells text A) ⊎ ((at : ℕ) × IsBadPlace text at)
spells_or_bad text = elim (file_or_bad text) [
  | inl f ↦ (let l = file_lists f.0 f.1 in inl (l.0, (f.0, f.1, f.2, l.1)))
  | inr b ↦ inr b
]
