-- The names of a spelled automaton are names, and the ranks of its symbols are small where no limit is passed.
use Rattle.std.proofs.Common.{◌≡◌, ℕ, ◌<◌, ◌≤◌, ◌^◌, true, List, [], ◌∷◌, ◌++◌, length, Option, Some, None, refl, sym, subst, length-append, append_assoc, arith}
use Rattle.std.specs.Prelude.{filter_map, unwrap_or, slice_get, codes, Bool}
use Rattle.std.specs.Bool.{Decides}
use Rattle.std.specs.List.{AllByRecursion, cons_option}
use Rattle.std.specs.Str.{bytes_eq}
use Rattle.std.proofs.lemmas.List.Elements.{All-from_recursion, All-contains}
use Rattle.std.proofs.lemmas.Slice.Eq.{bytes_eq-Decides}
use Rattle.tree_definitions.specs.Name.{is_section_word, IsName}
use Rattle.tree_definitions.specs.Tree.{Symbol}
use Rattle.tree_definitions.specs.Automaton.{Automaton}
use Rattle.tree_definitions.specs.Joint.{same_symbol}
use Rattle.timbuk_definitions.specs.Grammar.{Item, Role, Title, OpRank, StateName, FinalName, KidName, RuleArrow, ParentName, IsFile}
use Rattle.timbuk_definitions.specs.Token.{Token}
use Rattle.timbuk_definitions.specs.Reading.{first, title_of, symbol_of, state_of, symbols_of, HasLists}
use Rattle.timbuk_definitions.specs.Machine.{Kind, Open, Close, Comma, Colon, Pointer, OpsWord, AutomatonWord, StatesWord, FinalWord, TransitionsWord, Named, kind_of, Slot, InStates, InFinals, InRules, InKids, Spot, Start, InOps, AfterOp, AfterOpColon, AfterAutomaton, AfterTitle, AfterFinal, AfterHead, AfterOpen, AfterComma, AfterClose, AfterPointer, In, AfterState, AfterColon, Move, go, step, step_in, Runs}
use Rattle.timbuk_definitions.specs.Place.{Rank, IsWithin}
use Rattle.timbuk_definitions.specs.Printed.{HasNames}
use Rattle.timbuk_definitions.proofs.Seen.{Sees, sees}
use Rattle.timbuk_definitions.proofs.Complete.{complete}
use Rattle.timbuk_definitions.proofs.Firsts.{first_contains}
use Rattle.timbuk_definitions.proofs.Spelled.{symbol_decides}
use Rattle.timbuk_definitions.proofs.Built.{each_contains}

-- the name that opened a rule, and not too many children
abbrev Headed : List ℕ → List (List ℕ) → Type 0
Headed n kids = IsName n × (length kids ≤ 32)

abbrev SlotNamed : Slot → Type 0
SlotNamed (InKids n kids) = Headed n kids
SlotNamed s = Unit {0}

abbrev SpotNamed : Spot → Type 0
SpotNamed (AfterOp n) = IsName n
SpotNamed (AfterOpColon n) = IsName n
SpotNamed (AfterHead n) = IsName n
SpotNamed (AfterOpen n) = IsName n
SpotNamed (AfterComma n kids) = Headed n kids
SpotNamed (AfterClose n kids) = Headed n kids
SpotNamed (AfterPointer n kids) = Headed n kids
SpotNamed (In s) = SlotNamed s
SpotNamed (AfterState s) = SlotNamed s
SpotNamed (AfterColon s) = SlotNamed s
SpotNamed s = Unit {0}

abbrev SymbolNamed : Symbol → Type 0
SymbolNamed a = IsName a.name × (a.rank ≤ 32)

abbrev RoleNamed : Role → Type 0
RoleNamed (Title w) = IsName w
RoleNamed (OpRank a) = SymbolNamed a
RoleNamed (StateName w) = IsName w
RoleNamed (FinalName w) = IsName w
RoleNamed (KidName i w) = IsName w
RoleNamed (RuleArrow a) = SymbolNamed a
RoleNamed (ParentName r) = IsName r.parent
RoleNamed role = Unit {0}

-- the role passes no limit of ranks
abbrev RankFits : Role → Type 0
RankFits role = ¬ (elim role as (λ r. Type 0) [ OpRank a ↦ 32 < a.rank | KidName i w ↦ 32 ≤ i | _ ↦ ⊥ ])

abbrev Names : Option Move → Type 0
Names None = Unit {0}
Names (Some mv) = RankFits mv.role → SpotNamed mv.spot × RoleNamed mv.role

names_in : (s : Slot) (k : Kind) (t : Token) → SlotNamed s → Sees t k → Names (step_in s k)
names_in InStates (Named w d) t h e = λ r. (tt, e.1)
names_in InStates FinalWord t h e = λ r. (tt, tt)
names_in InStates k t h e = tt
names_in InFinals (Named w d) t h e = λ r. (tt, e.1)
names_in InFinals TransitionsWord t h e = λ r. (tt, tt)
names_in InFinals k t h e = tt
names_in InRules (Named w d) t h e = λ r. (e.1, tt)
names_in InRules k t h e = tt
names_in (InKids n kids) Comma t h e = λ r. (h, tt)
names_in (InKids n kids) Close t h e = λ r. (h, tt)
names_in (InKids n kids) k t h e = tt

names : (s : Spot) (k : Kind) (t : Token) → SpotNamed s → Sees t k → Names (step s k)
names Start OpsWord t h e = λ r. (tt, tt)
names Start k t h e = tt
names InOps (Named w d) t h e = λ r. (e.1, tt)
names InOps AutomatonWord t h e = λ r. (tt, tt)
names InOps k t h e = tt
names (AfterOp n) Colon t h e = λ r. (h, tt)
names (AfterOp n) k t h e = tt
names (AfterOpColon n) (Named w true) t h e = λ r. (tt, (h, omega (arith, r)))
names (AfterOpColon n) k t h e = tt
names AfterAutomaton (Named w d) t h e = λ r. (tt, e.1)
names AfterAutomaton StatesWord t h e = λ r. (tt, tt)
names AfterAutomaton k t h e = tt
names AfterTitle StatesWord t h e = λ r. (tt, tt)
names AfterTitle k t h e = tt
names AfterFinal StatesWord t h e = λ r. (tt, tt)
names AfterFinal k t h e = tt
names (AfterHead n) Open t h e = λ r. (h, tt)
names (AfterHead n) Pointer t h e = λ r. ((h, omega arith), (h, omega arith))
names (AfterHead n) k t h e = tt
names (AfterOpen n) (Named w d) t h e = λ r. ((h, omega arith), e.1)
names (AfterOpen n) Close t h e = λ r. ((h, omega arith), tt)
names (AfterOpen n) k t h e = tt
names (AfterComma n kids) (Named w d) t h e = λ r. ((h.0, omega (arith, r, length-append kids (w ∷ []))), e.1)
names (AfterComma n kids) k t h e = tt
names (AfterClose n kids) Pointer t h e = λ r. (h, h)
names (AfterClose n kids) k t h e = tt
names (AfterPointer n kids) (Named w d) t h e = λ r. (tt, e.1)
names (AfterPointer n kids) k t h e = tt
names (In s) k t h e = names_in s k t h e
names (AfterState s) Colon t h e = λ r. (h, tt)
names (AfterState s) k t h e = names_in s k t h e
names (AfterColon s) (Named w true) t h e = λ r. (h, tt)
names (AfterColon s) k t h e = tt

run_names : (xs done : List Item) (s t : Spot) → IsWithin (done ++ xs) → SpotNamed s → Runs s xs t → AllByRecursion (λ x. RoleNamed x.role) xs
run_names [] done s t within h r = tt
run_names (x ∷ xs) done s t within h r =
    let here : Names (go x.role r.0) = subst Names r.1.1 (names s (kind_of x.token) x.token h (sees x.token r.1.0)) in
    let both = here (λ over. within done xs x Rank refl over) in
    (both.1, run_names xs (done ++ x ∷ []) r.0 t (subst IsWithin (sym (append_assoc done (x ∷ []) xs)) within) both.0 r.2)

-- what the items add has what their roles have
adds : {Y : Type 0} (f : Item → Option Y) (P : Y → Type 0) → ((x : Item) (y : Y) → RoleNamed x.role → f x ≡ Some y → P y) → (xs : List Item) → AllByRecursion (λ x. RoleNamed x.role) xs → AllByRecursion P (filter_map f xs)
adds f P g [] h = tt
adds {Y} f P g (x ∷ xs) h = now (f x) refl (adds f P g xs h.1)
  where
    now : (o : Option Y) → f x ≡ o → AllByRecursion P (filter_map f xs) → AllByRecursion P (cons_option o (filter_map f xs))
    now None e more = more
    now (Some y) e more = (g x y h.0 e, more)

firsts : {X : Type 0} (same : X → X → Bool) → ((a b : X) → Decides (same a b) (a ≡ b)) → (P : X → Type 0) (xs : List X) → AllByRecursion P xs → AllByRecursion P (first same xs)
firsts same decides P xs h = each_contains P (first same xs) (λ x m. All-contains P xs x (All-from_recursion P xs h) ((first_contains same decides xs x).0 m))

symbol_named : (x : Item) (a : Symbol) → RoleNamed x.role → symbol_of x ≡ Some a → SymbolNamed a
symbol_named x a h e = go_on x.role h e
  where
    go_on : (role : Role) → RoleNamed role → elim role [ OpRank b ↦ Some b | RuleArrow b ↦ Some b | _ ↦ None ] ≡ Some a → SymbolNamed a
    go_on (OpRank b) h e = let same : b ≡ a = cc in subst SymbolNamed same h
    go_on (RuleArrow b) h e = let same : b ≡ a = cc in subst SymbolNamed same h
    go_on _ h e = absurd cc

state_named : (x : Item) (w : List ℕ) → RoleNamed x.role → state_of x ≡ Some w → IsName w
state_named x w h e = go_on x.role h e
  where
    go_on : (role : Role) → RoleNamed role → elim role [ StateName v ↦ Some v | FinalName v ↦ Some v | KidName i v ↦ Some v | ParentName r ↦ Some r.parent | _ ↦ None ] ≡ Some w → IsName w
    go_on (StateName v) h e = let same : v ≡ w = cc in subst IsName same h
    go_on (FinalName v) h e = let same : v ≡ w = cc in subst IsName same h
    go_on (KidName i v) h e = let same : v ≡ w = cc in subst IsName same h
    go_on (ParentName r) h e = let same : r.parent ≡ w = cc in subst IsName same h
    go_on _ h e = absurd cc

title_named : (x : Item) (w : List ℕ) → RoleNamed x.role → title_of x ≡ Some w → IsName w
title_named x w h e = go_on x.role h e
  where
    go_on : (role : Role) → RoleNamed role → elim role [ Title v ↦ Some v | _ ↦ None ] ≡ Some w → IsName w
    go_on (Title v) h e = let same : v ≡ w = cc in subst IsName same h
    go_on _ h e = absurd cc

anonymous_name : IsName (codes "anonymous")
unfolding is_section_word
anonymous_name = refl

head_named : (ts : List (List ℕ)) → AllByRecursion IsName ts → IsName (unwrap_or (slice_get ts 0) (codes "anonymous"))
head_named [] h = anonymous_name
head_named (t ∷ ts) h = h.0

symbols_small : (as' : List Symbol) → AllByRecursion SymbolNamed as' → AllByRecursion (λ a. IsName a.name × (a.rank < 2 ^ 64)) as'
symbols_small [] h = tt
symbols_small (a ∷ as') h = ((h.0.0, omega (arith, h.0.1)), symbols_small as' h.1)

pub file_named : (items : List Item) (A : Automaton) → IsFile items → IsWithin items → HasLists items A → HasNames A
file_named items A file within lists =
    let e = complete items file in
    let roles = run_names items [] Start e.spot within tt e.runs in
    record {
      name = subst IsName (sym lists.name) (head_named (filter_map title_of items) (adds title_of IsName title_named items roles));
      symbols = subst (AllByRecursion (λ a. IsName a.name × (a.rank < 2 ^ 64))) (sym lists.symbols)
          (symbols_small (symbols_of items) (firsts same_symbol symbol_decides SymbolNamed (filter_map symbol_of items) (adds symbol_of SymbolNamed symbol_named items roles)));
      states = subst (AllByRecursion IsName) (sym lists.states)
          (firsts bytes_eq bytes_eq-Decides IsName (filter_map state_of items) (adds state_of IsName state_named items roles));
    }
