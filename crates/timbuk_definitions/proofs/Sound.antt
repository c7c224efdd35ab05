-- What the machine goes over to an end is a file.
use Rattle.std.proofs.Common.{◌≡◌, ℕ, suc, inl, inr, true, List, [], ◌∷◌, ◌++◌, length, Option, Some, None, refl, sym, ap, ◌∙◌, subst, append_assoc, length-append, arith}
use Rattle.std.specs.Prelude.{codes, IfSome}
use Rattle.std.specs.List.{flat_map}
use Rattle.std.proofs.lemmas.List.{append-nil}
use Rattle.tree_definitions.specs.Name.{IsName}
use Rattle.timbuk_definitions.proofs.Names.{name_is_word}
use Rattle.timbuk_definitions.specs.Token.{Token, Word}
use Rattle.timbuk_definitions.specs.Grammar.{IsDigits, StateText, OpText, RuleText, FileText, FitsState, Item, Role, Plain, Title, OpName, OpRank, StateName, FinalName, RuleName, KidName, RuleArrow, ParentName, word, section, mark, op_items, op_symbol, digits_items, state_items, later_kids_items, kids_items, names_of, kid_names, rule_of, parent_items, rule_items, title_items, transitions_items, finals_items, states_items, IsFile}
use Rattle.timbuk_definitions.specs.Machine.{Kind, Open, Close, Comma, Colon, Pointer, OpsWord, AutomatonWord, StatesWord, FinalWord, TransitionsWord, Named, kind_of, Slot, InStates, InFinals, InRules, InKids, Spot, Start, InOps, AfterOp, AfterOpColon, AfterAutomaton, AfterTitle, AfterFinal, AfterHead, AfterOpen, AfterComma, AfterClose, AfterPointer, In, AfterState, AfterColon, Move, go, step, step_in, Runs, IsEnd}
use Rattle.timbuk_definitions.proofs.Seen.{Sees, sees}
use Rattle.timbuk_definitions.proofs.Rest.{Listing, RestRules, RestOps, RestClosed, RestIn, RestState, Rest}

abbrev pub it : Token → Role → Item
it t role = record { token = t; role = role }

-- if the step is made, what may follow it may follow its token here
abbrev pub Sound : Token → Option Move → (List Item → Type 0) → Type 0
Sound t None R = Unit {0}
Sound t (Some mv) R = (items : List Item) → Rest mv.spot items → R (it t mv.role ∷ items)

consed : {t u : Token} {xs ys : List Item} (role : Role) → t ≡ u → xs ≡ ys → it t role ∷ xs ≡ it u role ∷ ys
consed role p q = λ i. it (p i) role ∷ q i

regroup : {items more : List Item} (front back m : List Item) → items ≡ front ++ more → more ≡ back ++ m → items ≡ (front ++ back) ++ m
regroup front back m p q = p ∙ ap (λ x. front ++ x) q ∙ sym (append_assoc front back m)

-- one more state at the front of a list
add_state : (role : List ℕ → Role) (After : List Item → Type 0) (t : Token) (w : List ℕ) (d : Option (List ℕ)) (items more : List Item)
    → t ≡ Word w → IsName w → IfSome d IsDigits → Listing FitsState (λ s. state_items (role s.name) s) After more → items ≡ digits_items d ++ more
    → Listing FitsState (λ s. state_items (role s.name) s) After (it t (role w) ∷ items)
add_state role After t w d items more e name digits r h =
    let s : StateText = record { name = w; digits = d } in
    (s ∷ r.0, ((name, digits), r.1), r.2, r.3, consed (role w) e (regroup (digits_items d) (flat_map (λ s. state_items (role s.name) s) r.0) r.2 h r.4))

add_rule : (t : Token) (w : List ℕ) (items : List Item) → t ≡ Word w → IsName w → Rest (AfterHead w) items → RestRules (it t (RuleName w) ∷ items)
add_rule t w items e name r =
    let c = r.3 in
    let rule : RuleText = record { name = w; kids = r.0; parent = c.0 } in
    let rules = c.3 in (
      rule ∷ rules.0,
      (record { name = name; kids = r.1; parent = c.1 }, rules.1),
      consed (RuleName w) e (regroup (kids_items r.0) (parent_items w (kid_names r.0) c.0) (flat_map rule_items rules.0) r.4 (c.4 ∙ ap (λ x. parent_items w (kid_names r.0) c.0 ++ x) rules.2)),
    )

sound_in : (s : Slot) (k : Kind) (t : Token) → Sees t k → Sound t (step_in s k) (RestIn s)
sound_in InStates (Named w d) t e = λ items r. add_state StateName _ t w r.0 items r.2 e.0 e.1 r.1 r.3 r.4
sound_in InStates FinalWord t e = λ items r. ([], tt, it t Plain ∷ items, (items, r, consed Plain e refl), refl)
sound_in InStates k t e = tt
sound_in InFinals (Named w d) t e = λ items r. add_state FinalName _ t w r.0 items r.2 e.0 e.1 r.1 r.3 r.4
sound_in InFinals TransitionsWord t e = λ items r. ([], tt, it t Plain ∷ items, (items, r, consed Plain e refl), refl)
sound_in InFinals k t e = tt
sound_in InRules (Named w d) t e = λ items r. add_rule t w items e.0 e.1 r
sound_in InRules k t e = tt
sound_in (InKids n kids) Comma t e = λ items r. (r.0 ∷ r.2, (r.1, r.3), r.4, r.5, consed Plain e r.6)
sound_in (InKids n kids) Close t e = λ items r. ([], tt, items, subst (λ x. RestClosed n x items) (sym (append-nil kids)) r, consed Plain e refl)
sound_in (InKids n kids) k t e = tt

-- a state may end with its name
after_name : (s : Slot) (t : Token) (o : Option Move) → Sound t o (RestIn s) → Sound t o (RestState s)
after_name s t None h = tt
after_name s t (Some mv) h = λ items r. (None, tt, it t mv.role ∷ items, h items r, refl)

add_kid : (n : List ℕ) (kids : List (List ℕ)) (t : Token) (w : List ℕ) (items : List Item) → t ≡ Word w → IsName w
    → RestState (InKids n (kids ++ w ∷ [])) items → Rest (AfterComma n kids) (it t (KidName (length kids) w) ∷ items)
add_kid n kids t w items e name r =
    let inside = r.3 in
    let k : StateText = record { name = w; digits = r.0 } in
    let count : length (kids ++ w ∷ []) ≡ suc (length kids) = omega (arith, length-append kids (w ∷ [])) in
    let later : r.2 ≡ later_kids_items (suc (length kids)) inside.0 ++ inside.2 = subst (λ i. r.2 ≡ later_kids_items i inside.0 ++ inside.2) count inside.4 in (
      k,
      (name, r.1),
      inside.0,
      inside.1,
      inside.2,
      subst (λ x. RestClosed n x inside.2) (append_assoc kids (w ∷ []) (names_of inside.0)) inside.3,
      consed (KidName (length kids) w) e (regroup (digits_items r.0) (later_kids_items (suc (length kids)) inside.0) inside.2 r.4 later),
    )

-- a whole file, from what follows `Ops`
whole : (t : Token) (items : List Item) → t ≡ Word (codes "Ops") → RestOps items → IsFile (it t Plain ∷ items)
whole t items e r =
    let a = r.3 in let title = a.1 in let st = title.3 in let states = st.1 in let fi = states.3 in let fs = fi.1 in let finals = fs.1 in let tr = finals.3 in let rules = tr.1 in
    let f : FileText = record { ops = r.0; title = title.0; states = states.0; finals = finals.0; rules = rules.0 } in
    let from_transitions : finals.2 ≡ transitions_items f.rules = tr.2 ∙ ap (λ x. section (codes "Transitions") ∷ x) rules.2 in
    let from_finals : states.2 ≡ finals_items f.finals f.rules =
    fi.2 ∙ ap (λ x. section (codes "Final") ∷ x) (fs.2 ∙ ap (λ x. section (codes "States") ∷ x) (finals.4 ∙ ap (λ x. flat_map (λ s. state_items (FinalName s.name) s) f.finals ++ x) from_transitions)) in
    let from_states : title.2 ≡ states_items f.states f.finals f.rules =
    st.2 ∙ ap (λ x. section (codes "States") ∷ x) (states.4 ∙ ap (λ x. flat_map (λ s. state_items (StateName s.name) s) f.states ++ x) from_finals) in
    let from_ops : items ≡ flat_map op_items f.ops ++ section (codes "Automaton") ∷ (title_items f.title ++ states_items f.states f.finals f.rules) =
    r.4 ∙ ap (λ x. flat_map op_items f.ops ++ x) (a.2 ∙ ap (λ x. section (codes "Automaton") ∷ x) (title.4 ∙ ap (λ x. title_items f.title ++ x) from_states)) in
    (f, record { ops = r.1; title = title.1; states = states.1; finals = finals.1; rules = rules.1 }, consed Plain e from_ops)

sound_step : (s : Spot) (k : Kind) (t : Token) → Sees t k → Sound t (step s k) (Rest s)
sound_step Start OpsWord t e = λ items r. whole t items e r
sound_step Start k t e = tt
sound_step InOps (Named w d) t e = λ items r.
    let o : OpText = record { name = w; digits = r.0 } in
    (o ∷ r.3.0, ((e.1, r.1), r.3.1), r.3.2, r.3.3, consed (OpName w) e.0 (r.4 ∙ ap (λ x. mark 58 ∷ word r.0 (OpRank (op_symbol o)) ∷ x) r.3.4))
sound_step InOps AutomatonWord t e = λ items r. ([], tt, it t Plain ∷ items, (items, r, consed Plain e refl), refl)
sound_step InOps k t e = tt
sound_step (AfterOp n) Colon t e = λ items r. (r.0, r.1, r.2, r.3, consed Plain e r.4)
sound_step (AfterOp n) k t e = tt
sound_step (AfterOpColon n) (Named w true) t e = λ items r. (w, record { word = name_is_word w e.1; digits = sym e.2 }, items, r, consed (OpRank (op_symbol (record { name = n; digits = w }))) e.0 refl)
sound_step (AfterOpColon n) k t e = tt
sound_step AfterAutomaton (Named w d) t e = λ items r. (Some w, e.1, items, r, consed (Title w) e.0 refl)
sound_step AfterAutomaton StatesWord t e = λ items r. (None, tt, it t Plain ∷ items, (items, r, consed Plain e refl), refl)
sound_step AfterAutomaton k t e = tt
sound_step AfterTitle StatesWord t e = λ items r. (items, r, consed Plain e refl)
sound_step AfterTitle k t e = tt
sound_step AfterFinal StatesWord t e = λ items r. (items, r, consed Plain e refl)
sound_step AfterFinal k t e = tt
sound_step (AfterHead n) Open t e = λ items r. (Some r.0, r.1, r.2, r.3, consed Plain e r.4)
sound_step (AfterHead n) Pointer t e = λ items r.
    (None, tt, it t (RuleArrow (record { name = n; rank = 0 })) ∷ items, (r.0, r.1, r.2, r.3, consed (RuleArrow (record { name = n; rank = 0 })) e r.4), refl)
sound_step (AfterHead n) k t e = tt
sound_step (AfterOpen n) (Named w d) t e = λ items r.
    let inside = r.3 in
    let k : StateText = record { name = w; digits = r.0 } in
    (k ∷ inside.0, ((e.1, r.1), inside.1), inside.2, inside.3, consed (KidName 0 w) e.0 (regroup (digits_items r.0) (later_kids_items 1 inside.0) inside.2 r.4 inside.4))
sound_step (AfterOpen n) Close t e = λ items r. ([], tt, items, r, consed Plain e refl)
sound_step (AfterOpen n) k t e = tt
sound_step (AfterComma n kids) (Named w d) t e = λ items r. add_kid n kids t w items e.0 e.1 r
sound_step (AfterComma n kids) k t e = tt
sound_step (AfterClose n kids) Pointer t e = λ items r. (r.0, r.1, r.2, r.3, consed (RuleArrow (record { name = n; rank = length kids })) e r.4)
sound_step (AfterClose n kids) k t e = tt
sound_step (AfterPointer n kids) (Named w d) t e = λ items r.
    let parent : StateText = record { name = w; digits = r.0 } in
    (parent, (e.1, r.1), r.2, r.3, consed (ParentName (rule_of n kids w)) e.0 r.4)
sound_step (AfterPointer n kids) k t e = tt
sound_step (In s) k t e = sound_in s k t e
sound_step (AfterState s) Colon t e = λ items r. (Some r.0, r.1, r.2, r.3, consed Plain e r.4)
sound_step (AfterState s) k t e = after_name s t (step_in s k) (sound_in s k t e)
sound_step (AfterColon s) (Named w true) t e = λ items r. (w, record { word = name_is_word w e.1; digits = sym e.2 }, items, r, consed Plain e.0 refl)
sound_step (AfterColon s) k t e = tt

-- nothing may follow an end
rest_end : (s : Spot) → IsEnd s → Rest s []
rest_end s (inl e) = subst (λ x. Rest x []) (sym e) ([], tt, refl)
rest_end s (inr e) = subst (λ x. Rest x []) (sym e) (None, tt, [], ([], tt, refl), refl)

-- what the machine goes over to an end may follow
pub sound : (items : List Item) (s t : Spot) → Runs s items t → IsEnd t → Rest s items
sound [] s t r end = subst (λ x. Rest x []) (sym r) (rest_end t end)
sound (x ∷ xs) s t r end =
    let made : Sound x.token (go x.role r.0) (Rest s) = subst (λ o. Sound x.token o (Rest s)) r.1.1 (sound_step s (kind_of x.token) x.token (sees x.token r.1.0)) in
    made xs (sound xs r.0 t r.2 end)
