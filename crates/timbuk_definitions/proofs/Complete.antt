-- The machine goes over each file to an end.
use Rattle.std.proofs.Common.{◌≡◌, ℕ, suc, inl, inr, Bool, true, false, List, [], ◌∷◌, ◌++◌, length, Option, Some, None, refl, sym, ap, ◌∙◌, subst, append_assoc, length-append, arith}
use Rattle.std.specs.Prelude.{codes, IfSome}
use Rattle.std.specs.List.{AllByRecursion, flat_map}
use Rattle.std.proofs.lemmas.List.{append-nil}
use Rattle.std.proofs.lemmas.Bool.{false_from_ne_true}
use Rattle.std.proofs.lemmas.Slice.Eq.{bytes_eq-Decides}
use Rattle.std.specs.Str.{bytes_eq}
use Rattle.tree_definitions.specs.Name.{IsName}
use Rattle.timbuk_definitions.proofs.Names.{name_is_word}
use Rattle.timbuk_definitions.specs.Token.{Arrow, IsWord, Marked, sort_of}
use Rattle.timbuk_definitions.specs.Grammar.{are_digits, IsDigits, StateText, OpText, RuleText, FitsState, FitsOp, FitsKids, FitsRule, Item, Role, Plain, Title, OpName, OpRank, StateName, FinalName, RuleName, KidName, RuleArrow, ParentName, word, section, mark, op_items, op_symbol, digits_items, state_items, kid_items, later_kids_items, open_kids_items, kids_items, names_of, kid_names, rule_of, parent_items, rule_items, title_items, transitions_items, finals_items, states_items, items_of, IsFile}
use Rattle.timbuk_definitions.specs.Machine.{Kind, OpsWord, AutomatonWord, StatesWord, FinalWord, TransitionsWord, Named, word_kind, Slot, InStates, InFinals, InRules, InKids, Spot, Start, InOps, AfterOp, AfterOpColon, AfterAutomaton, AfterTitle, AfterFinal, AfterHead, AfterOpen, AfterComma, AfterClose, AfterPointer, In, AfterState, AfterColon, go, step, Steps, Runs, IsEnd}
use Rattle.timbuk_definitions.proofs.Seen.{name_kind}

-- the machine goes over the items to an end
pub record Ends (s : Spot) (items : List Item) : Type 0 where
  pub spot : Spot
  pub runs : Runs s items spot
  pub final : IsEnd spot

pub onward : (s m : Spot) (x : Item) (xs : List Item) → Steps s x m → Ends m xs → Ends s (x ∷ xs)
onward s m x xs h e = record { spot = e.spot; runs = (m, h, e.runs); final = e.final }

pub ops_word : IsWord (codes "Ops")
unfolding sort_of
ops_word = record { some = λ n. cc; inner = (refl, (refl, (refl, tt))); no_arrow = refl }

pub automaton_word : IsWord (codes "Automaton")
unfolding sort_of
automaton_word = record { some = λ n. cc; inner = (refl, (refl, (refl, (refl, (refl, (refl, (refl, (refl, (refl, tt))))))))); no_arrow = refl }

pub states_word : IsWord (codes "States")
unfolding sort_of
states_word = record { some = λ n. cc; inner = (refl, (refl, (refl, (refl, (refl, (refl, tt)))))); no_arrow = refl }

pub final_word : IsWord (codes "Final")
unfolding sort_of
final_word = record { some = λ n. cc; inner = (refl, (refl, (refl, (refl, (refl, tt))))); no_arrow = refl }

pub transitions_word : IsWord (codes "Transitions")
unfolding sort_of
transitions_word = record { some = λ n. cc; inner = (refl, (refl, (refl, (refl, (refl, (refl, (refl, (refl, (refl, (refl, (refl, tt))))))))))); no_arrow = refl }

pub sort_open : sort_of 40 ≡ Marked
unfolding sort_of
sort_open = refl

pub sort_close : sort_of 41 ≡ Marked
unfolding sort_of
sort_close = refl

pub sort_comma : sort_of 44 ≡ Marked
unfolding sort_of
sort_comma = refl

pub sort_colon : sort_of 58 ≡ Marked
unfolding sort_of
sort_colon = refl

pub ops_kind : word_kind (codes "Ops") ≡ OpsWord
unfolding word_kind
ops_kind = refl

pub automaton_kind : word_kind (codes "Automaton") ≡ AutomatonWord
unfolding word_kind
automaton_kind = refl

pub states_kind : word_kind (codes "States") ≡ StatesWord
unfolding word_kind
states_kind = refl

pub final_kind : word_kind (codes "Final") ≡ FinalWord
unfolding word_kind
final_kind = refl

pub transitions_kind : word_kind (codes "Transitions") ≡ TransitionsWord
unfolding word_kind
transitions_kind = refl

-- a step by a name, where each name is taken
pub by_name : (s m : Spot) (w : List ℕ) (role : Role) → IsName w → ((d : Bool) → step s (Named w d) ≡ go role m) → Steps s (word w role) m
by_name s m w role h f = (name_is_word w h, ap (step s) (name_kind w h) ∙ f (are_digits w))

-- digits are no other word that is not
other : (w v : List ℕ) → are_digits w ≡ true → are_digits v ≡ false → bytes_eq w v ≡ false
other w v h g = false_from_ne_true (bytes_eq w v) (λ e. let same : w ≡ v = (bytes_eq-Decides w v).0 e in let both : true ≡ false = sym h ∙ ap are_digits same ∙ g in cc)

-- digits are a name
not_section : (w : List ℕ) → are_digits w ≡ true → word_kind w ≡ Named w true
unfolding word_kind
not_section w h =
    rw (other w (codes "Ops") h refl, other w (codes "Automaton") h refl, other w (codes "States") h refl, other w (codes "Final") h refl, other w (codes "Transitions") h refl)
    (ap (Named w) h)

pub by_digits : (s m : Spot) (w : List ℕ) (role : Role) → IsDigits w → step s (Named w true) ≡ go role m → Steps s (word w role) m
by_digits s m w role h f = (h.word, ap (step s) (not_section w h.digits) ∙ f)

-- the machine ends from a list of states, with or without a name just read
abbrev pub Both : Slot → List Item → Type 0
Both s items = Ends (In s) items × Ends (AfterState s) items

pub after_digits : (s : Slot) (d : Option (List ℕ)) (more : List Item) → IfSome d IsDigits → Both s more → Ends (AfterState s) (digits_items d ++ more)
after_digits s None more h b = b.1
after_digits s (Some ds) more h b =
    onward (AfterState s) (AfterColon s) (mark 58) (word ds Plain ∷ more) (sort_colon, refl)
    (onward (AfterColon s) (In s) (word ds Plain) more (by_digits (AfterColon s) (In s) ds Plain h refl) b.0)

-- a state of a list, and then what may follow
one_state : (s : Slot) (role : List ℕ → Role) (x : StateText) (more : List Item)
    → ((d : Bool) → step (In s) (Named x.name d) ≡ go (role x.name) (AfterState s))
    → ((d : Bool) → step (AfterState s) (Named x.name d) ≡ go (role x.name) (AfterState s))
    → FitsState x → Both s more → Both s (state_items (role x.name) x ++ more)
one_state s role x more f g h b =
    let rest = after_digits s x.digits more h.1 b in (
      onward (In s) (AfterState s) (word x.name (role x.name)) (digits_items x.digits ++ more) (by_name (In s) (AfterState s) x.name (role x.name) h.0 f) rest,
      onward (AfterState s) (AfterState s) (word x.name (role x.name)) (digits_items x.digits ++ more) (by_name (AfterState s) (AfterState s) x.name (role x.name) h.0 g) rest,
    )

regrouped : (s : Slot) (front back more : List Item) → Both s (front ++ (back ++ more)) → Both s ((front ++ back) ++ more)
regrouped s front back more b = subst (Both s) (sym (append_assoc front back more)) b

finals_then : (xs : List StateText) (more : List Item) → AllByRecursion FitsState xs → Both InFinals more → Both InFinals (flat_map (λ s. state_items (FinalName s.name) s) xs ++ more)
finals_then [] more h b = b
finals_then (x ∷ xs) more h b =
    regrouped InFinals (state_items (FinalName x.name) x) (flat_map (λ s. state_items (FinalName s.name) s) xs) more
    (one_state InFinals FinalName x (flat_map (λ s. state_items (FinalName s.name) s) xs ++ more) (λ d. refl) (λ d. refl) h.0 (finals_then xs more h.1 b))

states_then : (xs : List StateText) (more : List Item) → AllByRecursion FitsState xs → Both InStates more → Both InStates (flat_map (λ s. state_items (StateName s.name) s) xs ++ more)
states_then [] more h b = b
states_then (x ∷ xs) more h b =
    regrouped InStates (state_items (StateName x.name) x) (flat_map (λ s. state_items (StateName s.name) s) xs) more
    (one_state InStates StateName x (flat_map (λ s. state_items (StateName s.name) s) xs ++ more) (λ d. refl) (λ d. refl) h.0 (states_then xs more h.1 b))

-- the parent's state ends a rule
pub pointed : (n : List ℕ) (kids : List (List ℕ)) (p : StateText) (more : List Item) → FitsState p → Both InRules more → Ends (AfterPointer n kids) (state_items (ParentName (rule_of n kids p.name)) p ++ more)
pointed n kids p more h b =
    let role : Role = ParentName (rule_of n kids p.name) in
    onward (AfterPointer n kids) (AfterState InRules) (word p.name role) (digits_items p.digits ++ more) (by_name (AfterPointer n kids) (AfterState InRules) p.name role h.0 (λ d. refl)) (after_digits InRules p.digits more h.1 b)

abbrev arrow : List ℕ → List (List ℕ) → Item
arrow n kids = record { token = Arrow; role = RuleArrow (record { name = n; rank = length kids }) }

closed : (n : List ℕ) (kids : List (List ℕ)) (p : StateText) (more : List Item) → FitsState p → Both InRules more → Ends (AfterClose n kids) (parent_items n kids p ++ more)
closed n kids p more h b = onward (AfterClose n kids) (AfterPointer n kids) (arrow n kids) (state_items (ParentName (rule_of n kids p.name)) p ++ more) (tt, refl) (pointed n kids p more h b)

later_kids : (n : List ℕ) (ks : List StateText) (kids : List (List ℕ)) (more : List Item) → AllByRecursion FitsState ks → Ends (AfterClose n (kids ++ names_of ks)) more → Both (InKids n kids) (later_kids_items (length kids) ks ++ more)
later_kids n [] kids more h e =
    let closing : Ends (AfterClose n kids) more = subst (λ x. Ends (AfterClose n x) more) (append-nil kids) e in (
      onward (In (InKids n kids)) (AfterClose n kids) (mark 41) more (sort_close, refl) closing,
      onward (AfterState (InKids n kids)) (AfterClose n kids) (mark 41) more (sort_close, refl) closing,
    )
later_kids n (k ∷ ks) kids more h e =
    let count : length (kids ++ k.name ∷ []) ≡ suc (length kids) = omega (arith, length-append kids (k.name ∷ [])) in
    let e' : Ends (AfterClose n ((kids ++ k.name ∷ []) ++ names_of ks)) more = subst (λ x. Ends (AfterClose n x) more) (sym (append_assoc kids (k.name ∷ []) (names_of ks))) e in
    let ih : Both (InKids n (kids ++ k.name ∷ [])) (later_kids_items (length (kids ++ k.name ∷ [])) ks ++ more) = later_kids n ks (kids ++ k.name ∷ []) more h.1 e' in
    let ih' : Both (InKids n (kids ++ k.name ∷ [])) (later_kids_items (suc (length kids)) ks ++ more) = subst (λ i. Both (InKids n (kids ++ k.name ∷ [])) (later_kids_items i ks ++ more)) count ih in
    let rest : List Item = later_kids_items (suc (length kids)) ks ++ more in
    let after : Ends (AfterState (InKids n (kids ++ k.name ∷ []))) ((digits_items k.digits ++ later_kids_items (suc (length kids)) ks) ++ more) =
    subst (Ends (AfterState (InKids n (kids ++ k.name ∷ [])))) (sym (append_assoc (digits_items k.digits) (later_kids_items (suc (length kids)) ks) more))
    (after_digits (InKids n (kids ++ k.name ∷ [])) k.digits rest h.0.1 ih') in
    let named : Ends (AfterComma n kids) ((kid_items (length kids) k ++ later_kids_items (suc (length kids)) ks) ++ more) =
    onward (AfterComma n kids) (AfterState (InKids n (kids ++ k.name ∷ []))) (word k.name (KidName (length kids) k.name)) _
    (by_name (AfterComma n kids) (AfterState (InKids n (kids ++ k.name ∷ []))) k.name (KidName (length kids) k.name) h.0.0 (λ d. refl)) after in (
      onward (In (InKids n kids)) (AfterComma n kids) (mark 44) _ (sort_comma, refl) named,
      onward (AfterState (InKids n kids)) (AfterComma n kids) (mark 44) _ (sort_comma, refl) named,
    )

open_kids : (n : List ℕ) (ks : List StateText) (more : List Item) → AllByRecursion FitsState ks → Ends (AfterClose n (names_of ks)) more → Ends (AfterOpen n) (open_kids_items ks ++ more)
open_kids n [] more h e = onward (AfterOpen n) (AfterClose n []) (mark 41) more (sort_close, refl) e
open_kids n (k ∷ ks) more h e =
    let slot : Slot = InKids n (k.name ∷ []) in
    let ih : Both slot (later_kids_items 1 ks ++ more) = later_kids n ks (k.name ∷ []) more h.1 e in
    let after : Ends (AfterState slot) ((digits_items k.digits ++ later_kids_items 1 ks) ++ more) =
    subst (Ends (AfterState slot)) (sym (append_assoc (digits_items k.digits) (later_kids_items 1 ks) more)) (after_digits slot k.digits (later_kids_items 1 ks ++ more) h.0.1 ih) in
    onward (AfterOpen n) (AfterState slot) (word k.name (KidName 0 k.name)) _ (by_name (AfterOpen n) (AfterState slot) k.name (KidName 0 k.name) h.0.0 (λ d. refl)) after

head : (n : List ℕ) (kids : Option (List StateText)) (p : StateText) (more : List Item) → FitsKids kids → FitsState p → Both InRules more → Ends (AfterHead n) (kids_items kids ++ (parent_items n (kid_names kids) p ++ more))
head n None p more h f b = onward (AfterHead n) (AfterPointer n []) (arrow n []) (state_items (ParentName (rule_of n [] p.name)) p ++ more) (tt, refl) (pointed n [] p more f b)
head n (Some ks) p more h f b = onward (AfterHead n) (AfterOpen n) (mark 40) _ (sort_open, refl) (open_kids n ks (parent_items n (names_of ks) p ++ more) h (closed n (names_of ks) p more f b))

rules_end : (rules : List RuleText) → AllByRecursion FitsRule rules → Both InRules (flat_map rule_items rules)
rules_end [] h = (record { spot = In InRules; runs = refl; final = inl refl }, record { spot = AfterState InRules; runs = refl; final = inr refl })
rules_end (r ∷ rules) h =
    let rest : Ends (AfterHead r.name) ((kids_items r.kids ++ parent_items r.name (kid_names r.kids) r.parent) ++ flat_map rule_items rules) =
    subst (Ends (AfterHead r.name)) (sym (append_assoc (kids_items r.kids) (parent_items r.name (kid_names r.kids) r.parent) (flat_map rule_items rules)))
    (head r.name r.kids r.parent (flat_map rule_items rules) h.0.kids h.0.parent (rules_end rules h.1)) in (
      onward (In InRules) (AfterHead r.name) (word r.name (RuleName r.name)) _ (by_name (In InRules) (AfterHead r.name) r.name (RuleName r.name) h.0.name (λ d. refl)) rest,
      onward (AfterState InRules) (AfterHead r.name) (word r.name (RuleName r.name)) _ (by_name (AfterState InRules) (AfterHead r.name) r.name (RuleName r.name) h.0.name (λ d. refl)) rest,
    )

pub by_section : (s m : Spot) (w : List ℕ) (k : Kind) → IsWord w → word_kind w ≡ k → step s k ≡ go Plain m → Steps s (section w) m
by_section s m w k h e f = (h, ap (step s) e ∙ f)

transitions : (rules : List RuleText) → AllByRecursion FitsRule rules → Both InFinals (transitions_items rules)
transitions rules h =
    let b = rules_end rules h in (
      onward (In InFinals) (In InRules) (section (codes "Transitions")) _ (by_section (In InFinals) (In InRules) (codes "Transitions") TransitionsWord transitions_word transitions_kind refl) b.0,
      onward (AfterState InFinals) (In InRules) (section (codes "Transitions")) _ (by_section (AfterState InFinals) (In InRules) (codes "Transitions") TransitionsWord transitions_word transitions_kind refl) b.0,
    )

finals : (xs : List StateText) (rules : List RuleText) → AllByRecursion FitsState xs → AllByRecursion FitsRule rules → Both InStates (finals_items xs rules)
finals xs rules h f =
    let b = finals_then xs (transitions_items rules) h (transitions rules f) in
    let e : Ends AfterFinal (section (codes "States") ∷ (flat_map (λ s. state_items (FinalName s.name) s) xs ++ transitions_items rules)) =
    onward AfterFinal (In InFinals) (section (codes "States")) _ (by_section AfterFinal (In InFinals) (codes "States") StatesWord states_word states_kind refl) b.0 in (
      onward (In InStates) AfterFinal (section (codes "Final")) _ (by_section (In InStates) AfterFinal (codes "Final") FinalWord final_word final_kind refl) e,
      onward (AfterState InStates) AfterFinal (section (codes "Final")) _ (by_section (AfterState InStates) AfterFinal (codes "Final") FinalWord final_word final_kind refl) e,
    )

states : (xs ys : List StateText) (rules : List RuleText) → AllByRecursion FitsState xs → AllByRecursion FitsState ys → AllByRecursion FitsRule rules → Ends AfterAutomaton (states_items xs ys rules) × Ends AfterTitle (states_items xs ys rules)
states xs ys rules h g f =
    let b = states_then xs (finals_items ys rules) h (finals ys rules g f) in (
      onward AfterAutomaton (In InStates) (section (codes "States")) _ (by_section AfterAutomaton (In InStates) (codes "States") StatesWord states_word states_kind refl) b.0,
      onward AfterTitle (In InStates) (section (codes "States")) _ (by_section AfterTitle (In InStates) (codes "States") StatesWord states_word states_kind refl) b.0,
    )

title : (t : Option (List ℕ)) (more : List Item) → IfSome t IsName → Ends AfterAutomaton more × Ends AfterTitle more → Ends AfterAutomaton (title_items t ++ more)
title None more h e = e.0
title (Some w) more h e = onward AfterAutomaton AfterTitle (word w (Title w)) more (by_name AfterAutomaton AfterTitle w (Title w) h (λ d. refl)) e.1

ops : (xs : List OpText) (more : List Item) → AllByRecursion FitsOp xs → Ends InOps more → Ends InOps (flat_map op_items xs ++ more)
ops [] more h e = e
ops (o ∷ xs) more h e =
    onward InOps (AfterOp o.name) (word o.name (OpName o.name)) _ (by_name InOps (AfterOp o.name) o.name (OpName o.name) h.0.0 (λ d. refl))
    (onward (AfterOp o.name) (AfterOpColon o.name) (mark 58) _ (sort_colon, refl)
    (onward (AfterOpColon o.name) InOps (word o.digits (OpRank (op_symbol o))) _ (by_digits (AfterOpColon o.name) InOps o.digits (OpRank (op_symbol o)) h.0.1 refl) (ops xs more h.1 e)))

pub complete : (items : List Item) → IsFile items → Ends Start items
complete items h =
    let f = h.0 in let fit = h.1 in
    let t = title f.title (states_items f.states f.finals f.rules) fit.title (states f.states f.finals f.rules fit.states fit.finals fit.rules) in
    let a : Ends InOps (section (codes "Automaton") ∷ (title_items f.title ++ states_items f.states f.finals f.rules)) =
    onward InOps AfterAutomaton (section (codes "Automaton")) _ (by_section InOps AfterAutomaton (codes "Automaton") AutomatonWord automaton_word automaton_kind refl) t in
    let all : Ends Start (items_of f) =
    onward Start InOps (section (codes "Ops")) _ (by_section Start InOps (codes "Ops") OpsWord ops_word ops_kind refl) (ops f.ops _ fit.ops a) in
    subst (Ends Start) (sym h.2) all
