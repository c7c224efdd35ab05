-- Steps of the loop that marks useful states.
use Rattle.std.proofs.Common.{◌≡◌, ◌↔◌, ◌⊎◌, inl, inr, ℕ, ◌+◌, ◌<◌, List, [], ◌∷◌, ◌++◌, length, take, get_or, refl, sym, ◌∙◌, subst, arith}
use Rattle.std.specs.Prelude.{All, Contains}
use Rattle.std.proofs.lemmas.List.{take_more}
use Rattle.std.proofs.lemmas.List.Elements.{All-nil, All-push, All-weaker, All-contains, Contains-append_left, Contains-push, Contains-push_cases}
use Rattle.tree_definitions.specs.Automaton.{Rule, Automaton, IsAutomaton, IsRule}
use Rattle.tree_definitions.specs.Relation.{Row, Has, IsAt}
use Rattle.tree_definitions.specs.Trim.{IsReachable, IsUseful, Leads}
use Rattle.tree_definitions.proofs.Members.{at_unique, place_of, contains_at, contains_none}
use Rattle.tree_definitions.proofs.Marked.{useful_final, useful_below, useful_within}
use Rattle.trim_ops.specs.Marking.{Marks, Nothing, IsLater}
use Rattle.trim_ops.specs.Marking.{IsByParent}
use Rattle.trim_ops.specs.Usefulness.{Useful, at_final, below, Spreading, MarksEach, Starting}
use Rattle.trim_ops.proofs.Bridge.{has_line}

pub marks_none : (row : Row) (todo : List ℕ) → MarksEach row todo [] row todo
marks_none row todo = record {
  size = refl;
  kept = λ x h. h;
  here = All-nil (Has row);
  only = λ x h. inl h;
  waits = λ x h. inl h;
  grows = λ x h. h;
  from = λ x h. inl h;
  work = refl;
}

pub marks_push : (row : Row) (todo list : List ℕ) (row1 : Row) (todo1 : List ℕ) (q : ℕ) (row2 : Row) (todo2 : List ℕ)
    → MarksEach row todo list row1 todo1 → Marks row1 todo1 q row2 todo2 → MarksEach row todo (list ++ q ∷ []) row2 todo2
marks_push row todo list row1 todo1 q row2 todo2 a b = record {
  size = b.size ∙ a.size;
  kept = λ x h. b.kept x (a.kept x h);
  here = All-push (Has row2) list q (All-weaker (Has row1) (Has row2) b.kept list a.here) b.here;
  only = λ x h. elim (b.only x h) [
    | inl o ↦ elim (a.only x o) [ inl p ↦ inl p | inr l ↦ inr (Contains-append_left list (q ∷ []) x l) ]
    | inr e ↦ inr (subst (Contains (list ++ q ∷ [])) (sym e) (Contains-push list q))
  ];
  waits = λ x h. elim (b.waits x h) [
    | inl o ↦ elim (a.waits x o) [ inl p ↦ inl p | inr w ↦ inr (b.grows x w) ]
    | inr w ↦ inr w
  ];
  grows = λ x h. b.grows x (a.grows x h);
  from = λ x h. elim (b.from x h) [
    | inl o ↦ elim (a.from x o) [ inl p ↦ inl p | inr l ↦ inr (Contains-append_left list (q ∷ []) x l) ]
    | inr e ↦ inr (subst (Contains (list ++ q ∷ [])) (sym e) (Contains-push list q))
  ];
  work = b.work ∙ a.work;
}

pub marks_more : (row : Row) (todo list : List ℕ) (i : ℕ) (row1 : Row) (todo1 : List ℕ) (row2 : Row) (todo2 : List ℕ) → i < length list
    → MarksEach row todo (take i list) row1 todo1 → Marks row1 todo1 (get_or list i 0) row2 todo2 → MarksEach row todo (take (i + 1) list) row2 todo2
marks_more row todo list i row1 todo1 row2 todo2 l a b =
    subst (λ xs. MarksEach row todo xs row2 todo2) (sym (take_more list i 0 l)) (marks_push row todo (take i list) row1 todo1 (get_or list i 0) row2 todo2 a b)

module _ (rules : List Rule) (finals : List ℕ) (reached : Row) (Later Later2 : ℕ → Type 0) (r : ℕ) (rule : Rule) (row : Row) (todo : List ℕ)
    (at : IsAt rules r rule) (m : Spreading rules finals reached Later row todo) (later : (x : ℕ) → Later x → (x ≡ r) ⊎ Later2 x) where
  which : (x : ℕ) (other : Rule) → IsAt rules x other → Later x → (other ≡ rule) ⊎ Later2 x
  which x other xat l = elim (later x l) [ inl e ↦ inl (at_unique rules r other rule (subst (λ z. IsAt rules z other) e xat) at) | inr k ↦ inr k ]

  pub spread_skip : ¬ All (Has reached) rule.kids → Spreading rules finals reached Later2 row todo
  spread_skip none = record {
    sound = m.sound;
    waiting = m.waiting;
    ended = m.ended;
    spread = λ x other xat all h. elim (m.spread x other xat all h) [
      | inl k ↦ inl k
      | inr w ↦ elim w [
        | inl v ↦ inr (inl v)
        | inr l ↦ elim (which x other xat l) [ inl e ↦ absurd (none (subst (λ (o : Rule). All (Has reached) o.kids) e all)) | inr k ↦ inr (inr k) ]
      ]
    ];
  }

  pub spread_step : (row2 : Row) (todo2 : List ℕ) → All (Has reached) rule.kids → Has row rule.parent → MarksEach row todo rule.kids row2 todo2 → Spreading rules finals reached Later2 row2 todo2
  spread_step row2 todo2 all marked e = record {
    sound = λ x h. elim (e.only x h) [
      | inl old ↦ m.sound x old
      | inr k ↦ let p = place_of rule.kids x k in below r rule p.0 x at all p.1 (m.sound rule.parent marked)
    ];
    waiting = λ x h. elim (e.from x h) [ inl old ↦ e.kept x (m.waiting x old) | inr k ↦ All-contains (Has row2) rule.kids x e.here k ];
    ended = λ q f h. e.kept q (m.ended q f h);
    spread = λ x other xat allx h. elim (e.waits other.parent h) [
      | inr w ↦ inr (inl w)
      | inl old ↦ elim (m.spread x other xat allx old) [
        | inl k ↦ inl (All-weaker (Has row) (Has row2) e.kept other.kids k)
        | inr w ↦ elim w [
          | inl v ↦ inr (inl (e.grows other.parent v))
          | inr l ↦ elim (which x other xat l) [ inl f ↦ inl (subst (λ (o : Rule). All (Has row2) o.kids) (sym f) e.here) | inr k ↦ inr (inr k) ]
        ]
      ]
    ];
  }

pub spread_end : (rules : List Rule) (finals : List ℕ) (reached : Row) (Later Later2 : ℕ → Type 0) (row : Row) (todo : List ℕ)
    → ((x : ℕ) → Later x → Later2 x) → Spreading rules finals reached Later row todo → Spreading rules finals reached Later2 row todo
spread_end rules finals reached Later Later2 row todo f m = record {
  sound = m.sound;
  waiting = m.waiting;
  ended = m.ended;
  spread = λ x other xat all h. elim (m.spread x other xat all h) [ inl k ↦ inl k | inr w ↦ elim w [ inl v ↦ inr (inl v) | inr l ↦ inr (inr (f x l)) ] ];
}

-- a state is taken out
pub spread_taken : (rules : List Rule) (finals : List ℕ) (reached : Row) (lists : List (List ℕ)) (list : List ℕ) (row : Row) (todo todo2 : List ℕ) (q : ℕ)
    → IsByParent rules lists → IsAt lists q list → todo ≡ todo2 ++ q ∷ [] → Spreading rules finals reached Nothing row todo
    → Spreading rules finals reached (IsLater list 0) row todo2
spread_taken rules finals reached lists list row todo todo2 q to at e m = record {
  sound = m.sound;
  waiting = λ x h. m.waiting x (subst (λ t. Contains t x) (sym e) (Contains-append_left todo2 (q ∷ []) x h));
  ended = m.ended;
  spread = λ x other xat all h. elim (m.spread x other xat all h) [
    | inl k ↦ inl k
    | inr w ↦ elim w [
      | inr l ↦ absurd l
      | inl v ↦ elim (Contains-push_cases todo2 q other.parent (subst (λ t. Contains t other.parent) e v)) [
        | inl old ↦ inr (inl old)
        | inr same ↦
            let p = place_of list x (to.whole list x other (subst (λ z. IsAt lists z list) same at) xat) in
            inr (inr (p.0, omega arith, p.1))
      ]
    ]
  ];
}

pub starting_more : (finals : List ℕ) (i : ℕ) (reached row : Row) (todo : List ℕ) (row2 : Row) (todo2 : List ℕ) → i < length finals
    → Starting (take i finals) reached row todo → Has reached (get_or finals i 0) → Marks row todo (get_or finals i 0) row2 todo2
    → Starting (take (i + 1) finals) reached row2 todo2
starting_more finals i reached row todo row2 todo2 l s on m =
    let q = get_or finals i 0 in
    let first = take i finals in
    subst (λ xs. Starting xs reached row2 todo2) (sym (take_more finals i 0 l)) (record {
      sound = λ x h. elim (m.only x h) [
        | inl old ↦ let k = s.sound x old in (Contains-append_left first (q ∷ []) x k.0, k.1)
        | inr e ↦ (subst (Contains (first ++ q ∷ [])) (sym e) (Contains-push first q), subst (Has reached) (sym e) on)
      ];
      whole = λ x f h. elim (Contains-push_cases first q x f) [ inl old ↦ m.kept x (s.whole x old h) | inr e ↦ subst (Has row2) e m.here ];
      waits = λ x h. elim (m.waits x h) [ inl old ↦ m.grows x (s.waits x old) | inr w ↦ w ];
      waiting = λ x h. elim (m.from x h) [ inl old ↦ m.kept x (s.waiting x old) | inr e ↦ subst (Has row2) (sym e) m.here ];
    })

pub starting_past : (finals : List ℕ) (i : ℕ) (reached row : Row) (todo : List ℕ) → i < length finals
    → Starting (take i finals) reached row todo → ¬ Has reached (get_or finals i 0)
    → Starting (take (i + 1) finals) reached row todo
starting_past finals i reached row todo l s off =
    let q = get_or finals i 0 in
    let first = take i finals in
    subst (λ xs. Starting xs reached row todo) (sym (take_more finals i 0 l)) (record {
      sound = λ x h. let k = s.sound x h in (Contains-append_left first (q ∷ []) x k.0, k.1);
      whole = λ x f h. elim (Contains-push_cases first q x f) [ inl old ↦ s.whole x old h | inr e ↦ absurd (off (subst (Has reached) (sym e) h)) ];
      waits = s.waits;
      waiting = s.waiting;
    })

-- after the finals
pub spread_start : (rules : List Rule) (finals : List ℕ) (reached row : Row) (todo : List ℕ) → Starting finals reached row todo → Spreading rules finals reached Nothing row todo
spread_start rules finals reached row todo s = record {
  sound = λ q h. let k = s.sound q h in at_final q k.0 k.1;
  waiting = s.waiting;
  ended = s.whole;
  spread = λ x other xat all h. inr (inl (s.waits other.parent h));
}

-- with nothing waiting the marked states are the useful ones
module _ (rules : List Rule) (finals : List ℕ) (reached row : Row) (m : Spreading rules finals reached Nothing row []) where
  useful_marked : (q : ℕ) → Useful rules finals reached q → Has row q
  useful_marked q (at_final p f h) = m.ended p f h
  useful_marked q (below r rule i p at all ik u) = elim (m.spread r rule at all (useful_marked rule.parent u)) [
    | inl k ↦ All-contains (Has row) rule.kids p k (contains_at rule.kids i p ik)
    | inr w ↦ elim w [ inl v ↦ absurd (contains_none rule.parent v) | inr l ↦ absurd l ]
  ]

  pub spread_exactly : (q : ℕ) → Has row q ↔ Useful rules finals reached q
  spread_exactly q = (m.sound q, useful_marked q)

-- the useful states of an automaton
module _ (A : Automaton) (fits : IsAutomaton A) (reached : Row) (exact : (q : ℕ) → Has reached q ↔ IsReachable A q) where
  useful_is : (q : ℕ) → Useful A.rules A.finals reached q → IsUseful A q
  useful_is q (at_final p f h) = useful_final A p ((exact p).0 h) f
  useful_is q (below r rule i p at all ik u) =
      let has = has_line A fits r rule at in
      let k = contains_at rule.kids i p ik in
      useful_below A p rule.parent ((exact p).0 (All-contains (Has reached) rule.kids p all k))
      (has.0, rule.kids, has.2, k, All-weaker (Has reached) (IsReachable A) (λ x h. (exact x).0 h) rule.kids all) (useful_is rule.parent u)

  leads_down : (q p : ℕ) → Leads A q p → Useful A.rules A.finals reached p → Useful A.rules A.finals reached q
  unfolding IsRule
  leads_down q p l u =
      let rule : Rule = record { symbol = l.2.1.0; kids = l.1; parent = p } in
      let k = place_of l.1 q l.3 in
      below l.2.0 rule k.0 q l.2.1.2 (All-weaker (IsReachable A) (Has reached) (λ x h. (exact x).1 h) l.1 l.4) k.1 u

  pub useful_exactly : (q : ℕ) → Useful A.rules A.finals reached q ↔ IsUseful A q
  useful_exactly q = (useful_is q, useful_within A (Useful A.rules A.finals reached) (λ x h f. at_final x f ((exact x).1 h)) leads_down q)
