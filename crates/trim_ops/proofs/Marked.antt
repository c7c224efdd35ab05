-- Steps of a marking loop.
use Rattle.std.proofs.Common.{◌≡◌, ◌≢◌, ◌↔◌, ◌⊎◌, inl, inr, ℕ, ◌+◌, ◌<◌, ◌≤◌, Bool, true, false, not, cond, List, [], ◌∷◌, ◌++◌, length, get_or, set, refl, sym, ap, ◌∙◌, subst, arith, ⊎_elim, Option, Some, None}
use Rattle.std.specs.Prelude.{Contains, count_by, slice_get}
use Rattle.std.proofs.lemmas.List.{length-set, get_or-set_same, get_or-set_other}
use Rattle.std.proofs.lemmas.List.Sums.{sum_by-set}
use Rattle.std.proofs.lemmas.List.Elements.{Contains-append_left, Contains-push, Contains-push_cases, All-contains}
use Rattle.std.proofs.lemmas.Option.{slice_get_within}
use Rattle.std.proofs.lemmas.Bool.{cases_eq, cases_lt}
use Rattle.tree_definitions.specs.Automaton.{Rule}
use Rattle.tree_definitions.specs.Relation.{Row, Has, IsAt}
use Rattle.tree_definitions.proofs.Members.{at_within, at_unique, contains_at, place_of}
use Rattle.trim_ops.specs.Marking.{Derived, by_rule, Marks, Visits, Rests, Stands, Marking, IsLater, IsFrom, IsByChild, Nothing, AreWithin, IsWithin}

pub set_within : (row : Row) (x : ℕ) → Has row x → x < length row
set_within row x h = slice_get_within row x true h

pub no_items : {X : Type 0} (xs : List X) → length xs ≡ 0 → xs ≡ []
no_items [] e = refl
no_items (x ∷ xs) e = absurd (omega (arith, e))

pub length-push : (xs : List ℕ) (x : ℕ) → length (xs ++ x ∷ []) ≡ length xs + 1
length-push [] x = refl
length-push (y ∷ xs) x = let h = length-push xs x in omega (arith, h)

pub marks_step : (row : Row) (todo : List ℕ) (q : ℕ) (row2 : Row) (todo2 : List ℕ) → q < length row → get_or row q false ≡ false
    → row2 ≡ set row q true → ((x : ℕ) → Has row2 x ↔ ((x ≡ q) ⊎ Has row x)) → todo2 ≡ todo ++ q ∷ [] → Marks row todo q row2 todo2
marks_step row todo q row2 todo2 l off value members more = record {
  size = ap length value ∙ length-set row q true;
  kept = λ x h. (members x).1 (inr h);
  here = (members q).1 (inl refl);
  only = λ x h. elim ((members x).0 h) [ inl e ↦ inr e | inr old ↦ inl old ];
  waits = λ x h. elim ((members x).0 h) [
    | inr old ↦ inl old
    | inl e ↦ inr (subst (λ t. Contains t x) (sym more) (subst (Contains (todo ++ q ∷ [])) (sym e) (Contains-push todo q)))
  ];
  grows = λ x h. subst (λ t. Contains t x) (sym more) (Contains-append_left todo (q ∷ []) x h);
  from = λ x h. elim (Contains-push_cases todo q x (subst (λ t. Contains t x) more h)) [ inl old ↦ inl old | inr e ↦ inr (sym e) ];
  work =
      let a = sum_by-set (λ b. cond (not b) 1 0) row q true false l in
      let one : ℕ = 1 in
      let e : cond (not (get_or row q false)) one 0 ≡ one = ap (λ b. cond (not b) 1 0) off in
      let b = length-push todo q in
      let c = ap (λ r. count_by not r) value in
      let d = ap length more in
      omega (arith, a, b, c, d, e);
}

pub marks_old : (row : Row) (todo : List ℕ) (q : ℕ) → Has row q → Marks row todo q row todo
marks_old row todo q on = record {
  size = refl;
  kept = λ x h. h;
  here = on;
  only = λ x h. inl h;
  waits = λ x h. inl h;
  grows = λ x h. h;
  from = λ x h. inl h;
  work = refl;
}

pub stands_kept : (row row2 : Row) (rule : Rule) (place : ℕ) → ((x : ℕ) → Has row x → Has row2 x) → Stands row rule place → Stands row2 rule place
stands_kept row row2 rule place kept s = record { within = s.within; passed = λ i k l at. kept k (s.passed i k l at) }

-- a rule that rests still rests after a mark
pub rests_kept : (row : Row) (todo : List ℕ) (q : ℕ) (row2 : Row) (todo2 : List ℕ) (place : ℕ) (rule : Rule)
    → Marks row todo q row2 todo2 → Rests row todo place rule → Rests row2 todo2 place rule
rests_kept row todo q row2 todo2 place rule m (inl done) = inl (done.0, m.kept rule.parent done.1)
rests_kept row todo q row2 todo2 place rule m (inr o) = inr (
  o.0,
  o.1,
  elim o.2 [
    | inl off ↦ here off (dec_set row2 o.0)
    | inr waits ↦ inr (m.grows o.0 waits)
  ],
)
  where
    dec_set : (r : Row) (x : ℕ) → Has r x ⊎ (¬ Has r x)
    dec_set r x = by_bit (slice_get r x)
      where
        by_bit : (b : Option Bool) → (b ≡ Some true) ⊎ (¬ (b ≡ Some true))
        by_bit None = inr (λ h. cc)
        by_bit (Some true) = inl refl
        by_bit (Some false) = inr (λ h. cc)

    here : ¬ Has row o.0 → Has row2 o.0 ⊎ (¬ Has row2 o.0) → (¬ Has row2 o.0) ⊎ Contains todo2 o.0
    here off (inr n) = inl n
    here off (inl on) = elim (m.waits o.0 on) [ inl old ↦ absurd (off old) | inr w ↦ inr w ]

pub rests_later : (row : Row) (todo : List ℕ) (place : ℕ) (rule : Rule) (row2 : Row) (todo2 : List ℕ)
    → row2 ≡ row → todo2 ≡ todo → Rests row todo place rule → Rests row2 todo2 place rule
rests_later row todo place rule row2 todo2 e f h = subst (λ r. Rests r todo2 place rule) (sym e) (subst (λ t. Rests row t place rule) (sym f) h)

pub visits_size : (rule : Rule) (place : ℕ) (row : Row) (todo : List ℕ) (place2 : ℕ) (row2 : Row) (todo2 : List ℕ)
    → Visits rule place row todo place2 row2 todo2 → length row2 ≡ length row
visits_size rule place row todo place2 row2 todo2 v = elim v.marks [ inl d ↦ d.1.size | inr o ↦ ap length o.1 ]

pub visits_work : (rule : Rule) (place : ℕ) (row : Row) (todo : List ℕ) (place2 : ℕ) (row2 : Row) (todo2 : List ℕ)
    → Visits rule place row todo place2 row2 todo2 → count_by not row2 + length todo2 ≡ count_by not row + length todo
visits_work rule place row todo place2 row2 todo2 v = elim v.marks [
  | inl d ↦ d.1.work
  | inr o ↦ subst (λ w. count_by not w + length todo2 ≡ count_by not row + length todo) (sym o.1) (ap (λ t. count_by not row + length t) o.2)
]

pub parent_within : (n : ℕ) (rules : List Rule) (r : ℕ) (rule : Rule) → AreWithin n rules → IsAt rules r rule → rule.parent < n
parent_within n rules r rule w at = (All-contains (IsWithin n) rules rule w (contains_at rules r rule at)).parent

pub later_from : (j x : ℕ) → IsFrom j x → (x ≡ j) ⊎ IsFrom (j + 1) x
later_from j x l = ⊎_elim (λ (e : x ≡ j). inl e) (λ (d : x ≢ j). inr (omega arith)) (cases_eq x j)

pub later_in : (list : List ℕ) (j r x : ℕ) → IsAt list j r → IsLater list j x → (x ≡ r) ⊎ IsLater list (j + 1) x
later_in list j r x at (k, l, kat) = ⊎_elim
    (λ (e : k ≡ j). inl (at_unique list j x r (subst (λ y. IsAt list y x) e kat) at))
    (λ (d : k ≢ j). inr (k, omega arith, kat))
    (cases_eq k j)

-- nothing is left
pub marking_end : (rules : List Rule) (Later Later2 : ℕ → Type 0) (row : Row) (todo places : List ℕ)
    → ((r : ℕ) (rule : Rule) → IsAt rules r rule → Later r → Later2 r) → Marking rules Later row todo places → Marking rules Later2 row todo places
marking_end rules Later Later2 row todo places f m = record {
  each = m.each;
  sound = m.sound;
  waiting = m.waiting;
  stands = m.stands;
  rests = λ r rule at. elim (m.rests r rule at) [ inl h ↦ inl h | inr l ↦ inr (f r rule at l) ];
}

-- the facts of one visit
module _ (rules : List Rule) (Later Later2 : ℕ → Type 0) (row : Row) (todo places : List ℕ) (r : ℕ) (rule : Rule) (place2 : ℕ) (row2 : Row) (todo2 : List ℕ)
    (at : IsAt rules r rule) (m : Marking rules Later row todo places) (v : Visits rule (get_or places r 0) row todo place2 row2 todo2)
    (parent : rule.parent < length row) (later : (x : ℕ) → Later x → (x ≡ r) ⊎ Later2 x) where
  place : ℕ
  place = get_or places r 0

  all_passed : (i k : ℕ) → i < place2 → IsAt rule.kids i k → Has row k
  unfolding place
  all_passed i k l h = go (cases_lt i (get_or places r 0))
    where
      go : (i < get_or places r 0) ⊎ (get_or places r 0 ≤ i) → Has row k
      go (inl old) = (m.stands r rule at).passed i k old h
      go (inr new) = v.moves.passed i k new l h

  kept : (x : ℕ) → Has row x → Has row2 x
  kept x h = elim v.marks [ inl d ↦ d.1.kept x h | inr o ↦ subst (λ w. Has w x) (sym o.1) h ]

  sound : (x : ℕ) → Has row2 x → Derived rules x
  sound x h = elim v.marks [
    | inl d ↦ elim (d.1.only x h) [
      | inl old ↦ m.sound x old
      | inr new ↦ subst (Derived rules) (sym new)
          (by_rule r rule at (λ i k ik. m.sound k (all_passed i k (let l : i < length rule.kids = slice_get_within rule.kids i k ik in omega (arith, l, d.0)) ik)))
    ]
    | inr o ↦ m.sound x (subst (λ w. Has w x) o.1 h)
  ]

  size : length row2 ≡ length row
  size = elim v.marks [ inl d ↦ d.1.size | inr o ↦ ap length o.1 ]

  waiting : (x : ℕ) → Contains todo2 x → x < length row2
  waiting x h = rw size (elim v.marks [
    | inl d ↦ elim (d.1.from x h) [ inl old ↦ m.waiting x old | inr new ↦ subst (λ y. y < length row) (sym new) parent ]
    | inr o ↦ m.waiting x (subst (λ t. Contains t x) o.2 h)
  ])

  in_places : r < length places
  in_places = let l : r < length rules = slice_get_within rules r rule at in let e = m.each in omega (arith, l, e)

  here : get_or (set places r place2) r 0 ≡ place2
  here = get_or-set_same places r place2 0 in_places

  stands_here : Stands row2 rule place2
  stands_here = record { within = v.moves.within; passed = λ i k l h. kept k (all_passed i k l h) }

  rests_here : Rests row2 todo2 place2 rule
  rests_here = elim v.marks [
    | inl d ↦ inl (d.0, d.1.here)
    | inr o ↦
        let k = at_within rule.kids place2 o.0 in
        inr (k.0, k.1, inl (λ h. v.moves.stops k.0 k.1 (subst (λ w. Has w k.0) o.1 h)))
  ]

  rests_there : (x : ℕ) (other : Rule) → Rests row todo (get_or places x 0) other → Rests row2 todo2 (get_or places x 0) other
  rests_there x other h = elim v.marks [
    | inl d ↦ rests_kept row todo rule.parent row2 todo2 (get_or places x 0) other d.1 h
    | inr o ↦ rests_later row todo (get_or places x 0) other row2 todo2 o.1 o.2 h
  ]

  pub visited : Marking rules Later2 row2 todo2 (set places r place2)
  visited = record {
    each = length-set places r place2 ∙ m.each;
    sound = sound;
    waiting = waiting;
    stands = λ x other xat. ⊎_elim
        (λ (e : x ≡ r).
        let same : IsAt rules r other = subst (λ y. IsAt rules y other) e xat in
        let which : rule ≡ other = at_unique rules r rule other at same in
        let p : place2 ≡ get_or (set places r place2) x 0 = sym here ∙ ap (λ y. get_or (set places r place2) y 0) (sym e) in
        subst (Stands row2 other) p (subst (λ o. Stands row2 o place2) which stands_here))
        (λ (d : x ≢ r).
        subst (Stands row2 other) (sym (get_or-set_other places r x place2 0 d)) (stands_kept row row2 other (get_or places x 0) kept (m.stands x other xat)))
        (cases_eq x r);
    rests = λ x other xat. ⊎_elim
        (λ (e : x ≡ r).
        let same : IsAt rules r other = subst (λ y. IsAt rules y other) e xat in
        let which : rule ≡ other = at_unique rules r rule other at same in
        let p : place2 ≡ get_or (set places r place2) x 0 = sym here ∙ ap (λ y. get_or (set places r place2) y 0) (sym e) in
        inl (subst (λ y. Rests row2 todo2 y other) p (subst (λ o. Rests row2 todo2 place2 o) which rests_here)))
        (λ (d : x ≢ r). other_rests x other d (m.rests x other xat))
        (cases_eq x r);
  }
    where
      other_rests : (x : ℕ) (other : Rule) → x ≢ r → Rests row todo (get_or places x 0) other ⊎ Later x → Rests row2 todo2 (get_or (set places r place2) x 0) other ⊎ Later2 x
      other_rests x other d (inl h) = inl (subst (λ y. Rests row2 todo2 y other) (sym (get_or-set_other places r x place2 0 d)) (rests_there x other h))
      other_rests x other d (inr l) = elim (later x l) [ inl e ↦ absurd (d e) | inr l2 ↦ inr l2 ]

-- before the first visit
pub marking_start : (rules : List Rule) (row : Row) (places : List ℕ) → length places ≡ length rules → ((x : ℕ) → ¬ Has row x)
    → ((r : ℕ) → get_or places r 0 ≡ 0) → Marking rules (IsFrom 0) row [] places
marking_start rules row places e none zeros = record {
  each = e;
  sound = λ x h. absurd (none x h);
  waiting = λ x h. omega (arith, h.1);
  stands = λ r rule at. let z = zeros r in record { within = omega (arith, z); passed = λ i k l h. absurd (omega (arith, z, l)) };
  rests = λ r rule at. inr (omega arith);
}

-- a state is taken out
pub marking_taken : (rules : List Rule) (users : List (List ℕ)) (list : List ℕ) (row : Row) (todo todo2 places : List ℕ) (q : ℕ)
    → IsByChild rules users → IsAt users q list → todo ≡ todo2 ++ q ∷ [] → Marking rules Nothing row todo places
    → Marking rules (IsLater list 0) row todo2 places
marking_taken rules users list row todo todo2 places q u at e m = record {
  each = m.each;
  sound = m.sound;
  waiting = λ x h. m.waiting x (subst (λ t. Contains t x) (sym e) (Contains-append_left todo2 (q ∷ []) x h));
  stands = m.stands;
  rests = λ r rule rat. go r rule rat (m.rests r rule rat);
}
  where
    named : (r : ℕ) (rule : Rule) → IsAt rules r rule → (i k : ℕ) → IsAt rule.kids i k → q ≡ k → IsLater list 0 r
    named r rule rat i k ik same =
        let p = place_of list r (u.whole q list r rule i at rat (subst (λ y. IsAt rule.kids i y) (sym same) ik)) in
        (p.0, omega arith, p.1)

    go : (r : ℕ) (rule : Rule) → IsAt rules r rule → Rests row todo (get_or places r 0) rule ⊎ Nothing r → Rests row todo2 (get_or places r 0) rule ⊎ IsLater list 0 r
    go r rule rat (inr n) = absurd n
    go r rule rat (inl (inl d)) = inl (inl d)
    go r rule rat (inl (inr (k, ik, inl off))) = inl (inr (k, ik, inl off))
    go r rule rat (inl (inr (k, ik, inr w))) = elim (Contains-push_cases todo2 q k (subst (λ t. Contains t k) e w)) [
      | inl old ↦ inl (inr (k, ik, inr old))
      | inr same ↦ inr (named r rule rat (get_or places r 0) k ik same)
    ]

-- at the end each rule whose children are marked has a marked parent
module _ (rules : List Rule) (row : Row) (places : List ℕ) (m : Marking rules Nothing row [] places) where
  closed : (r : ℕ) (rule : Rule) → IsAt rules r rule → ((i k : ℕ) → IsAt rule.kids i k → Has row k) → Has row rule.parent
  closed r rule at all = go (m.rests r rule at)
    where
      go : Rests row [] (get_or places r 0) rule ⊎ Nothing r → Has row rule.parent
      go (inr n) = absurd n
      go (inl (inl d)) = d.1
      go (inl (inr (k, ik, inl off))) = absurd (off (all (get_or places r 0) k ik))
      go (inl (inr (k, ik, inr w))) = absurd (omega (arith, w.1))

  whole : (q : ℕ) → Derived rules q → Has row q
  whole q (by_rule r rule at kids) = closed r rule at (λ i k ik. whole k (kids i k ik))

  pub marked_exactly : (q : ℕ) → Has row q ↔ Derived rules q
  marked_exactly q = (m.sound q, whole q)
