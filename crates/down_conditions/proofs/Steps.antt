-- One step of the search for a choice.
use Rattle.std.proofs.Common.{◌≡◌, ◌≢◌, ◌⊎◌, ◌↔◌, inl, inr, ℕ, ◌+◌, ◌<◌, ◌≤◌, List, [], ◌∷◌, ◌++◌, length, refl, sym, ap, ◌∙◌, subst, arith, ⊎_elim}
use Rattle.std.proofs.Math.Decide.{ℕ_discrete}
use Rattle.std.proofs.lemmas.Bool.{cases_eq}
use Rattle.std.proofs.lemmas.Option.{slice_get_within}
use Rattle.tree_definitions.specs.Relation.{Places, Matrix, Holds, IsAt}
use Rattle.tree_definitions.proofs.Members.{at_unique, at_within}
use Rattle.down_conditions.specs.Covering.{Shifted}
use Rattle.down_conditions.specs.Choosing.{Sent, Assigns, Hits, Misses, IsFresh, IsPlaced, IsAhead, IsSearching}
use Rattle.down_conditions.proofs.Pushed.{at_push, push_at, push_before, length_push}

pick : {k j : ℕ} → Dec (k ≡ j) → ℕ → ℕ → ℕ
pick (yes e) i old = i
pick (no d) i old = old

-- the assignment with i for tuple j
pub sending : (ℕ → ℕ) → ℕ → ℕ → ℕ → ℕ
sending to j i k = pick (ℕ_discrete k j) i (to k)

pub sending_here : (to : ℕ → ℕ) (j i : ℕ) → sending to j i j ≡ i
unfolding sending pick
sending_here to j i = go (ℕ_discrete j j)
  where
    go : (d : Dec (j ≡ j)) → pick d i (to j) ≡ i
    go (yes e) = refl
    go (no d) = absurd (d refl)

pub sending_else : (to : ℕ → ℕ) (j i k : ℕ) → k ≢ j → sending to j i k ≡ to k
unfolding sending pick
sending_else to j i k other = go (ℕ_discrete k j)
  where
    go : (d : Dec (k ≡ j)) → pick d i (to k) ≡ to k
    go (yes e) = absurd (other e)
    go (no d) = refl

module _ (tuple : ℕ → List ℕ) where
  -- what is sent rests on the first places alone
  pub sent_same : (f g : ℕ → ℕ) (j : ℕ) → ((e : ℕ) → e < j → f e ≡ g e) → (i s : ℕ) → Sent tuple j f i s → Sent tuple j g i s
  sent_same f g j same i s h = (h.0, h.1, sym (same h.0 h.1) ∙ h.2, h.3)

  pub sent_more : (f : ℕ → ℕ) (j l : ℕ) → j ≤ l → (i s : ℕ) → Sent tuple j f i s → Sent tuple l f i s
  sent_more f j l le i s h = (h.0, (let k = h.1 in omega (arith, k, le)), h.2, h.3)

  fresh_same : (f g : ℕ → ℕ) (k : ℕ) → ((e : ℕ) → e < k → f e ≡ g e) → IsFresh tuple f k → IsFresh tuple g k
  fresh_same f g k same fresh i t at h = fresh i t at (sent_same g f k (λ e l. sym (same e l)) i t h)

  placed_same : (n : ℕ) (f g : ℕ → ℕ) (k v : ℕ) → ((e : ℕ) → e < k + 1 → f e ≡ g e) → IsPlaced tuple n f k v → IsPlaced tuple n g k v
  placed_same n f g k v same h =
      let here : f k ≡ g k = same k (omega arith) in
      let before : (e : ℕ) → e < k → f e ≡ g e = λ e l. same e (omega (arith, l)) in (
        subst (λ z. z < n) here h.0,
        elim h.1 [
          | inl new ↦ inl (new.0 ∙ here, fresh_same f g k before new.1)
          | inr old ↦ inr (old.0, (old.1.0, subst (λ z. IsAt (tuple k) z old.1.0) here old.1.1, subst (λ z. Sent tuple k g z old.1.0) here (sent_same f g k before (f k) old.1.0 old.1.2)))
        ],
      )

  -- with one tuple more
  pub sent_cases : (to : ℕ → ℕ) (j i x s : ℕ) → Sent tuple (j + 1) (sending to j i) x s → Sent tuple j to x s ⊎ ((x ≡ i) × IsAt (tuple j) i s)
  sent_cases to j i x s h = ⊎_elim
      (λ (e : h.0 ≡ j).
      let here : i ≡ x = sym (sending_here to j i) ∙ ap (sending to j i) (sym e) ∙ h.2 in
      inr (sym here, subst (λ z. IsAt (tuple j) z s) (sym here) (subst (λ k. IsAt (tuple k) x s) e h.3)))
      (λ (d : h.0 ≢ j). inl (h.0, (let l = h.1 in omega (arith, l, d)), sym (sending_else to j i h.0 d) ∙ h.2, h.3))
      (cases_eq h.0 j)

  pub sent_old : (to : ℕ → ℕ) (j i x s : ℕ) → Sent tuple j to x s → Sent tuple (j + 1) (sending to j i) x s
  sent_old to j i x s h =
      let l = h.1 in
      (h.0, omega (arith, l), sending_else to j i h.0 (omega (arith, l)) ∙ h.2, h.3)

  pub sent_new : (to : ℕ → ℕ) (j i s : ℕ) → IsAt (tuple j) i s → Sent tuple (j + 1) (sending to j i) i s
  sent_new to j i s at = (j, omega arith, sending_here to j i, at)

module _ (Covered : ℕ → Places → Type 0) (grows : (i : ℕ) (P Q : Places) → ((s : ℕ) → P s → Q s) → Covered i P → Covered i Q)
    (tuple : ℕ → List ℕ) (count n m : ℕ) where
  pub search_start : (sets : Matrix) → ((i s : ℕ) → Holds sets i s → ⊥) → ((i : ℕ) → Covered i (λ s. ⊥) → ⊥) → IsSearching Covered tuple count n m [] 0 sets
  search_start sets none held = record {
    to = λ k. 0;
    short = omega arith;
    bound = omega arith;
    each = λ k v at. absurd cc;
    has = λ i s. (λ h. absurd (none i s h), λ h. let l = h.2.1 in absurd (omega (arith, l)));
    misses = λ i h. held i (grows i (Sent tuple 0 (λ k. 0) i) (λ s. ⊥) (λ s x. let l = x.1 in omega (arith, l)) h);
    fresh = λ d. absurd (d refl);
    ahead = λ other all. inr (record {
      better = other;
      within = all;
      less = λ i s h. h;
      turn = 0;
      up = omega arith;
      same = λ e l. absurd (omega (arith, l));
      beyond = inl (refl, omega arith);
    });
  }

  module _ (places : List ℕ) (next : ℕ) (sets : Matrix) (now : IsSearching Covered tuple count n m places next sets) where
    -- all tuples are sent
    pub search_done : count ≤ length places → (to : ℕ → ℕ) × Assigns count n to × Misses Covered tuple count to
    search_done whole =
        let short = now.short in
        let e : length places ≡ count = omega (arith, whole, short) in (
          now.to,
          (λ k l. let v = at_within places k (omega (arith, l, e)) in (now.each k v.0 v.1).0),
          subst (λ c. Misses Covered tuple c now.to) e now.misses,
        )

    -- nothing is left to be tried
    pub search_over : places ≡ [] → 0 < count → n ≤ next → (other : ℕ → ℕ) → Assigns count n other → Hits Covered tuple count other
    search_over none some past other all = elim (now.ahead other all) [
      | inl hit ↦ hit
      | inr left ↦
          let up = left.up in
          let none_long : length places ≡ 0 = ap (λ (xs : List ℕ). length xs) none in
          let small = left.within left.turn (omega (arith, up, none_long, some)) in
          elim left.beyond [
            | inl b ↦ (let l = b.1 in absurd (omega (arith, l, small, past)))
            | inr b ↦ (let w = slice_get_within places left.turn b.0 b.1 in absurd (omega (arith, w, none_long)))
          ]
    ]

    -- some member of the tuple stands at its place: so does no harm there
    pub search_skips : length places < count → next ≡ 0 → (i t : ℕ) → i < n → IsAt (tuple (length places)) i t → Holds sets i (m + t)
        → IsSearching Covered tuple count n m (places ++ n ∷ []) 0 sets
    search_skips room begun i t small at there =
        let j = length places in
        let f = sending now.to j i in
        let long = length_push places n in
        let agree : (e : ℕ) → e < j → now.to e ≡ f e = λ e l. sym (sending_else now.to j i e (omega (arith, l))) in
        let was = (now.has i (m + t)).0 there in
        let same_t : was.0 ≡ t = (let e = was.1 in omega (arith, e)) in
        let before : Sent tuple j now.to i t = subst (Sent tuple j now.to i) same_t was.2 in
        let has_more : (x s : ℕ) → Holds sets x s ↔ Shifted m (Sent tuple (j + 1) f x) s = λ x s. (
          (λ h. let k = (now.has x s).0 h in (k.0, k.1, sent_old tuple now.to j i x k.0 k.2)),
          (λ h. elim (sent_cases tuple now.to j i x h.0 h.2) [
            | inl old ↦ (now.has x s).1 (h.0, h.1, old)
            | inr new ↦
                let e : h.0 ≡ t = at_unique (tuple j) i h.0 t new.1 at in
                (now.has x s).1 (h.0, h.1, subst (Sent tuple j now.to x) (sym e) (subst (λ z. Sent tuple j now.to z t) (sym new.0) before))
          ]),
        ) in
        let misses_more : Misses Covered tuple (j + 1) f = λ x h. now.misses x (grows x (Sent tuple (j + 1) f x) (Sent tuple j now.to x)
        (λ s y. elim (sent_cases tuple now.to j i x s y) [
          | inl old ↦ old
          | inr new ↦
              let e : s ≡ t = at_unique (tuple j) i s t new.1 at in
              subst (Sent tuple j now.to x) (sym e) (subst (λ z. Sent tuple j now.to z t) (sym new.0) before)
        ]) h) in
        record {
          to = f;
          short = omega (arith, long, room);
          bound = omega arith;
          each = λ k v kat. elim (at_push places n k v kat) [
            | inl old ↦ (let w = slice_get_within places k v old in placed_same tuple n now.to f k v (λ e l. agree e (omega (arith, w, l))) (now.each k v old))
            | inr new ↦
                let here : f k ≡ i = ap f new.0 ∙ sending_here now.to j i in (
                  subst (λ z. z < n) (sym here) small,
                  inr (
                    new.1,
                    (
                      t,
                      subst (λ z. IsAt (tuple k) z t) (sym here) (subst (λ z. IsAt (tuple z) i t) (sym new.0) at),
                      subst (λ z. Sent tuple k f z t) (sym here) (subst (λ z. Sent tuple z f i t) (sym new.0) (sent_same tuple now.to f j agree i t before)),
                    ),
                  ),
                )
          ];
          has = subst (λ c. (x s : ℕ) → Holds sets x s ↔ Shifted m (Sent tuple c f x) s) (sym long) has_more;
          misses = subst (λ c. Misses Covered tuple c f) (sym long) misses_more;
          fresh = λ d. absurd (d refl);
          ahead = λ other all. elim (now.ahead other all) [
            | inl hit ↦ inl hit
            | inr left ↦ inr (elim left.beyond [
              | inl b ↦ record {
                better = sending left.better j i;
                within = λ k l. ⊎_elim
                    (λ (e : k ≡ j). subst (λ z. z < n) (sym (ap (sending left.better j i) e ∙ sending_here left.better j i)) small)
                    (λ (d : k ≢ j). subst (λ z. z < n) (sym (sending_else left.better j i k d)) (left.within k l))
                    (cases_eq k j);
                less = λ x s h. ⊎_elim
                    (λ (e : h.0 ≡ j).
                    let here : i ≡ x = sym (sending_here left.better j i) ∙ ap (sending left.better j i) (sym e) ∙ h.2 in
                    let its : s ≡ t = at_unique (tuple j) i s t (subst (λ z. IsAt (tuple j) z s) (sym here) (subst (λ k. IsAt (tuple k) x s) e h.3)) at in
                    let old : Sent tuple j left.better i t = sent_same tuple now.to left.better j (λ e l. sym (left.same e (let q = b.0 in omega (arith, l, q)))) i t before in
                    left.less x s (subst (Sent tuple count left.better x) (sym its) (subst (λ z. Sent tuple count left.better z t) here (sent_more tuple left.better j count (omega (arith, room)) i t old))))
                    (λ (d : h.0 ≢ j). left.less x s (h.0, h.1, sym (sending_else left.better j i h.0 d) ∙ h.2, h.3))
                    (cases_eq h.0 j);
                turn = j + 1;
                up = omega (arith, long);
                same = λ e l. ⊎_elim
                    (λ (q : e ≡ j). ap (sending left.better j i) q ∙ sending_here left.better j i ∙ sym (sending_here now.to j i) ∙ ap f (sym q))
                    (λ (d : e ≢ j). sending_else left.better j i e d ∙ left.same e (let q = b.0 in omega (arith, l, d, q)) ∙ agree e (omega (arith, l, d)))
                    (cases_eq e j);
                beyond = inl (sym long, omega arith);
              }
              | inr b ↦
                  let w = slice_get_within places left.turn b.0 b.1 in
                  record {
                    better = left.better;
                    within = left.within;
                    less = left.less;
                    turn = left.turn;
                    up = omega (arith, w, long);
                    same = λ e l. left.same e l ∙ agree e (omega (arith, l, w));
                    beyond = inr (b.0, push_before places n left.turn b.0 b.1, b.2);
                  }
            ])
          ];
        }

    -- a place that the tuple covers is passed over
    pub search_passes : length places < count → next < n → IsFresh tuple now.to (length places) → Covered next (Sent tuple (length places + 1) (sending now.to (length places) next) next)
        → (sets2 : Matrix) → ((x s : ℕ) → Holds sets2 x s ↔ Holds sets x s) → IsSearching Covered tuple count n m places (next + 1) sets2
    search_passes room small fresh covered sets2 back =
        let j = length places in
        record {
          to = now.to;
          short = now.short;
          bound = omega (arith, small);
          each = now.each;
          has = λ x s. (λ h. (now.has x s).0 ((back x s).0 h), λ h. (back x s).1 ((now.has x s).1 h));
          misses = now.misses;
          fresh = λ d l. fresh;
          ahead = λ other all. elim (now.ahead other all) [
            | inl hit ↦ inl hit
            | inr left ↦ elim left.beyond [
              | inl b ↦ ⊎_elim
                  (λ (e : left.better left.turn ≡ next).
                  let q = b.0 in
                  let agree : (k : ℕ) → k < j + 1 → sending now.to j next k ≡ left.better k = λ k l. ⊎_elim
                  (λ (f : k ≡ j). ap (sending now.to j next) f ∙ sending_here now.to j next ∙ sym e ∙ ap left.better (q ∙ sym f))
                  (λ (d : k ≢ j). sending_else now.to j next k d ∙ sym (left.same k (omega (arith, l, d, q))))
                  (cases_eq k j) in
                  inl (
                    next,
                    grows next (Sent tuple (j + 1) (sending now.to j next) next) (Sent tuple count other next)
                        (λ s h. left.less next s (sent_more tuple left.better (j + 1) count (omega (arith, room)) next s
                        (sent_same tuple (sending now.to j next) left.better (j + 1) agree next s h))) covered,
                  ))
                  (λ (d : left.better left.turn ≢ next). inr (record {
                    better = left.better;
                    within = left.within;
                    less = left.less;
                    turn = left.turn;
                    up = left.up;
                    same = left.same;
                    beyond = inl (b.0, (let l = b.1 in omega (arith, l, d)));
                  }))
                  (cases_eq (left.better left.turn) next)
              | inr b ↦ inr (record {
                better = left.better;
                within = left.within;
                less = left.less;
                turn = left.turn;
                up = left.up;
                same = left.same;
                beyond = inr b;
              })
            ]
          ];
        }

    -- the tuple is sent to the place
    pub search_sends : length places < count → next < n → IsFresh tuple now.to (length places) → (t : ℕ) → IsAt (tuple (length places)) next t
        → (Covered next (Sent tuple (length places + 1) (sending now.to (length places) next) next) → ⊥)
        → (sets2 : Matrix) → ((x s : ℕ) → Holds sets2 x s ↔ (((x ≡ next) × (s ≡ m + t)) ⊎ Holds sets x s))
        → IsSearching Covered tuple count n m (places ++ next ∷ []) 0 sets2
    search_sends room small fresh t at free sets2 put =
        let j = length places in
        let f = sending now.to j next in
        let long = length_push places next in
        let agree : (e : ℕ) → e < j → now.to e ≡ f e = λ e l. sym (sending_else now.to j next e (omega (arith, l))) in
        let has_more : (x s : ℕ) → Holds sets2 x s ↔ Shifted m (Sent tuple (j + 1) f x) s = λ x s. (
          (λ h. elim ((put x s).0 h) [
            | inl new ↦ (t, new.1, subst (λ z. Sent tuple (j + 1) f z t) (sym new.0) (sent_new tuple now.to j next t at))
            | inr old ↦ (let k = (now.has x s).0 old in (k.0, k.1, sent_old tuple now.to j next x k.0 k.2))
          ]),
          (λ h. elim (sent_cases tuple now.to j next x h.0 h.2) [
            | inl old ↦ (put x s).1 (inr ((now.has x s).1 (h.0, h.1, old)))
            | inr new ↦
                let e : h.0 ≡ t = at_unique (tuple j) next h.0 t new.1 at in
                (put x s).1 (inl (new.0, h.1 ∙ ap (λ z. m + z) e))
          ]),
        ) in
        let misses_more : Misses Covered tuple (j + 1) f = λ x h. ⊎_elim
        (λ (e : x ≡ next). free (subst (λ z. Covered z (Sent tuple (j + 1) f z)) e h))
        (λ (d : x ≢ next). now.misses x (grows x (Sent tuple (j + 1) f x) (Sent tuple j now.to x)
        (λ s y. elim (sent_cases tuple now.to j next x s y) [
          | inl old ↦ old
          | inr new ↦ absurd (d new.0)
        ]) h))
        (cases_eq x next) in
        record {
          to = f;
          short = omega (arith, long, room);
          bound = omega arith;
          each = λ k v kat. elim (at_push places next k v kat) [
            | inl old ↦ (let w = slice_get_within places k v old in placed_same tuple n now.to f k v (λ e l. agree e (omega (arith, w, l))) (now.each k v old))
            | inr new ↦
                let here : f k ≡ next = ap f new.0 ∙ sending_here now.to j next in
                (subst (λ z. z < n) (sym here) small, inl (new.1 ∙ sym here, subst (IsFresh tuple f) (sym new.0) (fresh_same tuple now.to f j agree fresh)))
          ];
          has = subst (λ c. (x s : ℕ) → Holds sets2 x s ↔ Shifted m (Sent tuple c f x) s) (sym long) has_more;
          misses = subst (λ c. Misses Covered tuple c f) (sym long) misses_more;
          fresh = λ d. absurd (d refl);
          ahead = λ other all. elim (now.ahead other all) [
            | inl hit ↦ inl hit
            | inr left ↦ inr (elim left.beyond [
              | inl b ↦ ⊎_elim
                  (λ (e : left.better left.turn ≡ next). record {
                    better = left.better;
                    within = left.within;
                    less = left.less;
                    turn = j + 1;
                    up = omega (arith, long);
                    same = λ k l. ⊎_elim
                        (λ (q : k ≡ j). ap left.better (q ∙ sym b.0) ∙ e ∙ sym (sending_here now.to j next) ∙ ap f (sym q))
                        (λ (d : k ≢ j). left.same k (let q = b.0 in omega (arith, l, d, q)) ∙ agree k (omega (arith, l, d)))
                        (cases_eq k j);
                    beyond = inl (sym long, omega arith);
                  })
                  (λ (d : left.better left.turn ≢ next).
                  let q = b.0 in
                  record {
                    better = left.better;
                    within = left.within;
                    less = left.less;
                    turn = left.turn;
                    up = omega (arith, long, q);
                    same = λ k l. left.same k l ∙ agree k (omega (arith, l, q));
                    beyond = inr (next, subst (λ z. IsAt (places ++ next ∷ []) z next) (sym q) (push_at places next), (let l = b.1 in omega (arith, l, d)));
                  })
                  (cases_eq (left.better left.turn) next)
              | inr b ↦
                  let w = slice_get_within places left.turn b.0 b.1 in
                  record {
                    better = left.better;
                    within = left.within;
                    less = left.less;
                    turn = left.turn;
                    up = omega (arith, w, long);
                    same = λ e l. left.same e l ∙ agree e (omega (arith, l, w));
                    beyond = inr (b.0, push_before places next left.turn b.0 b.1, b.2);
                  }
            ])
          ];
        }

  -- the last tuple is taken back, and its next place is to be tried
  module _ (places : List ℕ) (v next : ℕ) (sets : Matrix) (now : IsSearching Covered tuple count n m (places ++ v ∷ []) next sets)
      (room : length places + 1 < count) (past : n ≤ next) where
    back_ahead : (other : ℕ → ℕ) → Assigns count n other → Hits Covered tuple count other ⊎ IsAhead tuple count n places (v + 1) now.to other
    back_ahead other all = elim (now.ahead other all) [
      | inl hit ↦ inl hit
      | inr left ↦
          let long = length_push places v in
          elim left.beyond [
            | inl b ↦
                let q = b.0 in
                let l = b.1 in
                let small = left.within left.turn (omega (arith, long, q, room)) in
                absurd (omega (arith, small, l, past))
            | inr b ↦ elim (at_push places v left.turn b.0 b.1) [
              | inl old ↦
                  let w = slice_get_within places left.turn b.0 old in
                  inr (record {
                    better = left.better;
                    within = left.within;
                    less = left.less;
                    turn = left.turn;
                    up = omega (arith, w);
                    same = left.same;
                    beyond = inr (b.0, old, b.2);
                  })
              | inr new ↦
                  let q = new.0 in
                  let e = new.1 in
                  let l = b.2 in
                  inr (record {
                    better = left.better;
                    within = left.within;
                    less = left.less;
                    turn = left.turn;
                    up = omega (arith, q);
                    same = left.same;
                    beyond = inl (q, omega (arith, l, e));
                  })
            ]
          ]
    ]

    here : IsPlaced tuple n now.to (length places) v
    here = now.each (length places) v (push_at places v)

    pub last_within : v ≤ n
    last_within = let l = here.0 in elim here.1 [
      | inl new ↦ (let e = new.0 in omega (arith, l, e))
      | inr old ↦ (let e = old.0 in omega (arith, e))
    ]

    fewer : (i s : ℕ) → Sent tuple (length places) now.to i s → Sent tuple (length (places ++ v ∷ [])) now.to i s
    fewer = sent_more tuple now.to (length places) (length (places ++ v ∷ [])) (let long = length_push places v in omega (arith, long))

    at_last : (i s : ℕ) → Sent tuple (length (places ++ v ∷ [])) now.to i s → Sent tuple (length places) now.to i s ⊎ ((now.to (length places) ≡ i) × IsAt (tuple (length places)) i s)
    at_last i s h = ⊎_elim
        (λ (e : h.0 ≡ length places). inr (ap now.to (sym e) ∙ h.2, subst (λ k. IsAt (tuple k) i s) e h.3))
        (λ (d : h.0 ≢ length places). inl (h.0, (let l = h.1 in let long = length_push places v in omega (arith, l, long, d)), h.2, h.3))
        (cases_eq h.0 (length places))

    misses_less : Misses Covered tuple (length places) now.to
    misses_less i h = now.misses i (grows i (Sent tuple (length places) now.to i) (Sent tuple (length (places ++ v ∷ [])) now.to i) (fewer i) h)

    before : (k w : ℕ) → IsAt places k w → IsPlaced tuple n now.to k w
    before k w at = now.each k w (push_before places v k w at)

    pub search_back : v < n → (t : ℕ) → IsAt (tuple (length places)) v t
        → (sets2 : Matrix) → ((x s : ℕ) → Holds sets2 x s ↔ (((x ≡ v) × (s ≡ m + t) → ⊥) × Holds sets x s))
        → IsSearching Covered tuple count n m places (v + 1) sets2
    search_back small t at sets2 take = elim here.1 [
      | inr old ↦ (let e = old.0 in absurd (omega (arith, small, e)))
      | inl new ↦ record {
        to = now.to;
        short = omega (arith, room);
        bound = omega (arith, small);
        each = before;
        has = λ x s. (
          λ h.
              let k = (take x s).0 h in
              let was = (now.has x s).0 k.1 in
              elim (at_last x was.0 was.2) [
                | inl old ↦ (was.0, was.1, old)
                | inr last ↦
                    let e : x ≡ v = sym last.0 ∙ sym new.0 in
                    let f : was.0 ≡ t = at_unique (tuple (length places)) v was.0 t (subst (λ z. IsAt (tuple (length places)) z was.0) e last.1) at in
                    absurd (k.0 (e, was.1 ∙ ap (λ z. m + z) f))
              ],
          λ h. (take x s).1 (
            (λ both.
                let g = h.1 in
                let w = both.1 in
                let f : h.0 ≡ t = omega (arith, g, w) in
                new.1 v t at (subst (Sent tuple (length places) now.to v) f (subst (λ z. Sent tuple (length places) now.to z h.0) both.0 h.2))),
            (now.has x s).1 (h.0, h.1, fewer x h.0 h.2),
          ),
        );
        misses = misses_less;
        fresh = λ d l. new.1;
        ahead = back_ahead;
      }
    ]

    pub search_unskips : n ≤ v → IsSearching Covered tuple count n m places (v + 1) sets
    search_unskips large = elim here.1 [
      | inl new ↦ (let l = here.0 in let e = new.0 in absurd (omega (arith, l, e, large)))
      | inr old ↦ record {
        to = now.to;
        short = omega (arith, room);
        bound = (let e = old.0 in omega (arith, e));
        each = before;
        has = λ x s. (
          λ h.
              let was = (now.has x s).0 h in
              elim (at_last x was.0 was.2) [
                | inl earlier ↦ (was.0, was.1, earlier)
                | inr last ↦
                    let x_is : now.to (length places) ≡ x = last.0 in
                    let f : was.0 ≡ old.1.0 = at_unique (tuple (length places)) x was.0 old.1.0 last.1 (subst (λ z. IsAt (tuple (length places)) z old.1.0) x_is old.1.1) in
                    (was.0, was.1, subst (Sent tuple (length places) now.to x) (sym f) (subst (λ z. Sent tuple (length places) now.to z old.1.0) x_is old.1.2))
              ],
          λ h. (now.has x s).1 (h.0, h.1, fewer x h.0 h.2),
        );
        misses = misses_less;
        fresh = λ d l. absurd (omega (arith, l, large));
        ahead = back_ahead;
      }
    ]
