-- Steps of the loops that explore a pair, a rule and a list of rules.
use Rattle.std.proofs.Common.{◌≡◌, ◌≢◌, ◌⊎◌, inl, inr, ℕ, ◌<◌, ◌+◌, List, [], ◌∷◌, length, get_or, refl, sym, ap, ◌∙◌, subst, arith, ⊎_elim}
use Rattle.std.specs.Prelude.{All, Contains}
use Rattle.std.proofs.lemmas.Bool.{cases_eq}
use Rattle.std.proofs.lemmas.List.Elements.{All-nil, Contains-get_or}
use Rattle.std.proofs.lemmas.Option.{slice_get-get_or}
use Rattle.tree_definitions.specs.Automaton.{Rule}
use Rattle.tree_definitions.specs.Product.{Both}
use Rattle.tree_definitions.specs.Relation.{IsAt}
use Rattle.tree_definitions.proofs.Members.{at_unique, place_of}
use Rattle.bool_ops.specs.Closing.{AreAlike, AreHeld, Grows, Settled, SettledWith}
use Rattle.bool_ops.specs.Filing.{entries_of, slot_of, HasSlots, IsFiled}
use Rattle.bool_ops.proofs.Closed.{grows_none, grows_keeps, settled_kept}

pub entries_at : (ks : List ℕ) (i q : ℕ) → IsAt ks i q → IsAt (entries_of ks) i q
entries_at [] i q e = absurd cc
entries_at (k ∷ ks) i q e = e

pub rules_within : (theirs : List Rule) (slots : List Both) (lists : List (List ℕ)) (list : List ℕ) → IsFiled theirs slots lists
    → (list ≡ []) ⊎ ((n : ℕ) × IsAt lists n list) → All (λ s. s < length theirs) list
rules_within theirs slots lists list filed (inl e) = subst (All (λ s. s < length theirs)) (sym e) (All-nil (λ s. s < length theirs))
rules_within theirs slots lists list filed (inr h) = λ k d l. filed.within h.0 list h.1 (get_or list k d) (Contains-get_or list k d l)

pub rules_at : (theirs : List Rule) (slots : List Both) (lists : List (List ℕ)) (symbol i q : ℕ) (list : List ℕ) → HasSlots theirs slots → IsFiled theirs slots lists
    → ((n : ℕ) → IsAt slots n (slot_of symbol i q) → IsAt lists n list)
    → (s : ℕ) (right : Rule) → IsAt theirs s right → right.symbol ≡ symbol → IsAt (entries_of right.kids) i q → Contains list s
rules_at theirs slots lists symbol i q list has filed found s right sat e iat =
    let slot = place_of slots (slot_of right.symbol i q) (has.whole s right i q sat iat tt) in
    filed.whole s right i q sat iat tt slot.0 list slot.1 (found slot.0 (subst (λ a. IsAt slots slot.0 (slot_of a i q)) e slot.1))

module _ (ours theirs : List Rule) (base f0 p f p2 f2 : List Both) (before : Grows ours theirs base f0 p f) (now : Grows ours theirs p f p2 f2) where
  still : (r s : ℕ) → Settled ours theirs base p f r s → Settled ours theirs base p2 f2 r s
  still r s h = settled_kept ours theirs base base p f p2 f2 r s (λ x k. k) now h

  fresh : (r s : ℕ) → Settled ours theirs p p2 f2 r s → Settled ours theirs base p2 f2 r s
  fresh r s h = settled_kept ours theirs p base p2 f2 p2 f2 r s (grows_keeps ours theirs base f0 p f before) (grows_none ours theirs p2 f2) h

  pub list_step : (r : ℕ) (list : List ℕ) (i : ℕ) → i < length list
      → ((k s : ℕ) → k < i → IsAt list k s → Settled ours theirs base p f r s) → Settled ours theirs p p2 f2 r (get_or list i 0)
      → (k s : ℕ) → k < i + 1 → IsAt list k s → Settled ours theirs base p2 f2 r s
  list_step r list i l done here k s m kat = ⊎_elim
      (λ (e : k ≡ i).
      let same : get_or list i 0 ≡ s = at_unique list i (get_or list i 0) s (slice_get-get_or list i 0 l) (subst (λ z. IsAt list z s) e kat) in
      subst (Settled ours theirs base p2 f2 r) same (fresh r (get_or list i 0) here))
      (λ (d : k ≢ i). still r s (done k s (omega arith) kat))
      (cases_eq k i)

  -- rule r at one of its places
  module _ (r : ℕ) (x : Both) (i : ℕ) (mine : Rule) (rat : IsAt ours r mine)
      (done : (s j : ℕ) (left right : Rule) → j < i → IsAt ours r left → IsAt theirs s right → AreAlike left right → IsAt left.kids j x.left
      → IsAt right.kids j x.right → Settled ours theirs base p f r s) where
    pub place_step : (list : List ℕ)
        → ((s : ℕ) (right : Rule) → IsAt theirs s right → AreAlike mine right → IsAt right.kids i x.right → AreHeld p mine.kids right.kids → Contains list s)
        → ((s : ℕ) → Contains list s → Settled ours theirs p p2 f2 r s)
        → (s j : ℕ) (left right : Rule) → j < i + 1 → IsAt ours r left → IsAt theirs s right → AreAlike left right → IsAt left.kids j x.left
        → IsAt right.kids j x.right → Settled ours theirs base p2 f2 r s
    place_step list whole here s j left right m lat sat alike jat kat = ⊎_elim
        (λ (e : j ≡ i).
        let which : left ≡ mine = at_unique ours r left mine lat rat in
        let both_alike : AreAlike mine right = subst (λ (z : Rule). AreAlike z right) which alike in
        fresh r s (λ l2 r2 lat2 sat2 alike2 held2.
        let a : l2 ≡ mine = at_unique ours r l2 mine lat2 rat in
        let b : r2 ≡ right = at_unique theirs s r2 right sat2 sat in
        let held : AreHeld p mine.kids right.kids =
        subst (λ (z : Rule). AreHeld p mine.kids z.kids) b (subst (λ (z : Rule). AreHeld p z.kids r2.kids) a held2) in
        here s (whole s right sat both_alike (subst (λ z. IsAt right.kids z x.right) e kat) held) l2 r2 lat2 sat2 alike2 held2))
        (λ (d : j ≢ i). still r s (done s j left right (omega arith) lat sat alike jat kat))
        (cases_eq j i)

  -- each rule of a list
  pub rules_step : (x : Both) (list : List ℕ) (i : ℕ) → i < length list
      → ((k r : ℕ) → k < i → IsAt list k r → SettledWith ours theirs base p f r x) → SettledWith ours theirs p p2 f2 (get_or list i 0) x
      → (k r : ℕ) → k < i + 1 → IsAt list k r → SettledWith ours theirs base p2 f2 r x
  rules_step x list i l done here k r m kat s j left right lat sat alike jat qat = ⊎_elim
      (λ (e : k ≡ i).
      let same : get_or list i 0 ≡ r = at_unique list i (get_or list i 0) r (slice_get-get_or list i 0 l) (subst (λ z. IsAt list z r) e kat) in
      fresh r s (subst (λ z. SettledWith ours theirs p p2 f2 z x) same here s j left right lat sat alike jat qat))
      (λ (d : k ≢ i). still r s (done k r (omega arith) kat s j left right lat sat alike jat qat))
      (cases_eq k i)

  -- the leaf rules up to this one
  pub leaf_step : (i : ℕ) (mine : Rule) → IsAt ours i mine
      → ((r s : ℕ) (left right : Rule) → r < i → IsAt ours r left → IsAt theirs s right → AreAlike left right → left.kids ≡ [] → Settled ours theirs base p f r s)
      → (list : List ℕ) → ((s : ℕ) (right : Rule) → IsAt theirs s right → right.symbol ≡ mine.symbol → IsAt (entries_of right.kids) 0 0 → Contains list s)
      → ((s : ℕ) → Contains list s → Settled ours theirs p p2 f2 i s)
      → (r s : ℕ) (left right : Rule) → r < i + 1 → IsAt ours r left → IsAt theirs s right → AreAlike left right → left.kids ≡ [] → Settled ours theirs base p2 f2 r s
  leaf_step i mine iat done list whole here r s left right m lat sat alike none = ⊎_elim
      (λ (e : r ≡ i).
      let which : left ≡ mine = at_unique ours i left mine (subst (λ z. IsAt ours z left) e lat) iat in
      let symbol : right.symbol ≡ mine.symbol = sym alike.symbol ∙ ap (λ (z : Rule). z.symbol) which in
      let empty : right.kids ≡ [] = no_kids right.kids (sym alike.kids ∙ ap length none) in
      let leaf : IsAt (entries_of right.kids) 0 0 = subst (λ ks. IsAt (entries_of ks) 0 0) (sym empty) refl in
      subst (λ z. Settled ours theirs base p2 f2 z s) (sym e) (fresh i s (here s (whole s right sat symbol leaf))))
      (λ (d : r ≢ i). still r s (done r s left right (omega arith) lat sat alike none))
      (cases_eq r i)
    where
      no_kids : (ks : List ℕ) → length ks ≡ 0 → ks ≡ []
      no_kids [] e = refl
      no_kids (k ∷ ks) e = absurd (omega (arith, e))

-- a place at which the rule has another state
pub place_past : (ours theirs : List Rule) (base p f : List Both) (r : ℕ) (x : Both) (i k : ℕ) (mine : Rule) → IsAt ours r mine → IsAt mine.kids i k → k ≢ x.left
    → ((s j : ℕ) (left right : Rule) → j < i → IsAt ours r left → IsAt theirs s right → AreAlike left right → IsAt left.kids j x.left
    → IsAt right.kids j x.right → Settled ours theirs base p f r s)
    → (s j : ℕ) (left right : Rule) → j < i + 1 → IsAt ours r left → IsAt theirs s right → AreAlike left right → IsAt left.kids j x.left
    → IsAt right.kids j x.right → Settled ours theirs base p f r s
place_past ours theirs base p f r x i k mine rat kat other done s j left right m lat sat alike jat qat = ⊎_elim
    (λ (e : j ≡ i).
    let which : left ≡ mine = at_unique ours r left mine lat rat in
    let there : IsAt mine.kids i x.left = subst (λ (z : Rule). IsAt z.kids i x.left) which (subst (λ z. IsAt left.kids z x.left) e jat) in
    absurd (other (at_unique mine.kids i k x.left kat there)))
    (λ (d : j ≢ i). done s j left right (omega arith) lat sat alike jat qat)
    (cases_eq j i)

-- a rule that is no leaf
pub leaf_past : (ours theirs : List Rule) (base p f : List Both) (i : ℕ) (mine : Rule) → IsAt ours i mine → mine.kids ≢ []
    → ((r s : ℕ) (left right : Rule) → r < i → IsAt ours r left → IsAt theirs s right → AreAlike left right → left.kids ≡ [] → Settled ours theirs base p f r s)
    → (r s : ℕ) (left right : Rule) → r < i + 1 → IsAt ours r left → IsAt theirs s right → AreAlike left right → left.kids ≡ [] → Settled ours theirs base p f r s
leaf_past ours theirs base p f i mine iat some done r s left right m lat sat alike none = ⊎_elim
    (λ (e : r ≡ i).
    let which : left ≡ mine = at_unique ours i left mine (subst (λ z. IsAt ours z left) e lat) iat in
    absurd (some (sym (ap (λ (z : Rule). z.kids) which) ∙ none)))
    (λ (d : r ≢ i). done r s left right (omega arith) lat sat alike none)
    (cases_eq r i)
