-- Words of a line, and the states that they name.
use Rattle.std.proofs.Common.{◌≡◌, ℕ, ◌+◌, ◌<◌, ◌≤◌, Bool, true, false, cond, ◌&&◌, List, [], ◌∷◌, ◌++◌, length, take, drop, get_or, map, Bor, Some, None, Err, refl, sym, ap, ap₂, ◌∙◌, arith}
use Rattle.std.specs.List.{list_all}
use Rattle.std.proofs.lemmas.List.{take_more, take_all, drop_more, drop_all, map-append, get_or-map, length-map}
use Rattle.std.proofs.lemmas.List.Folds.{list_all-append, list_all_at}
use Rattle.tree_definitions.specs.Name.{is_name}
use Rattle.witness_trees.specs.Judged.{Is, UnknownAt}
use Rattle.witness_trees.specs.Answers.{Spells}
use Rattle.witness_trees.specs.declared.reader.NodesTextError.{NodesTextError}
use Rattle.witness_trees.specs.declared.reader.NodesTextError.TheVariants as errors
use Rattle.certificate_lines.specs.Pairs.{state_in, state_then, states_in, spelled_names}
use Rattle.certificate_lines.specs.Telling.{span}

abbrev texts : List (Bor (List ℕ)) → List (List ℕ)
texts words = map (λ x. x.now) words

module _ (words : List (Bor (List ℕ))) (k : ℕ) (w : Bor (List ℕ)) (l : k < length words) (is : w ≡ get_or words k w) where
  text_at : get_or (texts words) k w.now ≡ w.now
  text_at = get_or-map (λ x. x.now) words k w w.now l ∙ ap (λ x. x.now) (sym is)

  -- a word that is no name
  pub not_spelled : {X : Type 0} (view : X → List (List ℕ)) (at : ℕ) (error : NodesTextError) → Spells {X = List ℕ} at (λ n. n) (Err error) (cond (is_name w.now) (Some w.now) None)
      → Spells at view (Err error) (spelled_names (texts words))
  not_spelled view at (errors.BadText byte) h =
      (h.0, ap (λ b. cond b (Some (texts words)) None) (list_all_at is_name (texts words) k w.now (omega (arith, l, length-map words (λ x. x.now))) (ap is_name text_at ∙ misses (is_name w.now) h.1)))
    where
      misses : (b : Bool) → cond b (Some w.now) None ≡ None → b ≡ false
      misses true e = absurd cc
      misses false e = refl
  not_spelled view at (errors.UnknownName byte) h = absurd h
  not_spelled view at errors.Memory h = tt

  pub one_name_more : (names new : List (List ℕ)) (name : List ℕ) → names ≡ texts (take k words) → list_all is_name (texts (take k words)) ≡ true → cond (is_name w.now) (Some w.now) None ≡ Some name → new ≡ names ++ name ∷ []
      → (new ≡ texts (take (k + 1) words)) × (list_all is_name (texts (take (k + 1) words)) ≡ true)
  one_name_more names new name old right h grown = go (is_name w.now) refl h
    where
      more : texts (take (k + 1) words) ≡ texts (take k words) ++ w.now ∷ []
      more = ap texts (take_more words k w l ∙ ap (λ x. take k words ++ x ∷ []) (sym is)) ∙ map-append (λ x. x.now) (take k words) (w ∷ [])

      go : (b : Bool) → is_name w.now ≡ b → cond b (Some w.now) None ≡ Some name → (new ≡ texts (take (k + 1) words)) × (list_all is_name (texts (take (k + 1) words)) ≡ true)
      go true e f =
          let same : w.now ≡ name = cc in (
            grown ∙ ap₂ (λ xs x. xs ++ x ∷ []) old (sym same) ∙ sym more,
            ap (list_all is_name) more ∙ list_all-append is_name (texts (take k words)) (w.now ∷ []) ∙ ap₂ (λ a b. a && (b && true)) right e,
          )
      go false e f = absurd cc

pub all_named : (words : List (Bor (List ℕ))) (k : ℕ) (names : List (List ℕ)) → length words ≤ k → names ≡ texts (take k words) → list_all is_name (texts (take k words)) ≡ true → spelled_names (texts words) ≡ Some names
all_named words k names past is right =
    let whole = take_all k words past in
    ap (λ b. cond b (Some (texts words)) None) (ap (λ xs. list_all is_name (texts xs)) (sym whole) ∙ right) ∙ ap Some (ap texts (sym whole) ∙ sym is)

module _ (states names : List (List ℕ)) (k at : ℕ) (read : List ℕ) (name : List ℕ) (l : k < length names) (is : name ≡ get_or names k name) where
  rest : drop k names ≡ name ∷ drop (k + 1) names
  rest = drop_more names k name l ∙ ap (λ x. x ∷ drop (k + 1) names) (sym is)

  turn : states_in states at read (drop k names) ≡ state_then at (λ q. states_in states (at + length name + 1) (read ++ q ∷ []) (drop (k + 1) names)) (state_in states name)
  unfolding states_in
  turn = ap (states_in states at read) rest

  pub no_state : None ≡ state_in states name → states_in states at read (drop k names) ≡ UnknownAt at
  no_state none = turn ∙ ap (state_then at (λ q. states_in states (at + length name + 1) (read ++ q ∷ []) (drop (k + 1) names))) (sym none)

  pub one_state : (q : ℕ) (new : List ℕ) (bytes : List ℕ) → Some q ≡ state_in states name → new ≡ read ++ q ∷ [] → bytes ≡ name
      → (states_in states (at + (length bytes + 1)) new (drop (k + 1) names) ≡ states_in states at read (drop k names)) × (at + (length bytes + 1) + span (drop (k + 1) names) ≡ at + span (drop k names))
  one_state q new bytes found grown same =
      let e : at + length name + 1 ≡ at + (length bytes + 1) = (let s = ap length same in omega (arith, s)) in
      let width : span (drop k names) ≡ length name + 1 + span (drop (k + 1) names) = ap span rest in
      let s = ap length same in (
        ap₂ (λ n xs. states_in states n xs (drop (k + 1) names)) (sym e) grown
            ∙ ap (state_then at (λ q. states_in states (at + length name + 1) (read ++ q ∷ []) (drop (k + 1) names))) found ∙ sym turn,
        omega (arith, s, width),
      )

pub no_names_left : (states names : List (List ℕ)) (k at : ℕ) (read : List ℕ) → length names ≤ k → states_in states at read (drop k names) ≡ Is read
unfolding states_in
no_names_left states names k at read past = ap (states_in states at read) (drop_all k names past)
