-- The items of a text that passes no limit pass none.
use Rattle.std.proofs.Common.{◌≡◌, ℕ, ◌⊎◌, inl, inr, List, [], ◌∷◌, ◌++◌, refl, sym, ap, ◌∙◌, subst, append_assoc}
use Rattle.std.proofs.lemmas.List.{map-append}
use Rattle.tree_definitions.specs.Automaton.{Automaton, IsAutomaton}
use Rattle.timbuk_definitions.specs.Token.{Lexeme, Tokens, tokens_of, offset_after}
use Rattle.timbuk_definitions.specs.Grammar.{Item, IsFile, item_tokens}
use Rattle.timbuk_definitions.specs.Reading.{Spells}
use Rattle.timbuk_definitions.specs.Place.{Limit, IsWithin, PassesLimit, IsSmall}
use Rattle.timbuk_definitions.specs.Printed.{HasNames}
use Rattle.timbuk_definitions.proofs.Limits.{Crossing, scan, within_none, lexemes_split}
use Rattle.timbuk_definitions.proofs.Formed.{file_formed}
use Rattle.timbuk_definitions.proofs.Named.{file_named}
use Rattle.timbuk_definitions.proofs.Counted.{within_small}

pub unlimited_within : (text : List ℕ) (items : List Item) → IsFile items → Tokens text (item_tokens items) → ((what : Limit) (at : ℕ) → ¬ PassesLimit text what at) → IsWithin items
unlimited_within text items file lexed none = go (scan items [] within_none)
  where
    passed : (c : Crossing items) (f b : List Lexeme) → lexed.1 ≡ f ++ b → item_tokens c.front ≡ tokens_of f → item_tokens (c.item ∷ c.back) ≡ tokens_of b → ⊥
    passed c f [] e h g = absurd cc
    passed c f (l ∷ b) e h g =
        let head : c.item.token ≡ l.token = cc in
        none c.what (offset_after lexed.0 f) (
        record {
          gap = lexed.0;
          lexemes = lexed.1;
          lexed = lexed.2;
          front = f;
          lexeme = l;
          back = b;
          whole = e;
          items = c.front;
          item = c.item;
          begins = (c.back, subst IsFile (c.whole ∙ sym (append_assoc c.front (c.item ∷ []) c.back)) file);
          tokens = map-append (λ (y : Item). y.token) c.front (c.item ∷ []) ∙ (λ i. h i ++ head i ∷ []) ∙ sym (map-append (λ (y : Lexeme). y.token) f (l ∷ []));
          over = c.least.0;
          within = c.within;
          least = c.least.1;
          place = refl;
        }
        )

    go : Crossing items ⊎ IsWithin items → IsWithin items
    go (inl c) =
        let s = lexemes_split c.front (c.item ∷ c.back) lexed.1 (ap item_tokens (sym c.whole) ∙ sym lexed.3) in
        absurd (passed c s.0 s.1 s.2 s.3 s.4)
    go (inr h) = h

pub spelled_formed : (text : List ℕ) (A : Automaton) → Spells text A → IsAutomaton A
spelled_formed text A s = file_formed s.0 A s.1 s.3

pub spelled_named : (text : List ℕ) (A : Automaton) → Spells text A → ((what : Limit) (at : ℕ) → ¬ PassesLimit text what at) → HasNames A
spelled_named text A s none = file_named s.0 A s.1 (unlimited_within text s.0 s.1 s.2 none) s.3

pub spelled_small : (text : List ℕ) (A : Automaton) → Spells text A → ((what : Limit) (at : ℕ) → ¬ PassesLimit text what at) → IsSmall A
spelled_small text A s none = within_small s.0 A (unlimited_within text s.0 s.1 s.2 none) s.3
