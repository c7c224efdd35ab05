-- What the machine says at a step is what the table has to do, and the store carries what comes after it.
use Rattle.std.proofs.Common.{◌≡◌, ℕ, true, List, [], ◌∷◌, ◌++◌, length, Option, Some, None, refl, sym, ap, ◌∙◌, subst, length-append, arith}
use Rattle.std.specs.List.{AllZip}
use Rattle.std.specs.Str.Parse.{digits_value}
use Rattle.tree_definitions.specs.Name.{IsName}
use Rattle.tree_definitions.specs.Relation.{IsAt}
use Rattle.timbuk_definitions.specs.Token.{Token, bytes_of}
use Rattle.timbuk_definitions.specs.Grammar.{Role, Plain, OpRank, KidName, RuleArrow, are_digits}
use Rattle.timbuk_definitions.specs.Machine.{Kind, Open, Close, Comma, Colon, Pointer, OpsWord, AutomatonWord, StatesWord, FinalWord, TransitionsWord, Named, Slot, InStates, InFinals, InRules, InKids, Spot, Start, InOps, AfterOp, AfterOpColon, AfterAutomaton, AfterTitle, AfterFinal, AfterHead, AfterOpen, AfterComma, AfterClose, AfterPointer, In, AfterState, AfterColon, Move, step, step_in}
use Rattle.timbuk_definitions.proofs.Seen.{Sees}
use Rattle.timbuk_definitions.proofs.Formed.{zip_length}
use Rattle.timbuk_text.specs.Table.{action_of}
use Rattle.timbuk_text.specs.Store.{Store, Heads, Bears, Awaits, CarriesSlot, Carries}
use Rattle.timbuk_text.proofs.Listed.{zip_push}
use Rattle.timbuk_text.specs.Taking.{Says, After, HasKid, IsReady, symbol_read}

abbrev Grows : Store → Store → Type 0
Grows old new = (i : ℕ) (n : List ℕ) → IsAt old.states i n → IsAt new.states i n

pub record Turn (old : Store) (w : List ℕ) (mv : Move) : Type 0 where
  pub says : Says old (action_of mv.role) w mv.role
  pub ready : IsReady (action_of mv.role) old w
  pub carries : (new : Store) → After (action_of mv.role) w old new → Grows old new → Carries new mv.spot

abbrev Turns : Store → List ℕ → Option Move → Type 0
Turns old w None = Unit {0}
Turns old w (Some mv) = Turn old w mv

-- the bytes of a name, and otherwise those given
abbrev word_at : List ℕ → Kind → List ℕ
word_at w (Named v d) = v
word_at w k = w

abbrev IsKnown : Kind → Type 0
IsKnown (Named v d) = IsName v × (d ≡ are_digits v)
IsKnown k = Unit {0}

-- a step that says nothing
plain : (old : Store) (w : List ℕ) (m : Spot) → Carries old m → Turn old w (record { role = Plain; spot = m })
plain old w m h = record { says = refl; ready = tt; carries = λ new e g. subst (λ s. Carries s m) (sym e) h }

grown : (old new : Store) → Grows old new → (qs : List ℕ) (ns : List (List ℕ)) → AllZip (IsAt old.states) qs ns → AllZip (IsAt new.states) qs ns
grown old new g [] [] h = tt
grown old new g [] (n ∷ ns) h = absurd h
grown old new g (q ∷ qs) [] h = absurd h
grown old new g (q ∷ qs) (n ∷ ns) h = (g q n h.0, grown old new g qs ns h.1)

kid_borne : (old new : Store) (n w : List ℕ) (kids : List (List ℕ)) → Bears old n kids → HasKid w old new → Grows old new → Bears new n (kids ++ w ∷ [])
kid_borne old new n w kids b h g = record {
  heads = record { head = h.head ∙ b.heads.head; name = b.heads.name };
  children = subst (λ ks. AllZip (IsAt new.states) ks (kids ++ w ∷ [])) (sym h.kids) (zip_push (IsAt new.states) old.kids kids h.place w (grown old new g old.kids kids b.children) h.state);
  few = let long = zip_length (IsAt old.states) old.kids kids b.children in omega (arith, long, h.few, length-append kids (w ∷ []));
}

none_borne : (s : Store) (n : List ℕ) → Heads s n → s.kids ≡ [] → Bears s n []
none_borne s n h e = record { heads = h; children = subst (λ ks. AllZip (IsAt s.states) ks []) (sym e) tt; few = omega arith }

awaited : (old new : Store) (n : List ℕ) (kids : List (List ℕ)) → Bears old n kids → (new.kids ≡ old.kids) × IsAt new.symbols new.symbol (symbol_read old) → Grows old new → Awaits new n kids
awaited old new n kids b h g = record {
  children = subst (λ ks. AllZip (IsAt new.states) ks kids) (sym h.0) (grown old new g old.kids kids b.children);
  symbol = subst (IsAt new.symbols new.symbol) (read old n kids b) h.1;
}
  where
    read : (old : Store) (n : List ℕ) (kids : List (List ℕ)) → Bears old n kids → symbol_read old ≡ record { name = n; rank = length kids }
    read old n kids b = λ i. record { name = b.heads.head i; rank = zip_length (IsAt old.states) old.kids kids b.children i }

-- the child after those read
kid_turn : (old : Store) (n w : List ℕ) (kids : List (List ℕ)) → Bears old n kids → IsName w → Turn old w (record { role = KidName (length kids) w; spot = AfterState (InKids n (kids ++ w ∷ [])) })
kid_turn old n w kids b name = record {
  says = ap (λ k. KidName k w) (sym (zip_length (IsAt old.states) old.kids kids b.children));
  ready = name;
  carries = λ new h g. kid_borne old new n w kids b h g;
}

arrow_turn : (old : Store) (n w : List ℕ) (kids : List (List ℕ)) → Bears old n kids → Turn old w (record { role = RuleArrow (record { name = n; rank = length kids }); spot = AfterPointer n kids })
arrow_turn old n w kids b = record {
  says = λ i. RuleArrow (record { name = sym b.heads.head i; rank = sym (zip_length (IsAt old.states) old.kids kids b.children) i });
  ready = (subst IsName (sym b.heads.head) b.heads.name, (let long = zip_length (IsAt old.states) old.kids kids b.children in omega (arith, long, b.few)));
  carries = λ new h g. awaited old new n kids b h g;
}

turns_in : (slot : Slot) (k : Kind) (old : Store) (w : List ℕ) → CarriesSlot old slot → IsKnown k → Turns old (word_at w k) (step_in slot k)
turns_in InStates (Named v d) old w h e = record { says = refl; ready = e.0; carries = λ new a g. tt }
turns_in InStates FinalWord old w h e = plain old w AfterFinal tt
turns_in InStates k old w h e = tt
turns_in InFinals (Named v d) old w h e = record { says = refl; ready = e.0; carries = λ new a g. tt }
turns_in InFinals TransitionsWord old w h e = plain old w (In InRules) tt
turns_in InFinals k old w h e = tt
turns_in InRules (Named v d) old w h e = record { says = refl; ready = e.0; carries = λ new a g. (record { head = a.0; name = e.0 }, a.1) }
turns_in InRules k old w h e = tt
turns_in (InKids n kids) Comma old w h e = plain old w (AfterComma n kids) h
turns_in (InKids n kids) Close old w h e = plain old w (AfterClose n kids) h
turns_in (InKids n kids) k old w h e = tt

turns : (s : Spot) (k : Kind) (old : Store) (w : List ℕ) → Carries old s → IsKnown k → Turns old (word_at w k) (step s k)
turns Start OpsWord old w h e = plain old w InOps h
turns Start k old w h e = tt
turns InOps (Named v d) old w h e = record { says = refl; ready = e.0; carries = λ new a g. (a.1 ∙ h, record { head = a.0; name = e.0 }) }
turns InOps AutomatonWord old w h e = plain old w AfterAutomaton h
turns InOps k old w h e = tt
turns (AfterOp n) Colon old w h e = plain old w (AfterOpColon n) h
turns (AfterOp n) k old w h e = tt
turns (AfterOpColon n) (Named v true) old w h e = record {
  says = let symbol : List ℕ → Role = λ m. OpRank (record { name = m; rank = digits_value 10 v }) in ap symbol (sym h.1.head);
  ready = (subst IsName (sym h.1.head) h.1.name, sym e.1);
  carries = λ new a g. a ∙ h.0;
}
turns (AfterOpColon n) k old w h e = tt
turns AfterAutomaton (Named v d) old w h e = record { says = (refl, h); ready = e.0; carries = λ new a g. tt }
turns AfterAutomaton StatesWord old w h e = plain old w (In InStates) tt
turns AfterAutomaton k old w h e = tt
turns AfterTitle StatesWord old w h e = plain old w (In InStates) tt
turns AfterTitle k old w h e = tt
turns AfterFinal StatesWord old w h e = plain old w (In InFinals) tt
turns AfterFinal k old w h e = tt
turns (AfterHead n) Open old w h e = plain old w (AfterOpen n) h
turns (AfterHead n) Pointer old w h e = arrow_turn old n w [] (none_borne old n h.0 h.1)
turns (AfterHead n) k old w h e = tt
turns (AfterOpen n) (Named v d) old w h e = kid_turn old n v [] (none_borne old n h.0 h.1) e.0
turns (AfterOpen n) Close old w h e = plain old w (AfterClose n []) (none_borne old n h.0 h.1)
turns (AfterOpen n) k old w h e = tt
turns (AfterComma n kids) (Named v d) old w h e = kid_turn old n v kids h e.0
turns (AfterComma n kids) k old w h e = tt
turns (AfterClose n kids) Pointer old w h e = arrow_turn old n w kids h
turns (AfterClose n kids) k old w h e = tt
turns (AfterPointer n kids) (Named v d) old w h e = record {
  says = (record { symbol = record { name = n; rank = length kids }; kids = kids; parent = v }, refl, record { symbol = h.symbol; kids = h.children; parent = refl });
  ready = e.0;
  carries = λ new a g. tt;
}
turns (AfterPointer n kids) k old w h e = tt
turns (In slot) k old w h e = turns_in slot k old w h e
turns (AfterState slot) Colon old w h e = plain old w (AfterColon slot) h
turns (AfterState slot) k old w h e = turns_in slot k old w h e
turns (AfterColon slot) (Named v true) old w h e = plain old v (In slot) h
turns (AfterColon slot) k old w h e = tt

-- what is seen of a token says what it is made of
known_kind : (t : Token) (k : Kind) → Sees t k → IsKnown k
known_kind t (Named v d) e = (e.1, e.2)
known_kind t k e = tt

known_word : (t : Token) (k : Kind) → Sees t k → word_at (bytes_of t) k ≡ bytes_of t
known_word t (Named v d) e = sym (ap bytes_of e.0)
known_word t k e = refl

pub turned : (s : Spot) (k : Kind) (old : Store) (t : Token) (mv : Move) → Carries old s → Sees t k → step s k ≡ Some mv → Turn old (bytes_of t) mv
turned s k old t mv h e f = subst (λ w. Turn old w mv) (known_word t k e) (subst (Turns old (word_at (bytes_of t) k)) f (turns s k old (bytes_of t) h (known_kind t k e)))
