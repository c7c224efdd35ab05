-- Why a run over files of automata has no answer, and what that excludes.
use Rattle.std.proofs.Common.{◌≡◌, ◌⊎◌, ℕ, zero, suc, ◌<◌, ◌≤◌, List, [], ◌∷◌, Some, None, inl, inr, refl, sym, ap, ◌∙◌, subst, arith, IfSome}
use Rattle.std.specs.Prelude.{take, slice_get, unwrap_or}
use Rattle.std.specs.declared.option.Option.{Option}
use Rattle.std.proofs.lemmas.Bool.{cases_order}
use Rattle.vata_outside.specs.Outside.{File, IsMissing, Rose, Selects}
use Rattle.tree_definitions.specs.Automaton.{Automaton}
use Rattle.tree_definitions.specs.Relation.{IsAt}
use Rattle.timbuk_definitions.specs.Place.{Limit as Count}
use Rattle.timbuk_text.specs.Taking.{limit_of}
use Rattle.vata_core.specs.Limits.{Exceeds, IsPast, IsWithin}
use Rattle.vata_core.specs.Request.{Request, files_of}
use Rattle.vata_core.specs.declared.measure.Measure.{Measure}
use Rattle.vata_core.specs.Files.{AreSpelled, ComesTo, IsBadAt, IsFileOf, IsOverAt, IsRefused, IsSpelled, IsTooLong, Told}
use Rattle.vata_core.specs.Lines.{memory_line, read_line, syntax_line}
use Rattle.vata_core.specs.Outcome.{FailsToRead, IsAnswered, IsLimited, TooLong, Over, Past}
use Rattle.vata_core.specs.Refusals.{AreUnread, IsCause, IsFileHalt, IsHaltAt, IsHalted, IsOperationHalt, halt_line, halt_status}
use Rattle.vata_core.specs.declared.halting.Halt.{Halt}
use Rattle.vata_core.specs.declared.halting.Halt.TheVariants as halt
use Rattle.vata_core.specs.declared.loading.Refusal.{Refusal}
use Rattle.vata_core.specs.declared.loading.Refusal.TheVariants as refusal
use Rattle.vata_core.specs.declared.status.Status.TheVariants as status
use Rattle.vata_core.proofs.Pieces.{rose_before}
use Rattle.vata_core.proofs.Walk.{IsBad, IsOver, bad_not_over, bad_not_spelled, long_not_spelled, one_automaton, over_not_spelled, told_so}

-- what holds of all that was read holds of the file of that name
pub told_read : (files : Option (List File)) (name text : List ℕ) (left : Option (List ℕ)) (P : List ℕ → Type 0) → Selects files name left → IfSome left (λ bytes. text ≡ bytes) → P text → Told files name P
told_read None name text left P s r p = tt
told_read (Some fs) name text left P s r p = (s.0, s.1, subst P (subst (λ l. IfSome l (λ bytes. text ≡ bytes)) s.2 r) p)

-- why the first file gives no automaton
pub first_unread : (files : Option (List File)) (name : List ℕ) (names : List (List ℕ)) (before now : ℕ) (h : Halt) → IsFileHalt files name before now 0 h → AreUnread files (name ∷ names) before now h
first_unread files name names before now (halt.File at r) h = subst (λ p. IsHaltAt files (name ∷ names) before now p r) (sym h.0) (stops r h.1)
  where
    stops : (r : Refusal) → IsCause files name before now r → IsHaltAt files (name ∷ names) before now 0 r
    stops refusal.ReadFault c = record { name = name; first = record { stands = refl; before = ([], tt) }; cause = c }
    stops refusal.TooLong c = record { name = name; first = record { stands = refl; before = ([], tt) }; reason = c }
    stops (refusal.Syntax at) c = record { name = name; first = record { stands = refl; before = ([], tt) }; reason = c }
    stops (refusal.Limit what at) c = record { name = name; first = record { stands = refl; before = ([], tt) }; reason = c }
    stops refusal.Memory c = tt
first_unread files name names before now (halt.Past what) h = absurd h
first_unread files name names before now halt.Memory h = absurd h

-- why the second file gives no automaton
pub second_unread : (files : Option (List File)) (first name : List ℕ) (names : List (List ℕ)) (A : Automaton) (before then now : ℕ) (h : Halt) → IsSpelled files first A → before ≤ then
    → IsFileHalt files name then now 1 h → AreUnread files (first ∷ name ∷ names) before now h
second_unread files first name names A before then now (halt.File at r) s le h = subst (λ p. IsHaltAt files (first ∷ name ∷ names) before now p r) (sym h.0) (stops r h.1)
  where
    stops : (r : Refusal) → IsCause files name then now r → IsHaltAt files (first ∷ name ∷ names) before now 1 r
    stops refusal.ReadFault c = record {
      name = name;
      first = record { stands = refl; before = (A ∷ [], (s, tt)) };
      cause = elim c [ inl rose ↦ inl (rose_before before then now le rose) | inr missing ↦ inr missing ];
    }
    stops refusal.TooLong c = record { name = name; first = record { stands = refl; before = (A ∷ [], (s, tt)) }; reason = c }
    stops (refusal.Syntax at) c = record { name = name; first = record { stands = refl; before = (A ∷ [], (s, tt)) }; reason = c }
    stops (refusal.Limit what at) c = record { name = name; first = record { stands = refl; before = (A ∷ [], (s, tt)) }; reason = c }
    stops refusal.Memory c = tt
second_unread files first name names A before then now (halt.Past what) s le h = absurd h
second_unread files first name names A before then now halt.Memory s le h = absurd h

-- files of a request that give no automata leave it without an answer
pub unread_halted : (files : Option (List File)) (request : Request) (before now : ℕ) (h : Halt) → AreUnread files (files_of request) before now h → IsHalted files request before now h
unread_halted files request before now (halt.File place r) h = h
unread_halted files request before now (halt.Past what) h = absurd h
unread_halted files request before now halt.Memory h = absurd h

-- what has no result for the automata of a request's files leaves it without an answer
pub operation_halted : (files : Option (List File)) (request : Request) (As : List Automaton) (before now : ℕ) (h : Halt) → AreSpelled files (files_of request) As
    → IsOperationHalt (Exceeds request As) h → IsHalted files request before now h
operation_halted files request As before now (halt.File place r) s h = absurd h
operation_halted files request As before now (halt.Past what) s h = (As, s, h)
operation_halted files request As before now halt.Memory s h = tt

-- what ends with status Limit is beyond a limit, and its line is told
pub limited : (files : Option (List File)) (request : Request) (before now : ℕ) (h : Halt) → halt_status h ≡ status.Limit → IsHalted files request before now h → IsLimited files request (halt_line h)
limited files request before now (halt.File place refusal.ReadFault) e h = cc e
limited files request before now (halt.File place refusal.TooLong) e h = TooLong place h
limited files request before now (halt.File place (refusal.Syntax at)) e h = cc e
limited files request before now (halt.File place (refusal.Limit what at)) e h = Over place (limit_of what) at h
limited files request before now (halt.File place refusal.Memory) e h = cc e
limited files request before now (halt.Past what) e h = Past h.0 what h.1 h.2
limited files request before now halt.Memory e h = cc e

-- what ends with status Syntax is a file with a bad place, which is told
pub bad_file : (files : Option (List File)) (request : Request) (before now : ℕ) (h : Halt) → halt_status h ≡ status.Syntax → IsHalted files request before now h
    → (place : ℕ) × (at : ℕ) × IsRefused files (files_of request) (IsBadAt at) place × (halt_line h ≡ syntax_line place at)
bad_file files request before now (halt.File place refusal.ReadFault) e h = cc e
bad_file files request before now (halt.File place refusal.TooLong) e h = cc e
bad_file files request before now (halt.File place (refusal.Syntax at)) e h = (place, at, h, refl)
bad_file files request before now (halt.File place (refusal.Limit what at)) e h = cc e
bad_file files request before now (halt.File place refusal.Memory) e h = cc e
bad_file files request before now (halt.Past what) e h = cc e
bad_file files request before now halt.Memory e h = cc e

-- what ends with status ReadFault is a file that can't be read, which is told
pub unread_file : (files : Option (List File)) (request : Request) (before now : ℕ) (h : Halt) → halt_status h ≡ status.ReadFault → IsHalted files request before now h
    → (place : ℕ) × FailsToRead files (files_of request) before now place × (halt_line h ≡ read_line place)
unread_file files request before now (halt.File place refusal.ReadFault) e h = (place, h, refl)
unread_file files request before now (halt.File place refusal.TooLong) e h = cc e
unread_file files request before now (halt.File place (refusal.Syntax at)) e h = cc e
unread_file files request before now (halt.File place (refusal.Limit what at)) e h = cc e
unread_file files request before now (halt.File place refusal.Memory) e h = cc e
unread_file files request before now (halt.Past what) e h = cc e
unread_file files request before now halt.Memory e h = cc e

-- what ends with status Memory tells that
pub memory_told : (h : Halt) → halt_status h ≡ status.Memory → halt_line h ≡ memory_line
memory_told (halt.File place refusal.ReadFault) e = cc e
memory_told (halt.File place refusal.TooLong) e = cc e
memory_told (halt.File place (refusal.Syntax at)) e = cc e
memory_told (halt.File place (refusal.Limit what at)) e = cc e
memory_told (halt.File place refusal.Memory) e = refl
memory_told (halt.Past what) e = cc e
memory_told halt.Memory e = refl

-- a run that has no answer wrote none
pub halt_unanswered : (h : Halt) → IsAnswered (halt_status h) → ⊥
halt_unanswered (halt.File place refusal.ReadFault) a = a
halt_unanswered (halt.File place refusal.TooLong) a = a
halt_unanswered (halt.File place (refusal.Syntax at)) a = a
halt_unanswered (halt.File place (refusal.Limit what at)) a = a
halt_unanswered (halt.File place refusal.Memory) a = a
halt_unanswered (halt.Past what) a = a
halt_unanswered halt.Memory a = a

module _ (fs : List File) where
  spelled_before : (names : List (List ℕ)) (As : List Automaton) (p q : ℕ) (name : List ℕ) → IsAt names p name → p < q → AreSpelled (Some fs) (take q names) As → (A : Automaton) × IsSpelled (Some fs) name A
  spelled_before [] As p q name at h s = cc at
  spelled_before (n ∷ names) As p zero name at h s = absurd (omega (arith, h))
  spelled_before (n ∷ names) [] p (suc q) name at h s = absurd s
  spelled_before (n ∷ names) (A ∷ As) zero (suc q) name at h s = (A, subst (λ m. IsSpelled (Some fs) m A) (ap (λ o. unwrap_or o name) at) s.0)
  spelled_before (n ∷ names) (A ∷ As) (suc p) (suc q) name at h s = spelled_before names As p q name at (omega (arith, h)) s.1

  spelled_at : (names : List (List ℕ)) (As : List Automaton) (p : ℕ) (name : List ℕ) → IsAt names p name → AreSpelled (Some fs) names As → (A : Automaton) × IsSpelled (Some fs) name A
  spelled_at [] As p name at s = cc at
  spelled_at (n ∷ names) [] p name at s = absurd s
  spelled_at (n ∷ names) (A ∷ As) zero name at s = (A, subst (λ m. IsSpelled (Some fs) m A) (ap (λ o. unwrap_or o name) at) s.0)
  spelled_at (n ∷ names) (A ∷ As) (suc p) name at s = spelled_at names As p name at s.1

  told_both : (name : List ℕ) (P Q : List ℕ → Type 0) → Told (Some fs) name P → Told (Some fs) name Q → (bytes : List ℕ) × P bytes × Q bytes
  told_both name P Q p q = (q.0, subst P (ap (λ o. unwrap_or o []) (sym p.1 ∙ q.1)) p.2, q.2)

  -- a file of which this holds spells no automaton
  abbrev Ends : (List ℕ → Type 0) → Type 0
  Ends P = (name : List ℕ) (A : Automaton) → P name → IsSpelled (Some fs) name A → ⊥

  abbrev Long : List ℕ → Type 0
  Long name = Told (Some fs) name IsTooLong

  abbrev Beyond : List ℕ → Type 0
  Beyond name = Told (Some fs) name IsOver

  abbrev Bad : List ℕ → Type 0
  Bad name = Told (Some fs) name IsBad

  abbrev Lost : List ℕ → Type 0
  Lost name = IsMissing (Some fs) name

  long_ends : Ends Long
  long_ends name A l s = let both = told_both name IsTooLong (IsFileOf A) l s in long_not_spelled both.0 A both.1 both.2

  past_ends : Ends Beyond
  past_ends name A l s = let both = told_both name IsOver (IsFileOf A) l s in over_not_spelled both.0 A both.1 both.2

  bad_ends : Ends Bad
  bad_ends name A l s = let both = told_both name IsBad (IsFileOf A) l s in bad_not_spelled both.0 A both.1 both.2

  lost_ends : Ends Lost
  lost_ends name A l s = cc (l, s.1)

  module _ (request : Request) where
    abbrev names : List (List ℕ)
    names = files_of request

    -- the files before the one of that name spell automata, and this holds of that one
    pub record Stop (P : List ℕ → Type 0) : Type 0 where
      pub place : ℕ
      pub name : List ℕ
      pub first : ComesTo (Some fs) names place name
      pub reason : P name

    clash : (P Q : List ℕ → Type 0) → ((name : List ℕ) → P name → Q name → ⊥) → Ends P → Ends Q → Stop P → Stop Q → ⊥
    clash P Q apart ep eq s t = elim (cases_order s.place t.place) [
      | inr (inl less) ↦
          let before = spelled_before names t.first.before.0 s.place t.place s.name s.first.stands less t.first.before.1 in
          ep s.name before.0 s.reason before.1
      | inl same ↦
          let name : s.name ≡ t.name = ap (λ o. unwrap_or o s.name) (sym s.first.stands ∙ ap (slice_get names) same ∙ t.first.stands) in
          apart t.name (subst P name s.reason) t.reason
      | inr (inr more) ↦
          let before = spelled_before names s.first.before.0 t.place s.place t.name t.first.stands more s.first.before.1 in
          eq t.name before.0 t.reason before.1
    ]

    -- where each file spells an automaton, none ends the walk
    ends_none : (P : List ℕ → Type 0) → Ends P → (As : List Automaton) → AreSpelled (Some fs) names As → Stop P → ⊥
    ends_none P ep As s t =
        let at = spelled_at names As t.place t.name t.first.stands s in
        ep t.name at.0 t.reason at.1

    long_stop : (place : ℕ) → IsRefused (Some fs) names IsTooLong place → Stop Long
    long_stop place h = record { place = place; name = h.name; first = h.first; reason = h.reason }

    past_stop : (place : ℕ) (what : Count) (at : ℕ) → IsRefused (Some fs) names (IsOverAt what at) place → Stop Beyond
    past_stop place what at h = record { place = place; name = h.name; first = h.first; reason = told_so fs h.name (IsOverAt what at) IsOver (λ bytes o. (what, at, o)) h.reason }

    bad_stop : (place at : ℕ) → IsRefused (Some fs) names (IsBadAt at) place → Stop Bad
    bad_stop place at h = record { place = place; name = h.name; first = h.first; reason = told_so fs h.name (IsBadAt at) IsBad (λ bytes b. (at, b)) h.reason }

    lost_stop : (before now place : ℕ) → ¬ Rose before now → FailsToRead (Some fs) names before now place → Stop Lost
    lost_stop before now place calm h = record { place = place; name = h.name; first = h.first; reason = elim h.cause [ inl rose ↦ absurd (calm rose) | inr missing ↦ missing ] }

    long_or_bad : Stop Long → Stop Bad → ⊥
    long_or_bad = clash Long Bad (λ name l b. let both = told_both name IsTooLong IsBad l b in omega (arith, both.1, both.2.1.short)) long_ends bad_ends

    past_or_bad : Stop Beyond → Stop Bad → ⊥
    past_or_bad = clash Beyond Bad (λ name o b. let both = told_both name IsOver IsBad o b in bad_not_over both.0 both.2 both.1) past_ends bad_ends

    long_or_lost : Stop Long → Stop Lost → ⊥
    long_or_lost = clash Long Lost (λ name l m. cc (m, l.1)) long_ends lost_ends

    past_or_lost : Stop Beyond → Stop Lost → ⊥
    past_or_lost = clash Beyond Lost (λ name o m. cc (m, o.1)) past_ends lost_ends

    bad_or_lost : Stop Bad → Stop Lost → ⊥
    bad_or_lost = clash Bad Lost (λ name b m. cc (m, b.1)) bad_ends lost_ends

    -- the files spell one list of automata
    pub same_automata : (ns : List (List ℕ)) (As Bs : List Automaton) → AreSpelled (Some fs) ns As → AreSpelled (Some fs) ns Bs → As ≡ Bs
    same_automata [] [] [] s t = refl
    same_automata [] [] (B ∷ Bs) s t = absurd t
    same_automata [] (A ∷ As) Bs s t = absurd s
    same_automata (n ∷ ns) [] Bs s t = absurd s
    same_automata (n ∷ ns) (A ∷ As) [] s t = absurd t
    same_automata (n ∷ ns) (A ∷ As) (B ∷ Bs) s t =
        let both = told_both n (IsFileOf A) (IsFileOf B) s.0 t.0 in
        ap (λ x. x ∷ As) (one_automaton both.0 A B both.1 both.2) ∙ ap (λ xs. B ∷ xs) (same_automata ns As Bs s.1 t.1)

    -- what is within the request's limits is past none of them
    past_within : (As Bs : List Automaton) (what : Measure) → AreSpelled (Some fs) names As → IsWithin request As → AreSpelled (Some fs) names Bs → IsPast request Bs what → ⊥
    past_within As Bs what s within t past = subst (IsWithin request) (same_automata names As Bs s t) within what past.over

    -- where each file spells an automaton, none has a bad place
    pub bad_or_spelled : (As : List Automaton) (place at : ℕ) → AreSpelled (Some fs) names As → IsRefused (Some fs) names (IsBadAt at) place → ⊥
    bad_or_spelled As place at s f = ends_none Bad bad_ends As s (bad_stop place at f)

    -- where each file spells an automaton and the command's limits are kept, none is passed
    pub limited_or_spelled : (As : List Automaton) (line : List ℕ) → AreSpelled (Some fs) names As → IsWithin request As → IsLimited (Some fs) request line → ⊥
    limited_or_spelled As line s within (TooLong place f) = ends_none Long long_ends As s (long_stop place f)
    limited_or_spelled As line s within (Over place what at f) = ends_none Beyond past_ends As s (past_stop place what at f)
    limited_or_spelled As line s within (Past Bs what t past) = past_within As Bs what s within t past

    -- where a file is at fault, that is told
    pub syntax_due : (place at before now : ℕ) (h : Halt) → IsRefused (Some fs) names (IsBadAt at) place → ¬ Rose before now → IsHalted (Some fs) request before now h
        → (halt_status h ≡ status.Syntax) ⊎ (halt_status h ≡ status.Memory)
    syntax_due place at before now (halt.File there refusal.ReadFault) f calm h = absurd (bad_or_lost (bad_stop place at f) (lost_stop before now there calm h))
    syntax_due place at before now (halt.File there refusal.TooLong) f calm h = absurd (long_or_bad (long_stop there h) (bad_stop place at f))
    syntax_due place at before now (halt.File there (refusal.Syntax p)) f calm h = inl refl
    syntax_due place at before now (halt.File there (refusal.Limit what p)) f calm h = absurd (past_or_bad (past_stop there (limit_of what) p h) (bad_stop place at f))
    syntax_due place at before now (halt.File there refusal.Memory) f calm h = inr refl
    syntax_due place at before now (halt.Past what) f calm h = absurd (bad_or_spelled h.0 place at h.1 f)
    syntax_due place at before now halt.Memory f calm h = inr refl

    limited_or_lost : (line : List ℕ) → IsLimited (Some fs) request line → Stop Lost → ⊥
    limited_or_lost line (TooLong place f) l = long_or_lost (long_stop place f) l
    limited_or_lost line (Over place what at f) l = past_or_lost (past_stop place what at f) l
    limited_or_lost line (Past As what s past) l = ends_none Lost lost_ends As s l

    limited_or_bad : (line : List ℕ) → IsLimited (Some fs) request line → Stop Bad → ⊥
    limited_or_bad line (TooLong place f) b = long_or_bad (long_stop place f) b
    limited_or_bad line (Over place what at f) b = past_or_bad (past_stop place what at f) b
    limited_or_bad line (Past As what s past) b = ends_none Bad bad_ends As s b

    -- where a limit is passed, that is told
    pub limit_due : (line : List ℕ) (before now : ℕ) (h : Halt) → IsLimited (Some fs) request line → ¬ Rose before now → IsHalted (Some fs) request before now h
        → (halt_status h ≡ status.Limit) ⊎ (halt_status h ≡ status.Memory)
    limit_due line before now (halt.File there refusal.ReadFault) f calm h = absurd (limited_or_lost line f (lost_stop before now there calm h))
    limit_due line before now (halt.File there refusal.TooLong) f calm h = inl refl
    limit_due line before now (halt.File there (refusal.Syntax p)) f calm h = absurd (limited_or_bad line f (bad_stop there p h))
    limit_due line before now (halt.File there (refusal.Limit what p)) f calm h = inl refl
    limit_due line before now (halt.File there refusal.Memory) f calm h = inr refl
    limit_due line before now (halt.Past what) f calm h = inl refl
    limit_due line before now halt.Memory f calm h = inr refl

    -- where each file spells an automaton and the command's limits are kept, only memory can be wanting
    pub nothing_wrong : (before now : ℕ) (h : Halt) (As : List Automaton) → AreSpelled (Some fs) names As → IsWithin request As → ¬ Rose before now → IsHalted (Some fs) request before now h → halt_status h ≡ status.Memory
    nothing_wrong before now (halt.File there refusal.ReadFault) As s within calm h = absurd (ends_none Lost lost_ends As s (lost_stop before now there calm h))
    nothing_wrong before now (halt.File there refusal.TooLong) As s within calm h = absurd (ends_none Long long_ends As s (long_stop there h))
    nothing_wrong before now (halt.File there (refusal.Syntax p)) As s within calm h = absurd (ends_none Bad bad_ends As s (bad_stop there p h))
    nothing_wrong before now (halt.File there (refusal.Limit what p)) As s within calm h = absurd (ends_none Beyond past_ends As s (past_stop there (limit_of what) p h))
    nothing_wrong before now (halt.File there refusal.Memory) As s within calm h = refl
    nothing_wrong before now (halt.Past what) As s within calm h = absurd (past_within As h.0 what s within h.1 h.2)
    nothing_wrong before now halt.Memory As s within calm h = refl
