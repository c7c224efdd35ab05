-- Why the files of the checker are not judged, and what that excludes.
use Rattle.std.proofs.Common.{◌≡◌, ◌⊎◌, ◌≤◌, ℕ, List, [], ◌∷◌, Some, None, inl, inr, refl, sym, ap, ◌∙◌, subst, arith}
use Rattle.std.specs.Prelude.{unwrap_or}
use Rattle.std.specs.declared.option.Option.{Option}
use Rattle.vata_outside.specs.Outside.{File, Rose}
use Rattle.tree_definitions.specs.Automaton.{Automaton}
use Rattle.incl_certificate.specs.Text.{Said}
use Rattle.timbuk_definitions.specs.Place.{Limit}
use Rattle.timbuk_text.specs.Taking.{limit_of}
use Rattle.witness_trees.specs.Judged.{Verdict, Is, BadAt, UnknownAt}
use Rattle.certificate_kinds.specs.declared.certificate.Certificate.{Certificate}
use Rattle.vata_core.specs.CheckRequest.{CheckRequest, all_of, automata_of}
use Rattle.vata_core.specs.Files.{AreSpelled, IsRefused, IsBadAt, IsOverAt, IsSpelled, Told}
use Rattle.vata_core.specs.Judgement.{IsCertificateOf}
use Rattle.vata_core.specs.NoCertificate.{IsBeyond, TooLong, Over, IsFaulty, NoAutomaton, BadText, UnknownName, IsNoCertificate, IsReadAs, IsTooLongAt}
use Rattle.vata_core.specs.Outcome.{FailsToRead}
use Rattle.vata_core.specs.Refusals.{IsFileRefused, IsReason, IsStopped, IsUnjudged, IsUnread, reason_line, reason_status}
use Rattle.vata_core.specs.declared.judging.Unjudged.{Unjudged}
use Rattle.vata_core.specs.declared.judging.Unjudged.TheVariants as unjudged
use Rattle.vata_core.specs.declared.loading.Refusal.{Refusal}
use Rattle.vata_core.specs.declared.loading.Refusal.TheVariants as refusal
use Rattle.vata_core.specs.declared.status.Status.TheVariants as status
use Rattle.vata_core.proofs.Pieces.{rose_before}
use Rattle.vata_core.proofs.Walk.{Bad, IsBad, IsOver, Long, Lost, Over as OverAt, Whole, Comes, comes_to_all, comes_to_automata, bad_or_lost, bad_or_whole, long_or_bad, long_or_lost, long_or_whole, lost_or_whole, over_or_bad, over_or_lost, over_or_whole, read_whole, read_as, same_end, told_so}

-- what ends with status Syntax is a fault of a file, and its line is told
pub faulty : (files : Option (List File)) (r : CheckRequest) (before now : ℕ) (reason : Unjudged) → reason_status reason ≡ status.Syntax → IsUnjudged files r before now reason
    → IsFaulty files r (reason_line reason)
faulty files r before now (unjudged.File place refusal.ReadFault) e h = cc e
faulty files r before now (unjudged.File place refusal.TooLong) e h = cc e
faulty files r before now (unjudged.File place (refusal.Syntax at)) e h = NoAutomaton place at h
faulty files r before now (unjudged.File place (refusal.Limit what at)) e h = cc e
faulty files r before now (unjudged.File place refusal.Memory) e h = cc e
faulty files r before now (unjudged.BadText at) e h = BadText at h
faulty files r before now (unjudged.UnknownName at) e h = UnknownName at h
faulty files r before now unjudged.Memory e h = cc e

-- what ends with status Limit is beyond a limit, and its line is told
pub beyond : (files : Option (List File)) (r : CheckRequest) (before now : ℕ) (reason : Unjudged) → reason_status reason ≡ status.Limit → IsUnjudged files r before now reason
    → IsBeyond files r (reason_line reason)
beyond files r before now (unjudged.File place refusal.ReadFault) e h = cc e
beyond files r before now (unjudged.File place refusal.TooLong) e h = TooLong place h
beyond files r before now (unjudged.File place (refusal.Syntax at)) e h = cc e
beyond files r before now (unjudged.File place (refusal.Limit what at)) e h = Over place (limit_of what) at h
beyond files r before now (unjudged.File place refusal.Memory) e h = cc e
beyond files r before now (unjudged.BadText at) e h = cc e
beyond files r before now (unjudged.UnknownName at) e h = cc e
beyond files r before now unjudged.Memory e h = cc e

module _ (fs : List File) (r : CheckRequest) where
  long : (place : ℕ) → IsRefused (Some fs) (all_of r) (IsTooLongAt place) place → Comes fs r place (Long fs r place)
  long place h = comes_to_all fs r place h.name (Long fs r place) h.first h.reason

  bad : (place at : ℕ) → IsRefused (Some fs) (automata_of r) (IsBadAt at) place → Comes fs r place (Bad fs r place)
  bad place at h = comes_to_automata fs r place h.name (λ n. Told (Some fs) n IsBad) h.first (told_so fs h.name (IsBadAt at) IsBad (λ bytes b. (at, b)) h.reason)

  over : (place : ℕ) (what : Limit) (at : ℕ) → IsRefused (Some fs) (automata_of r) (IsOverAt what at) place → Comes fs r place (OverAt fs r place)
  over place what at h = comes_to_automata fs r place h.name (λ n. Told (Some fs) n IsOver) h.first (told_so fs h.name (IsOverAt what at) IsOver (λ bytes o. (what, at, o)) h.reason)

  lost : (before now : ℕ) → ¬ Rose before now → (place : ℕ) → FailsToRead (Some fs) (all_of r) before now place → Comes fs r place (Lost fs r place)
  lost before now calm place h = comes_to_all fs r place h.name (Lost fs r place) h.first (elim h.cause [ inl rose ↦ absurd (calm rose) | inr missing ↦ missing ])

  unread : (verdict : Verdict Said) → IsNoCertificate (Some fs) r verdict → Comes fs r 2 (Whole fs r 2)
  unread verdict h = read_whole fs r h.first h.second (IsReadAs h.first h.second verdict) (λ bytes read. read.short) h.spelled h.read

  good : (A B : Automaton) (c : Certificate) → AreSpelled (Some fs) (automata_of r) (A ∷ B ∷ []) → Told (Some fs) r.certificate (IsCertificateOf A B c) → Comes fs r 2 (Whole fs r 2)
  good A B c s t = read_whole fs r A B (IsCertificateOf A B c) (λ bytes is. is.short) s t

  bad_or_good : (at : ℕ) (A B : Automaton) (c : Certificate) → IsNoCertificate (Some fs) r (BadAt at) → AreSpelled (Some fs) (automata_of r) (A ∷ B ∷ []) → Told (Some fs) r.certificate (IsCertificateOf A B c) → ⊥
  bad_or_good at A B c h s t =
      let back = read_as fs r A B c s t in
      cc (same_end fs r h.first h.second A B (BadAt at) (Is back.0) h.spelled s h.read back.1)

  unknown_or_good : (at : ℕ) (A B : Automaton) (c : Certificate) → IsNoCertificate (Some fs) r (UnknownAt at) → AreSpelled (Some fs) (automata_of r) (A ∷ B ∷ []) → Told (Some fs) r.certificate (IsCertificateOf A B c) → ⊥
  unknown_or_good at A B c h s t =
      let back = read_as fs r A B c s t in
      cc (same_end fs r h.first h.second A B (UnknownAt at) (Is back.0) h.spelled s h.read back.1)

  -- where a file is at fault, there is no judgement
  pub faulty_or_good : (line : List ℕ) (A B : Automaton) (c : Certificate) → IsFaulty (Some fs) r line → AreSpelled (Some fs) (automata_of r) (A ∷ B ∷ []) → Told (Some fs) r.certificate (IsCertificateOf A B c) → ⊥
  faulty_or_good line A B c (NoAutomaton place at h) s t = bad_or_whole fs r place 2 (bad place at h) (good A B c s t)
  faulty_or_good line A B c (BadText at h) s t = bad_or_good at A B c h s t
  faulty_or_good line A B c (UnknownName at h) s t = unknown_or_good at A B c h s t

  pub beyond_or_good : (line : List ℕ) (A B : Automaton) (c : Certificate) → IsBeyond (Some fs) r line → AreSpelled (Some fs) (automata_of r) (A ∷ B ∷ []) → Told (Some fs) r.certificate (IsCertificateOf A B c) → ⊥
  beyond_or_good line A B c (TooLong place h) s t = long_or_whole fs r place 2 (long place h) (good A B c s t)
  beyond_or_good line A B c (Over place what at h) s t = over_or_whole fs r place 2 (over place what at h) (good A B c s t)

  faulty_or_long : (line : List ℕ) (place : ℕ) → IsFaulty (Some fs) r line → Comes fs r place (Long fs r place) → ⊥
  faulty_or_long line place (NoAutomaton p at h) l = long_or_bad fs r place p l (bad p at h)
  faulty_or_long line place (BadText at h) l = long_or_whole fs r place 2 l (unread (BadAt at) h)
  faulty_or_long line place (UnknownName at h) l = long_or_whole fs r place 2 l (unread (UnknownAt at) h)

  faulty_or_over : (line : List ℕ) (place : ℕ) → IsFaulty (Some fs) r line → Comes fs r place (OverAt fs r place) → ⊥
  faulty_or_over line place (NoAutomaton p at h) l = over_or_bad fs r place p l (bad p at h)
  faulty_or_over line place (BadText at h) l = over_or_whole fs r place 2 l (unread (BadAt at) h)
  faulty_or_over line place (UnknownName at h) l = over_or_whole fs r place 2 l (unread (UnknownAt at) h)

  faulty_or_lost : (line : List ℕ) (place : ℕ) → IsFaulty (Some fs) r line → Comes fs r place (Lost fs r place) → ⊥
  faulty_or_lost line place (NoAutomaton p at h) l = bad_or_lost fs r p place (bad p at h) l
  faulty_or_lost line place (BadText at h) l = lost_or_whole fs r place 2 l (unread (BadAt at) h)
  faulty_or_lost line place (UnknownName at h) l = lost_or_whole fs r place 2 l (unread (UnknownAt at) h)

  beyond_or_lost : (line : List ℕ) (place : ℕ) → IsBeyond (Some fs) r line → Comes fs r place (Lost fs r place) → ⊥
  beyond_or_lost line place (TooLong p h) l = long_or_lost fs r p place (long p h) l
  beyond_or_lost line place (Over p what at h) l = over_or_lost fs r p place (over p what at h) l

  beyond_or_bad : (line : List ℕ) (place : ℕ) → IsBeyond (Some fs) r line → Comes fs r place (Bad fs r place) → ⊥
  beyond_or_bad line place (TooLong p h) l = long_or_bad fs r p place (long p h) l
  beyond_or_bad line place (Over p what at h) l = over_or_bad fs r p place (over p what at h) l

  beyond_or_unread : (line : List ℕ) (verdict : Verdict Said) → IsBeyond (Some fs) r line → IsNoCertificate (Some fs) r verdict → ⊥
  beyond_or_unread line verdict (TooLong p h) l = long_or_whole fs r p 2 (long p h) (unread verdict l)
  beyond_or_unread line verdict (Over p what at h) l = over_or_whole fs r p 2 (over p what at h) (unread verdict l)

  -- where a file is at fault, that is told
  pub syntax_due : (line : List ℕ) (before now : ℕ) (reason : Unjudged) → IsFaulty (Some fs) r line → ¬ Rose before now → IsUnjudged (Some fs) r before now reason
      → (reason_status reason ≡ status.Syntax) ⊎ (reason_status reason ≡ status.Memory)
  syntax_due line before now (unjudged.File place refusal.ReadFault) f calm h = absurd (faulty_or_lost line place f (lost before now calm place h))
  syntax_due line before now (unjudged.File place refusal.TooLong) f calm h = absurd (faulty_or_long line place f (long place h))
  syntax_due line before now (unjudged.File place (refusal.Syntax at)) f calm h = inl refl
  syntax_due line before now (unjudged.File place (refusal.Limit what at)) f calm h = absurd (faulty_or_over line place f (over place (limit_of what) at h))
  syntax_due line before now (unjudged.File place refusal.Memory) f calm h = inr refl
  syntax_due line before now (unjudged.BadText at) f calm h = inl refl
  syntax_due line before now (unjudged.UnknownName at) f calm h = inl refl
  syntax_due line before now unjudged.Memory f calm h = inr refl

  -- where a file is beyond a limit, that is told
  pub limit_due : (line : List ℕ) (before now : ℕ) (reason : Unjudged) → IsBeyond (Some fs) r line → ¬ Rose before now → IsUnjudged (Some fs) r before now reason
      → (reason_status reason ≡ status.Limit) ⊎ (reason_status reason ≡ status.Memory)
  limit_due line before now (unjudged.File place refusal.ReadFault) f calm h = absurd (beyond_or_lost line place f (lost before now calm place h))
  limit_due line before now (unjudged.File place refusal.TooLong) f calm h = inl refl
  limit_due line before now (unjudged.File place (refusal.Syntax at)) f calm h = absurd (beyond_or_bad line place f (bad place at h))
  limit_due line before now (unjudged.File place (refusal.Limit what at)) f calm h = inl refl
  limit_due line before now (unjudged.File place refusal.Memory) f calm h = inr refl
  limit_due line before now (unjudged.BadText at) f calm h = absurd (beyond_or_unread line (BadAt at) f h)
  limit_due line before now (unjudged.UnknownName at) f calm h = absurd (beyond_or_unread line (UnknownAt at) f h)
  limit_due line before now unjudged.Memory f calm h = inr refl

  -- where the files are two automata and a certificate, only memory can be wanting
  pub nothing_wrong : (before now : ℕ) (reason : Unjudged) (A B : Automaton) (c : Certificate) → AreSpelled (Some fs) (automata_of r) (A ∷ B ∷ []) → Told (Some fs) r.certificate (IsCertificateOf A B c)
      → ¬ Rose before now → IsUnjudged (Some fs) r before now reason → reason_status reason ≡ status.Memory
  nothing_wrong before now (unjudged.File place refusal.ReadFault) A B c s t calm h = absurd (lost_or_whole fs r place 2 (lost before now calm place h) (good A B c s t))
  nothing_wrong before now (unjudged.File place refusal.TooLong) A B c s t calm h = absurd (long_or_whole fs r place 2 (long place h) (good A B c s t))
  nothing_wrong before now (unjudged.File place (refusal.Syntax at)) A B c s t calm h = absurd (bad_or_whole fs r place 2 (bad place at h) (good A B c s t))
  nothing_wrong before now (unjudged.File place (refusal.Limit what at)) A B c s t calm h = absurd (over_or_whole fs r place 2 (over place (limit_of what) at h) (good A B c s t))
  nothing_wrong before now (unjudged.File place refusal.Memory) A B c s t calm h = refl
  nothing_wrong before now (unjudged.BadText at) A B c s t calm h = absurd (bad_or_good at A B c h s t)
  nothing_wrong before now (unjudged.UnknownName at) A B c s t calm h = absurd (unknown_or_good at A B c h s t)
  nothing_wrong before now unjudged.Memory A B c s t calm h = refl

-- what holds of the bytes read holds of those told
pub told_as : (files : Option (List File)) (name text : List ℕ) (P : List ℕ → Type 0) → Told files name (λ bytes. text ≡ bytes) → P text → Told files name P
told_as None name text P told p = tt
told_as (Some fs) name text P told p = (told.0, told.1, subst P told.2 p)

-- one request is asked for
pub one_request : (asked : Option CheckRequest) (r s : CheckRequest) → Some r ≡ asked → asked ≡ Some s → r ≡ s
one_request asked r s a b = ap (λ o. unwrap_or o r) (a ∙ b)

-- why the second file gives no automaton
pub second_stops : (files : Option (List File)) (r : CheckRequest) (A : Automaton) (before then now : ℕ) (c : Refusal) → IsSpelled files r.first A → before ≤ then
    → IsReason files r.second then now 1 c → IsStopped files r before now 1 c
second_stops files r A before then now refusal.ReadFault s h reason = record {
  name = r.second;
  first = record { stands = refl; before = (A ∷ [], (s, tt)) };
  cause = elim reason [ inl rose ↦ inl (rose_before before then now h rose) | inr missing ↦ inr missing ];
}
second_stops files r A before then now refusal.TooLong s h reason = record { name = r.second; first = record { stands = refl; before = (A ∷ [], (s, tt)) }; reason = reason }
second_stops files r A before then now (refusal.Syntax at) s h reason = record { name = r.second; first = record { stands = refl; before = (A ∷ [], (s, tt)) }; reason = reason.1 }
second_stops files r A before then now (refusal.Limit what at) s h reason = record { name = r.second; first = record { stands = refl; before = (A ∷ [], (s, tt)) }; reason = reason.1 }
second_stops files r A before then now refusal.Memory s h reason = tt

-- why the third file can't be read
pub third_stops : (files : Option (List File)) (r : CheckRequest) (A B : Automaton) (before then now : ℕ) (c : Refusal) → IsSpelled files r.first A → IsSpelled files r.second B → before ≤ then
    → IsReason files r.certificate then now 2 c → IsStopped files r before now 2 c
third_stops files r A B before then now refusal.ReadFault s t h reason = record {
  name = r.certificate;
  first = record { stands = refl; before = (A ∷ B ∷ [], (s, (t, tt))) };
  cause = elim reason [ inl rose ↦ inl (rose_before before then now h rose) | inr missing ↦ inr missing ];
}
third_stops files r A B before then now refusal.TooLong s t h reason = record { name = r.certificate; first = record { stands = refl; before = (A ∷ B ∷ [], (s, (t, tt))) }; reason = reason }
third_stops files r A B before then now (refusal.Syntax at) s t h reason = absurd (omega (arith, reason.0))
third_stops files r A B before then now (refusal.Limit what at) s t h reason = absurd (omega (arith, reason.0))
third_stops files r A B before then now refusal.Memory s t h reason = tt

pub first_file : (files : Option (List File)) (r : CheckRequest) (before now : ℕ) (reason : Unjudged) → IsFileRefused files r.first before now 0 reason → IsUnjudged files r before now reason
first_file files r before now (unjudged.File at c) h = subst (λ p. IsStopped files r before now p c) (sym h.0) (first_stops c h.1)
  where
    first_stops : (c : Refusal) → IsReason files r.first before now 0 c → IsStopped files r before now 0 c
    first_stops refusal.ReadFault reason = record { name = r.first; first = record { stands = refl; before = ([], tt) }; cause = reason }
    first_stops refusal.TooLong reason = record { name = r.first; first = record { stands = refl; before = ([], tt) }; reason = reason }
    first_stops (refusal.Syntax at) reason = record { name = r.first; first = record { stands = refl; before = ([], tt) }; reason = reason.1 }
    first_stops (refusal.Limit what at) reason = record { name = r.first; first = record { stands = refl; before = ([], tt) }; reason = reason.1 }
    first_stops refusal.Memory reason = tt
first_file files r before now (unjudged.BadText at) h = absurd h
first_file files r before now (unjudged.UnknownName at) h = absurd h
first_file files r before now unjudged.Memory h = absurd h

pub second_file : (files : Option (List File)) (r : CheckRequest) (A : Automaton) (before then now : ℕ) (reason : Unjudged) → IsSpelled files r.first A → before ≤ then
    → IsFileRefused files r.second then now 1 reason → IsUnjudged files r before now reason
second_file files r A before then now (unjudged.File at c) s h reason = subst (λ p. IsStopped files r before now p c) (sym reason.0) (second_stops files r A before then now c s h reason.1)
second_file files r A before then now (unjudged.BadText at) s h reason = absurd reason
second_file files r A before then now (unjudged.UnknownName at) s h reason = absurd reason
second_file files r A before then now unjudged.Memory s h reason = absurd reason

pub third_file : (files : Option (List File)) (r : CheckRequest) (A B : Automaton) (before then now : ℕ) (reason : Unjudged) → IsSpelled files r.first A → IsSpelled files r.second B → before ≤ then
    → IsFileRefused files r.certificate then now 2 reason → IsUnjudged files r before now reason
third_file files r A B before then now (unjudged.File at c) s t h reason = subst (λ p. IsStopped files r before now p c) (sym reason.0) (third_stops files r A B before then now c s t h reason.1)
third_file files r A B before then now (unjudged.BadText at) s t h reason = absurd reason
third_file files r A B before then now (unjudged.UnknownName at) s t h reason = absurd reason
third_file files r A B before then now unjudged.Memory s t h reason = absurd reason

-- why the third file's text is not judged
pub unread_file : (files : Option (List File)) (r : CheckRequest) (A B : Automaton) (text : List ℕ) (before now : ℕ) (reason : Unjudged) → IsSpelled files r.first A → IsSpelled files r.second B
    → Told files r.certificate (λ bytes. text ≡ bytes) → IsUnread A B text reason → IsUnjudged files r before now reason
unread_file files r A B text before now (unjudged.File place c) s t told h = absurd h
unread_file files r A B text before now (unjudged.BadText at) s t told h = record { first = A; second = B; spelled = (s, (t, tt)); read = told_as files r.certificate text (IsReadAs A B (BadAt at)) told h }
unread_file files r A B text before now (unjudged.UnknownName at) s t told h = record { first = A; second = B; spelled = (s, (t, tt)); read = told_as files r.certificate text (IsReadAs A B (UnknownAt at)) told h }
unread_file files r A B text before now unjudged.Memory s t told h = tt
