-- The files of the checker are read in order, and the first that gives nothing ends the walk. Where the
-- files are told, two ways to end exclude each other.
use Rattle.std.proofs.Common.{◌≡◌, ℕ, zero, suc, ◌<◌, ◌≤◌, List, [], ◌∷◌, length, Some, refl, sym, ap, ◌∙◌, subst, arith}
use Rattle.std.specs.Prelude.{unwrap_or, ◌^◌}
use Rattle.std.proofs.lemmas.List.Elements.{All-from_recursion}
use Rattle.tree_definitions.specs.Name.{IsName}
use Rattle.vata_outside.specs.Outside.{File, IsMissing}
use Rattle.tree_definitions.specs.Automaton.{Automaton}
use Rattle.ta_model.specs.Listing.{IsListed}
use Rattle.witness_trees.specs.Judged.{Verdict, Is}
use Rattle.timbuk_definitions.specs.Place.{Limit}
use Rattle.timbuk_definitions.proofs.Spelled.{one_spelled}
use Rattle.timbuk_definitions.proofs.BadPlaces.{no_file_with_bad_place}
use Rattle.timbuk_definitions.proofs.Unlimited.{spelled_formed, spelled_named, spelled_small}
use Rattle.incl_certificate.specs.Text.{Said, said_of, judged_certificate}
use Rattle.certificate_kinds.specs.declared.certificate.Certificate.{Certificate}
use Rattle.down_entry_lines.specs.Fitting.{AreRanksNumbers}
use Rattle.incl_certificate.proofs.ReadBack.{printed_back}
use Rattle.vata_core.specs.CheckRequest.{CheckRequest, all_of, automata_of}
use Rattle.vata_core.specs.Files.{AreSpelled, ComesTo, IsBadAt, IsFileOf, IsOverAt, IsSpelled, IsTooLong, Told, most_bytes}
use Rattle.vata_core.specs.Judgement.{IsCertificateOf}
use Rattle.vata_core.specs.NoCertificate.{IsReadAs, IsTooLongAt}

-- a text spells one automaton
pub one_automaton : (bytes : List ℕ) (A B : Automaton) → IsFileOf A bytes → IsFileOf B bytes → A ≡ B
one_automaton bytes A B a b = one_spelled bytes A B a.text b.text

-- what a file spells is a listed automaton
pub listed : (bytes : List ℕ) (A : Automaton) → IsFileOf A bytes → IsListed A
listed bytes A a =
    let names = spelled_named bytes A a.text a.within in
    let few = spelled_small bytes A a.text a.within in
    record {
      automaton = spelled_formed bytes A a.text;
      narrow = a.text.3.narrow;
      name = names.name;
      symbol_names = (λ k d lt. (All-from_recursion (λ s. IsName s.name × (s.rank < 2 ^ 64)) A.symbols names.symbols k d lt).0);
      state_names = All-from_recursion IsName A.states names.states;
      few_symbols = few.few_symbols;
      few_states = omega (arith, few.few_states);
      few_rules = omega (arith, few.few_rules);
    }

-- and its ranks are numbers of 64 bits
pub ranked : (bytes : List ℕ) (A : Automaton) → IsFileOf A bytes → AreRanksNumbers A
ranked bytes A a =
    let names = spelled_named bytes A a.text a.within in
    λ k d lt. (All-from_recursion (λ s. IsName s.name × (s.rank < 2 ^ 64)) A.symbols names.symbols k d lt).1

-- ways in which the bytes of a file give no automaton
abbrev pub IsBad : List ℕ → Type 0
IsBad bytes = (at : ℕ) × IsBadAt at bytes

abbrev pub IsOver : List ℕ → Type 0
IsOver bytes = (what : Limit) × (at : ℕ) × IsOverAt what at bytes

pub bad_not_spelled : (bytes : List ℕ) (A : Automaton) → IsBad bytes → IsFileOf A bytes → ⊥
bad_not_spelled bytes A b a = no_file_with_bad_place bytes b.0 a.text.0 b.1.bad a.text.1 a.text.2

pub over_not_spelled : (bytes : List ℕ) (A : Automaton) → IsOver bytes → IsFileOf A bytes → ⊥
over_not_spelled bytes A o a = a.within o.0 o.1 o.2.over

pub long_not_spelled : (bytes : List ℕ) (A : Automaton) → IsTooLong bytes → IsFileOf A bytes → ⊥
long_not_spelled bytes A l a = omega (arith, l, a.short)

pub bad_not_over : (bytes : List ℕ) → IsBad bytes → IsOver bytes → ⊥
bad_not_over bytes b o = b.1.within o.0 o.1 o.2.over

-- what is told is told more weakly
pub told_so : (fs : List File) (name : List ℕ) (P Q : List ℕ → Type 0) → ((bytes : List ℕ) → P bytes → Q bytes) → Told (Some fs) name P → Told (Some fs) name Q
told_so fs name P Q f h = (h.0, h.1, f h.0 h.2)

module _ (fs : List File) (r : CheckRequest) where
  -- two facts about the bytes of one file
  pub told_both : (name : List ℕ) (P Q : List ℕ → Type 0) → Told (Some fs) name P → Told (Some fs) name Q → (bytes : List ℕ) × P bytes × Q bytes
  told_both name P Q p q = (q.0, subst P (ap (λ o. unwrap_or o []) (sym p.1 ∙ q.1)) p.2, q.2)

  told_not_missing : (name : List ℕ) (P : List ℕ → Type 0) → IsMissing (Some fs) name → Told (Some fs) name P → ⊥
  told_not_missing name P m p = cc (m, p.1)

  -- the walk comes to the file at this place, of whose name P holds
  abbrev pub Comes : ℕ → (List ℕ → Type 0) → Type 0
  Comes zero P = P r.first
  Comes (suc zero) P = ((A : Automaton) × IsSpelled (Some fs) r.first A) × P r.second
  Comes (suc (suc zero)) P = ((A : Automaton) × IsSpelled (Some fs) r.first A) × ((B : Automaton) × IsSpelled (Some fs) r.second B) × P r.certificate
  Comes (suc (suc (suc n))) P = ⊥

  first_of : (names : List (List ℕ)) (As : List Automaton) (name : List ℕ) → AreSpelled (Some fs) (name ∷ names) As → (A : Automaton) × IsSpelled (Some fs) name A
  first_of names [] name h = absurd h
  first_of names (A ∷ As) name h = (A, h.0)

  second_of : (names : List (List ℕ)) (As : List Automaton) (one name : List ℕ) → AreSpelled (Some fs) (one ∷ name ∷ names) As → (A : Automaton) × IsSpelled (Some fs) name A
  second_of names [] one name h = absurd h
  second_of names (A ∷ As) one name h = first_of names As name h.1

  named : (P : List ℕ → Type 0) (a b : List ℕ) → Some a ≡ Some b → P b → P a
  named P a b e = subst P (ap (λ o. unwrap_or o []) (sym e))

  pub comes_to_all : (place : ℕ) (name : List ℕ) (P : List ℕ → Type 0) → ComesTo (Some fs) (all_of r) place name → P name → Comes place P
  comes_to_all zero name P c p = named P r.first name c.stands p
  comes_to_all (suc zero) name P c p = (first_of [] c.before.0 r.first c.before.1, named P r.second name c.stands p)
  comes_to_all (suc (suc zero)) name P c p =
      (first_of (r.second ∷ []) c.before.0 r.first c.before.1, second_of [] c.before.0 r.first r.second c.before.1, named P r.certificate name c.stands p)
  comes_to_all (suc (suc (suc n))) name P c p = cc c.stands

  pub comes_to_automata : (place : ℕ) (name : List ℕ) (P : List ℕ → Type 0) → ComesTo (Some fs) (automata_of r) place name → P name → Comes place (λ n. (place < 2) × P n)
  comes_to_automata zero name P c p = (omega arith, named P r.first name c.stands p)
  comes_to_automata (suc zero) name P c p = (first_of [] c.before.0 r.first c.before.1, (omega arith, named P r.second name c.stands p))
  comes_to_automata (suc (suc n)) name P c p = cc c.stands

  -- the ways to end, at a place and a name
  abbrev pub Long : ℕ → List ℕ → Type 0
  Long place name = Told (Some fs) name (IsTooLongAt place)

  abbrev pub Over : ℕ → List ℕ → Type 0
  Over place name = (place < 2) × Told (Some fs) name IsOver

  abbrev pub Bad : ℕ → List ℕ → Type 0
  Bad place name = (place < 2) × Told (Some fs) name IsBad

  abbrev pub Lost : ℕ → List ℕ → Type 0
  Lost place name = IsMissing (Some fs) name

  abbrev pub Whole : ℕ → List ℕ → Type 0
  Whole place name = (place ≡ 2) × Told (Some fs) name (λ bytes. length bytes ≤ 134217728)

  -- a file in which the walk ends spells no automaton
  abbrev Ends : (ℕ → List ℕ → Type 0) → Type 0
  Ends P = (place : ℕ) (name : List ℕ) (A : Automaton) → place < 2 → P place name → IsSpelled (Some fs) name A → ⊥

  most : (place : ℕ) → place < 2 → most_bytes place ≡ 33554432
  most zero h = refl
  most (suc zero) h = refl
  most (suc (suc n)) h = absurd (omega (arith, h))

  long_ends : Ends Long
  long_ends place name A h l s =
      let both = told_both name (IsTooLongAt place) (IsFileOf A) l s in
      omega (arith, most place h, both.1, both.2.short)

  over_ends : Ends Over
  over_ends place name A h o s =
      let both = told_both name IsOver (IsFileOf A) o.1 s in
      over_not_spelled both.0 A both.1 both.2

  bad_ends : Ends Bad
  bad_ends place name A h b s =
      let both = told_both name IsBad (IsFileOf A) b.1 s in
      bad_not_spelled both.0 A both.1 both.2

  lost_ends : Ends Lost
  lost_ends place name A h l s = told_not_missing name (IsFileOf A) l s

  whole_ends : Ends Whole
  whole_ends place name A h l s = absurd (omega (arith, h, l.0))

  -- two walks end in the same file, so in no two ways that exclude each other
  clash : (P Q : ℕ → List ℕ → Type 0) → ((place : ℕ) (name : List ℕ) → P place name → Q place name → ⊥) → Ends P → Ends Q
      → (p q : ℕ) → Comes p (P p) → Comes q (Q q) → ⊥
  clash P Q apart ep eq zero zero c d = apart 0 r.first c d
  clash P Q apart ep eq zero (suc zero) c d = ep 0 r.first d.0.0 (omega arith) c d.0.1
  clash P Q apart ep eq zero (suc (suc zero)) c d = ep 0 r.first d.0.0 (omega arith) c d.0.1
  clash P Q apart ep eq zero (suc (suc (suc n))) c d = d
  clash P Q apart ep eq (suc zero) zero c d = eq 0 r.first c.0.0 (omega arith) d c.0.1
  clash P Q apart ep eq (suc zero) (suc zero) c d = apart 1 r.second c.1 d.1
  clash P Q apart ep eq (suc zero) (suc (suc zero)) c d = ep 1 r.second d.1.0 (omega arith) c.1 d.1.1
  clash P Q apart ep eq (suc zero) (suc (suc (suc n))) c d = d
  clash P Q apart ep eq (suc (suc zero)) zero c d = eq 0 r.first c.0.0 (omega arith) d c.0.1
  clash P Q apart ep eq (suc (suc zero)) (suc zero) c d = eq 1 r.second c.1.0 (omega arith) d.1 c.1.1
  clash P Q apart ep eq (suc (suc zero)) (suc (suc zero)) c d = apart 2 r.certificate c.2 d.2
  clash P Q apart ep eq (suc (suc zero)) (suc (suc (suc n))) c d = d
  clash P Q apart ep eq (suc (suc (suc n))) q c d = c

  pub long_or_bad : (p q : ℕ) → Comes p (Long p) → Comes q (Bad q) → ⊥
  long_or_bad = clash Long Bad (λ place name l b.
      let both = told_both name (IsTooLongAt place) IsBad l b.1 in
      omega (arith, most place b.0, both.1, both.2.1.short)) long_ends bad_ends

  pub over_or_bad : (p q : ℕ) → Comes p (Over p) → Comes q (Bad q) → ⊥
  over_or_bad = clash Over Bad (λ place name o b.
      let both = told_both name IsOver IsBad o.1 b.1 in
      bad_not_over both.0 both.2 both.1) over_ends bad_ends

  pub long_or_lost : (p q : ℕ) → Comes p (Long p) → Comes q (Lost q) → ⊥
  long_or_lost = clash Long Lost (λ place name l m. told_not_missing name (IsTooLongAt place) m l) long_ends lost_ends

  pub over_or_lost : (p q : ℕ) → Comes p (Over p) → Comes q (Lost q) → ⊥
  over_or_lost = clash Over Lost (λ place name o m. told_not_missing name IsOver m o.1) over_ends lost_ends

  pub bad_or_lost : (p q : ℕ) → Comes p (Bad p) → Comes q (Lost q) → ⊥
  bad_or_lost = clash Bad Lost (λ place name b m. told_not_missing name IsBad m b.1) bad_ends lost_ends

  pub long_or_whole : (p q : ℕ) → Comes p (Long p) → Comes q (Whole q) → ⊥
  long_or_whole = clash Long Whole (λ place name l w.
      let both = told_both name (IsTooLongAt place) (λ bytes. length bytes ≤ 134217728) l w.1 in
      omega (arith, ap most_bytes w.0, both.1, both.2)) long_ends whole_ends

  pub over_or_whole : (p q : ℕ) → Comes p (Over p) → Comes q (Whole q) → ⊥
  over_or_whole = clash Over Whole (λ place name o w. absurd (omega (arith, o.0, w.0))) over_ends whole_ends

  pub bad_or_whole : (p q : ℕ) → Comes p (Bad p) → Comes q (Whole q) → ⊥
  bad_or_whole = clash Bad Whole (λ place name b w. absurd (omega (arith, b.0, w.0))) bad_ends whole_ends

  pub lost_or_whole : (p q : ℕ) → Comes p (Lost p) → Comes q (Whole q) → ⊥
  lost_or_whole = clash Lost Whole (λ place name m w. told_not_missing name (λ bytes. length bytes ≤ 134217728) m w.1) lost_ends whole_ends

  -- the certificate's file was read whole
  pub read_whole : (A B : Automaton) (P : List ℕ → Type 0) → ((bytes : List ℕ) → P bytes → length bytes ≤ 134217728)
      → AreSpelled (Some fs) (automata_of r) (A ∷ B ∷ []) → Told (Some fs) r.certificate P → Comes 2 (Whole 2)
  read_whole A B P short s t = ((A, s.0), (B, s.1.0), (refl, (t.0, t.1, short t.0 t.2)))

  -- two readings of one certificate come to the same end
  pub same_end : (A B C D : Automaton) (P Q : Verdict Said) → AreSpelled (Some fs) (automata_of r) (A ∷ B ∷ []) → AreSpelled (Some fs) (automata_of r) (C ∷ D ∷ [])
      → Told (Some fs) r.certificate (IsReadAs A B P) → Told (Some fs) r.certificate (IsReadAs C D Q) → P ≡ Q
  same_end A B C D P Q s t p q =
      let first = told_both r.first (IsFileOf A) (IsFileOf C) s.0 t.0 in
      let second = told_both r.second (IsFileOf B) (IsFileOf D) s.1.0 t.1.0 in
      let text = told_both r.certificate (IsReadAs A B P) (IsReadAs C D Q) p q in
      sym text.1.judged
      ∙ ap (λ x. judged_certificate x B text.0) (one_automaton first.0 A C first.1 first.2)
      ∙ ap (λ x. judged_certificate C x text.0) (one_automaton second.0 B D second.1 second.2)
      ∙ text.2.judged

  -- the text of a certificate is read to its end
  pub read_as : (A B : Automaton) (c : Certificate) → AreSpelled (Some fs) (automata_of r) (A ∷ B ∷ []) → Told (Some fs) r.certificate (IsCertificateOf A B c)
      → (said : Said) × Told (Some fs) r.certificate (IsReadAs A B (Is said))
  read_as A B c s t =
      let back = printed_back A B c (listed s.0.0 A s.0.2) (listed s.1.0.0 B s.1.0.2) (ranked s.0.0 A s.0.2) t.2.fits in
      (said_of c, (t.0, t.1, record { short = t.2.short; judged = ap (judged_certificate A B) t.2.text ∙ back }))
