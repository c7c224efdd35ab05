-- A right answer for the canonical forms of two automata is one for the automata.
use Rattle.std.proofs.Common.{ℕ, ◌++◌, ◌∷◌, [], List, map}
use Rattle.std.proofs.lemmas.List.Elements.{All-weaker}
use Rattle.tree_definitions.specs.Tree.{Symbol}
use Rattle.tree_definitions.specs.Automaton.{Automaton}
use Rattle.tree_definitions.specs.Canonical.{canon}
use Rattle.tree_definitions.specs.Cover.{Pair, FitsPair, Post, Rejects}
use Rattle.tree_definitions.specs.Relation.{Relation, Matrix, Row, Holds}
use Rattle.tree_definitions.specs.Simulation.{IsUp}
use Rattle.tree_definitions.specs.UpCert.{UpCert, IsCoveredUp}
use Rattle.tree_definitions.specs.UpTrail.{UpEntry, UpTrail as IsUpTrail, IsUpStep}
use Rattle.tree_definitions.specs.Witness.{NoCert}
use Rattle.tree_definitions.proofs.InOrder.{canon_finals, canon_language, rule_in, rule_out}
use Rattle.witness_trees.specs.Nodes.{NodeList}
use Rattle.certificate_kinds.specs.Answers.{IsUpAnswer}
use Rattle.certificate_kinds.specs.Certificates.{FitPairs}
use Rattle.certificate_kinds.specs.Fitting.{AreUpEntries}
use Rattle.certificate_kinds.specs.declared.certificate.Certificate.{Certificate}
use Rattle.certificate_kinds.specs.declared.certificate.Certificate.TheVariants.{Up, Down, Tree, UpTrail, DownTrail}

up_out : (A : Automaton) (R : Relation) → IsUp (canon A) R → IsUp A R
up_out A R u = record {
  finals = λ q r h f. (canon_finals A r).0 (u.finals q r h ((canon_finals A q).1 f));
  rules = λ q r h a front back p rule. let k = u.rules q r h a front back p (rule_in A a (front ++ q ∷ back) p rule) in (k.0, rule_out A a (front ++ r ∷ back) k.0 k.1, k.2);
}

module _ (A B : Automaton) where
  post_out : (a : Symbol) (sets : List Row) (s : ℕ) → Post (canon B) a sets s → Post B a sets s
  post_out a sets s h = (h.0, rule_out B a h.0 s h.1, h.2)

  post_in : (a : Symbol) (sets : List Row) (s : ℕ) → Post B a sets s → Post (canon B) a sets s
  post_in a sets s h = (h.0, rule_in B a h.0 s h.1, h.2)

  rejects_in : (pair : Pair) → Rejects A B pair → Rejects (canon A) (canon B) pair
  rejects_in pair r = record {
    final = (canon_finals A pair.state).1 r.final;
    none = λ s m f. r.none s m ((canon_finals B s).0 f);
  }

  fits_out : (pair : Pair) → FitsPair (canon A) (canon B) pair → FitsPair A B pair
  fits_out pair f = record { state = f.state; set = f.set }

  pairs_out : (X : List Pair) → FitPairs (canon A) (canon B) X → FitPairs A B X
  pairs_out X f = record { each = All-weaker (FitsPair (canon A) (canon B)) (FitsPair A B) fits_out X f.each; rising = f.rising; few = f.few }

  module _ (RA RB : Relation) where
    covered_out : (X : List Pair) (a : Symbol) (sets : List Row) (p : ℕ) → IsCoveredUp RA RB X p (Post (canon B) a sets) → IsCoveredUp RA RB X p (Post B a sets)
    covered_out X a sets p h = (
      h.0,
      h.1,
      record {
        state = h.2.state;
        set = λ x m. let k = h.2.set x m in (k.0, post_out a sets k.0 k.1, k.2);
      },
    )

    cert_out : (X : List Pair) → UpCert (canon A) (canon B) RA RB X → UpCert A B RA RB X
    cert_out X c = record {
      left = up_out A RA c.left;
      right = up_out B RB c.right;
      accepting = λ pair m r. c.accepting pair m (rejects_in pair r);
      leaves = λ a p rule. covered_out X a [] p (c.leaves a p (rule_in A a [] p rule));
      steps = λ a q qs p rule sets l. covered_out X a sets p (c.steps a q qs p (rule_in A a (q ∷ qs) p rule) sets l);
      apart = c.apart;
    }

    step_out : (entries : List UpEntry) (i : ℕ) (entry : UpEntry) → IsUpStep (canon A) (canon B) entries i entry → IsUpStep A B entries i entry
    step_out entries i entry s = record {
      symbol = s.symbol;
      stands = s.stands;
      pairs = s.pairs;
      named = s.named;
      rule = rule_out A s.symbol (map (λ pair. pair.state) s.pairs) entry.pair.state s.rule;
      set = λ x. (
        λ m. post_out s.symbol (map (λ pair. pair.set) s.pairs) x ((s.set x).0 m),
        λ m. (s.set x).1 (post_in s.symbol (map (λ pair. pair.set) s.pairs) x m),
      );
    }

    trail_out : (K : ℕ) (entries : List UpEntry) → IsUpTrail (canon A) (canon B) RA RB K entries → IsUpTrail A B RA RB K entries
    trail_out K entries t = record {
      left = up_out A RA t.left;
      right = up_out B RB t.right;
      count = t.count;
      steps = λ i entry at. step_out entries i entry (t.steps i entry at);
      accepting = λ i entry at r. t.accepting i entry at (rejects_in entry.pair r);
      fresh = t.fresh;
    }

  entries_out : (K : ℕ) (entries : List UpEntry) → AreUpEntries (canon A) (canon B) K entries → AreUpEntries A B K entries
  entries_out K entries f = record {
    some = f.some;
    few = f.few;
    count = f.count;
    fitting = λ k entry at. let e = f.fitting k entry at in record { pair = fits_out entry.pair e.pair; symbol = e.symbol; earlier = e.earlier };
  }

  tree_out : (nodes : NodeList) → NoCert (canon A) (canon B) nodes.symbols nodes.rows → NoCert A B nodes.symbols nodes.rows
  tree_out nodes c = record {
    tree = c.tree;
    last = c.last;
    accepted = (canon_language A c.tree).1 c.accepted;
    refused = λ h. c.refused ((canon_language B c.tree).0 h);
  }

  pub answer_out : (RA RB : Matrix) (K : ℕ) (c : Certificate) → IsUpAnswer (canon A) (canon B) RA RB K c → IsUpAnswer A B RA RB K c
  answer_out RA RB K (Up left right pairs) (l, r, f, c) =
      (l, r, record { left = f.left; right = f.right; pairs = pairs_out pairs.items f.pairs }, cert_out (Holds left) (Holds right) pairs.items c)
  answer_out RA RB K (Down both pairs) h = absurd h
  answer_out RA RB K (DownTrail both budget entries) h = absurd h
  answer_out RA RB K (Tree nodes) (f, c) = (record { list = f.list; symbols = f.symbols; some = f.some }, tree_out nodes c)
  answer_out RA RB K (UpTrail left right budget entries) (l, r, b, f, t) =
      (l, r, b, record { left = f.left; right = f.right; entries = entries_out budget entries.items f.entries }, trail_out (Holds left) (Holds right) budget entries.items t)
