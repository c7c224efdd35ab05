-- A request other than for inclusion has one right answer.
use Rattle.std.proofs.Common.{◌≡◌, ◌↔◌, ℕ, suc, Bool, true, false, List, [], ◌∷◌, length, Some, refl, sym, ap, ◌∙◌, subst, arith}
use Rattle.std.specs.Prelude.{All}
use Rattle.std.proofs.lemmas.List.Elements.{All-head, All-tail}
use Rattle.tree_definitions.specs.Automaton.{Automaton}
use Rattle.tree_definitions.specs.Canonical.{canon}
use Rattle.tree_definitions.specs.Relation.{Matrix, Row, Holds, Has}
use Rattle.tree_definitions.proofs.Results.{one_union, one_product, one_quotient}
use Rattle.tree_definitions.proofs.SameRules.{one_trim_of_form}
use Rattle.vata_words.specs.declared.request.Dir.{Dir}
use Rattle.vata_words.specs.declared.request.Dir.TheVariants.{Up, Down}
use Rattle.vata_core.specs.Answer.{Answer, IsForm, IsGreatest, IsRight, Listing, Related, Shown}
use Rattle.vata_core.specs.Outcome.{AsksForNoCertificate}
use Rattle.vata_core.specs.Request.{Request, Unary, Binary}
use Rattle.vata_core.specs.declared.words.UnaryCommand.TheVariants.{Load, Sim, Red}
use Rattle.vata_core.specs.declared.words.BinaryCommand.TheVariants.{Union, Isect, Incl}

-- the forms of automata with one canonical form
one_form : (trim : Bool) (A B L M : Automaton) → canon A ≡ canon B → IsForm trim A L → IsForm trim B M → L ≡ M
one_form false A B L M same l m = l ∙ same ∙ sym m
one_form true A B L M same l m = l.2 ∙ one_trim_of_form A B l.0 m.0 same l.1 m.1 ∙ sym m.2

-- rows of one length with the same members
one_row : (n : ℕ) (xs ys : Row) → length xs ≡ n → length ys ≡ n → ((s : ℕ) → Has xs s ↔ Has ys s) → xs ≡ ys
one_row n [] [] l k same = refl
one_row n [] (y ∷ ys) l k same = absurd (omega arith)
one_row n (x ∷ xs) [] l k same = absurd (omega arith)
one_row n (x ∷ xs) (y ∷ ys) l k same =
    let first : x ≡ y = one_value x y (same 0) in
    let rest : xs ≡ ys = one_row (length xs) xs ys refl (omega arith) (λ s. same (suc s)) in
    λ i. first i ∷ rest i
  where
    one_value : (x y : Bool) → (Some x ≡ Some true ↔ (Some y ≡ Some true)) → x ≡ y
    one_value true y h = let e = h.0 refl in cc
    one_value false true h = let e = h.1 refl in cc
    one_value false false h = refl

-- rows of a relation between as many places that holds between the same
one_matrix : (n c : ℕ) (xs ys : Matrix) → length xs ≡ n → length ys ≡ n → All (λ row. length row ≡ c) xs → All (λ row. length row ≡ c) ys → ((q r : ℕ) → Holds xs q r ↔ Holds ys q r) → xs ≡ ys
one_matrix n c [] [] l k a b same = refl
one_matrix n c [] (y ∷ ys) l k a b same = absurd (omega arith)
one_matrix n c (x ∷ xs) [] l k a b same = absurd (omega arith)
one_matrix n c (x ∷ xs) (y ∷ ys) l k a b same =
    let first : x ≡ y = one_row c x y (All-head (λ (row : Row). length row ≡ c) x xs a) (All-head (λ (row : Row). length row ≡ c) y ys b) (λ s. (λ h. row_there x y xs ys s (same 0 s) h, λ h. row_back x y xs ys s (same 0 s) h)) in
    let rest : xs ≡ ys = one_matrix (length xs) c xs ys refl (omega arith) (All-tail (λ (row : Row). length row ≡ c) x xs a) (All-tail (λ (row : Row). length row ≡ c) y ys b) (λ q r. same (suc q) r) in
    λ i. first i ∷ rest i
  where
    row_of : (x y : Row) → Some x ≡ Some y → x ≡ y
    row_of x y e = cc

    row_there : (x y : Row) (xs ys : Matrix) (s : ℕ) → Holds (x ∷ xs) 0 s ↔ Holds (y ∷ ys) 0 s → Has x s → Has y s
    row_there x y xs ys s f h = let g = f.0 (x, refl, h) in let e : Some y ≡ Some g.0 = g.1 in subst (λ row. Has row s) (sym (row_of y g.0 e)) g.2

    row_back : (x y : Row) (xs ys : Matrix) (s : ℕ) → Holds (x ∷ xs) 0 s ↔ Holds (y ∷ ys) 0 s → Has y s → Has x s
    row_back x y xs ys s f h = let g = f.1 (y, refl, h) in let e : Some x ≡ Some g.0 = g.1 in subst (λ row. Has row s) (sym (row_of x g.0 e)) g.2

one_greatest : (dir : Dir) (A : Automaton) (m n : Matrix) → IsGreatest dir A m → IsGreatest dir A n → m ≡ n
one_greatest Up A m n g h =
    one_matrix (length A.states) (length A.states) m n g.square.rows h.square.rows g.square.columns h.square.columns
    (λ q r. (λ x. (h.pairs q r).1 ((g.pairs q r).0 x), λ x. (g.pairs q r).1 ((h.pairs q r).0 x)))
one_greatest Down A m n g h =
    one_matrix (length A.states) (length A.states) m n g.square.rows h.square.rows g.square.columns h.square.columns
    (λ q r. (λ x. (h.pairs q r).1 ((g.pairs q r).0 x), λ x. (g.pairs q r).1 ((h.pairs q r).0 x)))

one_related : (dir : Dir) (A : Automaton) (d e : Dir) (xs ys : List (List ℕ)) (m n : Matrix) → d ≡ dir → e ≡ dir → xs ≡ A.states → ys ≡ A.states → IsGreatest dir A m → IsGreatest dir A n
    → Related d xs m ≡ Related e ys n
one_related dir A d e xs ys m n dd ee xx yy g h =
    let ds : d ≡ e = dd ∙ sym ee in
    let ss : xs ≡ ys = xx ∙ sym yy in
    let ms : m ≡ n = one_greatest dir A m n g h in
    λ i. Related (ds i) (ss i) (ms i)

pub one_answer : (request : Request) (As : List Automaton) (x y : Answer) → AsksForNoCertificate request → IsRight request As x → IsRight request As y → x ≡ y
one_answer (Unary (Load trim) file) [] x y asks g h = absurd g
one_answer (Unary (Load trim) file) (A ∷ []) (Listing L) (Listing M) asks g h = ap Listing (one_form trim A A L M refl g h)
one_answer (Unary (Load trim) file) (A ∷ []) (Listing L) (Related e ys n) asks g h = absurd h
one_answer (Unary (Load trim) file) (A ∷ []) (Listing L) (Shown F G k) asks g h = absurd h
one_answer (Unary (Load trim) file) (A ∷ []) (Related d xs m) y asks g h = absurd g
one_answer (Unary (Load trim) file) (A ∷ []) (Shown D E c) y asks g h = absurd g
one_answer (Unary (Load trim) file) (A ∷ B ∷ rest) x y asks g h = absurd g
one_answer (Unary (Sim dir) file) [] x y asks g h = absurd g
one_answer (Unary (Sim dir) file) (A ∷ []) (Listing L) y asks g h = absurd g
one_answer (Unary (Sim dir) file) (A ∷ []) (Related d xs m) (Listing M) asks g h = absurd h
one_answer (Unary (Sim dir) file) (A ∷ []) (Related d xs m) (Related e ys n) asks g h = one_related dir A d e xs ys m n g.0 h.0 g.1 h.1 g.2 h.2
one_answer (Unary (Sim dir) file) (A ∷ []) (Related d xs m) (Shown F G k) asks g h = absurd h
one_answer (Unary (Sim dir) file) (A ∷ []) (Shown D E c) y asks g h = absurd g
one_answer (Unary (Sim dir) file) (A ∷ B ∷ rest) x y asks g h = absurd g
one_answer (Unary Red file) [] x y asks g h = absurd g
one_answer (Unary Red file) (A ∷ []) (Listing L) (Listing M) asks g h = ap Listing (g.2 ∙ one_quotient A g.0 h.0 g.1 h.1 ∙ sym h.2)
one_answer (Unary Red file) (A ∷ []) (Listing L) (Related e ys n) asks g h = absurd h
one_answer (Unary Red file) (A ∷ []) (Listing L) (Shown F G k) asks g h = absurd h
one_answer (Unary Red file) (A ∷ []) (Related d xs m) y asks g h = absurd g
one_answer (Unary Red file) (A ∷ []) (Shown D E c) y asks g h = absurd g
one_answer (Unary Red file) (A ∷ B ∷ rest) x y asks g h = absurd g
one_answer (Binary (Union trim) first second) [] x y asks g h = absurd g
one_answer (Binary (Union trim) first second) (A ∷ []) x y asks g h = absurd g
one_answer (Binary (Union trim) first second) (A ∷ B ∷ []) (Listing L) (Listing M) asks g h = ap Listing (one_form trim g.0 h.0 L M (one_union A B g.0 h.0 g.1 h.1) g.2 h.2)
one_answer (Binary (Union trim) first second) (A ∷ B ∷ []) (Listing L) (Related e ys n) asks g h = absurd h
one_answer (Binary (Union trim) first second) (A ∷ B ∷ []) (Listing L) (Shown F G k) asks g h = absurd h
one_answer (Binary (Union trim) first second) (A ∷ B ∷ []) (Related d xs m) y asks g h = absurd g
one_answer (Binary (Union trim) first second) (A ∷ B ∷ []) (Shown D E c) y asks g h = absurd g
one_answer (Binary (Union trim) first second) (A ∷ B ∷ C ∷ rest) x y asks g h = absurd g
one_answer (Binary (Isect trim) first second) [] x y asks g h = absurd g
one_answer (Binary (Isect trim) first second) (A ∷ []) x y asks g h = absurd g
one_answer (Binary (Isect trim) first second) (A ∷ B ∷ []) (Listing L) (Listing M) asks g h = ap Listing (one_form trim g.0 h.0 L M (one_product A B g.0 h.0 g.1 h.1) g.2 h.2)
one_answer (Binary (Isect trim) first second) (A ∷ B ∷ []) (Listing L) (Related e ys n) asks g h = absurd h
one_answer (Binary (Isect trim) first second) (A ∷ B ∷ []) (Listing L) (Shown F G k) asks g h = absurd h
one_answer (Binary (Isect trim) first second) (A ∷ B ∷ []) (Related d xs m) y asks g h = absurd g
one_answer (Binary (Isect trim) first second) (A ∷ B ∷ []) (Shown D E c) y asks g h = absurd g
one_answer (Binary (Isect trim) first second) (A ∷ B ∷ C ∷ rest) x y asks g h = absurd g
one_answer (Binary (Incl dir sim budget) first second) As x y asks g h = absurd asks
