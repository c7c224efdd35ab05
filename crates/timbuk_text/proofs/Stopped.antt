-- How a refusal is passed on.
use Rattle.std.proofs.Common.{◌≡◌, ℕ, List, sym, subst, ap}
use Rattle.std.specs.Prelude.{Result, Err, IsErr, IsErrOf}
use Rattle.std.specs.Result.{IsErrAnd}
use Rattle.tree_definitions.specs.Tree.{Symbol}
use Rattle.tree_definitions.specs.Automaton.{Rule}
use Rattle.timbuk_definitions.specs.Place.{IsFull, Symbols, States, Rules}
use Rattle.timbuk_text.specs.declared.error.Counted.{Counted}
use Rattle.timbuk_text.specs.declared.tables.Stop.{Stop}
use Rattle.timbuk_text.specs.declared.table.Action.{Action}
use Rattle.timbuk_text.specs.Store.{Store}
use Rattle.timbuk_text.specs.Taking.{Passes, limit_of}

pub error_passed : {T U E : Type 0} (r : Result U E) (e f : E) → IsErr r × IsErrAnd r (λ x. x ≡ e) → IsErrOf r f → IsErrOf {T = T} (Err e) f
error_passed {T} {U} {E} r e f h k =
    let same : f ≡ e = subst (λ (x : Result U E). IsErrAnd x (λ y. y ≡ e)) k h.1 in
    let errors : E → Result T E = λ x. Err x in
    ap errors (sym same)

pub passed_on : {T U : Type 0} (r : Result U Stop) (e : Stop) (which : Counted) → IsErr r × IsErrAnd r (λ x. x ≡ e) → IsErrOf r (Stop.Limit which) → IsErrOf {T = T} (Err e) (Stop.Limit which)
passed_on r e which h k = error_passed r e (Stop.Limit which) h k

-- the list of states, of symbols or of rules is full
pub states_stop : (action : Action) (w : List ℕ) (old : Store) → (IsFull 1000000 old.states w → Passes action w old States) → (which : Counted) → (which ≡ Counted.States) × IsFull 1000000 old.states w → Passes action w old (limit_of which)
states_stop action w old f which h = subst (λ c. Passes action w old (limit_of c)) (sym h.0) (f h.1)

pub symbols_stop : (action : Action) (w : List ℕ) (old : Store) (a : Symbol) → (IsFull 65535 old.symbols a → Passes action w old Symbols) → (which : Counted) → (which ≡ Counted.Symbols) × IsFull 65535 old.symbols a → Passes action w old (limit_of which)
symbols_stop action w old a f which h = subst (λ c. Passes action w old (limit_of c)) (sym h.0) (f h.1)

pub rules_stop : (action : Action) (w : List ℕ) (old : Store) (l : Rule) (rules : List Rule) → (IsFull 2000000 rules l → Passes action w old Rules) → (which : Counted) → (which ≡ Counted.Rules) × IsFull 2000000 rules l → Passes action w old (limit_of which)
rules_stop action w old l rules f which h = subst (λ c. Passes action w old (limit_of c)) (sym h.0) (f h.1)

-- the same error under another value
pub error_as : {T U E : Type 0} (e f : E) → IsErrOf {T = U} (Err e) f → IsErrOf {T = T} (Err e) f
error_as {T} {U} {E} e f h = let same : e ≡ f = cc h in let errors : E → Result T E = λ x. Err x in ap errors same
