use Rattle.std.proofs.Common.{◌≡◌, ◌+◌, ◌<◌, ◌++◌, [], ◌∷◌, ℕ, List, length, get_or, refl, sym, ap, ◌∙◌, subst, arith}
use Rattle.std.proofs.lemmas.Option.{slice_get_read, slice_get-get_or}
use Rattle.tree_definitions.specs.Automaton.{Rule}
use Rattle.tree_definitions.specs.Relation.{Holds, IsAt}
use Rattle.trim_ops.proofs.Marked.{no_items}
use Rattle.down_conditions.specs.Choosing.{Covers, IsSearching, tuple_at, work_left}
use Rattle.down_conditions.proofs.Pushed.{length_push}
use Rattle.down_conditions.proofs.Stepping.{covers_grows, member_within, tuple_is}
use Rattle.down_conditions.proofs.Steps.{last_within, search_back, search_over, search_unskips}
use Rattle.down_conditions.proofs.Work.{work_back}
use Rattle.down_conditions.proofs.search.step_back.Goals as goal

pub returns-in_default-clause-over : goal.returns-in_default-clause-over
returns-in_default-clause-over c t other all =
    let R = Holds c.args.both.now in
    let pairs = c.args.pairs.now in
    let m = c.args.m in
    let kids = c.args.kids.now in
    let places = c.args.search.now.places.items in
    let v = c.in_default.ensures.cases in
    let none : places ≡ [] = no_items places (omega (arith, c.args.search.now.places.ok.0, v.0)) in
    let some = c.requires.some in
    search_over (Covers R pairs m kids) (covers_grows R pairs m kids) (tuple_at c.args.rules.now c.args.list.now) (length c.args.list.now) (length kids) m places c.args.search.now.next c.args.search.now.sets.items
    c.requires.searching none (omega (arith, some)) c.requires.past other all

pub bounds-as_slice-i : goal.bounds-as_slice-i
bounds-as_slice-i c =
    let rules = c.args.rules.now in
    let list = c.args.list.now in
    let rule = c.index-rules-list.result in
    let j = c.len.result in
    let its : j ≡ length c.pop.new.self.items = omega (arith, c.len.ensures, c.pop.new.self.ok.0) in
    let grown = ap (λ (xs : List ℕ). length xs) c.in-Some.ensures.items ∙ length_push c.pop.new.self.items c.in-Some.i in
    let some = c.requires.some in
    let room : j < length list = omega (arith, its, grown, some) in
    let at : IsAt rules (get_or list j 0) rule = slice_get_read rules (length rules) (get_or list j 0) rule refl (c.requires.list j 0 room) c.index-rules-list.is in
    let same = c.as_slice.ensures ∙ ap (λ (o : Rule). o.kids) c.rule.view_is ∙ sym (tuple_is rules list j rule at) in
    let long = ap (λ (xs : List ℕ). length xs) same in
    let size = c.requires.tuples j room in
    let small = c.if-i-kids.true in
    omega (arith, long, size, small)

pub take-requires-clause-member : goal.take-requires-clause-member
take-requires-clause-member c k d l =
    let rules = c.args.rules.now in
    let list = c.args.list.now in
    let rule = c.index-rules-list.result in
    let j = c.len.result in
    let its : j ≡ length c.pop.new.self.items = omega (arith, c.len.ensures, c.pop.new.self.ok.0) in
    let grown = ap (λ (xs : List ℕ). length xs) c.in-Some.ensures.items ∙ length_push c.pop.new.self.items c.in-Some.i in
    let some = c.requires.some in
    let room : j < length list = omega (arith, its, grown, some) in
    let at : IsAt rules (get_or list j 0) rule = slice_get_read rules (length rules) (get_or list j 0) rule refl (c.requires.list j 0 room) c.index-rules-list.is in
    let ks = c.as_slice.result.now in
    let kids = c.as_slice.ensures ∙ ap (λ (o : Rule). o.kids) c.rule.view_is in
    let same = kids ∙ sym (tuple_is rules list j rule at) in
    let long = ap (λ (xs : List ℕ). length xs) same in
    let size = c.requires.tuples j room in
    let small = c.if-i-kids.true in
    let within = member_within rules c.args.m (length c.args.both.now) (get_or list j 0) c.in-Some.i rule ks c.requires.rules at kids (omega (arith, long, size, small)) in
    let row = c.requires.sized.columns k d l in
    omega (arith, within, row)

pub returns-then-i-kids-clause-searching : goal.returns-then-i-kids-clause-searching
returns-then-i-kids-clause-searching c t =
    let R = Holds c.args.both.now in
    let pairs = c.args.pairs.now in
    let m = c.args.m in
    let kids = c.args.kids.now in
    let rules = c.args.rules.now in
    let list = c.args.list.now in
    let rule = c.index-rules-list.result in
    let i = c.in-Some.i in
    let j = c.len.result in
    let places = c.pop.new.self.items in
    let its : j ≡ length places = omega (arith, c.len.ensures, c.pop.new.self.ok.0) in
    let items = c.in-Some.ensures.items in
    let grown = ap (λ (xs : List ℕ). length xs) items ∙ length_push places i in
    let some = c.requires.some in
    let room : length places + 1 < length list = omega (arith, grown, some) in
    let before : j < length list = omega (arith, its, room) in
    let at : IsAt rules (get_or list j 0) rule = slice_get_read rules (length rules) (get_or list j 0) rule refl (c.requires.list j 0 before) c.index-rules-list.is in
    let ks = c.as_slice.result.now in
    let same = c.as_slice.ensures ∙ ap (λ (o : Rule). o.kids) c.rule.view_is ∙ sym (tuple_is rules list j rule at) in
    let long = ap (λ (xs : List ℕ). length xs) same in
    let size = c.requires.tuples j before in
    let small = c.if-i-kids.true in
    let kat : IsAt ks i (get_or ks i 0) = slice_get-get_or ks i 0 (omega (arith, long, size, small)) in
    let there : IsAt (tuple_at rules list (length places)) i (get_or ks i 0) = subst (λ z. IsAt (tuple_at rules list z) i (get_or ks i 0)) its (subst (λ (xs : List ℕ). IsAt xs i (get_or ks i 0)) same kat) in
    let now = subst (λ (ps : List ℕ). IsSearching (Covers R pairs m kids) (tuple_at rules list) (length list) (length kids) m ps c.args.search.now.next c.args.search.now.sets.items) items c.requires.searching in
    search_back (Covers R pairs m kids) (covers_grows R pairs m kids) (tuple_at rules list) (length list) (length kids) m places i c.args.search.now.next c.args.search.now.sets.items now room c.requires.past
    small (get_or ks i 0) there c.take.new.sets.items c.take.ensures.members

pub returns-then-i-kids-clause-sized : goal.returns-then-i-kids-clause-sized
returns-then-i-kids-clause-sized c t = c.take.ensures.sized (length c.args.kids.now) (length c.args.both.now) c.requires.sized

pub returns-then-i-kids-clause-less : goal.returns-then-i-kids-clause-less
returns-then-i-kids-clause-less c t =
    let n = length c.args.kids.now in
    let count = length c.args.list.now in
    let i = c.in-Some.i in
    let places = c.pop.new.self.items in
    let items = c.in-Some.ensures.items in
    let grown = ap (λ (xs : List ℕ). length xs) items ∙ length_push places i in
    let some = c.requires.some in
    let small = c.if-i-kids.true in
    subst (λ (ps : List ℕ). work_left n count places (i + 1) < work_left n count ps c.args.search.now.next) (sym items)
    (work_back n count places i c.args.search.now.next (omega (arith, grown, some)) (omega (arith, small)) c.requires.searching.bound)

pub returns-clause-searching : goal.returns-clause-searching
returns-clause-searching c t =
    let R = Holds c.args.both.now in
    let pairs = c.args.pairs.now in
    let m = c.args.m in
    let kids = c.args.kids.now in
    let rules = c.args.rules.now in
    let list = c.args.list.now in
    let i = c.in-Some.i in
    let places = c.pop.new.self.items in
    let sets = c.args.search.now.sets.items in
    let next = c.args.search.now.next in
    let items = c.in-Some.ensures.items in
    let grown = ap (λ (xs : List ℕ). length xs) items ∙ length_push places i in
    let some = c.requires.some in
    let room : length places + 1 < length list = omega (arith, grown, some) in
    let now = subst (λ (ps : List ℕ). IsSearching (Covers R pairs m kids) (tuple_at rules list) (length list) (length kids) m ps next sets) items c.requires.searching in
    let Cov = Covers R pairs m kids in
    let grows = covers_grows R pairs m kids in
    let tuple = tuple_at rules list in
    let small = last_within Cov grows tuple (length list) (length kids) m places i next sets now room c.requires.past in
    let large = c.if-i-kids.false in
    let e : i ≡ length kids = omega (arith, small, large) in
    subst (λ z. IsSearching Cov tuple (length list) (length kids) m places (z + 1) sets) e
    (search_unskips Cov grows tuple (length list) (length kids) m places i next sets now room c.requires.past large)

pub returns-clause-less : goal.returns-clause-less
returns-clause-less c t =
    let R = Holds c.args.both.now in
    let pairs = c.args.pairs.now in
    let m = c.args.m in
    let kids = c.args.kids.now in
    let rules = c.args.rules.now in
    let list = c.args.list.now in
    let n = length kids in
    let count = length list in
    let i = c.in-Some.i in
    let places = c.pop.new.self.items in
    let sets = c.args.search.now.sets.items in
    let next = c.args.search.now.next in
    let items = c.in-Some.ensures.items in
    let grown = ap (λ (xs : List ℕ). length xs) items ∙ length_push places i in
    let some = c.requires.some in
    let room : length places + 1 < length list = omega (arith, grown, some) in
    let now = subst (λ (ps : List ℕ). IsSearching (Covers R pairs m kids) (tuple_at rules list) count n m ps next sets) items c.requires.searching in
    let small = last_within (Covers R pairs m kids) (covers_grows R pairs m kids) (tuple_at rules list) count n m places i next sets now room c.requires.past in
    let large = c.if-i-kids.false in
    let e : i ≡ length kids = omega (arith, small, large) in
    subst (λ (ps : List ℕ). work_left n count places (n + 1) < work_left n count ps next) (sym items)
    (subst (λ z. work_left n count places (z + 1) < work_left n count (places ++ i ∷ []) next) e
    (work_back n count places i next room small c.requires.searching.bound))
