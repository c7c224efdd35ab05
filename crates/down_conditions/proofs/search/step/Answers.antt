use Rattle.std.proofs.Common.{◌≡◌, ◌+◌, ◌<◌, ◌++◌, [], ◌∷◌, ℕ, List, true, false, length, get_or, refl, sym, ap, ◌∙◌, subst, arith}
use Rattle.std.proofs.lemmas.Option.{slice_get_read, slice_get-get_or}
use Rattle.tree_definitions.specs.Automaton.{Rule}
use Rattle.tree_definitions.specs.Relation.{Holds, IsAt, Matrix}
use Rattle.down_conditions.specs.Choosing.{Covers, IsSearching, tuple_at, work_left}
use Rattle.down_conditions.proofs.Stepping.{fresh_here, member_within, step_passes, step_sends, step_skips, tuple_is}
use Rattle.down_conditions.proofs.Work.{work_next, work_sent}
use Rattle.down_conditions.proofs.search.step.Goals as goal

pub returns-then-is_settled-clause-searching : goal.returns-then-is_settled-clause-searching
returns-then-is_settled-clause-searching c t =
    let R = Holds c.args.both.now in
    let pairs = c.args.pairs.now in
    let m = c.args.m in
    let kids = c.args.kids.now in
    let rules = c.args.rules.now in
    let list = c.args.list.now in
    let places = c.args.search.now.places.items in
    let next = c.args.search.now.next in
    let sets = c.args.search.now.sets.items in
    let rule = c.index-rules-list.result in
    let j = c.len.result in
    let jis : j ≡ length places = omega (arith, c.len.ensures, c.args.search.now.places.ok.0) in
    let some = c.requires.some in
    let room : j < length list = omega (arith, jis, some) in
    let at : IsAt rules (get_or list j 0) rule = slice_get_read rules (length rules) (get_or list j 0) rule refl (c.requires.list j 0 room) c.index-rules-list.is in
    let ks = c.as_slice-tuple.result.now in
    let by_rule = c.as_slice-tuple.ensures ∙ ap (λ (o : Rule). o.kids) c.rule.view_is in
    let its = ap (tuple_at rules list) (sym jis) ∙ tuple_is rules list j rule at ∙ sym by_rule in
    let size = c.requires.tuples (length places) some in
    let long : length ks ≡ length kids = sym (ap (λ (xs : List ℕ). length xs) its) ∙ size in
    let h = subst (λ (o : Matrix). (next ≡ 0) × ((i : ℕ) × (t : ℕ) × IsAt ks i t × Holds o i (m + t))) c.deref.ensures.value (c.is_settled.ensures.0 c.if-is_settled.true) in
    subst (λ (ps : List ℕ). IsSearching (Covers R pairs m kids) (tuple_at rules list) (length list) (length kids) m ps next sets) (sym c.in_ok-push.ensures.items)
    (step_skips R pairs m kids (tuple_at rules list) (length list) next places sets c.requires.searching some ks its h long)

pub returns-then-is_settled-clause-less : goal.returns-then-is_settled-clause-less
returns-then-is_settled-clause-less c t =
    let n = length c.args.kids.now in
    let count = length c.args.list.now in
    let places = c.args.search.now.places.items in
    let next = c.args.search.now.next in
    let begun = (c.is_settled.ensures.0 c.if-is_settled.true).0 in
    subst (λ (ps : List ℕ). work_left n count ps next < work_left n count places next) (sym c.in_ok-push.ensures.items)
    (subst (λ z. work_left n count (places ++ n ∷ []) z < work_left n count places next) (sym begun)
    (work_sent n count places n next c.requires.some (omega (arith, begun)) (omega arith)))

pub bounds-tuple-i : goal.bounds-tuple-i
bounds-tuple-i c =
    let R = Holds c.args.both.now in
    let pairs = c.args.pairs.now in
    let m = c.args.m in
    let kids = c.args.kids.now in
    let rules = c.args.rules.now in
    let list = c.args.list.now in
    let places = c.args.search.now.places.items in
    let next = c.args.search.now.next in
    let sets = c.args.search.now.sets.items in
    let rule = c.index-rules-list.result in
    let j = c.len.result in
    let jis : j ≡ length places = omega (arith, c.len.ensures, c.args.search.now.places.ok.0) in
    let some = c.requires.some in
    let room : j < length list = omega (arith, jis, some) in
    let at : IsAt rules (get_or list j 0) rule = slice_get_read rules (length rules) (get_or list j 0) rule refl (c.requires.list j 0 room) c.index-rules-list.is in
    let ks = c.as_slice-tuple.result.now in
    let by_rule = c.as_slice-tuple.ensures ∙ ap (λ (o : Rule). o.kids) c.rule.view_is in
    let its = ap (tuple_at rules list) (sym jis) ∙ tuple_is rules list j rule at ∙ sym by_rule in
    let size = c.requires.tuples (length places) some in
    let long : length ks ≡ length kids = sym (ap (λ (xs : List ℕ). length xs) its) ∙ size in
    let small = c.if-i-n.false in
    omega (arith, small, long)

pub put-requires-clause-member : goal.put-requires-clause-member
put-requires-clause-member c k d l =
    let R = Holds c.args.both.now in
    let pairs = c.args.pairs.now in
    let m = c.args.m in
    let kids = c.args.kids.now in
    let rules = c.args.rules.now in
    let list = c.args.list.now in
    let places = c.args.search.now.places.items in
    let next = c.args.search.now.next in
    let sets = c.args.search.now.sets.items in
    let rule = c.index-rules-list.result in
    let j = c.len.result in
    let jis : j ≡ length places = omega (arith, c.len.ensures, c.args.search.now.places.ok.0) in
    let some = c.requires.some in
    let room : j < length list = omega (arith, jis, some) in
    let at : IsAt rules (get_or list j 0) rule = slice_get_read rules (length rules) (get_or list j 0) rule refl (c.requires.list j 0 room) c.index-rules-list.is in
    let ks = c.as_slice-tuple.result.now in
    let by_rule = c.as_slice-tuple.ensures ∙ ap (λ (o : Rule). o.kids) c.rule.view_is in
    let its = ap (tuple_at rules list) (sym jis) ∙ tuple_is rules list j rule at ∙ sym by_rule in
    let size = c.requires.tuples (length places) some in
    let long : length ks ≡ length kids = sym (ap (λ (xs : List ℕ). length xs) its) ∙ size in
    let small = c.if-i-n.false in
    let within = member_within rules m (length c.args.both.now) (get_or list j 0) next rule ks c.requires.rules at by_rule (omega (arith, small, long)) in
    let row = c.requires.sized.columns k d l in
    omega (arith, within, row)

pub index-requires : goal.index-requires
index-requires c =
    let rows = (c.put.ensures.sized (length c.args.kids.now) (length c.args.both.now) c.requires.sized).rows in
    let small = c.if-i-n.false in
    omega (arith, rows, small, c.put.new.sets.ok.0)

pub is_held-requires-clause-set : goal.is_held-requires-clause-set
is_held-requires-clause-set c =
    let sized = c.put.ensures.sized (length c.args.kids.now) (length c.args.both.now) c.requires.sized in
    let small = c.if-i-n.false in
    let rows = sized.rows in
    ap (λ (r : List _). length r) c.index.ensures ∙ sized.columns c.args.search.now.next c.index.result.now (omega (arith, rows, small))

pub take-requires-clause-set : goal.take-requires-clause-set
take-requires-clause-set c =
    let rows = (c.put.ensures.sized (length c.args.kids.now) (length c.args.both.now) c.requires.sized).rows in
    let small = c.if-i-n.false in
    omega (arith, rows, small)

pub take-requires-clause-member : goal.take-requires-clause-member
take-requires-clause-member c k d l =
    let R = Holds c.args.both.now in
    let pairs = c.args.pairs.now in
    let m = c.args.m in
    let kids = c.args.kids.now in
    let rules = c.args.rules.now in
    let list = c.args.list.now in
    let places = c.args.search.now.places.items in
    let next = c.args.search.now.next in
    let sets = c.args.search.now.sets.items in
    let rule = c.index-rules-list.result in
    let j = c.len.result in
    let jis : j ≡ length places = omega (arith, c.len.ensures, c.args.search.now.places.ok.0) in
    let some = c.requires.some in
    let room : j < length list = omega (arith, jis, some) in
    let at : IsAt rules (get_or list j 0) rule = slice_get_read rules (length rules) (get_or list j 0) rule refl (c.requires.list j 0 room) c.index-rules-list.is in
    let ks = c.as_slice-tuple.result.now in
    let by_rule = c.as_slice-tuple.ensures ∙ ap (λ (o : Rule). o.kids) c.rule.view_is in
    let its = ap (tuple_at rules list) (sym jis) ∙ tuple_is rules list j rule at ∙ sym by_rule in
    let size = c.requires.tuples (length places) some in
    let long : length ks ≡ length kids = sym (ap (λ (xs : List ℕ). length xs) its) ∙ size in
    let small = c.if-i-n.false in
    let within = member_within rules m (length c.args.both.now) (get_or list j 0) next rule ks c.requires.rules at by_rule (omega (arith, small, long)) in
    let row = (c.put.ensures.sized (length kids) (length c.args.both.now) c.requires.sized).columns k d l in
    omega (arith, within, row)

pub returns-then-is_held-clause-sized : goal.returns-then-is_held-clause-sized
returns-then-is_held-clause-sized c t =
    let n = length c.args.kids.now in
    let all = length c.args.both.now in
    c.take.ensures.sized n all (c.put.ensures.sized n all c.requires.sized)

pub returns-then-is_held-clause-searching : goal.returns-then-is_held-clause-searching
returns-then-is_held-clause-searching c t =
    let R = Holds c.args.both.now in
    let pairs = c.args.pairs.now in
    let m = c.args.m in
    let kids = c.args.kids.now in
    let rules = c.args.rules.now in
    let list = c.args.list.now in
    let places = c.args.search.now.places.items in
    let next = c.args.search.now.next in
    let sets = c.args.search.now.sets.items in
    let rule = c.index-rules-list.result in
    let j = c.len.result in
    let jis : j ≡ length places = omega (arith, c.len.ensures, c.args.search.now.places.ok.0) in
    let some = c.requires.some in
    let room : j < length list = omega (arith, jis, some) in
    let at : IsAt rules (get_or list j 0) rule = slice_get_read rules (length rules) (get_or list j 0) rule refl (c.requires.list j 0 room) c.index-rules-list.is in
    let ks = c.as_slice-tuple.result.now in
    let by_rule = c.as_slice-tuple.ensures ∙ ap (λ (o : Rule). o.kids) c.rule.view_is in
    let its = ap (tuple_at rules list) (sym jis) ∙ tuple_is rules list j rule at ∙ sym by_rule in
    let size = c.requires.tuples (length places) some in
    let long : length ks ≡ length kids = sym (ap (λ (xs : List ℕ). length xs) its) ∙ size in
    let small = c.if-i-n.false in
    let tat : IsAt ks next (get_or ks next 0) = slice_get-get_or ks next 0 (omega (arith, small, long)) in
    let kat : IsAt kids next (get_or kids next 0) = slice_get-get_or kids next 0 small in
    let fresh = fresh_here R pairs m kids (tuple_at rules list) (length list) next places sets c.requires.searching some ks its small
    (λ h.
    let told = c.is_settled.ensures.1 (subst (λ (o : Matrix). (next ≡ 0) × ((i : ℕ) × (t : ℕ) × IsAt ks i t × Holds o i (m + t))) (sym c.deref.ensures.value) h) in
    let b : true ≡ false = sym told ∙ c.if-is_settled.false in
    cc) in
    let sets2 = c.put.new.sets.items in
    let sized2 = c.put.ensures.sized (length kids) (length c.args.both.now) c.requires.sized in
    let rows2 = sized2.rows in
    let row = c.index.result.now in
    let rat : IsAt sets2 next row = slice_get_read sets2 (length sets2) next row refl (omega (arith, rows2, small)) c.index.ensures in
    step_passes R pairs m kids (tuple_at rules list) (length list) next places sets c.requires.searching some ks its small fresh (get_or kids next 0) kat (get_or ks next 0) tat
    sets2 c.put.ensures.members row rat (c.is_held.ensures.0 c.if-is_held.true) c.take.new.sets.items c.take.ensures.members

pub returns-then-is_held-clause-less : goal.returns-then-is_held-clause-less
returns-then-is_held-clause-less c t =
    let small = c.if-i-n.false in
    work_next (length c.args.kids.now) (length c.args.list.now) c.args.search.now.places.items c.args.search.now.next (omega (arith, small))

pub returns-clause-sized : goal.returns-clause-sized
returns-clause-sized c t = c.put.ensures.sized (length c.args.kids.now) (length c.args.both.now) c.requires.sized

pub returns-clause-searching : goal.returns-clause-searching
returns-clause-searching c t =
    let R = Holds c.args.both.now in
    let pairs = c.args.pairs.now in
    let m = c.args.m in
    let kids = c.args.kids.now in
    let rules = c.args.rules.now in
    let list = c.args.list.now in
    let places = c.args.search.now.places.items in
    let next = c.args.search.now.next in
    let sets = c.args.search.now.sets.items in
    let rule = c.index-rules-list.result in
    let j = c.len.result in
    let jis : j ≡ length places = omega (arith, c.len.ensures, c.args.search.now.places.ok.0) in
    let some = c.requires.some in
    let room : j < length list = omega (arith, jis, some) in
    let at : IsAt rules (get_or list j 0) rule = slice_get_read rules (length rules) (get_or list j 0) rule refl (c.requires.list j 0 room) c.index-rules-list.is in
    let ks = c.as_slice-tuple.result.now in
    let by_rule = c.as_slice-tuple.ensures ∙ ap (λ (o : Rule). o.kids) c.rule.view_is in
    let its = ap (tuple_at rules list) (sym jis) ∙ tuple_is rules list j rule at ∙ sym by_rule in
    let size = c.requires.tuples (length places) some in
    let long : length ks ≡ length kids = sym (ap (λ (xs : List ℕ). length xs) its) ∙ size in
    let small = c.if-i-n.false in
    let tat : IsAt ks next (get_or ks next 0) = slice_get-get_or ks next 0 (omega (arith, small, long)) in
    let kat : IsAt kids next (get_or kids next 0) = slice_get-get_or kids next 0 small in
    let fresh = fresh_here R pairs m kids (tuple_at rules list) (length list) next places sets c.requires.searching some ks its small
    (λ h.
    let told = c.is_settled.ensures.1 (subst (λ (o : Matrix). (next ≡ 0) × ((i : ℕ) × (t : ℕ) × IsAt ks i t × Holds o i (m + t))) (sym c.deref.ensures.value) h) in
    let b : true ≡ false = sym told ∙ c.if-is_settled.false in
    cc) in
    let sets2 = c.put.new.sets.items in
    let sized2 = c.put.ensures.sized (length kids) (length c.args.both.now) c.requires.sized in
    let rows2 = sized2.rows in
    let row = c.index.result.now in
    let rat : IsAt sets2 next row = slice_get_read sets2 (length sets2) next row refl (omega (arith, rows2, small)) c.index.ensures in
    subst (λ (ps : List ℕ). IsSearching (Covers R pairs m kids) (tuple_at rules list) (length list) (length kids) m ps 0 sets2) (sym c.in_ok-push-2.ensures.items)
    (step_sends R pairs m kids (tuple_at rules list) (length list) next places sets c.requires.searching some ks its small fresh (get_or kids next 0) kat (get_or ks next 0) tat
    sets2 c.put.ensures.members row rat
    (λ h. let b : true ≡ false = sym (c.is_held.ensures.1 h) ∙ c.if-is_held.false in cc))

pub returns-clause-less : goal.returns-clause-less
returns-clause-less c t =
    let n = length c.args.kids.now in
    let count = length c.args.list.now in
    let places = c.args.search.now.places.items in
    let next = c.args.search.now.next in
    let small = c.if-i-n.false in
    subst (λ (ps : List ℕ). work_left n count ps 0 < work_left n count places next) (sym c.in_ok-push-2.ensures.items)
    (work_sent n count places next next c.requires.some (omega arith) (omega (arith, small)))
