use Rattle.std.proofs.Common.{ℕ, List, length, sym, subst, arith}
use Rattle.tree_definitions.specs.Relation.{Holds}
use Rattle.down_conditions.specs.Choosing.{AreSized, Covers, IsSearching, tuple_at}
use Rattle.down_conditions.proofs.Stepping.{covers_grows}
use Rattle.down_conditions.proofs.Steps.{search_done, search_start}
use Rattle.down_conditions.proofs.search.can_miss.Goals as goal

pub loop-search-init : goal.loop-search-init
loop-search-init c =
    let R = Holds c.args.both.now in
    let pairs = c.args.pairs.now in
    let m = c.args.m in
    let kids = c.args.kids.now in
    let tuple = tuple_at c.args.rules.now c.args.list.now in
    let count = length c.args.list.now in
    let sets = c.in_ok-sets.sets.items in
    record {
      sized = subst (λ n. AreSized (length kids) n sets) c.size.ensures.value c.in_ok-sets.ensures.sized;
      searching = subst (λ (ps : List ℕ). IsSearching (Covers R pairs m kids) tuple count (length kids) m ps 0 sets) (sym c.new.ensures.items)
          (search_start (Covers R pairs m kids) (covers_grows R pairs m kids) tuple count (length kids) m sets c.in_ok-sets.ensures.empty c.requires.none);
    }

pub returns-clause-misses : goal.returns-clause-misses
returns-clause-misses c t =
    let R = Holds c.args.both.now in
    let pairs = c.args.pairs.now in
    let m = c.args.m in
    let kids = c.args.kids.now in
    let tuple = tuple_at c.args.rules.now c.args.list.now in
    let count = length c.args.list.now in
    search_done (Covers R pairs m kids) (covers_grows R pairs m kids) tuple count (length kids) m c.loop-search.search.places.items c.loop-search.search.next c.loop-search.search.sets.items
    c.loop-search.invariant.searching (omega (arith, c.loop-search-test.false, c.len.ensures, c.loop-search.search.places.ok.0))
