use Rattle.std.proofs.Common.{◌<◌, ◌≤◌, length, ap, ◌∙◌, sym, subst, List, ℕ, arith}
use Rattle.std.specs.List.{slice_range}
use Rattle.tree_definitions.specs.Relation.{IsAt}
use Rattle.word_table.specs.Words.{start_of}
use Rattle.word_table.proofs.Ends.{ends_as_words, read_within, word_read}
use Rattle.word_table.proofs.words.Words.word.Goals as goal
use Rattle.word_table.proofs.words.Words.word.Goals.{After-deref-2}

pub start_of-start-requires : goal.start_of-start-requires
start_of-start-requires c =
    omega (arith, c.deref.ensures.len, c.self.inside.ends.ok.0, ends_as_words c.self.inside.bytes.items c.self.inside.ends.items c.args.self.now c.self.view_is)

pub index-end-requires : goal.index-end-requires
index-end-requires c =
    omega (arith, c.self.inside.ends.ok.0, ends_as_words c.self.inside.bytes.items c.self.inside.ends.items c.args.self.now c.self.view_is)

within : (c : After-deref-2) → (c.start_of-start.result ≤ c.index-end.result.now) × (c.index-end.result.now ≤ length c.self.inside.bytes.items)
within c =
    let l : c.args.place < length c.self.inside.ends.items =
    omega (arith, ends_as_words c.self.inside.bytes.items c.self.inside.ends.items c.args.self.now c.self.view_is) in
    read_within c.self.inside.bytes.items c.self.inside.ends.items c.args.place c.start_of-start.result c.index-end.result.now c.self.invariant l
    (c.start_of-start.ensures ∙ ap (λ (ends : List ℕ). start_of 0 ends c.args.place) c.deref.ensures.value) c.index-end.ensures

pub slice_bounds-result-count : goal.slice_bounds-result-count
slice_bounds-result-count c = (within c).0

pub slice_bounds-result-start : goal.slice_bounds-result-start
slice_bounds-result-start c = (within c).0

pub slice_bounds-result-end : goal.slice_bounds-result-end
slice_bounds-result-end c = subst (λ (bytes : List ℕ). c.index-end.result.now ≤ length bytes) (sym c.deref-2.ensures.value) (within c).1

pub returns : goal.returns
returns c =
    let l : c.args.place < length c.self.inside.ends.items =
    omega (arith, ends_as_words c.self.inside.bytes.items c.self.inside.ends.items c.args.self.now c.self.view_is) in
    subst (λ (bytes : List ℕ). IsAt c.args.self.now c.args.place (slice_range bytes c.start_of-start.result c.index-end.result.now)) (sym c.deref-2.ensures.value)
    (word_read c.self.inside.bytes.items c.self.inside.ends.items c.args.self.now c.args.place c.start_of-start.result c.index-end.result.now c.self.view_is l
    (c.start_of-start.ensures ∙ ap (λ (ends : List ℕ). start_of 0 ends c.args.place) c.deref.ensures.value) c.index-end.ensures)
