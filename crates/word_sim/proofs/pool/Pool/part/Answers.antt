use Rattle.std.proofs.Common.{◌≡◌, ◌∙◌, ◌+◌, ◌*◌, ℕ, length, sym, ap, subst}
use native.Mathlib.Omega.{arith}
use Rattle.word_sim.specs.Patterns.{Patterns, words_of}
use Rattle.word_sim.specs.Storage.{AreBlocks, IsClear}
use Rattle.word_sim.proofs.PartLemmas.{IsWhole, all-whole, part-clear, part-end, part-is, part-size}
use Rattle.word_sim.proofs.PoolLemmas.{patterns-count}
use Rattle.word_sim.proofs.pool.Pool.part.Goals as goal

pub invariant_of-result : goal.invariant_of-result
invariant_of-result c =
    let i = c.self.inside in
    let pool = c.args.self.now in
    let same : i.inputs ≡ c.args.self.now.inputs = ap (λ (p : Patterns). p.inputs) c.self.view_is in
    let from = c.in-Ok-Ok.from in
    let n = c.in-Ok-Ok.added_count in
    let ends = part-end c.args.self.now c.in-Ok-Ok.from c.args.words c.in-Ok-Ok.added_count c.end.result
    (omega (arith, c.end.ensures, c.in-Ok-Ok.ensures.1)) (omega (arith, c.in-Ok-Ok.ensures.1, c.in-Ok-Ok.ensures'.1))
    (omega (arith, c.in-Ok-Ok.ensures.1, c.requires.seen)) in
    let rest : AreBlocks c.args.self.now c.in-Ok-Ok.from (words_of c.in-Ok-Ok.added_count) c.in_ok-blocks-2.field-0.items =
    subst (λ (k : ℕ). AreBlocks pool c.in-Ok-Ok.from k c.in_ok-blocks-2.field-0.items) (omega (arith, c.div_ceil.ensures)) c.in_ok-blocks-2.ensures in (
      omega (arith, c.in_ok-blocks.ensures.size, same),
      part-size c.args.self.now c.in-Ok-Ok.from c.in-Ok-Ok.added_count i.inputs c.in_ok-blocks-2.field-0.items same rest,
      omega arith,
      omega arith,
      omega (arith, c.in-Ok-Ok.ensures'.0),
      subst (λ (k : ℕ). IsClear k c.in-Ok-Ok.added_count c.in_ok-blocks-2.field-0.items) (sym same)
          (part-clear c.args.self.now c.in-Ok-Ok.from c.in-Ok-Ok.added_count c.in_ok-blocks-2.field-0.items rest ends.1),
    )

pub returns : goal.returns
returns c =
    let i = c.self.inside in
    let pool = c.args.self.now in
    let count = patterns-count i.inputs i.drawn_words i.drawn.items i.added_count i.added.items in
    let size : length c.args.self.now.patterns ≡ 64 * i.drawn_words + i.added_count =
    sym (ap (λ (p : Patterns). length p.patterns) c.self.view_is) ∙ count in
    let whole : IsWhole c.args.self.now =
    subst IsWhole c.self.view_is
    (λ k below. all-whole i.inputs i.drawn_words i.drawn.items i.added_count i.added.items k (omega (arith, below, count))) in
    let ends = part-end c.args.self.now c.in-Ok-Ok.from c.args.words c.in-Ok-Ok.added_count c.end.result
    (omega (arith, c.end.ensures, c.in-Ok-Ok.ensures.1)) (omega (arith, c.in-Ok-Ok.ensures.1, c.in-Ok-Ok.ensures'.1))
    (omega (arith, c.in-Ok-Ok.ensures.1, c.requires.seen)) in
    part-is c.args.self.now whole c.args.seen c.args.words i.inputs c.in-Ok-Ok.from c.in-Ok-Ok.added_count c.in_ok-blocks.field-0.items
    c.in_ok-blocks-2.field-0.items (ap (λ (p : Patterns). p.inputs) c.self.view_is) (omega (arith, size, c.self.invariant.2)) c.in-Ok-Ok.ensures.1 ends.0
    c.in_ok-blocks.ensures
    (subst (λ (k : ℕ). AreBlocks pool c.in-Ok-Ok.from k c.in_ok-blocks-2.field-0.items) (omega (arith, c.div_ceil.ensures)) c.in_ok-blocks-2.ensures)
