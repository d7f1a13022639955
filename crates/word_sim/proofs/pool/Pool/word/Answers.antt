use Rattle.std.proofs.Common.{◌∙◌, ◌+◌, ◌*◌, ◌<◌, ◌&&◌, nat_lt, ap, subst, ℕ, length, sym}
use native.Mathlib.Omega.{arith}
use Rattle.std.proofs.lemmas.Grind.{get_or_default_zero}
use Rattle.word_sim.specs.Patterns.{Patterns, is_set, truth_of, words_of}
use Rattle.word_sim.proofs.PoolLemmas.{added-bits, added-inside, drawn-bits, patterns-count, row-inside}
use Rattle.word_sim.proofs.pool.Pool.word.Goals as goal

pub index-requires-else-word-self : goal.index-requires-else-word-self
index-requires-else-word-self c =
    let i = c.self.inside in
    let there : c.args.input < i.inputs = subst (λ (p : Patterns). c.args.input < p.inputs) (sym c.self.view_is) c.requires.input in
    let count = patterns-count i.inputs i.drawn_words i.drawn.items i.added_count i.added.items in
    let word : c.args.word < words_of (64 * i.drawn_words + i.added_count) =
    subst (λ (n : ℕ). c.args.word < words_of n) count (subst (λ (p : Patterns). c.args.word < words_of (length p.patterns)) (sym c.self.view_is) c.requires.word) in
    omega (arith, i.added.ok.0, added-inside i.inputs i.drawn_words i.drawn.items i.added_count i.added.items c.args.input there c.args.word c.self.invariant.1 c.if-word-self.false word)

pub returns-then-word-self : goal.returns-then-word-self
returns-then-word-self c = λ b within.
    let i = c.self.inside in
    let there : c.args.input < i.inputs = subst (λ (p : Patterns). c.args.input < p.inputs) (sym c.self.view_is) c.requires.input in
    let inside : c.args.input * i.drawn_words + c.args.word < length i.drawn.items =
    omega (arith, c.self.invariant.0, row-inside i.inputs i.drawn_words c.args.input c.args.word there c.if-word-self.true) in
    ap (λ (word : ℕ). is_set word b) (c.index.ensures ∙ get_or_default_zero i.drawn.items _ _ inside)
    ∙ drawn-bits i.inputs i.drawn_words i.drawn.items i.added_count i.added.items c.args.input there c.args.word b c.if-word-self.true within
    ∙ ap (λ (p : Patterns). nat_lt (64 * c.args.word + b) (length p.patterns) && truth_of p.patterns c.args.input (64 * c.args.word + b)) c.self.view_is

pub returns-else-word-self : goal.returns-else-word-self
returns-else-word-self c = λ b within.
    let i = c.self.inside in
    let there : c.args.input < i.inputs = subst (λ (p : Patterns). c.args.input < p.inputs) (sym c.self.view_is) c.requires.input in
    let count = patterns-count i.inputs i.drawn_words i.drawn.items i.added_count i.added.items in
    let word : c.args.word < words_of (64 * i.drawn_words + i.added_count) =
    subst (λ (n : ℕ). c.args.word < words_of n) count (subst (λ (p : Patterns). c.args.word < words_of (length p.patterns)) (sym c.self.view_is) c.requires.word) in
    let inside = added-inside i.inputs i.drawn_words i.drawn.items i.added_count i.added.items c.args.input there c.args.word c.self.invariant.1 c.if-word-self.false word in
    ap (λ (k : ℕ). is_set k b) (c.index-else-word-self.ensures ∙ get_or_default_zero i.added.items _ _ inside)
    ∙ added-bits i.inputs i.drawn_words i.drawn.items i.added_count i.added.items c.args.input there c.args.word b c.self.invariant.5 c.if-word-self.false within
    ∙ ap (λ (p : Patterns). nat_lt (64 * c.args.word + b) (length p.patterns) && truth_of p.patterns c.args.input (64 * c.args.word + b)) c.self.view_is
