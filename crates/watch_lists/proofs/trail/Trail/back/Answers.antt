use Rattle.std.proofs.Common.{◌≡◌, ◌<◌, ◌≤◌, List, ℕ, sym, ap, ◌∙◌, length, take, arith}
use Rattle.std.proofs.lemmas.List.{length-take-le}
use Rattle.watch_lists.specs.State.{level_at, no_level}
use Rattle.watch_lists.specs.Trail.{back_to}
use Rattle.watch_lists.specs.Whole.{state_of}
use Rattle.watch_lists.specs.declared.put.Put.{Put}
use Rattle.watch_lists.proofs.TrailLemmas.{starts-most}
use Rattle.watch_lists.proofs.PutsLemmas.{whole-cut, whole-room, state-cut, state-kept}
use Rattle.watch_lists.proofs.trail.Trail.back.Goals as goal

pub invariant_of-self : goal.invariant_of-self
invariant_of-self c =
    let e = c.self.inside.engine in
    let count = c.args.level in
    let within : count < length e.levels.items = omega (arith, c.if-count-len.true, c.len.ensures, e.levels.ok.0) in
    let start = (level_at e.levels.items count).start in
    let most : start ≤ length e.trail.items = starts-most c.self.invariant.engine.trail count no_level within in
    let size : c.len-then-count-len.result ≡ start = c.len-then-count-len.ensures ∙ (c.back.new.self.trail.ok.0 ∙ (ap length c.back.ensures.cut.trail ∙ length-take-le start e.trail.items most)) in
    whole-room (whole-cut c.self.invariant c.back.new.self count c.back.ensures.engine c.back.ensures.cut within) c.truncate.new.self.items _
    (c.truncate.ensures.items ∙ ap (λ (n : ℕ). take n c.self.inside.puts.items) size) (omega (arith, c.truncate.ensures.capacity))

pub returns-then-count-len : goal.returns-then-count-len
returns-then-count-len c =
    let e = c.self.inside.engine in
    let count = c.args.level in
    let within : count < length e.levels.items = omega (arith, c.if-count-len.true, c.len.ensures, e.levels.ok.0) in
    let start = (level_at e.levels.items count).start in
    let most : start ≤ length e.trail.items = starts-most c.self.invariant.engine.trail count no_level within in
    let size : c.len-then-count-len.result ≡ start = c.len-then-count-len.ensures ∙ (c.back.new.self.trail.ok.0 ∙ (ap length c.back.ensures.cut.trail ∙ length-take-le start e.trail.items most)) in
    ap (λ (ps : List Put). state_of c.self.inside.numbers c.back.new.self ps) (c.truncate.ensures.items ∙ ap (λ (n : ℕ). take n c.self.inside.puts.items) size)
    ∙ (state-cut c.self.invariant c.back.new.self count c.back.ensures.cut within ∙ ap (back_to count) c.self.view_is)

pub returns-else-count-len : goal.returns-else-count-len
returns-else-count-len c =
    let e = c.self.inside.engine in
    sym c.self.view_is ∙ (state-kept c.self.invariant c.args.level (omega (arith, c.if-count-len.false, c.len.ensures, e.levels.ok.0)) ∙ ap (back_to c.args.level) c.self.view_is)
