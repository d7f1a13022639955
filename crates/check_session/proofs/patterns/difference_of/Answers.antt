use Rattle.std.proofs.Common.{List, Bool, ℕ, Option, Some, [], length, arith, ap, sym, subst, ◌∙◌}
use Rattle.std.specs.List.{slice_index_or}
use Rattle.netlist.proofs.Facts.{length-nodes}
use Rattle.check_session.specs.Pool.{HasBitsFor, IsFirstOf, admits, tells_apart}
use Rattle.check_session.proofs.PatternLemmas.{bits-are, find-at, find-none, none-next-output}
use Rattle.check_session.proofs.patterns.difference_of.Goals as goal

pub pattern_at-requires-clause-rows : goal.pattern_at-requires-clause-rows
pattern_at-requires-clause-rows c =
    omega (arith, c.inputs.ensures, c.requires.inputs, c.in_ok-sigs.ensures.count, length-nodes c.args.net.now)

pub loop-output-preserved : goal.loop-output-preserved
loop-output-preserved c =
    let net = c.args.net.now in
    let patterns = c.args.pool.now.patterns in
    let j = c.loop-output.output in
    none-next-output net patterns j c.loop-output.invariant
    (find-none (tells_apart net j) [] patterns
    (subst (λ (o : Option ℕ). IsFirstOf (length patterns) (λ p. tells_apart net j (slice_index_or patterns p [])) o) c.in_default.is
    (c.first_apart.ensures patterns c.in_ok-sigs.ensures (subst (λ (row : List ℕ). HasBitsFor patterns (admits net) row) (sym c.as_slice.ensures.value) (c.in_ok-admitted.ensures.bits patterns c.in_ok-sigs.ensures c.requires.whole)))))

pub returns-in-Some : goal.returns-in-Some
returns-in-Some c =
    let net = c.args.net.now in
    let patterns = c.args.pool.now.patterns in
    let j = c.loop-output.output in
    let place = c.in-Some.place in
    let least = c.in-Some.ensures patterns c.in_ok-sigs.ensures (subst (λ (row : List ℕ). HasBitsFor patterns (admits net) row) (sym c.as_slice.ensures.value) (c.in_ok-admitted.ensures.bits patterns c.in_ok-sigs.ensures c.requires.whole)) in
    let input = c.of-input.ensures
    ∙ bits-are net patterns c.in_ok-sigs.sigs c.in_ok-sigs.ensures c.requires.whole place c.inputs.result least.below
    (c.inputs.ensures ∙ c.requires.inputs) _ c.in_ok-pattern_at.ensures in
    record {
      within = omega (arith, c.loop-output-test.true, c.outputs-output-end.ensures);
      first = find-at (tells_apart net j) [] patterns place least ∙ ap (λ (bits : List Bool). Some bits) (sym input);
      least = c.loop-output.invariant;
    }
