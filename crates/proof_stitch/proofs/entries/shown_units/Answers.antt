use Rattle.std.proofs.Common.{◌≡◌, ◌-◌, ◌++◌, ◌∷◌, [], List, ℕ, length, if◌then◌else◌, arith, refl, subst}
use Rattle.lemma_book.specs.Entry.{has_out}
use Rattle.proof_stitch.specs.Derivation.{shown_units}
use Rattle.proof_stitch.specs.Stitch.{unit_id, unit_in}
use Rattle.proof_stitch.proofs.WriterLemmas.{some-done, some-next}
use Rattle.proof_stitch.proofs.entries.shown_units.Goals as goal

pub loop-output-init : goal.loop-output-init
loop-output-init c =
    let whole : c.outputs-output-end.result - 0 ≡ length c.args.net.now.a.outputs = omega (arith, c.outputs-output-end.ensures.count) in
    rw (c.new-units.ensures.items, whole) refl

pub loop-output-preserved : goal.loop-output-preserved
loop-output-preserved c =
    let entries = c.args.book.now.entries in
    let j = c.loop-output.output in
    let units : c.push_shown.new.units.items
    ≡ c.loop-output.units.items ++ (if has_out entries j then unit_id c.args.net.now entries j ∷ [] else []) =
    subst (λ (l : List ℕ). c.push_shown.new.units.items ≡ c.loop-output.units.items
    ++ (if has_out c.args.book.now.entries c.loop-output.output then unit_in l c.args.book.now.entries c.loop-output.output ∷ [] else [])) c.requires
    c.in_ok-push_shown.ensures in
    some-next (has_out entries) (unit_id c.args.net.now entries) (shown_units c.args.net.now entries) c.loop-output.units.items
    c.push_shown.new.units.items j c.outputs-output-end.result c.loop-output-test.true units c.loop-output.invariant

pub returns : goal.returns
returns c =
    some-done (has_out c.args.book.now.entries) (unit_id c.args.net.now c.args.book.now.entries) (shown_units c.args.net.now c.args.book.now.entries)
    c.loop-output.units.items c.loop-output.output c.outputs-output-end.result c.loop-output-test.false c.loop-output.invariant
