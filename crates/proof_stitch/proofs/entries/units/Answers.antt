use Rattle.std.proofs.Common.{◌≡◌, ◌-◌, ◌++◌, ◌∷◌, [], List, ℕ, length, arith, ap, refl, ◌∙◌, map}
use Rattle.std.specs.List.{range_with_len, slice_index_or}
use Rattle.std.specs.Option.{option_map_or}
use Rattle.lemma_book.specs.declared.entry.Subject.TheVariants.{Output}
use Rattle.lemma_book.specs.Entry.{place_on}
use Rattle.proof_stitch.specs.Stitch.{unit_id}
use Rattle.proof_stitch.proofs.WriterLemmas.{units-next, units-done}
use Rattle.proof_stitch.proofs.entries.units.Goals as goal

pub loop-output-init : goal.loop-output-init
loop-output-init c =
    let whole : c.outputs-output-end.result - 0 ≡ length c.args.net.now.a.outputs = omega (arith, c.outputs-output-end.ensures.count) in
    rw (c.new-units.ensures.items, whole) refl

pub loop-output-preserved : goal.loop-output-preserved
loop-output-preserved c =
    let unit : c.unit.result ≡ unit_id c.args.net.now c.args.book.now.entries c.loop-output.output =
    c.unit.ensures
    ∙ ap (λ (l : List ℕ). option_map_or (λ place. slice_index_or l place 0) (place_on c.args.book.now.entries (Output c.loop-output.output)) 0) c.requires in
    let items : c.push.new.self.items ≡ c.loop-output.units.items ++ unit_id c.args.net.now c.args.book.now.entries c.loop-output.output ∷ [] =
    c.in_ok-push.ensures.items ∙ ap (λ (n : ℕ). c.loop-output.units.items ++ n ∷ []) unit in
    rw items
    (units-next (unit_id c.args.net.now c.args.book.now.entries)
    (map (unit_id c.args.net.now c.args.book.now.entries) (range_with_len 0 (length c.args.net.now.a.outputs)))
    c.loop-output.units.items c.loop-output.output c.outputs-output-end.result c.loop-output-test.true c.loop-output.invariant)

pub returns : goal.returns
returns c =
    units-done (unit_id c.args.net.now c.args.book.now.entries)
    (map (unit_id c.args.net.now c.args.book.now.entries) (range_with_len 0 (length c.args.net.now.a.outputs)))
    c.loop-output.units.items c.loop-output.output c.outputs-output-end.result c.loop-output-test.false c.loop-output.invariant
