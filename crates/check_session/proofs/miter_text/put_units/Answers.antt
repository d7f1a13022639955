use Rattle.std.proofs.Common.{◌≡◌, ◌<◌, ◌≤◌, ◌++◌, ◌∷◌, [], List, ℕ, length, get_or, ap, sym, ◌∙◌, subst, arith}
use Rattle.std.proofs.lemmas.Result.{err_from_is_err_and}
use Rattle.std.proofs.lemmas.Option.{slice_get_within, get_or_from_slice_get}
use Rattle.std.specs.Prelude.{Option, Some, IsSome, refl}
use Rattle.lits.specs.declared.literal.Lit.{Lit}
use Rattle.netlist.specs.Circuit.{Aig}
use Rattle.netlist.specs.Net.{bound_of, bounds_on, circuit_of}
use Rattle.netlist.specs.Miter.{unit}
use Rattle.netlist.proofs.Facts.{bound-below, bound-there, has-variable, is_circuit, length-bounds}
use Rattle.check_session.specs.MiterText.{line_of}
use Rattle.desk_port.specs.Pieces.{Moves, StopsInPieces}
use Rattle.desk_port.proofs.Facts.{taken-none, taken-more, taken-all, taken-stops}
use Rattle.check_session.proofs.miter_text.put_units.Goals as goal

pub loop-k-init : goal.loop-k-init
loop-k-init g c = taken-none c.args.text.now (g.D.Desk.state c.args.desk.now) (g.D.Desk.sizes c.args.desk.now)

pub overflow_cast-count : goal.overflow_cast-count
overflow_cast-count g c =
    let size : length c.constraints.result.now ≡ length (circuit_of c.args.net.now c.args.side).constraints =
    ap (λ (lits : List ℕ). length lits) (c.constraints.ensures.constraints ∙ ap (λ (circuit : Aig). circuit.constraints) c.circuit.ensures.circuit) in
    omega (arith, size, (is_circuit c.args.net.now c.circuit.ensures.net c.args.side).constraint_count)

pub unwrap-lit-requires : goal.unwrap-lit-requires
unwrap-lit-requires g c =
    let size : length c.constraints.result.now ≡ length (circuit_of c.args.net.now c.args.side).constraints =
    ap (λ (lits : List ℕ). length lits) (c.constraints.ensures.constraints ∙ ap (λ (circuit : Aig). circuit.constraints) c.circuit.ensures.circuit) in
    let there = bound-below c.args.net.now c.args.side c.loop-k.k (omega (arith, size, c.loop-k-test.true)) in
    subst (λ (o : Option Lit). IsSome o) (sym (c.constraint.ensures ∙ there)) refl

pub put_clause-requires-clause-there : goal.put_clause-requires-clause-there
put_clause-requires-clause-there g c =
    let at : bound_of c.args.net.now c.args.side c.loop-k.k ≡ Some c.unwrap-lit.result = sym c.constraint.ensures ∙ c.unwrap-lit.ensures in (
      has-variable c.args.net.now c.unwrap-lit.result.node
          (bound-there c.args.net.now c.requires.net c.args.side c.loop-k.k c.unwrap-lit.result at),
      tt,
    )

pub loop-k-preserved : goal.loop-k-preserved
loop-k-preserved g c =
    let within : c.loop-k.k < length (bounds_on c.args.net.now c.args.side) = slice_get_within (bounds_on c.args.net.now c.args.side) c.loop-k.k c.unwrap-lit.result (sym c.constraint.ensures ∙ c.unwrap-lit.ensures) in
    let is : c.unwrap-lit.result ≡ get_or (bounds_on c.args.net.now c.args.side) c.loop-k.k (c.unwrap-lit.result) = sym (get_or_from_slice_get (bounds_on c.args.net.now c.args.side) c.loop-k.k c.unwrap-lit.result c.unwrap-lit.result (sym c.constraint.ensures ∙ c.unwrap-lit.ensures)) in
    taken-more (λ lit. line_of c.args.net.now (unit lit)) (bounds_on c.args.net.now c.args.side) c.loop-k.k c.args.text.now c.loop-k.text
    (g.D.Desk.state c.args.desk.now) (g.D.Desk.state c.loop-k.desk) (g.D.Desk.sizes c.args.desk.now) (g.D.Desk.sizes c.loop-k.desk)
    c.loop-k.invariant
    (c.unwrap-lit.result) c.put_clause.new.text (g.D.Desk.state c.put_clause.new.desk) (g.D.Desk.sizes c.put_clause.new.desk)
    within is
    c.in_ok-put_clause.ensures.takes c.in_ok-put_clause.ensures.started

pub returns-in_err-put_clause-clause-takes : goal.returns-in_err-put_clause-clause-takes
returns-in_err-put_clause-clause-takes g c =
    let p = err_from_is_err_and c.from_residual.result c.from_residual.ensures.1 in
    let within : c.loop-k.k < length (bounds_on c.args.net.now c.args.side) = slice_get_within (bounds_on c.args.net.now c.args.side) c.loop-k.k c.unwrap-lit.result (sym c.constraint.ensures ∙ c.unwrap-lit.ensures) in
    let is : c.unwrap-lit.result ≡ get_or (bounds_on c.args.net.now c.args.side) c.loop-k.k (c.unwrap-lit.result) = sym (get_or_from_slice_get (bounds_on c.args.net.now c.args.side) c.loop-k.k c.unwrap-lit.result c.unwrap-lit.result (sym c.constraint.ensures ∙ c.unwrap-lit.ensures)) in
    rw (p.1, p.2)
    (taken-stops (λ lit. line_of c.args.net.now (unit lit)) (bounds_on c.args.net.now c.args.side) c.loop-k.k c.args.text.now c.loop-k.text
    (g.D.Desk.state c.args.desk.now) (g.D.Desk.state c.loop-k.desk) (g.D.Desk.sizes c.args.desk.now) (g.D.Desk.sizes c.loop-k.desk)
    c.loop-k.invariant
    (c.unwrap-lit.result) c.put_clause.new.text (g.D.Desk.state c.put_clause.new.desk) (g.D.Desk.sizes c.put_clause.new.desk)
    within is c.in_err-put_clause.field-0.0
    c.in_err-put_clause.ensures.takes)

pub returns-clause-takes : goal.returns-clause-takes
returns-clause-takes g c =
    let size : length c.constraints.result.now ≡ length (circuit_of c.args.net.now c.args.side).constraints =
    ap (λ (lits : List ℕ). length lits) (c.constraints.ensures.constraints ∙ ap (λ (circuit : Aig). circuit.constraints) c.circuit.ensures.circuit) in
    taken-all (λ lit. line_of c.args.net.now (unit lit)) (bounds_on c.args.net.now c.args.side) c.loop-k.k c.args.text.now c.loop-k.text
    (g.D.Desk.state c.args.desk.now) (g.D.Desk.state c.loop-k.desk) (g.D.Desk.sizes c.args.desk.now) (g.D.Desk.sizes c.loop-k.desk)
    c.loop-k.invariant
    (omega (arith, size, length-bounds c.args.net.now c.args.side, c.loop-k-test.false))
