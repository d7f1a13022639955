-- The next gate of a side is the next one of all.
use Rattle.std.proofs.Common.{◌≡◌, ◌∙◌, ◌<◌, ℕ, List, Some, ap, sym, get_or, length, arith}
use Rattle.std.specs.Prelude.{slice_get}
use Rattle.std.proofs.lemmas.Option.{slice_get-get_or}
use Rattle.netlist.specs.declared.gate.And.{And}
use Rattle.netlist.specs.Circuit.{Aig}
use Rattle.strash_pass.proofs.AddsLemmas.{adds-more, adds-none, adds-to, stops}
use Rattle.strash_pass.proofs.PassLemmas.{side-gate, side-defined}
use Rattle.strash_pass.proofs.pass.visit_side.Goals as goal

no_gate : And
no_gate = record { var = 0; left = 0; right = 0 }

-- gate j of a list that is that of a circuit
gate-at : (items : List And) (made want : Aig) (j : ℕ) (d : And) → items ≡ made.gates → made ≡ want → j < length items → slice_get want.gates j ≡ Some (get_or items j d)
gate-at items made want j d e f below =
    ap (λ (l : List And). slice_get l j) (sym (e ∙ ap (λ (c : Aig). c.gates) f)) ∙ slice_get-get_or items j d below

count-items : (items : List And) (made want : Aig) → items ≡ made.gates → made ≡ want → length items ≡ length want.gates
count-items items made want e f = ap length (e ∙ ap (λ (c : Aig). c.gates) f)

pub visit-requires-clause-gate : goal.visit-requires-clause-gate
unfolding no_gate
visit-requires-clause-gate c =
    side-gate c.args.net.now c.requires.net c.loop-gate.gate-index (get_or c.gates-gate-items.result.now c.loop-gate.gate-index no_gate) c.args.side
    (gate-at _ _ _ _ no_gate c.gates-gate-items.ensures.gates c.circuit.ensures.circuit c.loop-gate-test.true) c.in-Some.definition
    (sym c.definition.ensures ∙ c.in-Some.is) c.loop-gate.pass.visited c.loop-gate.invariant.visited

pub unreachable-requires : goal.unreachable-requires
unfolding no_gate
unreachable-requires c =
    side-defined c.args.net.now c.requires.net c.loop-gate.gate-index (get_or c.gates-gate-items.result.now c.loop-gate.gate-index no_gate) c.args.side
    (gate-at _ _ _ _ no_gate c.gates-gate-items.ensures.gates c.circuit.ensures.circuit c.loop-gate-test.true) (sym c.definition.ensures ∙ c.in-None.is)

pub loop-gate-init : goal.loop-gate-init
loop-gate-init c = record { legal = c.requires.legal; grows = adds-none _ _ _ _ (omega (arith, c.requires.visited)); pass = c.requires.pass; merged = c.requires.merged; visited = omega (arith, c.requires.visited) }

pub loop-gate-preserved : goal.loop-gate-preserved
loop-gate-preserved c = record {
  legal = c.visit.ensures.legal;
  grows = adds-to _ _ _ _ _ _ (omega (arith, c.in_ok-visit-in-Some.ensures.visited))
      (adds-more _ _ _ _ _ _ _ c.loop-gate.invariant.grows c.visit.ensures.grows);
  pass = c.in_ok-visit-in-Some.ensures.pass;
  merged = c.in_ok-visit-in-Some.ensures.merged;
  visited = omega (arith, c.loop-gate.invariant.visited, c.in_ok-visit-in-Some.ensures.visited);
}

pub returns-in_err-visit-in-Some-clause-grows : goal.returns-in_err-visit-in-Some-clause-grows
returns-in_err-visit-in-Some-clause-grows c =
    adds-to _ _ _ _ _ _
    (omega (arith, c.loop-gate.invariant.visited, c.loop-gate-test.true, count-items _ _ _ c.gates-gate-items.ensures.gates c.circuit.ensures.circuit))
    (adds-more _ _ _ _ _ _ _ c.loop-gate.invariant.grows c.visit.ensures.grows)

pub returns-in_err-visit-in-Some-clause-stopped : goal.returns-in_err-visit-in-Some-clause-stopped
returns-in_err-visit-in-Some-clause-stopped c =
    stops _ _ _ _ c.loop-gate.book c.visit.new.book c.from_residual.result c.in_err-visit-in-Some.ensures.err c.loop-gate.invariant.grows c.loop-gate.invariant.pass.plain
