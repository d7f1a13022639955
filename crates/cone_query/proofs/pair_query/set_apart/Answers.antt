-- All other inputs are false, and the gate keeps its value whatever this one is.
use Rattle.std.proofs.Common.{ℕ, Bool, false, List, replicate, length, ap, sym, ◌∙◌, subst}
use Rattle.std.proofs.lemmas.List.{length-replicate}
use Rattle.netlist.specs.Circuit.{Aig}
use Rattle.netlist.specs.Net.{value_of}
use Rattle.cone_query.specs.Input.{with_input, IsBelow}
use Rattle.cone_query.proofs.InputLemmas.{there-below}
use Rattle.cone_query.proofs.PairLemmas.{pair-there}
use Rattle.cone_query.proofs.SetLemmas.{set-settles, set-alone}
use Rattle.cone_query.proofs.pair_query.set_apart.Goals as goal

pub returns-clause-settles : goal.returns-clause-settles
returns-clause-settles c =
    set-settles c.args.net.now c.args.seen.now c.args.task.now c.requires.pair c.requires.gate c.requires.unnamed
    c.in_ok-value.value c.in_ok-input.input.items c.of.result
    (c.in_ok-input.ensures.items_if_clones_equal (λ y e. e)
    ∙ ap (λ (n : ℕ). replicate n false) (ap length c.inputs.ensures.inputs ∙ ap (λ (a : Aig). length a.inputs) c.circuit.ensures.circuit))
    (c.in_ok-value.ensures ∙ ap (λ (l : List Bool). value_of c.args.net.now l c.args.task.now.node) c.as_slice.ensures.value)
    (c.of.ensures ∙ (c.set.ensures ∙ ap (λ (b : Bool). with_input c.args.task.now.lit.node b c.in_ok-input.input.items) c.other_value-other.ensures))

pub returns-clause-alone : goal.returns-clause-alone
returns-clause-alone c =
    set-alone c.args.net.now c.args.seen.now c.args.task.now c.requires.pair c.requires.gate c.requires.unnamed
    c.in_ok-value.value c.in_ok-input.input.items c.of.result
    (c.in_ok-input.ensures.items_if_clones_equal (λ y e. e)
    ∙ ap (λ (n : ℕ). replicate n false) (ap length c.inputs.ensures.inputs ∙ ap (λ (a : Aig). length a.inputs) c.circuit.ensures.circuit))
    (c.in_ok-value.ensures ∙ ap (λ (l : List Bool). value_of c.args.net.now l c.args.task.now.node) c.as_slice.ensures.value)
    (c.of.ensures ∙ (c.set.ensures ∙ ap (λ (b : Bool). with_input c.args.task.now.lit.node b c.in_ok-input.input.items) c.other_value-other.ensures))

pub set-requires : goal.set-requires
set-requires c =
    subst (λ (n : ℕ). IsBelow n c.args.task.now.lit.node)
    (sym (ap length (c.in_ok-input.ensures.items_if_clones_equal (λ y e. e))
    ∙ (length-replicate (length c.inputs.result.now) false
    ∙ (ap length c.inputs.ensures.inputs ∙ ap (λ (a : Aig). length a.inputs) c.circuit.ensures.circuit))))
    (there-below c.args.net.now c.args.task.now.lit.node (pair-there c.args.net.now c.args.seen.now c.args.task.now c.requires.pair).1.0)
