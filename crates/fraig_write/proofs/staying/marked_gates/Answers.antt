-- One gate more.
use Rattle.std.proofs.Common.{◌∙◌, List, [], ◌∷◌, ◌++◌, Bool, get_or, take, sym, ap, if◌then◌else◌}
use Rattle.std.specs.Prelude.{filter}
use Rattle.std.proofs.lemmas.List.{take_more}
use Rattle.lits.specs.declared.node.Side.TheVariants.{A}
use Rattle.lits.specs.declared.node.Node.TheVariants.{Gate}
use Rattle.netlist.specs.declared.gate.And.{And}
use Rattle.fraig_write.specs.Marks.{is_marked}
use Rattle.fraig_write.proofs.FilterLemmas.{filter-put}
use Rattle.fraig_write.proofs.staying.marked_gates.Goals as goal

abbrev marked_in : (And → Bool) → And → List And
marked_in keep g = if keep g then g ∷ [] else []

pub loop-gate-preserved : goal.loop-gate-preserved
loop-gate-preserved c =
    let keep : And → Bool = λ (g : And). is_marked c.args.net.now c.args.marks.now (Gate A g.var) in
    let i = c.loop-gate.gate-index in
    let first = take i c.args.gates.now in
    let none : And = record { var = 0; left = 0; right = 0 } in
    let g = get_or c.args.gates.now i none in
    c.in_ok-put_marked.ensures
    ∙ ap (λ (l : List And). l ++ marked_in keep g) c.loop-gate.invariant
    ∙ sym (filter-put keep first g)
    ∙ ap (filter keep) (sym (take_more c.args.gates.now i none c.loop-gate-test.true))
