-- A gate that stays is found in the table.
use Rattle.std.proofs.Common.{◌≡◌, ◌∙◌, ◌+◌, ℕ, Some, sym, ap, subst, arith}
use Rattle.std.specs.Prelude.{is_some}
use Rattle.std.proofs.lemmas.Option.{same_Some}
use Rattle.lits.specs.declared.node.Node.TheVariants.{Gate}
use Rattle.fraig_write.specs.Reduced.{new_variable}
use Rattle.fraig_write.specs.Renumbering.{HasNumber, Numbering}
use Rattle.fraig_write.proofs.NumberLemmas.{gate-number}
use Rattle.fraig_write.proofs.renumbering.Renumbering.variable.Goals as goal

pub unwrap-requires : goal.unwrap-requires
unwrap-requires c =
    let r = gate-number (record { inputs = c.self.inside.inputs; staying = c.self.inside.staying.items }) c.self.inside.table c.self.invariant c.in-Gate.field-0 c.in-Gate.var
    (subst (λ (n : Numbering). HasNumber n (Gate c.in-Gate.field-0 c.in-Gate.var)) (sym c.self.view_is) (subst (HasNumber c.args.self.now) c.in-Gate.is c.requires)) in
    ap is_some (c.place.ensures ∙ r.1)

pub overflow_add-result-in-Gate : goal.overflow_add-result-in-Gate
overflow_add-result-in-Gate c =
    let r = gate-number (record { inputs = c.self.inside.inputs; staying = c.self.inside.staying.items }) c.self.inside.table c.self.invariant c.in-Gate.field-0 c.in-Gate.var
    (subst (λ (n : Numbering). HasNumber n (Gate c.in-Gate.field-0 c.in-Gate.var)) (sym c.self.view_is) (subst (HasNumber c.args.self.now) c.in-Gate.is c.requires)) in
    let found : c.place.result ≡ Some c.unwrap.result = cc c.unwrap.ensures in
    let same : c.unwrap.result ≡ r.0 + 1 = same_Some c.unwrap.result (r.0 + 1) (sym found ∙ c.place.ensures ∙ r.1) in
    omega (arith, same, r.3, c.self.invariant.few)

pub returns-in-Gate-clause-variable : goal.returns-in-Gate-clause-variable
returns-in-Gate-clause-variable c =
    let r = gate-number (record { inputs = c.self.inside.inputs; staying = c.self.inside.staying.items }) c.self.inside.table c.self.invariant c.in-Gate.field-0 c.in-Gate.var
    (subst (λ (n : Numbering). HasNumber n (Gate c.in-Gate.field-0 c.in-Gate.var)) (sym c.self.view_is) (subst (HasNumber c.args.self.now) c.in-Gate.is c.requires)) in
    let found : c.place.result ≡ Some c.unwrap.result = cc c.unwrap.ensures in
    let same : c.unwrap.result ≡ r.0 + 1 = same_Some c.unwrap.result (r.0 + 1) (sym found ∙ c.place.ensures ∙ r.1) in
    ap (λ (k : ℕ). c.self.inside.inputs + k) same ∙ sym r.2
    ∙ ap (λ (n : Numbering). new_variable n.inputs n.staying (Gate c.in-Gate.field-0 c.in-Gate.var)) c.self.view_is
    ∙ ap (new_variable c.args.self.now.inputs c.args.self.now.staying) (sym c.in-Gate.is)

pub returns-in-Gate-clause-few : goal.returns-in-Gate-clause-few
returns-in-Gate-clause-few c =
    let r = gate-number (record { inputs = c.self.inside.inputs; staying = c.self.inside.staying.items }) c.self.inside.table c.self.invariant c.in-Gate.field-0 c.in-Gate.var
    (subst (λ (n : Numbering). HasNumber n (Gate c.in-Gate.field-0 c.in-Gate.var)) (sym c.self.view_is) (subst (HasNumber c.args.self.now) c.in-Gate.is c.requires)) in
    let found : c.place.result ≡ Some c.unwrap.result = cc c.unwrap.ensures in
    let same : c.unwrap.result ≡ r.0 + 1 = same_Some c.unwrap.result (r.0 + 1) (sym found ∙ c.place.ensures ∙ r.1) in
    omega (arith, same, r.3, c.self.invariant.few)
