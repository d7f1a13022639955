use Rattle.std.proofs.Common.{◌≡◌, ◌∙◌, ◌≤◌, ◌-◌, ℕ, suc, arith, [], ◌∷◌, ap, sym}
use Rattle.std.specs.Prelude.{slice_get}
use Rattle.lits.specs.declared.literal.Lit.{Lit}
use Rattle.lits.specs.Same.{opposite}
use Rattle.netlist.specs.Miter.{positive, kept, gate_clauses}
use Rattle.netlist.specs.Short.{kept_clause}
use Rattle.netlist.proofs.AxiomLemmas.{gate-clause_2, gate-clause_past}
use Rattle.netlist.proofs.axioms.gate_axiom.Goals as goal

pub returns-in-2 : goal.returns-in-2
returns-in-2 c =
    c.of_three.ensures
    ∙ ap (λ (p : Lit). kept_clause (p ∷ c.not.result ∷ c.not-in-2.result ∷ [])) c.positive.ensures
    ∙ ap (λ (l : Lit). kept_clause (positive c.args.gate.node ∷ l ∷ c.not-in-2.result ∷ [])) c.not.ensures
    ∙ ap (λ (r : Lit). kept_clause (positive c.args.gate.node ∷ opposite c.args.gate.left ∷ r ∷ [])) c.not-in-2.ensures
    ∙ sym (gate-clause_2 c.args.gate c.requires)
    ∙ ap (λ (k : ℕ). slice_get (kept (gate_clauses c.args.gate)) k) (sym c.in-2.is)

pub returns-in_default : goal.returns-in_default
returns-in_default c =
    let past : 3 ≤ c.args.k = omega arith in
    let same : suc (suc (suc (c.args.k - 3))) ≡ c.args.k = omega arith in
    sym (ap (λ (k : ℕ). slice_get (kept (gate_clauses c.args.gate)) k) (sym same)
    ∙ gate-clause_past c.args.gate c.requires (c.args.k - 3))
