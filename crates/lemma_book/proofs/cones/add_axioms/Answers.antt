-- The walk through a node's clauses comes to each by its place.
use Rattle.std.proofs.Common.{◌≡◌, ◌∙◌, ap, sym, subst, ◌∷◌, [], ◌++◌, List, Some, append-nil, length, arith}
use Rattle.std.proofs.lemmas.List.{take_all}
use Rattle.std.specs.Prelude.{slice_get}
use Rattle.std.proofs.lemmas.Option.{slice_get-get_or}
use Rattle.lits.specs.declared.literal.Lit.{Lit}
use Rattle.lits.specs.declared.step.Ref.TheVariants.{Axiom}
use Rattle.lits.specs.Clause.{IsClause}
use Rattle.lits.specs.Same.{same_lit, opposite}
use Rattle.netlist.specs.Miter.{axioms_of}
use Rattle.lemma_book.specs.Cone.{named_from}
use Rattle.lemma_book.proofs.AxiomLemmas.{named-next}
use Rattle.lemma_book.proofs.cones.add_axioms.Goals as goal

pub loop-k-preserved : goal.loop-k-preserved
loop-k-preserved c =
    let whole = c.as_slice-axiom-items.ensures.clauses ∙ c.axioms-axioms.ensures in
    let at : slice_get (axioms_of c.args.net.now c.args.node) c.loop-k.k ≡ Some c.axiom-item.result =
    ap (λ (cs : List (List Lit)). slice_get cs c.loop-k.k) (sym whole) ∙ slice_get-get_or c.as_slice-axiom-items.result.now c.loop-k.k c.axiom-item.result (omega arith) ∙ ap Some (sym c.axiom-item.is) in
    named-next (Axiom c.args.node) (axioms_of c.args.net.now c.args.node) c.loop-k.k c.axiom-item.result c.args.cone.now.items c.loop-k.cone.items c.push.new.self.items
    at c.loop-k.invariant
    (c.in_ok-push.ensures.items ∙ ap (λ (l : List Lit). c.loop-k.cone.items ++ record { clause = l; by = Axiom c.args.node c.loop-k.k } ∷ []) (c.in_ok-clause.ensures ∙ c.lits.ensures.lits))

pub loop-k-init : goal.loop-k-init
loop-k-init c = sym (append-nil c.args.cone.now.items)

pub from_slice-requires : goal.from_slice-requires
from_slice-requires c = subst (IsClause same_lit opposite) (sym c.lits.ensures.lits) c.lits.ensures.short.clause

pub overflow_cast-by : goal.overflow_cast-by
overflow_cast-by c =
    omega (arith, c.loop-k-test.true, ap length c.as_slice-axiom-items.ensures.clauses, c.as_slice-axiom-items.ensures.few)

pub returns : goal.returns
returns c =
    let all = c.as_slice-axiom-items.ensures.clauses ∙ c.axioms-axioms.ensures in
    c.loop-k.invariant
    ∙ ap (λ (cs : List (List Lit)). c.args.cone.now.items ++ named_from (Axiom c.args.node) 0 cs)
    (take_all c.loop-k.k (axioms_of c.args.net.now c.args.node) (omega (arith, c.loop-k-test.false, ap length all)))
