-- The walk through a node's clauses comes to each by its place.
use Rattle.std.proofs.Common.{◌≡◌, ◌∙◌, ap, sym, subst, ◌∷◌, [], ◌++◌, List, Some, take, length, arith}
use Rattle.std.proofs.lemmas.List.{take_all}
use Rattle.std.specs.Prelude.{slice_get}
use Rattle.std.proofs.lemmas.Option.{slice_get-get_or}
use Rattle.lits.specs.declared.literal.Lit.{Lit}
use Rattle.lits.specs.declared.step.Named.{Named}
use Rattle.lits.specs.declared.step.Ref.TheVariants.{Axiom}
use Rattle.lits.specs.Clause.{IsClause}
use Rattle.lits.specs.Same.{same_lit, opposite}
use Rattle.netlist.specs.Miter.{axioms_of}
use Rattle.lemma_book.specs.Cone.{named_from, AreThere}
use Rattle.flat_cones.specs.Numbered.{Adds}
use Rattle.flat_cones.proofs.BoundLemmas.{named-next, axiom-there}
use Rattle.flat_cones.proofs.NumberLemmas.{adds-none, adds-more}
use Rattle.flat_cones.proofs.clauses.Clauses.add_axioms.Goals as goal

pub loop-k-init : goal.loop-k-init
loop-k-init c = adds-none c.args.net.now c.args.spots.now c.args.self.now.base c.requires.numbered

pub add-requires-clause-numbered : goal.add-requires-clause-numbered
add-requires-clause-numbered c = c.loop-k.invariant.numbered

pub add-requires-clause-clause : goal.add-requires-clause-clause
add-requires-clause-clause c = subst (IsClause same_lit opposite) (sym c.lits.ensures.lits) c.lits.ensures.short.clause

pub add-requires-clause-there : goal.add-requires-clause-there
add-requires-clause-there c =
    let whole = c.as_slice-axiom-items.ensures.clauses ∙ c.axioms-axioms.ensures in
    let at : slice_get (axioms_of c.args.net.now c.args.node) c.loop-k.k ≡ Some c.axiom-item.result =
    ap (λ (cs : List (List Lit)). slice_get cs c.loop-k.k) (sym whole) ∙ slice_get-get_or c.as_slice-axiom-items.result.now c.loop-k.k c.axiom-item.result (omega arith) ∙ ap Some (sym c.axiom-item.is) in
    subst (AreThere c.args.net.now) (sym c.lits.ensures.lits)
    (axiom-there c.args.net.now c.requires.net c.args.node c.requires.there c.loop-k.k c.axiom-item.result at)

pub loop-k-preserved : goal.loop-k-preserved
loop-k-preserved c =
    let whole = c.as_slice-axiom-items.ensures.clauses ∙ c.axioms-axioms.ensures in
    let at : slice_get (axioms_of c.args.net.now c.args.node) c.loop-k.k ≡ Some c.axiom-item.result =
    ap (λ (cs : List (List Lit)). slice_get cs c.loop-k.k) (sym whole) ∙ slice_get-get_or c.as_slice-axiom-items.result.now c.loop-k.k c.axiom-item.result (omega arith) ∙ ap Some (sym c.axiom-item.is) in
    subst (λ (cs : List Named). Adds c.args.net.now c.args.self.now.base cs c.add.new.spots c.add.new.self.base)
    (ap (λ (l : List Lit). named_from (Axiom c.args.node) 0 (take c.loop-k.k (axioms_of c.args.net.now c.args.node)) ++ record { clause = l; by = Axiom c.args.node c.loop-k.k } ∷ [])
    c.lits.ensures.lits
    ∙ named-next (Axiom c.args.node) (axioms_of c.args.net.now c.args.node) c.loop-k.k c.axiom-item.result at)
    (adds-more c.args.net.now c.args.self.now.base c.loop-k.self.base c.add.new.self.base _ _ c.loop-k.spots c.add.new.spots c.loop-k.invariant c.in_ok-add.ensures)

pub returns : goal.returns
returns c =
    let all = c.as_slice-axiom-items.ensures.clauses ∙ c.axioms-axioms.ensures in
    subst (λ (cs : List (List Lit)). Adds c.args.net.now c.args.self.now.base (named_from (Axiom c.args.node) 0 cs) c.loop-k.spots c.loop-k.self.base)
    (take_all c.loop-k.k (axioms_of c.args.net.now c.args.node) (omega (arith, c.loop-k-test.false, ap length all))) c.loop-k.invariant
