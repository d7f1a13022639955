-- The two steps stand on the clauses of the nodes on the way.
use Rattle.std.proofs.Common.{◌≡◌, ◌∙◌, List, ap, sym, subst, take, ℕ, length}
use Rattle.std.specs.Prelude.{IfOk}
use Rattle.std.proofs.Math.Seq.{take-length}
use Rattle.lits.specs.declared.step.Named.{Named}
use Rattle.lits.specs.declared.literal.Lit.{Lit}
use Rattle.lits.specs.Same.{opposite}
use Rattle.netlist.specs.Net.{AigPair}
use Rattle.netlist.specs.Miter.{positive, negative}
use Rattle.unit_prop.specs.Log.{base_clauses}
use Rattle.lemma_book.specs.declared.entry.Entry.{Entry}
use Rattle.lemma_book.specs.Cone.{clauses_on, nodes_in}
use Rattle.strash_pass.specs.Strash.{AreScanned}
use Rattle.strash_pass.specs.Pass.{ShowsOver}
use Rattle.strash_pass.proofs.MergeLemmas.{base-named}
use Rattle.strash_pass.proofs.merge.steps_by_clauses.Goals as goal

-- the clauses over all entries
over-all : (net : AigPair) (es : List Entry) (way : List Lit) (base items : List Named) (n : ℕ) → base ≡ items
    → items ≡ clauses_on net (take n es) (nodes_in way) → n ≡ length es → base ≡ clauses_on net es (nodes_in way)
over-all net es way base items n e f count =
    e ∙ f ∙ ap (λ (l : List Entry). clauses_on net l (nodes_in way)) (ap (λ (k : ℕ). take k es) count ∙ take-length es)

pub both_steps-requires-clause-named : goal.both_steps-requires-clause-named
both_steps-requires-clause-named c =
    let es = c.args.book.now.entries in
    base-named c.args.net.now es c.args.way.now c.requires.no_xors c.deref.result.now
    (over-all c.args.net.now es c.args.way.now _ _ _ c.deref.ensures.value c.in_ok-base.ensures c.len.ensures)

pub both_steps-requires-clause-below : goal.both_steps-requires-clause-below
both_steps-requires-clause-below c =
    subst (λ (b : List Named). ShowsOver (base_clauses b) (negative c.args.node) c.args.target)
    (sym (over-all c.args.net.now c.args.book.now.entries c.args.way.now _ _ _ c.deref.ensures.value c.in_ok-base.ensures c.len.ensures)) c.requires.shows.below

pub both_steps-requires-clause-above : goal.both_steps-requires-clause-above
both_steps-requires-clause-above c =
    subst (λ (b : List Named). ShowsOver (base_clauses b) (positive c.args.node) (opposite c.args.target))
    (sym (over-all c.args.net.now c.args.book.now.entries c.args.way.now _ _ _ c.deref.ensures.value c.in_ok-base.ensures c.len.ensures)) c.requires.shows.above

pub returns : goal.returns
returns c =
    let base_is = over-all c.args.net.now c.args.book.now.entries c.args.way.now _ _ _ c.deref.ensures.value c.in_ok-base.ensures c.len.ensures in
    subst (λ (b : List Named). IfOk c.both_steps.result (λ v. AreScanned b c.args.node c.args.target v.items)) base_is c.both_steps.ensures
