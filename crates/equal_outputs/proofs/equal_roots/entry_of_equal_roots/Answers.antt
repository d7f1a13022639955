-- The way has the XOR and what both literals pass, and the steps over its clauses are those of the entry.
use Rattle.std.proofs.Common.{◌≤◌, ◌∙◌, [], ◌∷◌, ◌++◌, List, length, ap, sym, subst}
use Rattle.lits.specs.declared.node.Node.TheVariants.{Xor}
use Rattle.lits.specs.declared.literal.Lit.{Lit}
use Rattle.lits.specs.declared.step.Step.{Step}
use Rattle.netlist.specs.Miter.{positive}
use Rattle.lemma_book.specs.Root.{passed_by}
use Rattle.equal_outputs.specs.EqualRoots.{AreShown}
use Rattle.equal_outputs.proofs.EqualRootsLemmas.{equal-lits, few-shown, other-lits, one-root, other-roots, lits-there, lits-way_to, lits-settle}
use Rattle.equal_outputs.proofs.equal_roots.entry_of_equal_roots.Goals as goal

pub returns-then-ne-clause-apart : goal.returns-then-ne-clause-apart
returns-then-ne-clause-apart c =
    other-roots c.args.net.now c.args.seen.now c.args.j c.requires c.in-Some.definition (sym c.definition.ensures ∙ c.in-Some.is)
    c.in_ok-left.left c.in_ok-right.right c.in_ok-left.ensures.root c.in_ok-right.ensures.root
    (other-lits c.in_ok-left.left c.in_ok-right.right c.ne.result c.ne.ensures c.if-ne.true)

pub clauses_on-requires-clause-there : goal.clauses_on-requires-clause-there
clauses_on-requires-clause-there c =
    let es = c.args.seen.now.entries in
    lits-there c.args.net.now c.args.seen.now c.args.j c.requires c.in-Some.definition (sym c.definition.ensures ∙ c.in-Some.is)
    c.in_ok-left.left c.in_ok-right.right c.in_ok-left.ensures.root c.in_ok-right.ensures.root c.deref.result.now
    (c.deref.ensures.value
    ∙ (c.in_ok-right.ensures.passed
    ∙ ap (λ (l : List Lit). l ++ passed_by es c.in-Some.definition.right)
    (c.in_ok-left.ensures.passed
    ∙ ap (λ (l : List Lit). l ++ passed_by es c.in-Some.definition.left)
    (c.in_ok-push.ensures.items ∙ ap (λ (l : List Lit). l ++ positive (Xor c.args.j) ∷ []) c.new-way.ensures.items))))

pub steps_to-requires : goal.steps_to-requires
steps_to-requires c =
    let es = c.args.seen.now.entries in
    lits-way_to c.args.net.now c.args.seen.now c.args.j c.requires c.in-Some.definition (sym c.definition.ensures ∙ c.in-Some.is)
    c.in_ok-left.left c.in_ok-right.right c.in_ok-left.ensures.root c.in_ok-right.ensures.root c.deref.result.now
    (c.deref.ensures.value
    ∙ (c.in_ok-right.ensures.passed
    ∙ ap (λ (l : List Lit). l ++ passed_by es c.in-Some.definition.right)
    (c.in_ok-left.ensures.passed
    ∙ ap (λ (l : List Lit). l ++ passed_by es c.in-Some.definition.left)
    (c.in_ok-push.ensures.items ∙ ap (λ (l : List Lit). l ++ positive (Xor c.args.j) ∷ []) c.new-way.ensures.items))))
    (equal-lits c.in_ok-left.left c.in_ok-right.right c.ne.result c.ne.ensures c.if-ne.false)
    c.in_ok-base.base.items c.len.result c.len.ensures c.in_ok-base.ensures c.not.result c.not.ensures

pub returns-clause-good : goal.returns-clause-good
returns-clause-good c =
    let es = c.args.seen.now.entries in
    lits-settle c.args.net.now c.args.seen.now c.args.j c.requires c.in-Some.definition (sym c.definition.ensures ∙ c.in-Some.is)
    c.in_ok-left.left c.in_ok-right.right c.in_ok-left.ensures.root c.in_ok-right.ensures.root c.deref.result.now
    (c.deref.ensures.value
    ∙ (c.in_ok-right.ensures.passed
    ∙ ap (λ (l : List Lit). l ++ passed_by es c.in-Some.definition.right)
    (c.in_ok-left.ensures.passed
    ∙ ap (λ (l : List Lit). l ++ passed_by es c.in-Some.definition.left)
    (c.in_ok-push.ensures.items ∙ ap (λ (l : List Lit). l ++ positive (Xor c.args.j) ∷ []) c.new-way.ensures.items))))
    (equal-lits c.in_ok-left.left c.in_ok-right.right c.ne.result c.ne.ensures c.if-ne.false)
    c.in_ok-base.base.items c.len.result c.len.ensures c.in_ok-base.ensures c.not.result c.not.ensures
    c.of.result
    (subst (AreShown c.in_ok-base.base.items c.not.result c.in-Some.definition.left) (sym c.of.ensures) c.in_ok-steps.ensures)

pub returns-clause-few : goal.returns-clause-few
returns-clause-few c =
    subst (λ (l : List Step). length l ≤ 2) (sym c.of.ensures)
    (few-shown c.in_ok-base.base.items c.not.result c.in-Some.definition.left c.in_ok-steps.steps.items c.in_ok-steps.ensures)

pub returns-clause-together : goal.returns-clause-together
returns-clause-together c =
    one-root c.args.net.now c.args.seen.now c.args.j c.requires c.in-Some.definition (sym c.definition.ensures ∙ c.in-Some.is)
    c.in_ok-left.left c.in_ok-right.right c.in_ok-left.ensures.root c.in_ok-right.ensures.root
    (equal-lits c.in_ok-left.left c.in_ok-right.right c.ne.result c.ne.ensures c.if-ne.false)
