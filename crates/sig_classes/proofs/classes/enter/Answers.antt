use Rattle.std.proofs.Common.{◌≡◌, ◌∙◌, [], true, false, not, sym, ap, subst}
use Rattle.std.specs.Option.{is_some}
use Rattle.lits.specs.declared.node.Node.{Node}
use Rattle.lemma_book.specs.Root.{merge_of}
use Rattle.sig_classes.specs.Chains.{is_first, with_member}
use Rattle.sig_classes.specs.Pass.{root_at, IsNextTask}
use Rattle.sig_classes.proofs.ChainLemmas.{chains-same}
use Rattle.sig_classes.proofs.FirstLemmas.{first-grows, first-parts, first-stays, none-alike, not-first-found, not-first-merged}
use Rattle.sig_classes.proofs.TaskLemmas.{next-found, next-lone}
use Rattle.sig_classes.proofs.classes.enter.Goals as goal

pub returns-then-is_merged-clause-members : goal.returns-then-is_merged-clause-members
returns-then-is_merged-clause-members c = λ chains.
    let root = root_at c.args.net.now c.args.book.now.entries in
    let merged : root c.args.position ≡ false =
    ap (λ (n : Node). not (is_some (merge_of c.args.book.now.entries n))) (sym c.node.ensures) ∙ ap not (sym c.is_merged.ensures ∙ c.if-is_merged.true) in
    chains-same _ (is_first [] c.args.sigs.now root c.args.position) _ _ _
    (first-stays [] c.args.sigs.now root c.args.position (not-first-merged [] c.args.sigs.now root c.args.position merged)) chains

pub returns-in-Some-clause-members : goal.returns-in-Some-clause-members
returns-in-Some-clause-members c = λ chains.
    let root = root_at c.args.net.now c.args.book.now.entries in
    let found = c.in-Some.ensures.found (is_first [] c.args.sigs.now root c.args.position) chains in
    chains-same _ (is_first [] c.args.sigs.now root c.args.position) _ _ _
    (first-stays [] c.args.sigs.now root c.args.position (not-first-found [] c.args.sigs.now root c.args.position c.in-Some.first found.0 found.1)) chains

pub returns-in-Some-clause-task : goal.returns-in-Some-clause-task
returns-in-Some-clause-task c = λ chains patterns are.
    let net = c.args.net.now in
    let entries = c.args.book.now.entries in
    let root = root_at c.args.net.now c.args.book.now.entries in
    let found = c.in-Some.ensures.found (is_first [] c.args.sigs.now root c.args.position) chains in
    let open-node : root c.args.position ≡ true =
    ap (λ (n : Node). not (is_some (merge_of c.args.book.now.entries n))) (sym c.node.ensures) ∙ ap not (sym c.is_merged.ensures ∙ c.if-is_merged.false) in
    subst (IsNextTask net entries patterns c.args.position) (sym c.open_task.ensures)
    (next-found net c.is_net.ensures entries patterns c.args.position c.requires.position c.args.sigs.now are c.in-Some.first found.0 found.1 open-node)

pub returns-in-None-clause-members : goal.returns-in-None-clause-members
returns-in-None-clause-members c = λ chains.
    let root = root_at c.args.net.now c.args.book.now.entries in
    let first = is_first [] c.args.sigs.now root c.args.position in
    let none = c.in-None.ensures.found (is_first [] c.args.sigs.now root c.args.position) chains in
    let open-node : root c.args.position ≡ true =
    ap (λ (n : Node). not (is_some (merge_of c.args.book.now.entries n))) (sym c.node.ensures) ∙ ap not (sym c.is_merged.ensures ∙ c.if-is_merged.false) in
    chains-same _ (with_member c.args.position (is_first [] c.args.sigs.now root c.args.position)) _ _ _
    (first-grows [] c.args.sigs.now root c.args.position open-node (none-alike [] c.args.sigs.now root c.args.position c.args.position none))
    (c.put.ensures.members (is_first [] c.args.sigs.now root c.args.position)
    (λ q is. (first-parts [] c.args.sigs.now root c.args.position q is).0) chains)

pub returns-in-None-clause-task : goal.returns-in-None-clause-task
returns-in-None-clause-task c = λ chains patterns are.
    let root = root_at c.args.net.now c.args.book.now.entries in
    let none = c.in-None.ensures.found (is_first [] c.args.sigs.now root c.args.position) chains in
    next-lone c.args.net.now c.is_net.ensures c.args.book.now.entries patterns c.args.position c.requires.position c.args.sigs.now are none
