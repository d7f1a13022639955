-- A merged literal leads to its target, which is the root unless it is merged too.
use Rattle.std.proofs.Common.{◌≡◌, ◌∙◌, ◌++◌, List, None, ap, sym}
use Rattle.std.specs.Option.{is_some}
use Rattle.lits.specs.declared.literal.Lit.{Lit}
use Rattle.netlist.specs.Net.{position_of}
use Rattle.lemma_book.specs.Root.{carried, merge_of}
use Rattle.lemma_book.proofs.Facts.{root-lower}
use Rattle.strash_pass.specs.Merged.{merge_at}
use Rattle.strash_pass.proofs.PassLemmas.{root-from}
use Rattle.strash_pass.proofs.MergedLemmas.{carried-node, passed-here, passed-once, root-here, root-once}
use Rattle.strash_pass.proofs.merged.Merged.root_by.Goals as goal

pub returns-in_default-clause-root : goal.returns-in_default-clause-root
returns-in_default-clause-root c =
    record { root = root-here c.args.book.now.entries c.args.lit (sym c.in_default.ensures.merge); at = c.requires.at }

pub returns-in_default-clause-passed : goal.returns-in_default-clause-passed
returns-in_default-clause-passed c =
    passed-here c.args.book.now.entries c.args.lit c.args.passed.now.items (sym c.in_default.ensures.merge)

pub is_merged-requires-clause-at : goal.is_merged-requires-clause-at
is_merged-requires-clause-at c =
    ap (λ (l : Lit). position_of c.args.net.now l.node) c.carried-next.ensures
    ∙ ap (position_of c.args.net.now) (carried-node c.args.lit.neg c.in-Some.merge.target) ∙ c.in-Some.ensures.placed

pub position_of-at-requires : goal.position_of-at-requires
position_of-at-requires c =
    let lower = root-lower c.args.net.now c.args.book.now c.requires.legal c.args.lit c.args.at c.requires.at in
    ap is_some (ap (λ (l : Lit). position_of c.args.net.now l.node) c.in_ok-root.ensures.root ∙ lower.1)

pub returns-clause-root : goal.returns-clause-root
returns-clause-root c =
    let es = c.args.book.now.entries in
    let next : merge_of es (carried c.args.lit.neg c.in-Some.merge.target).node ≡ None =
    ap (λ (l : Lit). merge_of es l.node) (sym c.carried-next.ensures)
    ∙ root-from (merge_of es c.carried-next.result.node) c.is_merged.result c.is_merged.ensures c.if-is_merged.false in
    record {
      root = c.carried-next.ensures
          ∙ root-once es c.args.lit (merge_at c.in-Some.merge) (sym c.in-Some.ensures.merge) next;
      at = ap (λ (l : Lit). position_of c.args.net.now l.node) c.carried-next.ensures
          ∙ ap (position_of c.args.net.now) (carried-node c.args.lit.neg c.in-Some.merge.target) ∙ c.in-Some.ensures.placed;
    }

pub returns-clause-passed : goal.returns-clause-passed
returns-clause-passed c =
    let es = c.args.book.now.entries in
    let next : merge_of es (carried c.args.lit.neg c.in-Some.merge.target).node ≡ None =
    ap (λ (l : Lit). merge_of es l.node) (sym c.carried-next.ensures)
    ∙ root-from (merge_of es c.carried-next.result.node) c.is_merged.result c.is_merged.ensures c.if-is_merged.false in
    c.in_ok-push.ensures.items
    ∙ ap (λ (ls : List Lit). c.args.passed.now.items ++ ls)
    (sym (passed-once es c.args.lit (merge_at c.in-Some.merge) (sym c.in-Some.ensures.merge) next))
