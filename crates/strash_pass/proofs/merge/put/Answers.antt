-- The entry is good over all entries, comes last, and is noted.
use Rattle.std.proofs.Common.{◌∙◌, List, ap, refl, subst, sym}
use Rattle.lits.specs.declared.step.Step.{Step}
use Rattle.lemma_book.specs.declared.entry.Entry.TheVariants.{Merge}
use Rattle.lemma_book.specs.Entry.{with_last}
use Rattle.lemma_book.specs.Good.{IsGood}
use Rattle.strash_pass.proofs.MergeLemmas.{all-entries, put-last}
use Rattle.strash_pass.proofs.MergedLemmas.{merges-noted}
use Rattle.strash_pass.proofs.merge.put.Goals as goal

pub append-requires-clause-good : goal.append-requires-clause-good
append-requires-clause-good c =
    all-entries c.args.net.now c.args.book.now c.args.node c.args.target c.requires.unmerged (Merge c.args.node c.args.target c.of.result)
    (subst (λ (l : List Step). IsGood c.args.net.now c.args.book.now (Merge c.args.node c.args.target l)) (sym c.of.ensures) c.requires.good)
    c.len-place.result c.len-place.ensures

pub returns-in-Ok-clause-ok : goal.returns-in-Ok-clause-ok
returns-in-Ok-clause-ok c =
    put-last c.args.net.now c.args.book.now c.args.node c.args.target c.requires.unmerged c.of.result c.append.new.self c.in-Ok.ensures.after
    ∙ ap (λ (l : List Step). with_last c.args.book.now (Merge c.args.node c.args.target l)) c.of.ensures

pub returns-in-Ok-clause-merged : goal.returns-in-Ok-clause-merged
returns-in-Ok-clause-merged c =
    merges-noted c.args.net.now c.args.book.now.entries c.append.new.self.entries c.args.merged.now c.note.new.self c.args.node c.args.target
    c.of.result (record { place = c.len-place.result; target = c.args.target; at = c.position_of-at.result }) c.args.own
    c.requires.own c.position_of-at.ensures refl c.len-place.ensures c.requires.unmerged
    (ap (λ b. b.entries) (put-last c.args.net.now c.args.book.now c.args.node c.args.target c.requires.unmerged c.of.result c.append.new.self
    c.in-Ok.ensures.after)) c.requires.merged c.note.ensures
