-- The XOR occurs in the cone, and each answer settles the output.
use Rattle.std.proofs.Common.{List, [], ◌∷◌, ◌++◌, length, ap, sym, ◌∙◌, subst}
use Rattle.lits.specs.declared.literal.Lit.{Lit}
use Rattle.lits.specs.declared.step.Step.{Step}
use Rattle.unit_prop.specs.Refuter.{IsOver}
use Rattle.lemma_book.specs.Cone.{AreThere}
use Rattle.lemma_book.specs.declared.entry.Entry.TheVariants.{Out, OutApart, OutSpent}
use Rattle.cone_query.specs.Answered.{SettlesOutput}
use Rattle.cone_query.specs.Input.{input_from}
use Rattle.cone_query.specs.Query.{IsBuilt}
use Rattle.cone_query.proofs.OutputLemmas.{target-over, made-answer, proof-settles, output_model-there, model-settles_output, log-settles_output}
use Rattle.cone_query.proofs.PairLemmas.{if_ok-same}
use Rattle.cone_query.proofs.output_query.ask.Goals as goal

pub refute-requires-clause-target : goal.refute-requires-clause-target
refute-requires-clause-target g c =
    subst (IsOver (g.R.Refuter.base_of c.args.refuter.now)) (sym (c.in_ok-equal.ensures ∙ ap (λ (l : Lit). l ∷ []) c.not.ensures))
    (target-over c.args.net.now c.args.seen.now c.args.j c.requires.output (g.R.Refuter.base_of c.args.refuter.now) c.requires.cone)

pub returns-in-Yes-clause-settles : goal.returns-in-Yes-clause-settles
returns-in-Yes-clause-settles g c =
    if_ok-same (SettlesOutput c.args.net.now c.args.seen.now c.args.j)
    (Out c.args.j (c.log.result.now ++ record { clause = c.in_ok-equal.equal; hints = c.in-Yes.hints } ∷ [])) c.shown.result c.shown.ensures
    (proof-settles c.args.net.now c.args.seen.now c.args.j c.requires.output (g.R.Refuter.base_of c.args.refuter.now) c.requires.cone
    (g.R.Refuter.log_of c.refute.new.self) c.refute.new.left c.in_ok-hints.field-0
    (made-answer c.args.net.now c.args.seen.now c.args.j (g.R.Refuter.base_of c.args.refuter.now) c.in_ok-equal.equal
    (g.R.Refuter.log_of c.args.refuter.now) c.out_budget-left.result
    (c.in_ok-equal.ensures ∙ ap (λ (l : Lit). l ∷ []) c.not.ensures) c.requires.empty c.out_budget-left.ensures.budget
    (g.R.Refuter.log_of c.refute.new.self) c.refute.new.left c.in_ok-hints.field-0 c.in_ok-hints.ensures.answer)
    c.in-Yes.hints _ c.in-Yes.is
    (ap (Out c.args.j) (ap (λ (l : List Step). l ++ record { clause = c.in_ok-equal.equal; hints = c.in-Yes.hints } ∷ []) c.log.ensures
    ∙ ap (λ (t : List Lit). g.R.Refuter.log_of c.refute.new.self ++ record { clause = t; hints = c.in-Yes.hints } ∷ [])
    (c.in_ok-equal.ensures ∙ ap (λ (l : Lit). l ∷ []) c.not.ensures))))

pub apart-requires : goal.apart-requires
apart-requires g c =
    subst (AreThere c.args.net.now) (sym c.as_slice.ensures)
    (output_model-there c.args.net.now c.args.seen.now c.args.j c.requires.output (g.R.Refuter.base_of c.args.refuter.now) c.requires.cone
    (g.R.Refuter.log_of c.refute.new.self) c.refute.new.left c.in_ok-hints.field-0
    (made-answer c.args.net.now c.args.seen.now c.args.j (g.R.Refuter.base_of c.args.refuter.now) c.in_ok-equal.equal
    (g.R.Refuter.log_of c.args.refuter.now) c.out_budget-left.result
    (c.in_ok-equal.ensures ∙ ap (λ (l : Lit). l ∷ []) c.not.ensures) c.requires.empty c.out_budget-left.ensures.budget
    (g.R.Refuter.log_of c.refute.new.self) c.refute.new.left c.in_ok-hints.field-0 c.in_ok-hints.ensures.answer)
    c.in-No.model c.in-No.is)

pub returns-in-No-clause-settles : goal.returns-in-No-clause-settles
returns-in-No-clause-settles g c =
    if_ok-same (SettlesOutput c.args.net.now c.args.seen.now c.args.j)
    (OutApart c.args.j (input_from c.args.net.now c.as_slice.result.now)) c.apart.result c.apart.ensures
    (model-settles_output c.args.net.now c.args.seen.now c.args.j c.requires.output (g.R.Refuter.base_of c.args.refuter.now) c.requires.cone
    (g.R.Refuter.log_of c.refute.new.self) c.refute.new.left c.in_ok-hints.field-0
    (made-answer c.args.net.now c.args.seen.now c.args.j (g.R.Refuter.base_of c.args.refuter.now) c.in_ok-equal.equal
    (g.R.Refuter.log_of c.args.refuter.now) c.out_budget-left.result
    (c.in_ok-equal.ensures ∙ ap (λ (l : Lit). l ∷ []) c.not.ensures) c.requires.empty c.out_budget-left.ensures.budget
    (g.R.Refuter.log_of c.refute.new.self) c.refute.new.left c.in_ok-hints.field-0 c.in_ok-hints.ensures.answer)
    c.in-No.model _ c.in-No.is (ap (λ (m : List Lit). OutApart c.args.j (input_from c.args.net.now m)) c.as_slice.ensures))

pub returns-in-Spent-clause-settles : goal.returns-in-Spent-clause-settles
returns-in-Spent-clause-settles g c =
    if_ok-same (SettlesOutput c.args.net.now c.args.seen.now c.args.j) (OutSpent c.args.j (length c.args.seen.now.entries) c.log-in-Spent.result.now) c.spent.result c.spent.ensures
    (log-settles_output c.args.net.now c.args.seen.now c.args.j c.requires.output (g.R.Refuter.base_of c.args.refuter.now) c.requires.cone
    (g.R.Refuter.log_of c.refute.new.self) c.refute.new.left c.in_ok-hints.field-0
    (made-answer c.args.net.now c.args.seen.now c.args.j (g.R.Refuter.base_of c.args.refuter.now) c.in_ok-equal.equal
    (g.R.Refuter.log_of c.args.refuter.now) c.out_budget-left.result
    (c.in_ok-equal.ensures ∙ ap (λ (l : Lit). l ∷ []) c.not.ensures) c.requires.empty c.out_budget-left.ensures.budget
    (g.R.Refuter.log_of c.refute.new.self) c.refute.new.left c.in_ok-hints.field-0 c.in_ok-hints.ensures.answer)
    _ c.budget_log_length.ensures c.in-Spent.is (ap (OutSpent c.args.j (length c.args.seen.now.entries)) c.log-in-Spent.ensures))

pub returns-in-Yes-clause-built : goal.returns-in-Yes-clause-built
returns-in-Yes-clause-built g c =
    let last : Step = record { clause = c.in_ok-equal.equal; hints = c.in-Yes.hints } in
    if_ok-same (IsBuilt (g.R.Refuter.log_of c.refute.new.self)) (Out c.args.j (c.log.result.now ++ last ∷ [])) c.shown.result
    c.shown.ensures (
      last ∷ [],
      ap (λ (l : List Step). l ++ last ∷ []) c.log.ensures,
      ap (λ (t : List Lit). t ∷ []) (c.in_ok-equal.ensures ∙ ap (λ (l : Lit). l ∷ []) c.not.ensures),
    )

pub returns-in-No-clause-built : goal.returns-in-No-clause-built
returns-in-No-clause-built g c =
    if_ok-same (IsBuilt (g.R.Refuter.log_of c.refute.new.self))
    (OutApart c.args.j (input_from c.args.net.now c.as_slice.result.now)) c.apart.result c.apart.ensures tt

pub returns-in-Spent-clause-built : goal.returns-in-Spent-clause-built
returns-in-Spent-clause-built g c =
    if_ok-same (IsBuilt (g.R.Refuter.log_of c.refute.new.self))
    (OutSpent c.args.j (length c.args.seen.now.entries) c.log-in-Spent.result.now) c.spent.result c.spent.ensures
    c.log-in-Spent.ensures
