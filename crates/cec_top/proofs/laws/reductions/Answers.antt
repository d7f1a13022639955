use Rattle.cec_top.proofs.ReducedLemmas.{fraig-codes, fraig-complete, fraig-stopped, reduced-to, refuses-circuit}
use Rattle.cec_top.proofs.WordsLemmas.{answers-fraig}
use Rattle.cec_top.proofs.laws.reductions.Goals as goal

pub returns-clause-reduced : goal.returns-clause-reduced
returns-clause-reduced call = λ words c old new status kept asks answers code.
    reduced-to c old new status kept (answers-fraig words old new status kept call.words_are_one_of.ensures.asked answers c asks)
    (λ prefix. call.reduced_is_apart.ensures words c prefix asks) call.written_binary.ensures code

pub returns-clause-codes : goal.returns-clause-codes
returns-clause-codes call = λ words c old new status kept asks answers.
    fraig-codes c old new status kept (answers-fraig words old new status kept call.words_are_one_of.ensures.asked answers c asks)

pub returns-clause-refused : goal.returns-clause-refused
returns-clause-refused call = λ words c old new status kept before asks answers code told.
    refuses-circuit c old new status kept (answers-fraig words old new status kept call.words_are_one_of.ensures.asked answers c asks)
    before told code

pub returns-clause-stopped : goal.returns-clause-stopped
returns-clause-stopped call = λ words c old new status kept before asks answers above told.
    fraig-stopped c old new status kept (answers-fraig words old new status kept call.words_are_one_of.ensures.asked answers c asks)
    before told (λ prefix. call.reduced_is_apart.ensures words c prefix asks) call.written_binary.ensures above

pub returns-clause-complete : goal.returns-clause-complete
returns-clause-complete call = λ words c old new status kept asks answers can none.
    fraig-complete c old new status kept (answers-fraig words old new status kept call.words_are_one_of.ensures.asked answers c asks)
    can none
