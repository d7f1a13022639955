use Rattle.cec_top.proofs.CompleteLemmas.{complete, decided}
use Rattle.cec_top.proofs.OwnVerdictLemmas.{own-codes, own-complete}
use Rattle.cec_top.proofs.ProvenLemmas.{complete-lrat}
use Rattle.cec_top.proofs.WordsLemmas.{answers-self}
use Rattle.cec_top.proofs.laws.completeness.Goals as goal

pub returns-clause-check : goal.returns-clause-check
returns-clause-check call = λ words c old new status kept asks answers can none.
    complete words old new status kept call.words_are_one_of.ensures.asked answers c asks can none

pub returns-clause-lrat : goal.returns-clause-lrat
returns-clause-lrat call = λ words c old new status kept asks answers can none.
    complete-lrat words old new status kept call.words_are_one_of.ensures.asked answers c asks can none

pub returns-clause-decided : goal.returns-clause-decided
returns-clause-decided call = λ words c old new status kept asks answers ample.
    decided words old new status kept call.words_are_one_of.ensures.asked answers c asks ample

pub returns-clause-own : goal.returns-clause-own
returns-clause-own call = λ words c old new status kept asks answers none.
    own-complete c old new status kept none (answers-self words old new status kept call.words_are_one_of.ensures.asked answers c asks)

pub returns-clause-own_files : goal.returns-clause-own_files
returns-clause-own_files call = λ words c old new status kept asks answers.
    own-codes c old new status kept (answers-self words old new status kept call.words_are_one_of.ensures.asked answers c asks)
