use Rattle.std.proofs.Common.{arith}
use Rattle.cec_top.proofs.SavingLemmas.{apart}
use Rattle.cec_top.proofs.VerdictLemmas.{equivalent, different, undecided}
use Rattle.cec_top.proofs.RefusedLemmas.{refuses}
use Rattle.cec_top.proofs.StoppedLemmas.{stopped}
use Rattle.cec_top.proofs.OwnVerdictLemmas.{own-equivalent, own-different, own-undecided}
use Rattle.cec_top.proofs.WordsLemmas.{answers-check, answers-lrat, answers-self, verified}
use Rattle.cec_top.proofs.laws.verdicts.Goals as goal

pub returns-clause-equivalent : goal.returns-clause-equivalent
returns-clause-equivalent call = λ words c old new status kept asks answers code.
    equivalent c old new status kept
    (answers-check words old new status kept call.words_are_one_of.ensures.asked answers c asks (omega (arith, code)))
    (apart words c asks call.saved_is_apart.ensures call.witness_is_apart.ensures.left call.witness_is_apart.ensures.saved) code

pub returns-clause-different : goal.returns-clause-different
returns-clause-different call = λ words c old new status kept asks answers code.
    different c old new status kept
    (answers-check words old new status kept call.words_are_one_of.ensures.asked answers c asks (omega (arith, code)))
    (apart words c asks call.saved_is_apart.ensures call.witness_is_apart.ensures.left call.witness_is_apart.ensures.saved) code

pub returns-clause-undecided : goal.returns-clause-undecided
returns-clause-undecided call = λ words c old new status kept asks answers code.
    undecided c old new status kept
    (answers-check words old new status kept call.words_are_one_of.ensures.asked answers c asks (omega (arith, code)))
    (apart words c asks call.saved_is_apart.ensures call.witness_is_apart.ensures.left call.witness_is_apart.ensures.saved) code

pub returns-clause-verified : goal.returns-clause-verified
returns-clause-verified call = λ words c old new status kept asks answers code.
    verified c old new status
    (answers-lrat words old new status kept call.words_are_one_of.ensures.asked answers c asks (omega (arith, code))) code

pub returns-clause-own_equivalent : goal.returns-clause-own_equivalent
returns-clause-own_equivalent call = λ words c old new status kept asks answers code.
    own-equivalent c old new status kept (answers-self words old new status kept call.words_are_one_of.ensures.asked answers c asks) code

pub returns-clause-own_different : goal.returns-clause-own_different
returns-clause-own_different call = λ words c old new status kept asks answers code.
    own-different c old new status kept (answers-self words old new status kept call.words_are_one_of.ensures.asked answers c asks) code

pub returns-clause-own_undecided : goal.returns-clause-own_undecided
returns-clause-own_undecided call = λ words c old new status kept asks answers code.
    own-undecided c old new status kept (answers-self words old new status kept call.words_are_one_of.ensures.asked answers c asks) code

pub returns-clause-refused : goal.returns-clause-refused
returns-clause-refused call = λ words c old new status kept before asks answers code told.
    refuses c (apart words c asks call.saved_is_apart.ensures call.witness_is_apart.ensures.left call.witness_is_apart.ensures.saved) old before told
    kept new status
    (answers-check words old new status kept call.words_are_one_of.ensures.asked answers c asks (omega (arith, code))) code

pub returns-clause-stopped : goal.returns-clause-stopped
returns-clause-stopped call = λ words c old new status kept before asks answers above told.
    stopped words old new status kept call.words_are_one_of.ensures.asked answers c asks
    (apart words c asks call.saved_is_apart.ensures call.witness_is_apart.ensures.left call.witness_is_apart.ensures.saved) before told above
