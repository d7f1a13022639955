use Rattle.std.proofs.Common.{◌∙◌, ◌+◌, None, List, sym, subst, arith}
use Rattle.lemma_book.specs.declared.entry.Task.{Task}
use Rattle.sig_classes.specs.Pass.{IsNextTask}
use Rattle.sig_classes.proofs.TaskLemmas.{AreTasksBefore, before-same, before-more, before-all}
use Rattle.sig_classes.proofs.classes.tasks.Goals.{in-Some+in_ok-push, in_default}
use Rattle.sig_classes.proofs.classes.tasks.Goals as goal

pub loop-position-preserved : goal.loop-position-preserved
loop-position-preserved c =
    let net = c.args.net.now in
    let entries = c.args.book.now.entries in
    let n = c.loop-position.position in
    let i = c.loop-position.invariant in
    record {
      room = c.enter.ensures.room ∙ i.room;
      order = c.enter.ensures.order;
      firsts = c.enter.ensures.members i.firsts;
      tasks = λ patterns are. elim c.match-enter.branch [
        | in-Some+in_ok-push w ↦
            let next = subst (IsNextTask net entries patterns c.loop-position.position) w.in-Some.is (c.enter.ensures.task i.firsts patterns are) in
            rw w.tasks-is (subst (λ (ts : List Task). AreTasksBefore net entries patterns (c.loop-position.position + 1) ts) (sym w.in_ok-push.ensures.items)
            (before-more net c.is_net.ensures entries patterns c.loop-position.position c.loop-position.tasks.items _
            (omega (arith, c.loop-position-test.true, c.positions-position-end.ensures)) next (i.tasks patterns are)))
        | in_default w ↦
            let next : IsNextTask net entries patterns c.loop-position.position None =
            subst (IsNextTask net entries patterns c.loop-position.position) w.in_default.is (c.enter.ensures.task i.firsts patterns are) in
            rw w.tasks-is (before-same net c.is_net.ensures entries patterns c.loop-position.position c.loop-position.tasks.items next (i.tasks patterns are))
      ];
    }

pub returns : goal.returns
returns c = λ patterns are.
    before-all c.args.net.now c.is_net.ensures c.args.book.now.entries patterns c.loop-position.position c.loop-position.tasks.items
    (omega (arith, c.loop-position-test.false, c.positions-position-end.ensures)) (c.loop-position.invariant.tasks patterns are)
