use Rattle.std.proofs.Common.{◌+◌, ◌<◌, None, List, length, sym, subst, arith}
use Rattle.netlist.specs.Net.{nodes_of}
use Rattle.lemma_book.specs.declared.entry.Task.{Task}
use Rattle.sig_classes.specs.Pass.{IsNextTask}
use Rattle.sig_classes.proofs.KeptLemmas.{next-led}
use Rattle.sig_classes.proofs.TaskLemmas.{AreTasksBefore, before-same, before-more, before-all}
use Rattle.sig_classes.proofs.kept.due.Goals.{in-Some+in_ok-push, in_default}
use Rattle.sig_classes.proofs.kept.due.Goals as goal

pub loop-position-preserved : goal.loop-position-preserved
loop-position-preserved c = λ patterns classes roots signs some whole.
    let net = c.args.net.now in
    let entries = c.args.book.now.entries in
    let inside : c.loop-position.position < length (nodes_of c.args.net.now) =
    omega (arith, c.loop-position-test.true, c.positions-position-end.ensures) in
    let old = c.loop-position.invariant patterns classes roots signs some whole in
    let next : IsNextTask net entries patterns c.loop-position.position c.led.result =
    subst (IsNextTask net entries patterns c.loop-position.position) (sym c.led.ensures)
    (next-led net c.is_net.ensures c.args.book.now c.requires.legal patterns some whole c.roots_keep_values.ensures c.args.leaders.now classes
    roots c.args.sigs.now signs c.loop-position.position inside) in
    elim c.match-led.branch [
      | in-Some+in_ok-push w ↦
          let here = subst (IsNextTask net entries patterns c.loop-position.position) w.in-Some.is next in
          rw w.tasks-is (subst (λ (ts : List Task). AreTasksBefore net entries patterns (c.loop-position.position + 1) ts) (sym w.in_ok-push.ensures.items)
          (before-more net c.is_net.ensures entries patterns c.loop-position.position c.loop-position.tasks.items _ inside here old))
      | in_default w ↦
          let here : IsNextTask net entries patterns c.loop-position.position None =
          subst (IsNextTask net entries patterns c.loop-position.position) w.in_default.is next in
          rw w.tasks-is (before-same net c.is_net.ensures entries patterns c.loop-position.position c.loop-position.tasks.items here old)
    ]

pub returns : goal.returns
returns c = λ patterns classes roots signs some whole.
    before-all c.args.net.now c.is_net.ensures c.args.book.now.entries patterns c.loop-position.position c.loop-position.tasks.items
    (omega (arith, c.loop-position-test.false, c.positions-position-end.ensures)) (c.loop-position.invariant patterns classes roots signs some whole)
