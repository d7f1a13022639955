use Rattle.std.proofs.Common.{◌≡◌, ◌∙◌, ◌+◌, ◌*◌, ◌/◌, ◌≤◌, ℕ, List, length, arith, sym, ap, subst}
use Rattle.sig_classes.specs.Kept.{AreClasses, AreKept, HaveRoots, Kept, counts, next_seen}
use Rattle.sig_classes.proofs.KeptLemmas.{if-ok, last-classes, next-signs, next-some, on-ok}
use Rattle.sig_classes.proofs.kept.KeptClasses.tasks.Goals as goal

pub returns-clause-seen : goal.returns-clause-seen
returns-clause-seen c =
    let before : c.self.inside.seen ≡ c.loop-self.self.seen = ap (λ (k : Kept). k.seen) c.self.view_is in
    let all : c.refine-2.new.self.seen ≡ length c.args.pool.now.patterns =
    omega (arith, before, c.in_ok-sigs.ensures.seen, c.words.ensures.words, c.loop-self-test.false) in
    on-ok c.due.result _ all

pub returns-clause-tasks : goal.returns-clause-tasks
returns-clause-tasks c =
    let net = c.args.net.now in
    let patterns = c.args.pool.now.patterns in
    let seen = c.loop-self.self.seen in
    let new = c.self-2.inside in
    let last = c.in_ok-sigs.ensures in
    let before : c.self.inside.seen ≡ c.loop-self.self.seen = ap (λ (k : Kept). k.seen) c.self.view_is in
    let end : length c.args.pool.now.patterns ≤ 64 * (c.loop-self.self.seen / 64 + 4) =
    omega (arith, before, c.words.ensures.words, c.loop-self-test.false) in
    let at : new.seen ≡ next_seen c.loop-self.self.seen (length c.args.pool.now.patterns) =
    ap (λ (k : Kept). k.seen) c.self-2.view_is ∙ last.seen in
    let kept : AreKept c.args.net.now c.args.pool.now.patterns (record { seen = new.seen; leaders = new.leaders.items }) =
    subst (λ (k : Kept). AreKept net patterns k) (sym c.self-2.view_is) last.kept in
    let classes : AreClasses c.args.net.now c.args.pool.now.patterns new.leaders.items =
    last-classes c.args.net.now c.args.pool.now.patterns c.loop-self.self.seen (record { seen = new.seen; leaders = new.leaders.items }) kept at end in
    let roots : HaveRoots c.args.net.now c.args.book.now.entries c.as_slice.result.now = λ p below is_root.
    ap (λ (xs : List ℕ). counts xs p) c.as_slice.ensures.value ∙ ap (λ (k : Kept). counts k.leaders p) c.self-2.view_is
    ∙ last.counts p below ∙ c.loop-self.invariant.roots p below is_root in
    if-ok c.due.result _ _ c.due.ensures (λ v due. due c.args.pool.now.patterns
    (subst (λ (ls : List ℕ). AreClasses net patterns ls) (sym c.as_slice.ensures.value) classes)
    roots
    (next-signs c.args.net.now c.is_net.ensures c.args.book.now.entries c.args.pool.now.patterns c.loop-self.self.seen c.in_ok-sigs.sigs last.rows)
    (next-some c.args.net.now c.args.pool.now.patterns c.loop-self.self.seen c.in_ok-sigs.sigs last.rows) c.requires.whole)
