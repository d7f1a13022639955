use Rattle.std.proofs.Common.{◌∙◌, ℕ, List, [], length, refl, sym, ap, subst}
use Rattle.netlist.specs.Net.{nodes_of}
use Rattle.sig_classes.specs.Kept.{AreKept, AreLeast, Kept, counts}
use Rattle.sig_classes.proofs.CountLemmas.{stays}
use Rattle.sig_classes.proofs.KeptLemmas.{next-kept}
use Rattle.sig_classes.proofs.kept.KeptClasses.refine.Goals as goal

pub returns-clause-kept : goal.returns-clause-kept
returns-clause-kept c =
    let net = c.args.net.now in
    let patterns = c.args.pool.now.patterns in
    let i = c.self.inside in
    let new = c.in_ok-self-inside.field-0.items in
    let least : AreLeast i.leaders.items c.in_ok-sigs.sigs (length (nodes_of c.args.net.now)) c.in_ok-self-inside.field-0.items =
    subst (λ (ls : List ℕ). AreLeast ls c.in_ok-sigs.sigs (length (nodes_of net)) new) c.as_slice.ensures.value c.in_ok-self-inside.ensures.least in
    let kept : AreKept c.args.net.now c.args.pool.now.patterns (record { seen = i.seen; leaders = i.leaders.items }) =
    subst (λ (k : Kept). AreKept net patterns k) (sym c.self.view_is) c.requires.kept in
    subst (λ (n : ℕ). AreKept net patterns (record { seen = n; leaders = new })) (sym c.next_seen-self-inside.ensures)
    (next-kept c.args.net.now c.is_net.ensures [] c.args.pool.now.patterns i.seen c.in_ok-sigs.sigs c.in_ok-sigs.ensures
    (record { seen = i.seen; leaders = i.leaders.items }) refl kept c.in_ok-self-inside.field-0.items c.refined.ensures.few least)

pub returns-clause-counts : goal.returns-clause-counts
returns-clause-counts c = λ p below.
    let i = c.self.inside in
    let new = c.in_ok-self-inside.field-0.items in
    let least : AreLeast i.leaders.items c.in_ok-sigs.sigs (length (nodes_of c.args.net.now)) c.in_ok-self-inside.field-0.items =
    subst (λ (ls : List ℕ). AreLeast ls c.in_ok-sigs.sigs (length (nodes_of c.args.net.now)) new) c.as_slice.ensures.value c.in_ok-self-inside.ensures.least in
    stays i.leaders.items c.in_ok-sigs.sigs (length (nodes_of c.args.net.now)) new least c.refined.ensures.few p below
    ∙ ap (λ (k : Kept). counts k.leaders p) c.self.view_is
