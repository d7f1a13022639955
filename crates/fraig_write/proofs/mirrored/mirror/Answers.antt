-- The gates that stay are those that B was made from.
use Rattle.std.proofs.Common.{List, sym, subst}
use Rattle.netlist.specs.declared.gate.And.{And}
use Rattle.lemma_book.specs.Entry.{Entries}
use Rattle.fraig_write.specs.Mirror.{IsMirror}
use Rattle.fraig_write.specs.Mirroring.{IsAsked}
use Rattle.fraig_write.proofs.MirrorEnds.{asked-for, mirror-made}
use Rattle.fraig_write.proofs.mirrored.mirror.Goals as goal

pub merge_gates-requires : goal.merge_gates-requires
merge_gates-requires c =
    subst (λ (b : Entries). IsAsked c.args.net.now b c.as_slice.result.now) (sym c.in_ok-mirrored.ensures)
    (subst (λ (s : List And). IsAsked c.args.net.now c.args.book.now s) (sym c.as_slice.ensures.value)
    (asked-for c.args.net.now c.args.book.now c.in_ok-staying.staying.items c.is_net.ensures c.requires.legal c.requires.of_a c.requires.reduced
    c.in_ok-staying.ensures))

pub show_outputs-requires : goal.show_outputs-requires
show_outputs-requires c = record {
  given = c.in_ok-mirrored.mirrored;
  staying = c.as_slice.result.now;
  asked =
      subst (λ (b : Entries). IsAsked c.args.net.now b c.as_slice.result.now) (sym c.in_ok-mirrored.ensures)
      (subst (λ (s : List And). IsAsked c.args.net.now c.args.book.now s) (sym c.as_slice.ensures.value)
      (asked-for c.args.net.now c.args.book.now c.in_ok-staying.staying.items c.is_net.ensures c.requires.legal c.requires.of_a c.requires.reduced
      c.in_ok-staying.ensures));
  up = c.in_ok-merge_gates.ensures;
}

pub returns-clause-mirror : goal.returns-clause-mirror
returns-clause-mirror c =
    let asked =
    subst (λ (b : Entries). IsAsked c.args.net.now b c.as_slice.result.now) (sym c.in_ok-mirrored.ensures)
    (subst (λ (s : List And). IsAsked c.args.net.now c.args.book.now s) (sym c.as_slice.ensures.value)
    (asked-for c.args.net.now c.args.book.now c.in_ok-staying.staying.items c.is_net.ensures c.requires.legal c.requires.of_a c.requires.reduced
    c.in_ok-staying.ensures)) in
    subst (λ (b : Entries). IsMirror c.args.net.now b c.show_outputs.new.book) c.in_ok-mirrored.ensures
    (mirror-made c.args.net.now c.in_ok-mirrored.mirrored c.merge_gates.new.book c.show_outputs.new.book c.as_slice.result.now asked.are_staying
    c.in_ok-merge_gates.ensures c.in_ok-show_outputs.ensures)

pub returns-clause-legal : goal.returns-clause-legal
returns-clause-legal c = c.in_ok-show_outputs.ensures.legal

pub returns-clause-equal : goal.returns-clause-equal
returns-clause-equal c = c.in_ok-show_outputs.ensures.closed
