-- What is legal beside a circuit without gates is legal beside the reduced one.
use Rattle.std.proofs.Common.{◌∙◌, sym, ap, subst, rules}
use Rattle.netlist.specs.Circuit.{Aig}
use Rattle.netlist.specs.Net.{AigPair}
use Rattle.lemma_book.specs.Book.{IsLegal}
use Rattle.fraig_write.specs.Mirror.{AreOfA}
use Rattle.fraig_write.proofs.Facts.{legal-other}
use Rattle.file_rows.proofs.reduced.check_row.Goals as goal

abbrev pair : Aig → Aig → AigPair
pair a b = record { a = a; b = b }

pub mirror-requires-clause-legal : goal.mirror-requires-clause-legal
mirror-requires-clause-legal g c =
    let alone = c.args.alone.now in
    let book = c.book_of-book.result in
    let circuit = c.expect-circuit.result in
    let of_a : AreOfA book.entries = search rules in
    subst (λ (n : AigPair). IsLegal n book)
    (sym (c.beside-net.ensures ∙ ap (λ (a : Aig). pair a circuit) c.circuit.ensures.circuit))
    (legal-other alone.a alone.b circuit c.requires book c.book_of-book.ensures of_a)
