-- What the proof of a book's finding is.
use Rattle.std.proofs.Common.{◌≡◌, ℕ, ◌<◌, true, List, length}
use Rattle.netlist.specs.Net.{AigPair}
use Rattle.lemma_book.specs.declared.entry.Entry.{Entry}
use Rattle.lemma_book.specs.Entry.{has_out}
use Rattle.proof_stitch.specs.Stitch.{IsRefutation, refutation_of}
use Rattle.proof_stitch.specs.Derivation.{IsDerivation, AreSpans, derivation_of, spans_of}
use Rattle.check_session.specs.Finding.{Finding, Equivalent, Different, Undecided, Finds}
use Rattle.cec_top.specs.Check.{IsProof}

-- lines that refute the miter, or derive from it, where the finding asks for such lines
pub proof-finding : (net : AigPair) (entries : List Entry) (finding : Finding) → Finds net entries finding
    → (((j : ℕ) → j < length net.a.outputs → has_out entries j ≡ true) → IsRefutation net (refutation_of net entries))
    → IsDerivation net (derivation_of net entries) → AreSpans net entries (spans_of net entries) → IsProof net entries finding
proof-finding net entries Equivalent finds refutes derives spans = refutes finds
proof-finding net entries (Different j input) finds refutes derives spans = tt
proof-finding net entries Undecided finds refutes derives spans = (derives, spans)
