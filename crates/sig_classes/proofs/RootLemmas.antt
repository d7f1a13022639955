-- The row of a node is alike to that of its root in a legal book.
use Rattle.std.proofs.Common.{◌≡◌, ℕ, ◌<◌, ◌≤◌, Bool, true, false, Some, List, length, sym, subst}
use Rattle.std.specs.List.{AllByRecursion}
use Rattle.lits.specs.declared.node.Node.{Node}
use Rattle.lits.specs.declared.literal.Lit.{Lit}
use Rattle.netlist.specs.Net.{AigPair, IsNet, nodes_of, node_at, position_of}
use Rattle.netlist.proofs.Facts.{node-at}
use Rattle.word_sim.specs.Rows.{Signatures, AreSignatures}
use Rattle.lemma_book.specs.Entry.{Entries}
use Rattle.lemma_book.specs.Root.{IsRoot, root_of}
use Rattle.lemma_book.specs.Book.{IsLegal}
use Rattle.lemma_book.specs.Agreement.{HaveOneValue}
use Rattle.lemma_book.proofs.Facts.{root-unmerged, root-lower}
use Rattle.sig_classes.specs.Leader.{IsAlike}
use Rattle.sig_classes.specs.Chains.{are_alike}
use Rattle.sig_classes.specs.Pass.{root_at}
use Rattle.sig_classes.proofs.LeaderLemmas.{is-root, place-inside, literal-alike}
use Rattle.sig_classes.proofs.SweptLemmas.{value-alike}

pub root-alike : (net : AigPair) → IsNet net → (book : Entries) → IsLegal net book → (patterns : List (List Bool)) (sigs : Signatures)
    → AreSignatures net patterns sigs → AllByRecursion (λ bits. length bits ≡ length net.a.inputs) patterns
    → ((l : Lit) → HaveOneValue net l (root_of book.entries l)) → (node : Node) (p : ℕ) → position_of net node ≡ Some p
    → (q : ℕ) × (q < length (nodes_of net)) × (root_at net book.entries q ≡ true) × (are_alike sigs q p ≡ true) × (q ≤ p)
root-alike net is book legal patterns sigs are whole keeps node p place =
    let root = root_of book.entries (record { node = node; neg = false }) in
    let low = root-lower net book legal (record { node = node; neg = false }) p place in
    let here : node_at net low.0 ≡ root.node = node-at net root.node low.0 low.1 in
    let self : node_at net p ≡ node = node-at net node p place in
    let same : IsAlike net patterns (node_at net p) (record { node = node_at net low.0; neg = root.neg }) =
    subst (λ (n : Node). IsAlike net patterns n (record { node = node_at net low.0; neg = root.neg })) (sym self)
    (subst (λ (n : Node). IsAlike net patterns node (record { node = n; neg = root.neg })) (sym here)
    (value-alike net patterns node root whole (keeps (record { node = node; neg = false })))) in (
      low.0,
      place-inside net root.node low.0 low.1,
      is-root book.entries (node_at net low.0) (subst (IsRoot book.entries) (sym here) (root-unmerged net book legal (record { node = node; neg = false }))),
      (literal-alike net is book.entries patterns sigs are p low.0 root.neg (place-inside net node p place) (place-inside net root.node low.0 low.1) same).0,
      low.2,
    )
