-- There is one least set, so the gates that stay are one list, and the reduced circuit is one.
use Rattle.std.proofs.Common.{◌≡◌, Bool, true, false, ◌&&◌, List, refl, sym, ap, ◌∙◌}
use Rattle.lits.specs.declared.node.Side.TheVariants.{A}
use Rattle.lits.specs.declared.node.Node.{Node}
use Rattle.lits.specs.declared.node.Node.TheVariants.{Gate}
use Rattle.netlist.specs.declared.gate.And.{And}
use Rattle.netlist.specs.Circuit.{Aig}
use Rattle.lemma_book.specs.declared.entry.Entry.{Entry}
use Rattle.fraig_write.specs.Reduced.{is_own_root, reduced_to, AreStaying, IsReducedCircuit}
use Rattle.fraig_write.proofs.FilterLemmas.{filter-same}

both-ways : (p q : Bool) → (p ≡ true → q ≡ true) → (q ≡ true → p ≡ true) → p ≡ q
both-ways true q f g = sym (f refl)
both-ways false true f g = g refl
both-ways false false f g = refl

-- two lists of the gates that stay are one
pub staying-one : (a : Aig) (entries : List Entry) (xs ys : List And) → AreStaying a entries xs → AreStaying a entries ys → xs ≡ ys
staying-one a entries xs ys p q =
    p.gates
    ∙ filter-same (λ g. is_own_root entries g && p.reached (Gate A g.var)) (λ g. is_own_root entries g && q.reached (Gate A g.var)) a.gates
    (λ g. ap (λ (b : Bool). is_own_root entries g && b) (same (Gate A g.var)))
    ∙ sym q.gates
  where
    same : (n : Node) → p.reached n ≡ q.reached n
    same n =
        both-ways (p.reached n) (q.reached n)
        (λ (h : p.reached n ≡ true). p.are_reached.least q.reached q.are_reached.closed n h)
        (λ (h : q.reached n ≡ true). q.are_reached.least p.reached p.are_reached.closed n h)

pub reduced-one : (a : Aig) (entries : List Entry) (c d : Aig) → IsReducedCircuit a entries c → IsReducedCircuit a entries d → c ≡ d
reduced-one a entries c d p q =
    p.circuit ∙ ap (reduced_to a entries) (staying-one a entries p.staying q.staying p.are_staying q.are_staying) ∙ sym q.circuit
