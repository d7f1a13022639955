-- What is written of a circuit in AIGER's order spells it.
use Rattle.std.proofs.Common.{◌≡◌, ℕ, ◌+◌, List, [], ◌++◌, length, sym, ap, ◌∙◌, subst}
use Rattle.netlist.specs.Circuit.{Aig, IsCircuit}
use Rattle.aiger_file.specs.File.{SpellsAiger}
use Rattle.circuit_text.specs.AsciiText.{ascii_text, IsBound}
use Rattle.circuit_text.specs.BinaryText.{binary_text, IsInSequence}
use Rattle.aiger_text.proofs.Facts.{ascii_spells, binary_spells, IsBound-sequence}

pub is_bound : (c : Aig) (m : ℕ) → IsCircuit c → IsInSequence c → m ≡ length c.inputs + length c.gates → IsBound m c
is_bound c m circuit sequence is = subst (λ (n : ℕ). IsBound n c) (sym is) (IsBound-sequence c circuit sequence)

pub ascii-spells : (c self : Aig) (m : ℕ) (old new : List ℕ) → c ≡ self → IsCircuit c → IsBound m c → old ≡ []
    → new ≡ old ++ ascii_text m c → SpellsAiger new self
ascii-spells c self m old new same circuit bound none is =
    subst (λ (d : Aig). SpellsAiger new d) same
    (subst (λ (t : List ℕ). SpellsAiger t c) (sym (is ∙ ap (λ (t : List ℕ). t ++ ascii_text m c) none)) (ascii_spells m c circuit bound))

pub binary-spells : (c self : Aig) (old new : List ℕ) → c ≡ self → IsCircuit c → IsInSequence c → old ≡ []
    → new ≡ old ++ binary_text c → SpellsAiger new self
binary-spells c self old new same circuit sequence none is =
    subst (λ (d : Aig). SpellsAiger new d) same
    (subst (λ (t : List ℕ). SpellsAiger t c) (sym (is ∙ ap (λ (t : List ℕ). t ++ binary_text c) none)) (binary_spells c circuit sequence))
