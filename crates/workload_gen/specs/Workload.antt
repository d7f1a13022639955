-- The workload of a kind and a number: two circuits of one function in two architectures, as the bytes of two files.
use Rattle.std.specs.Prelude.{ℕ, ◌+◌, ◌*◌, List, length}
use Rattle.netlist.specs.Circuit.{Aig}
use Rattle.circuit_text.specs.AsciiText.{ascii_text}
use Rattle.circuit_text.specs.BinaryText.{binary_text}
use Rattle.workload_gen.specs.Gates.{built}
use Rattle.workload_gen.specs.Parity.{parity_chain, parity_tree}
use Rattle.workload_gen.specs.Adder.{ripple_adder, select_adder}
use Rattle.workload_gen.specs.Comparator.{comparator_up, comparator_down}
use Rattle.workload_gen.specs.declared.kind.Kind.{Kind}
use Rattle.workload_gen.specs.declared.kind.Kind.TheVariants.{Adder, Parity, Comparator}

unfoldable pub first_circuit : Kind → ℕ → Aig
first_circuit Adder n = built (2 * n) (ripple_adder n)
first_circuit Parity n = built n (parity_chain n)
first_circuit Comparator n = built (2 * n) (comparator_up n)

unfoldable pub second_circuit : Kind → ℕ → Aig
second_circuit Adder n = built (2 * n) (select_adder n)
second_circuit Parity n = built n (parity_tree n)
second_circuit Comparator n = built (2 * n) (comparator_down n)

-- the first circuit as ASCII AIGER, whose M is the number of inputs and gates
abbrev pub first_bytes : Kind → ℕ → List ℕ
first_bytes kind n =
    let c = first_circuit kind n in
    ascii_text (length c.inputs + length c.gates) c

-- the second circuit as binary AIGER
abbrev pub second_bytes : Kind → ℕ → List ℕ
second_bytes kind n = binary_text (second_circuit kind n)
