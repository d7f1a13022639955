-- Which bytes spell which circuit in either form of AIGER, and which fault they have first: the first four bytes choose
-- the form, `aag ` the ASCII one and `aig ` the binary one (A. Biere, The AIGER And-Inverter Graph Format, 2007).
use Rattle.std.specs.Prelude.{◌≡◌, ℕ, Bool, false, ◌&&◌, ◌==◌, List, ◌∷◌, Result, Ok, Err, if◌then◌else◌}
use Rattle.byte_scan.specs.declared.errors.AigerErr.{AigerErr}
use Rattle.byte_scan.specs.declared.errors.AigerErr.TheVariants.{BadHeader}
use Rattle.netlist.specs.Circuit.{Aig}
use Rattle.aiger_ascii.specs.Ascii.{ascii_in}
use Rattle.aiger_binary.specs.Binary.{binary_in}

-- the bytes begin with `a`, this letter, `g` and a space
abbrev pub is_form : ℕ → List ℕ → Bool
is_form letter (a ∷ l ∷ g ∷ space ∷ text) = a == 97 && l == letter && g == 103 && space == 32
is_form letter _ = false

-- the circuit that the bytes spell, or their first fault
unfoldable pub aiger_in : List ℕ → Result Aig AigerErr
aiger_in bytes =
    if is_form 97 bytes then ascii_in bytes
    else if is_form 105 bytes then binary_in bytes
    else Err BadHeader

-- the bytes spell this circuit
abbrev pub SpellsAiger : List ℕ → Aig → Type 0
SpellsAiger bytes c = aiger_in bytes ≡ Ok c
