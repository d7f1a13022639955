-- The files that the program reads, each with the text of its first fault.
use Rattle.std.specs.Prelude.{ℕ, List, None, Some, Option, Result, Ok, Err}
use Rattle.netlist.specs.Circuit.{Aig}
use Rattle.byte_scan.specs.declared.errors.AigerErr.{AigerErr}
use Rattle.aiger_file.specs.File.{aiger_in}
use Rattle.lemma_book.specs.declared.entry.Entry.{Entry}
use Rattle.book_file.specs.declared.error.BookErr.{BookErr}
use Rattle.book_file.specs.Reading.{entries_in}
use Rattle.endings.specs.Reading.{Input}
use Rattle.cec_top.specs.Lines.{aiger_text, lemma_text}

-- the text of the first fault of bytes that spell no circuit
abbrev pub fault_in : Result Aig AigerErr → Option (List ℕ)
fault_in (Ok c) = None
fault_in (Err e) = Some (aiger_text e)

-- a circuit's file, and the text of its first fault, whatever files were read before it
abbrev pub circuit_file : List ℕ → Input
circuit_file name = record { name = name; fault = λ earlier bytes. fault_in (aiger_in bytes) }

-- a script's file: any bytes are a script, since a line that is refused stands in the way of no line before it
abbrev pub script_file : List ℕ → Input
script_file name = record { name = name; fault = λ earlier bytes. None }

-- the text of the first fault of bytes that are no lemma file
abbrev pub lemma_fault_in : Result (List Entry) BookErr → Option (List ℕ)
lemma_fault_in (Ok entries) = None
lemma_fault_in (Err e) = Some (lemma_text e)

-- a lemma file, and the text of its first fault, whatever files were read before it
abbrev pub lemma_file : List ℕ → Input
lemma_file name = record { name = name; fault = λ earlier bytes. lemma_fault_in (entries_in bytes) }
