-- What crates above may cite.

-- one edit more
pub use Rattle.netlist_edits.proofs.ScriptLemmas.{edited_all-last}
-- edits change no input
pub use Rattle.netlist_edits.proofs.ScriptLemmas.{inputs-edited_all}
-- where a scan gives a line it is the first of the script's lines ahead, and the later ones are those behind it; where it
-- gives none there are none
pub use Rattle.netlist_edits.proofs.ScriptLemmas.{script_lines-next, script_lines-end}
