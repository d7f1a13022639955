-- Between two lines: all checks so far were told, and the lines that are left are those ahead.
use Rattle.std.proofs.Common.{◌≡◌, ◌+◌, ◌-◌, ◌≤◌, length}
use Rattle.byte_scan.specs.Scanning.{ahead}
use Rattle.netlist_edits.specs.Script.{script_lines}
use Rattle.cec_top.specs.Script.{plan_of}
use Rattle.cec_top.specs.Steps.{how_in, opening_in, wanted_in}
use Rattle.cec_top.proofs.RunLemmas.{Stands}
use Rattle.cec_top.proofs.script.run_script.Given as goal

abbrev pub invariant-loop-line : goal.invariant-loop-line
invariant-loop-line g l = record {
  whole : l.scan.bytes ≡ l.script;
  count : l.at ≤ l.scan.at;
  within : l.scan.at ≤ length l.script;
  fewer : l.number ≤ l.at;
  stands : Stands (how_in l.fn.session (wanted_in l.wants))
      (opening_in l.fn.session) (plan_of l.fn.session.net (script_lines l.script)) (g.D.Desk.state l.fn.desk) (g.D.Desk.state l.desk)
      l.kept.items l.number l.status l.session (l.at + 1) (script_lines (ahead l.scan));
}

abbrev pub decreases-loop-line : goal.decreases-loop-line
decreases-loop-line g l = length l.scan.bytes - l.scan.at
