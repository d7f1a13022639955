use Rattle.std.proofs.Common.{◌≡◌, ◌+◌, ◌-◌, [], length}
use Rattle.aiger_binary.specs.Binary.{literals_at, AreBelow}
use Rattle.aiger_binary.proofs.reader.read_literals.Given as goal

abbrev pub invariant-loop : goal.invariant-loop
invariant-loop l = record {
  rest : literals_at l.count l.most [] l.fn.scan ≡ literals_at (l.count - l.counter) l.most l.literals.items l.scan;
  below : AreBelow (l.most + 1) l.literals.items;
  count : length l.literals.items ≡ l.counter;
}
