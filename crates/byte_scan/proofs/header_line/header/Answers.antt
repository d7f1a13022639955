use Rattle.byte_scan.proofs.ReadingLemmas.{Reads-header, fault-header, header-none, header-other}
use Rattle.byte_scan.proofs.header_line.header.Goals as goal

pub returns-in-Some-tagged_numbers-clause-reads : goal.returns-in-Some-tagged_numbers-clause-reads
returns-in-Some-tagged_numbers-clause-reads c =
    Reads-header c.judged.result c.args.letter c.args.scan.now c.line.new.self c.in-Some.line.now c.in-Some-tagged_numbers.numbers
    c.in-Some.ensures.line c.in-Some-tagged_numbers.ensures c.in-Some.ensures.moved c.judged.ensures.header c.judged.ensures.sound c.judged.ensures.fault

pub returns-in_default-clause-reads : goal.returns-in_default-clause-reads
returns-in_default-clause-reads c = header-none c.args.letter c.args.scan.now c.in_default.ensures.line

pub returns-in-None-clause-reads : goal.returns-in-None-clause-reads
returns-in-None-clause-reads c = header-other c.args.letter c.args.scan.now c.in-Some.line.now c.in-Some.ensures.line c.in-None.ensures

pub returns-in-Some-tagged_numbers-clause-fault : goal.returns-in-Some-tagged_numbers-clause-fault
returns-in-Some-tagged_numbers-clause-fault c =
    fault-header c.judged.result c.args.letter c.args.scan.now c.in-Some.line.now c.in-Some-tagged_numbers.numbers
    c.in-Some.ensures.line c.in-Some-tagged_numbers.ensures c.judged.ensures.fault

pub returns-in_default-clause-fault : goal.returns-in_default-clause-fault
returns-in_default-clause-fault c = header-none c.args.letter c.args.scan.now c.in_default.ensures.line

pub returns-in-None-clause-fault : goal.returns-in-None-clause-fault
returns-in-None-clause-fault c = header-other c.args.letter c.args.scan.now c.in-Some.line.now c.in-Some.ensures.line c.in-None.ensures
