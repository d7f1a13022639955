-- What a sweep leaves: which entries and which patterns stand behind those that it began with.
use Rattle.std.specs.Prelude.{length}
use Rattle.netlist.specs.Net.{AigPair, definitions}
use Rattle.word_sim.specs.Patterns.{Patterns}
use Rattle.lemma_book.specs.Entry.{Entries}
use Rattle.strash_pass.specs.Strash.{AddsStructural, ArePlain}
use Rattle.sweep_workers.specs.Swept.{SettlesOutputs, Sweeps}
use Rattle.check_session.specs.Begun.{Begun}

-- The structural pass went over all gates: behind the old entries stand its merges, of which each is a function of the circuits and of
-- the entries before it; and then no gate that isn't merged folds or has an earlier twin that isn't merged.
pub record AddsStructure (net : AigPair) (old new : Entries) : Type 0 where
  pub merges : AddsStructural net 0 (length (definitions net)) old new
  pub plain : ArePlain net new.entries

-- Behind the old entries stand first the merges of the structure, and then what was settled of pairs of nodes, no pair twice; a query about
-- such a pair that spent its budget saw at least these merges and what stands before them. Behind the old patterns stand the inputs on which
-- such pairs differ, in the order of their entries, and no others.
pub record IsSweptFrom (net : AigPair) (old : Begun) (new : Entries) (patterns : Patterns) : Type 0 where
  pub merged : Entries
  pub structure : AddsStructure net old.book merged
  pub pairs : Sweeps net merged new old.pool patterns

-- Such a sweep was made, and behind it stands what was settled of outputs, each of which has its entry.
pub record IsSettledFrom (net : AigPair) (old : Begun) (new : Entries) (patterns : Patterns) : Type 0 where
  pub swept : Entries
  pub sweep : IsSweptFrom net old swept patterns
  pub outputs : SettlesOutputs net swept new
