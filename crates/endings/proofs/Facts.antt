-- What follows from how a command reads, leaves files and ends: for the crates above.
use Rattle.std.proofs.Common.{◌≡◌, ℕ, ◌≤◌, inl, inr, ◌+◌, ◌++◌, List, [], ◌∷◌, Ok, Err, Result, refl, sym, subst, arith}
use Rattle.desk_port.specs.Desk.{DeskState, NoCountFalls, ReadFault, WriteFault, WarnFault, Rose, after_read, after_emptying, after_say, after_warn}
use Rattle.endings.specs.declared.status.Status.{Status}
use Rattle.endings.specs.declared.status.Status.TheVariants as status
use Rattle.endings.specs.declared.stop.Stop.{Stop}
use Rattle.endings.specs.declared.stop.Stop.TheVariants.{CannotRead, TooLong, BadFile, NotAlike, CannotWrite, OutOfMemory}
use Rattle.endings.specs.Stops.{Warns, status_of}
use Rattle.endings.specs.Reading.{Input, StopsAt, ReadsUpTo, after_reads}
use Rattle.endings.specs.Writing.{Output, Leaves, Says, StopsIn, after_file, while_writing}

-- a status that goes with a cause, and with no verdict and no refused arguments
abbrev pub IsOfStop : Status → Type 0
IsOfStop status.Done = ⊥
IsOfStop status.No = ⊥
IsOfStop status.Undecided = ⊥
IsOfStop status.BadUsage = ⊥
IsOfStop status.BadInput = Unit {0}
IsOfStop status.CannotRead = Unit {0}
IsOfStop status.CannotWrite = Unit {0}
IsOfStop status.OutOfMemory = Unit {0}

of_stop : (stop : Stop) → IsOfStop (status_of stop)
of_stop (CannotRead file) = tt
of_stop (TooLong file) = tt
of_stop (BadFile file text) = tt
of_stop (NotAlike text) = tt
of_stop CannotWrite = tt
of_stop OutOfMemory = tt

pub warned-status : (line : List ℕ) (stop : Stop) (old new : DeskState) (answered : Status) → Warns line (status_of stop) old new answered → IsOfStop answered
warned-status line stop old new answered (inl w) = subst IsOfStop (sym w.0) (of_stop stop)
warned-status line stop old new answered (inr w) = subst IsOfStop (sym w.0) tt

-- no count of faults falls
falls-same : (a b : DeskState) → b.read_faults ≡ a.read_faults → b.write_faults ≡ a.write_faults → b.warn_faults ≡ a.warn_faults → NoCountFalls a b
falls-same a b r w n = record { reads = omega (arith, r); writes = omega (arith, w); warns = omega (arith, n) }

pub falls-then : (a b c : DeskState) → NoCountFalls a b → NoCountFalls b c → NoCountFalls a c
falls-then a b c p q = record {
  reads = omega (arith, p.reads, q.reads);
  writes = omega (arith, p.writes, q.writes);
  warns = omega (arith, p.warns, q.warns);
}

pub falls-equal : (a b : DeskState) → b ≡ a → NoCountFalls a b
falls-equal a b e = subst (λ (s : DeskState). NoCountFalls a s) (sym e) (falls-same a a refl refl refl)

rose-le : (m n : ℕ) → Rose m n → m ≤ n
rose-le m n rose = grind arith

falls-read : (a b : DeskState) → ReadFault a b → NoCountFalls a b
falls-read a b fault = subst (λ (s : DeskState). NoCountFalls a s) (sym fault.stays)
    (record { reads = rose-le _ _ fault.rose; writes = omega arith; warns = omega arith })

falls-write : (a b : DeskState) → WriteFault a b → NoCountFalls a b
falls-write a b fault = subst (λ (s : DeskState). NoCountFalls a s) (sym fault.stays)
    (record { reads = omega arith; writes = rose-le _ _ fault.rose; warns = omega arith })

falls-warn : (a b : DeskState) → WarnFault a b → NoCountFalls a b
falls-warn a b fault = subst (λ (s : DeskState). NoCountFalls a s) (sym fault.stays)
    (record { reads = omega arith; writes = omega arith; warns = rose-le _ _ fault.rose })

-- by the same counts, only what is shown otherwise differs
falls-from : (a b c : DeskState) → b.read_faults ≡ a.read_faults → b.write_faults ≡ a.write_faults → b.warn_faults ≡ a.warn_faults
    → NoCountFalls b c → NoCountFalls a c
falls-from a b c r w n p = falls-then a b c (falls-same a b r w n) p

pub falls-stop : (k : ℕ) (i : Input) (earlier : List (List ℕ)) (old new : DeskState) (stop : Stop) → StopsAt k i earlier old new stop → NoCountFalls old new
falls-stop k i earlier old new (CannotRead j) p = falls-from old (after_read old i.name) new refl refl refl (falls-read _ _ p.1)
falls-stop k i earlier old new (TooLong j) p = falls-from old (after_read old i.name) new refl refl refl (falls-equal _ _ p.2)
falls-stop k i earlier old new (BadFile j text) p = falls-from old (after_read old i.name) new refl refl refl (falls-equal _ _ p.2)
falls-stop k i earlier old new (NotAlike text) p = absurd p
falls-stop k i earlier old new CannotWrite p = absurd p
falls-stop k i earlier old new OutOfMemory (inl p) = falls-equal _ _ p
falls-stop k i earlier old new OutOfMemory (inr p) = falls-from old (after_read old i.name) new refl refl refl (falls-equal _ _ p)

pub falls-reads : (k : ℕ) (earlier : List (List ℕ)) (is : List Input) (old new : DeskState) (stop : Stop)
    → ReadsUpTo k earlier is old new stop → NoCountFalls old new
falls-reads k earlier [] old new stop p = absurd p
falls-reads k earlier (i ∷ is) old new stop (inl p) = falls-stop k i earlier old new stop p
falls-reads k earlier (i ∷ is) old new stop (inr p) =
    falls-from old (after_read old i.name) new refl refl refl (falls-reads (k + 1) (earlier ++ p.0 ∷ []) is (after_read old i.name) new stop p.3)

pub falls-read-all : (is : List Input) (old : DeskState) → NoCountFalls old (after_reads old is)
falls-read-all [] old = falls-equal old old refl
falls-read-all (i ∷ is) old = falls-from old (after_read old i.name) _ refl refl refl (falls-read-all is (after_read old i.name))

pub falls-in : (o : Output) (old new : DeskState) (stop : Stop) → StopsIn o old new stop → NoCountFalls old new
falls-in o old new CannotWrite (inl p) = falls-write _ _ p
falls-in o old new CannotWrite (inr (inl p)) = falls-from old (after_emptying old o.name) new refl refl refl (falls-write _ _ p)
falls-in o old new CannotWrite (inr (inr (inl p))) = falls-from old (while_writing old o.name p.0) new refl refl refl (falls-write _ _ p.2)
falls-in o old new CannotWrite (inr (inr (inr p))) = falls-from old (after_file old o) new refl refl refl (falls-write _ _ p)
falls-in o old new OutOfMemory (inl p) = falls-equal _ _ p
falls-in o old new OutOfMemory (inr p) = falls-from old (while_writing old o.name p.0) new refl refl refl (falls-equal _ _ p.2)
falls-in o old new (CannotRead file) p = absurd p
falls-in o old new (TooLong file) p = absurd p
falls-in o old new (BadFile file text) p = absurd p
falls-in o old new (NotAlike text) p = absurd p

pub falls-says : (text : List ℕ) (old new : DeskState) (result : Result (Unit {0}) Stop) → Says text old new result → NoCountFalls old new
falls-says text old new (Ok u) p = falls-from old (after_say old text) new refl refl refl (falls-equal _ _ p)
falls-says text old new (Err CannotWrite) p = falls-from old (after_say old p.0) new refl refl refl (falls-write _ _ p.2)
falls-says text old new (Err OutOfMemory) p = falls-equal _ _ p
falls-says text old new (Err (CannotRead file)) p = absurd p
falls-says text old new (Err (TooLong file)) p = absurd p
falls-says text old new (Err (BadFile file why)) p = absurd p
falls-says text old new (Err (NotAlike why)) p = absurd p

pub falls-leaves : (os : List Output) (text : List ℕ) (old new : DeskState) (result : Result (Unit {0}) Stop) → Leaves os text old new result
    → NoCountFalls old new
falls-leaves [] text old new result p = falls-says text old new result p
falls-leaves (o ∷ os) text old new (Ok u) p = falls-from old (after_file old o) new refl refl refl (falls-leaves os text (after_file old o) new (Ok u) p)
falls-leaves (o ∷ os) text old new (Err stop) (inl p) = falls-in o old new stop p
falls-leaves (o ∷ os) text old new (Err stop) (inr p) =
    falls-from old (after_file old o) new refl refl refl (falls-leaves os text (after_file old o) new (Err stop) p)

pub falls-warns : (line : List ℕ) (named : Status) (old new : DeskState) (answered : Status) → Warns line named old new answered → NoCountFalls old new
falls-warns line named old new answered (inl (_, inl p)) = falls-from old (after_warn old line) new refl refl refl (falls-equal _ _ p)
falls-warns line named old new answered (inl (_, inr p)) = falls-from old (after_warn old p.0) new refl refl refl (falls-warn _ _ p.2)
falls-warns line named old new answered (inr p) = falls-equal _ _ p.1
