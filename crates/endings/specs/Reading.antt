-- How a command reads its files, one after another, up to the first that can't be read or has a fault.
use Rattle.std.specs.Prelude.{◌≡◌, ◌⊎◌, ℕ, ◌+◌, ◌≤◌, List, [], ◌∷◌, ◌++◌, length, Option, Some, None, IfSome, Result, Ok, Err, string_bytes}
use Rattle.std.specs.Global.{Vec}
use Rattle.desk_port.specs.Desk.{DeskState, HasMore, ReadFault, after_read}
use Rattle.endings.specs.declared.stop.Stop.{Stop}
use Rattle.endings.specs.declared.stop.Stop.TheVariants.{CannotRead, TooLong, BadFile, NotAlike, CannotWrite, OutOfMemory}
use Rattle.endings.specs.declared.reading.TheConstants.{READ_LIMIT}

-- the greatest length of a file that is read, 1,073,741,824 bytes
abbrev pub limit : ℕ
limit = READ_LIMIT

-- the read gave these bytes, which are those of the named file where the desk tells its files
abbrev pub FileIs : DeskState → List ℕ → List ℕ → Type 0
FileIs s name bytes = IfSome s.files (λ files. files name ≡ Some bytes) × (length bytes ≤ limit)

-- the named file is longer than the limit, where the desk tells its files
abbrev pub IsLong : DeskState → List ℕ → Type 0
IsLong s name = IfSome s.files (λ files. HasMore files name limit)

-- A file that a command reads. Which bytes are of its format may depend on the files before it, as a proof's text depends on
-- the CNF that it is about: the fault is the text of the first fault of bytes, behind files of the earlier bytes, or None
-- where they are of the format.
pub record Input : Type 0 where
  pub name : List ℕ
  pub fault : List (List ℕ) → List ℕ → Option (List ℕ)

-- the bytes of the named file are read, or reading it ends the command
abbrev pub ReadsBytes : ℕ → List ℕ → DeskState → DeskState → Result (Vec ℕ) Stop → Type 0
ReadsBytes k name old new (Ok bytes) = FileIs old name bytes.items × (new ≡ after_read old name)
ReadsBytes k name old new (Err (CannotRead j)) = (j ≡ k) × ReadFault (after_read old name) new
ReadsBytes k name old new (Err (TooLong j)) = (j ≡ k) × IsLong old name × (new ≡ after_read old name)
ReadsBytes k name old new (Err OutOfMemory) = new ≡ old
ReadsBytes k name old new (Err _) = ⊥

-- file number k ends the command: it can't be read, is too long, has this first fault, or memory runs out
abbrev pub StopsAt : ℕ → Input → List (List ℕ) → DeskState → DeskState → Stop → Type 0
StopsAt k i earlier old new (CannotRead j) = (j ≡ k) × ReadFault (after_read old i.name) new
StopsAt k i earlier old new (TooLong j) = (j ≡ k) × IsLong old i.name × (new ≡ after_read old i.name)
StopsAt k i earlier old new (BadFile j text) =
    (j ≡ k)
    × ((bytes : List ℕ) × FileIs old i.name bytes × (i.fault earlier bytes ≡ Some (string_bytes text)))
    × (new ≡ after_read old i.name)
StopsAt k i earlier old new OutOfMemory = (new ≡ old) ⊎ (new ≡ after_read old i.name)
StopsAt k i earlier old new (NotAlike text) = ⊥
StopsAt k i earlier old new CannotWrite = ⊥

-- file number k is read: its bytes have no fault and spell the value; or it ends the command
abbrev pub ReadsAs : {A : Type 0} → (List ℕ → A → Type 0) → ℕ → Input → List (List ℕ) → DeskState → DeskState → Result A Stop → Type 0
ReadsAs Spells k i earlier old new (Ok a) =
    ((bytes : List ℕ) × FileIs old i.name bytes × (i.fault earlier bytes ≡ None) × Spells bytes a)
    × (new ≡ after_read old i.name)
ReadsAs Spells k i earlier old new (Err stop) = StopsAt k i earlier old new stop

-- the files, behind those of the earlier bytes, hold these bytes, and none has a fault
abbrev pub AreRead : DeskState → List (List ℕ) → List Input → List (List ℕ) → Type 0
AreRead s earlier [] [] = Unit {0}
AreRead s earlier [] (bytes ∷ rest) = ⊥
AreRead s earlier (i ∷ is) [] = ⊥
AreRead s earlier (i ∷ is) (bytes ∷ rest) =
    FileIs s i.name bytes × (i.fault earlier bytes ≡ None) × AreRead s (earlier ++ bytes ∷ []) is rest

-- the desk after the files were read
abbrev pub after_reads : DeskState → List Input → DeskState
after_reads s [] = s
after_reads s (i ∷ is) = after_reads (after_read s i.name) is

-- The files from number k on, behind those of the earlier bytes, are read in order up to one that ends the command; those
-- before it have no fault, and none behind it is read.
abbrev pub ReadsUpTo : ℕ → List (List ℕ) → List Input → DeskState → DeskState → Stop → Type 0
ReadsUpTo k earlier [] old new stop = ⊥
ReadsUpTo k earlier (i ∷ is) old new stop =
    StopsAt k i earlier old new stop
    ⊎ ((bytes : List ℕ) × FileIs old i.name bytes × (i.fault earlier bytes ≡ None)
    × ReadsUpTo (k + 1) (earlier ++ bytes ∷ []) is (after_read old i.name) new stop)
