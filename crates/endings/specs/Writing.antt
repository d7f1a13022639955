-- How a command leaves its files, one after another, and then says its verdict; and what stands where that fails.
use Rattle.std.specs.Prelude.{◌≡◌, ◌⊎◌, ℕ, List, [], ◌∷◌, length, Some, None, Result, Ok, Err}
use Rattle.std.specs.Option.{option_map}
use Rattle.std.specs.List.{flat_map}
use Rattle.desk_port.specs.Desk.{DeskState, Sizes, Starts, Closes, WriteFault, OfSomePrefix, put, after_emptying, after_start, after_say, and_sizes}
use Rattle.desk_port.specs.Pieces.{StopsInPieces, piece_sizes}
use Rattle.desk_port.specs.declared.errors.PutErr.{PutErr}
use Rattle.endings.specs.Stops.{stop_of_put}
use Rattle.endings.specs.declared.stop.Stop.{Stop}
use Rattle.endings.specs.declared.stop.Stop.TheVariants.{CannotRead, TooLong, BadFile, NotAlike, CannotWrite, OutOfMemory}

-- A file that a command leaves.
pub record Output : Type 0 where
  pub name : List ℕ
  pub bytes : List ℕ

-- the desk after the file was written whole and closed
abbrev pub after_file : DeskState → Output → DeskState
after_file s o = record s { files = option_map (put o.name o.bytes) s.files; started = None }

-- the desk while the named file is started and holds these bytes
abbrev pub while_writing : DeskState → List ℕ → List ℕ → DeskState
while_writing s name part = record s { files = option_map (put name part) s.files; started = Some name }

-- The file isn't written whole. Starting it failed, and it is as before or empty; writing failed, and a first part of its bytes
-- stands in it, which is still started; closing failed, and it is whole. Or memory ran out: before it was started, or while it is
-- started and holds a first part.
abbrev pub StopsIn : Output → DeskState → DeskState → Stop → Type 0
StopsIn o old new CannotWrite =
    WriteFault old new
    ⊎ WriteFault (after_emptying old o.name) new
    ⊎ OfSomePrefix o.bytes (λ part. WriteFault (while_writing old o.name part) new)
    ⊎ WriteFault (after_file old o) new
StopsIn o old new OutOfMemory =
    (new ≡ old) ⊎ OfSomePrefix o.bytes (λ part. new ≡ while_writing old o.name part)
StopsIn o old new (CannotRead file) = ⊥
StopsIn o old new (TooLong file) = ⊥
StopsIn o old new (BadFile file text) = ⊥
StopsIn o old new (NotAlike text) = ⊥

-- the file is written whole and closed, or not
abbrev pub WritesFile : {A : Type 0} → Output → DeskState → DeskState → Result A PutErr → Type 0
WritesFile o old new (Ok a) = new ≡ after_file old o
WritesFile o old new (Err e) = StopsIn o old new (stop_of_put e)

-- The sizes of the writes by which a file went out that isn't written whole: none where it wasn't started; those of the whole
-- pieces before the one that was refused; and those of all its pieces where it couldn't be closed.
abbrev pub StopsBetweenWrites : Output → DeskState → DeskState → Sizes → Sizes → PutErr → Type 0
StopsBetweenWrites o old new sizes told e =
    (Starts old new o.name (Err e) × (told ≡ sizes))
    ⊎ StopsInPieces o.bytes e (after_start old o.name) new sizes told
    ⊎ (Closes (while_writing old o.name o.bytes) new (Err e) × (told ≡ and_sizes sizes (piece_sizes (length o.bytes))))

-- the desk after the files were written and closed, one after the other
abbrev pub after_files : DeskState → List Output → DeskState
after_files s [] = s
after_files s (o ∷ os) = after_files (after_file s o) os

-- the files are written in order, each closed before the next is started, up to one that isn't written whole; none behind it is
-- touched
abbrev pub StopsAmong : List Output → DeskState → DeskState → Stop → Type 0
StopsAmong [] old new stop = ⊥
StopsAmong (o ∷ os) old new stop = StopsIn o old new stop ⊎ StopsAmong os (after_file old o) new stop

-- the sizes of the writes by which files go out, each in whole pieces and a rest
abbrev pub sizes_of : List Output → List ℕ
sizes_of outputs = flat_map (λ o. piece_sizes (length o.bytes)) outputs

-- the text is said; where that failed, a first part of it
abbrev pub Says : List ℕ → DeskState → DeskState → Result (Unit {0}) Stop → Type 0
Says text old new (Ok _) = new ≡ after_say old text
Says text old new (Err CannotWrite) = OfSomePrefix text (λ part. WriteFault (after_say old part) new)
Says text old new (Err OutOfMemory) = new ≡ old
Says text old new (Err (CannotRead file)) = ⊥
Says text old new (Err (TooLong file)) = ⊥
Says text old new (Err (BadFile file why)) = ⊥
Says text old new (Err (NotAlike why)) = ⊥

-- The files are written in order, each closed before the next is started, and then the text is said. Behind a file that isn't
-- written whole none is touched, and nothing is said.
abbrev pub Leaves : List Output → List ℕ → DeskState → DeskState → Result (Unit {0}) Stop → Type 0
Leaves [] text old new result = Says text old new result
Leaves (o ∷ os) text old new (Ok u) = Leaves os text (after_file old o) new (Ok u)
Leaves (o ∷ os) text old new (Err stop) = StopsIn o old new stop ⊎ Leaves os text (after_file old o) new (Err stop)
