-- The form of a reader's contract: `GivesUnless refused answer read`, where `read` is what a format's grammar finds.
-- Each format writes `Gives answer read` for it, with its own test of an error.
use Rattle.std.specs.Prelude.{◌≡◌, Bool, Result, Ok, Err}
use Rattle.std.specs.Bool.{OnFalse}

-- what is found where nothing is wrong, and else the first fault
infixl 10 ◌>>=◌
abbrev pub ◌>>=◌ : {A B E : Type 0} → Result A E → (A → Result B E) → Result B E
(Ok x) >>= f = f x
(Err e) >>= f = Err e

-- The answer is what is read: the value, or the first fault. Of the error that says that memory was refused (`refused`
-- tells it) nothing more is said.
abbrev pub GivesUnless : {A E : Type 0} → (E → Bool) → Result A E → Result A E → Type 0
GivesUnless refused (Ok x) read = read ≡ Ok x
GivesUnless refused (Err e) read = OnFalse (refused e) (read ≡ Err e)
