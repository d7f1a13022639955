-- What was answered is what is read.
use Rattle.std.proofs.Common.{◌≡◌, Bool, true, false, Result, Ok, Err}
use Rattle.std.specs.Bool.{OnFalse}
use Rattle.tokens.specs.Reading.{GivesUnless}

pub on_false : (b : Bool) {P : Type 0} → P → OnFalse b P
on_false true p = tt
on_false false p = p

pub gives-same : {A E : Type 0} (refused : E → Bool) (answer read : Result A E) → read ≡ answer
    → GivesUnless refused answer read
gives-same refused (Ok x) read e = e
gives-same refused (Err d) read e = on_false (refused d) e

pub gives-fault : {A B E : Type 0} (refused : E → Bool) (d : E) (read : Result A E)
    (more : Result B E)
    → (read ≡ Err d → more ≡ Err d) → GivesUnless refused (Err d) read
    → GivesUnless refused (Err d) more
gives-fault refused d read more f g = go (refused d) g
  where
    go : (b : Bool) → OnFalse b (read ≡ Err d) → OnFalse b (more ≡ Err d)
    go true h = tt
    go false h = f h
