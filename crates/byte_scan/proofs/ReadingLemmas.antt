-- What a function answers, from its cases.
use Rattle.std.proofs.Common.{◌≡◌, ℕ, ◌+◌, Bool, true, false, eqb, List, [], ◌∷◌, length, Some, None, Result, Ok, Err, refl, sym, ◌∙◌}
use Rattle.std.specs.Prelude.{IfOk, IfErr}
use Rattle.byte_scan.specs.declared.errors.AigerErr.{AigerErr}
use Rattle.byte_scan.specs.declared.errors.AigerErr.TheVariants.{BadHeader, NoMemory}
use Rattle.byte_scan.specs.declared.counts.Header.{Header}
use Rattle.byte_scan.specs.Scanning.{Place, ahead, moved, digits, value, line_of, next_line}
use Rattle.byte_scan.specs.HeaderLine.{header_numbers, header_of, numbers_fault}
use Rattle.std.proofs.lemmas.Bool.{eqb-true}
use Rattle.std.proofs.lemmas.Option.{none-some, same_Some}
use Rattle.byte_scan.proofs.PlaceLemmas.{next_some}
use Rattle.byte_scan.specs.Reading.{IsFault, Reads, header_at, number_at, ◌>>=◌}

pub IsFault-from : {A : Type 0} (e : AigerErr) (found : Result A AigerErr) → found ≡ Err e → IsFault e found
IsFault-from NoMemory found h = tt
IsFault-from e found h = h

-- a fault of what is read first is that of the whole
pub IsFault-bind : {A B : Type 0} (e : AigerErr) (found : Result A AigerErr) (f : A → Result B AigerErr) → IsFault e found → IsFault e (found >>= f)
IsFault-bind NoMemory found f h = tt
IsFault-bind e found f h = rw h refl

pub line_some : (bs line : List ℕ) → Some line ≡ next_line bs → line_of bs ≡ line
line_some [] line e = absurd (none-some line (sym e))
line_some (b ∷ bs) line e = same_Some (line_of (b ∷ bs)) line (sym (next_some b bs) ∙ sym e)

line_none : (bs : List ℕ) → None ≡ next_line bs → line_of bs ≡ []
line_none [] e = refl
line_none (b ∷ bs) e = absurd (none-some (line_of (b ∷ bs)) (e ∙ next_some b bs))

pub Reads-header : (r : Result Header AigerErr) (letter : ℕ) (p q : Place) (line ns : List ℕ) → Some line ≡ next_line (ahead p) → Some ns ≡ header_numbers letter line
    → q ≡ moved p (length (line_of (ahead p)) + 1) → IfOk r (λ h. h ≡ header_of ns) → IfOk r (λ h. numbers_fault letter (Some ns) ≡ None)
    → IfErr r (λ e. numbers_fault letter (Some ns) ≡ Some e) → Reads r q (header_at letter p)
Reads-header (Ok h) letter p q line ns at numbers is header sound fault = rw (is, line_some (ahead p) line at, sym numbers, sound, header) refl
Reads-header (Err e) letter p q line ns at numbers is header sound fault =
    IsFault-from e (header_at letter p) (rw (line_some (ahead p) line at, sym numbers, fault) refl)

pub header-none : (letter : ℕ) (p : Place) → None ≡ next_line (ahead p) → header_at letter p ≡ Err BadHeader
header-none letter p at = rw (line_none (ahead p) at) refl

pub header-other : (letter : ℕ) (p : Place) (line : List ℕ) → Some line ≡ next_line (ahead p) → None ≡ header_numbers letter line → header_at letter p ≡ Err BadHeader
header-other letter p line at numbers = rw (line_some (ahead p) line at, sym numbers) refl

-- the fault of a header's line
pub fault-header : (r : Result Header AigerErr) (letter : ℕ) (p : Place) (line ns : List ℕ) → Some line ≡ next_line (ahead p) → Some ns ≡ header_numbers letter line
    → IfErr r (λ e. numbers_fault letter (Some ns) ≡ Some e) → IfErr r (λ e. header_at letter p ≡ Err e)
fault-header (Ok h) letter p line ns at numbers fault = tt
fault-header (Err e) letter p line ns at numbers fault = rw (line_some (ahead p) line at, sym numbers, fault) refl

-- where the number that is due isn't there, the byte behind no digits is that in front
pub behind-none : (p : Place) (e : AigerErr) → number_at p ≡ Err e → moved p 1 ≡ moved p (length (digits (ahead p)) + 1)
behind-none p e h = go (eqb (length (digits (ahead p))) 0) refl
  where
    go : (t : Bool) → eqb (length (digits (ahead p))) 0 ≡ t → moved p 1 ≡ moved p (length (digits (ahead p)) + 1)
    go true none = rw (eqb-true (length (digits (ahead p))) 0 none) refl
    go false some =
        let read : number_at p ≡ Ok (value (digits (ahead p)), moved p (length (digits (ahead p)))) = rw some refl in
        absurd (cc)
