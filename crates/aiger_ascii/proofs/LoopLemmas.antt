-- One more line, and the fault of one.
use Rattle.std.proofs.Common.{◌≡◌, ℕ, ◌+◌, ◌-◌, ◌<◌, ◌≤◌, Result, Ok, refl}
use Rattle.lits.proofs.Facts.{left-more, left-none}
use Rattle.byte_scan.specs.declared.errors.AigerErr.{AigerErr}
use Rattle.byte_scan.specs.Scanning.{Place}
use Rattle.byte_scan.specs.Reading.{IsFault}
use Rattle.byte_scan.proofs.Facts.{IsFault-bind}
use Rattle.netlist.specs.Circuit.{Aig}
use Rattle.aiger_ascii.specs.Ascii.{lines_at}

abbrev Line : Type 0
Line = ℕ → Aig → Place → Result (Aig × Place) AigerErr

pub lines-step : (line : Line) (n k m : ℕ) (c d : Aig) (p q : Place) → k < n → line m c p ≡ Ok (d, q)
    → lines_at line (n - k) m c p ≡ lines_at line (n - (k + 1)) m d q
lines-step line n k m c d p q lt e = rw (left-more n k lt, e) refl

pub lines-fault : (line : Line) (n k m : ℕ) (c : Aig) (p : Place) (e : AigerErr) → k < n → IsFault e (line m c p)
    → IsFault e (lines_at line (n - k) m c p)
lines-fault line n k m c p e lt fault =
    rw (left-more n k lt) (IsFault-bind e (line m c p) (λ next. lines_at line (n - (k + 1)) m next.0 next.1) fault)

pub lines-end : (line : Line) (n k m : ℕ) (c : Aig) (p : Place) → n ≤ k → lines_at line (n - k) m c p ≡ Ok (c, p)
lines-end line n k m c p le = rw (left-none n k le) refl
