use Rattle.std.proofs.Common.{◌≡◌, ℕ, List, length, refl, sym, ap, ◌∙◌, arith}
use Rattle.byte_scan.specs.Scanning.{Place, ahead, digits, number_of}
use Rattle.tokens.proofs.NumberLemmas.{size_in-part, size_in-none, size_in-number}
use Rattle.tokens.proofs.number.size_in.Goals as goal

pub returns-in_err-size : goal.returns-in_err-size
returns-in_err-size c =
    let here : ahead c.new-scan.result ≡ c.args.word.now =
    rw (c.new-scan.ensures.bytes, c.new-scan.ensures.at) refl in
    c.from_residual.ensures
    ∙ sym (size_in-none c.args.word.now (c.in_err-size.ensures.number ∙ ap number_of here))

pub returns-then-at-word : goal.returns-then-at-word
returns-then-at-word c =
    let here : ahead c.new-scan.result ≡ c.args.word.now =
    rw (c.new-scan.ensures.bytes, c.new-scan.ensures.at) refl in
    let front = ap (λ (w : List ℕ). length (digits w)) here in
    let whole = ap (λ (w : List ℕ). length w) c.new-scan.ensures.bytes in
    let at = ap (λ (p : Place). p.at) c.in_ok-size.ensures.moved in
    sym (size_in-part c.args.word.now (omega (arith, front, whole, at)))

pub returns : goal.returns
returns c =
    let here : ahead c.new-scan.result ≡ c.args.word.now =
    rw (c.new-scan.ensures.bytes, c.new-scan.ensures.at) refl in
    let front = ap (λ (w : List ℕ). length (digits w)) here in
    let whole = ap (λ (w : List ℕ). length w) c.new-scan.ensures.bytes in
    let at = ap (λ (p : Place). p.at) c.in_ok-size.ensures.moved in
    sym (size_in-number c.args.word.now c.in_ok-size.size
    (c.in_ok-size.ensures.number ∙ ap number_of here) (omega (arith, front, whole, at)))
