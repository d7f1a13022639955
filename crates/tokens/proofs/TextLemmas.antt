-- A text that grows at its end, step by step.
use Rattle.std.proofs.Common.{◌≡◌, ℕ, List, ◌++◌, ap, ◌∙◌, append_assoc}
use Rattle.tokens.specs.Text.{Begins}

pub begins_after : (old mid new text : List ℕ) → mid ≡ old ++ text → Begins mid new → Begins old new
begins_after old mid new text e b = record {
  more = text ++ b.more;
  is = b.is ∙ ap (λ (l : List ℕ). l ++ b.more) e ∙ append_assoc old text b.more;
}
