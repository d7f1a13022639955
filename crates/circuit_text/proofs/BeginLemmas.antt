-- Texts that grow by two parts.
use Rattle.std.proofs.Common.{◌≡◌, ℕ, List, ◌++◌, ◌∙◌, append_assoc}
use Rattle.tokens.specs.Text.{Begins}
use Rattle.tokens.proofs.Facts.{begins_after}

-- what grew from a text with two parts behind it grew from the text
pub begins_behind : (old first second mid new : List ℕ) → mid ≡ (old ++ first) ++ second → Begins mid new → Begins old new
begins_behind old first second mid new is = begins_after old mid new (first ++ second) (is ∙ append_assoc old first second)
