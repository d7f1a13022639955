-- How the line of a written step comes apart into its words.
use Rattle.std.proofs.Common.{◌≡◌, ℕ, ◌^◌, ◌<◌, false, eqb, List, [], ◌∷◌, ◌++◌, map, decimal, refl, arith}
use Rattle.std.specs.List.{list_any, AllByRecursion}
use Rattle.lits.specs.Dimacs.{DimacsLiteral}
use Rattle.lits.proofs.Facts.{all-append}
use Rattle.tokens.specs.Words.{is_space}
use Rattle.tokens.specs.Text.{literal_text, IsInRange}
use Rattle.tokens.proofs.Facts.{IsToken, IsToken-decimal, IsToken-literal, PartsTokens-space, words_by-joined, joined-one_line}
use Rattle.lrat_text.specs.declared.step.LratStep.{LratStep}
use Rattle.lrat_text.specs.declared.step.LratStep.TheVariants.{Add, Del}
use Rattle.lrat_text.specs.Reading.{words_in}
use Rattle.lrat_text.specs.Writing.{words_of, step_text, IsId, IsWritable}
use Rattle.lrat_text.specs.Steps.{id_after}

ids-words : (ids : List ℕ) → AllByRecursion IsId ids → AllByRecursion IsToken (map decimal ids)
ids-words [] all = tt
ids-words (id ∷ ids) all = (IsToken-decimal id (omega (arith, all.0.1)), ids-words ids all.1)

literals-words : (literals : List DimacsLiteral) → AllByRecursion IsInRange literals
    → AllByRecursion IsToken (map literal_text literals)
literals-words [] all = tt
literals-words (l ∷ ls) all = (IsToken-literal l all.0, literals-words ls all.1)

zero-word : IsToken (48 ∷ [])
zero-word = record { filled = refl; printed = refl }

d-word : IsToken (100 ∷ [])
d-word = record { filled = refl; printed = refl }

pub words_of-words : (last : ℕ) (step : LratStep) → IsWritable last step
    → AllByRecursion IsToken (words_of step)
words_of-words last (Add id clause hints) can =
    all-append IsToken (map literal_text clause)
    ((48 ∷ []) ∷ (map decimal hints ++ (48 ∷ []) ∷ [])) (literals-words clause can.2) (
      zero-word,
      all-append IsToken (map decimal hints) ((48 ∷ []) ∷ []) (ids-words hints can.3)
          (zero-word, tt),
    )
words_of-words last (Del ids) can = (
  d-word,
  all-append IsToken (map decimal ids) ((48 ∷ []) ∷ []) (ids-words ids can)
      (zero-word, tt),
)

pub id_after-fits : (last d : ℕ) (step : LratStep) → IsWritable last step → d < 2 ^ 64
    → id_after d step < 2 ^ 64
id_after-fits last d (Add id clause hints) can lt = omega (arith, can.1)
id_after-fits last d (Del ids) can lt = lt

-- the words of a written step
pub words_in-step : (last d : ℕ) (step : LratStep) → IsWritable last step → d < 2 ^ 64
    → words_in (step_text d step) ≡ decimal (id_after d step) ∷ words_of step
words_in-step last d step can lt =
    words_by-joined is_space (decimal (id_after d step) ∷ words_of step) PartsTokens-space (
      IsToken-decimal (id_after d step)
          (id_after-fits last d step can lt),
      words_of-words last step can,
    )

pub step_text-one_line : (last d : ℕ) (step : LratStep) → IsWritable last step → d < 2 ^ 64
    → list_any (λ b. eqb b 10) (step_text d step) ≡ false
step_text-one_line last d step can lt =
    joined-one_line (decimal (id_after d step) ∷ words_of step) (
      IsToken-decimal (id_after d step)
          (id_after-fits last d step can lt),
      words_of-words last step can,
    )
