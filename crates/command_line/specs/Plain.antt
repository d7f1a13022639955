-- Words that say plainly what they ask for, as a user writes them.
use Rattle.std.specs.Prelude.{◌≡◌, ℕ, ◌≤◌, ◌==◌, Bool, true, false, List, [], ◌∷◌, Some, length, nat_lt, codes}
use Rattle.std.specs.List.{list_all}
use Rattle.std.specs.Char.{digit_value}
use Rattle.std.specs.Str.Parse.{digits_value}
use Rattle.clap.specs.Simple.{subcommand_of}
use Rattle.clap.specs.ValueTests.{is_unsigned_in}
use Rattle.clap.specs.Walk.{Row, first_of}
use Rattle.command_line.specs.Commands.{NumberOption, cec_app}
use Rattle.command_line.specs.Words.{Asks, CheckCommand, CheckIt, FraigCommand, FraigIt, faults, plain_check, plain_fraig}
use Rattle.workload_gen.specs.declared.kind.Kind.{Kind}
use Rattle.workload_gen.specs.declared.kind.Kind.TheVariants.{Adder, Parity, Comparator}

-- the word begins with `-`
abbrev pub begins_with_dash : List ℕ → Bool
begins_with_dash [] = false
begins_with_dash (b ∷ bs) = b == 45

abbrev pub IsPlain : List ℕ → Type 0
IsPlain word = begins_with_dash word ≡ false

-- the word is decimal digits alone, of a number in this range
pub record Writes (least most : ℕ) (word : List ℕ) (n : ℕ) : Type 0 where
  pub some : nat_lt 0 (length word) ≡ true
  pub digits : list_all (λ d. nat_lt (digit_value d) 10) word ≡ true
  pub value : digits_value 10 word ≡ n
  pub above : least ≤ n
  pub below : n ≤ most

-- the words behind the program's name ask for this check
abbrev pub AskCheck : List (List ℕ) → CheckCommand → Type 0
AskCheck words command = (program : List ℕ) → Asks (program ∷ words) (CheckIt command)

-- an option behind the names of two files sets its own field and no other, from a text, from a number in its range, from a name or
-- from nothing
abbrev pub SetsText : List ℕ → (CheckCommand → List ℕ → CheckCommand) → Type 0
SetsText flag set = (a b word : List ℕ) → IsPlain a → IsPlain b → IsPlain word
    → AskCheck (codes "check" ∷ a ∷ b ∷ flag ∷ word ∷ []) (set (plain_check a b) word)

abbrev pub SetsNumber : List ℕ → ℕ → ℕ → (CheckCommand → ℕ → CheckCommand) → Type 0
SetsNumber flag least most set = (a b word : List ℕ) (n : ℕ) → IsPlain a → IsPlain b → Writes least most word n
    → AskCheck (codes "check" ∷ a ∷ b ∷ flag ∷ word ∷ []) (set (plain_check a b) n)

abbrev pub SetsName : List ℕ → List ℕ → (CheckCommand → CheckCommand) → Type 0
SetsName flag name set = (a b : List ℕ) → IsPlain a → IsPlain b
    → AskCheck (codes "check" ∷ a ∷ b ∷ flag ∷ name ∷ []) (set (plain_check a b))

abbrev pub SetsFlag : List ℕ → (CheckCommand → CheckCommand) → Type 0
SetsFlag flag set = (a b : List ℕ) → IsPlain a → IsPlain b → AskCheck (codes "check" ∷ a ∷ b ∷ flag ∷ []) (set (plain_check a b))

-- the same of a reduced circuit
abbrev pub AskFraig : List (List ℕ) → FraigCommand → Type 0
AskFraig words command = (program : List ℕ) → Asks (program ∷ words) (FraigIt command)

abbrev pub SetsFraigNumber : List ℕ → ℕ → ℕ → (FraigCommand → ℕ → FraigCommand) → Type 0
SetsFraigNumber flag least most set = (a reduced word : List ℕ) (n : ℕ) → IsPlain a → IsPlain reduced → Writes least most word n
    → AskFraig (codes "fraig" ∷ a ∷ reduced ∷ flag ∷ word ∷ []) (set (plain_fraig a reduced) n)

-- what is given for an option of this command is a number in its range, where the words have no fault: its default stands only
-- where it is left out
abbrev pub IsInRange : List ℕ → NumberOption → Type 0
IsInRange name o = (words : List (List ℕ)) (rows : List Row) (text : List ℕ) → faults words ≡ []
    → subcommand_of cec_app words ≡ Some (name, rows) → first_of o.id rows ≡ Some text
    → is_unsigned_in o.least o.most text ≡ true

-- the name of a kind of workload
abbrev pub kind_name : Kind → List ℕ
kind_name Adder = codes "adder"
kind_name Parity = codes "parity"
kind_name Comparator = codes "comparator"
