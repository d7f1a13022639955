-- The words of a plain check: `check`, the names of two files, and options that only say how the check works and where it leaves
-- its CNF and its proof.
use Rattle.std.specs.Prelude.{◌≡◌, ℕ, false, Contains, List, [], ◌∷◌, Option, Some, None, codes, fold, if◌then◌else◌}
use Rattle.std.specs.List.{AllByRecursion, flat_map}
use Rattle.std.specs.Str.{bytes_eq}
use Rattle.command_line.specs.Plain.{IsPlain}
use Rattle.command_line.specs.Words.{CheckCommand}

-- these options, each of which has a value
abbrev pub plain_options : List (List ℕ)
plain_options =
    codes "--out" ∷ codes "--workers" ∷ codes "--seed" ∷ codes "--words" ∷ codes "--sweep-budget" ∷ codes "--budget" ∷ []

-- the option is one of these, and its value doesn't begin with `-`
pub record IsPlainOption (option : List ℕ × List ℕ) : Type 0 where
  pub named : Contains plain_options option.0
  pub plain : IsPlain option.1

-- the value of `--out`, where it is among the options
abbrev pub out_of : List (List ℕ × List ℕ) → Option (List ℕ)
out_of = fold (λ out option. if bytes_eq option.0 (codes "--out") then Some option.1 else out) None

-- The words are the program's name, `check`, the names of the two files, and options, each with its value as the next word. The
-- names don't begin with `-`. Options stand in any order. Where one stands twice the words are refused.
pub record PlainCheck (a b : List ℕ) (out : Option (List ℕ)) (words : List (List ℕ)) : Type 0 where
  pub program : List ℕ
  pub options : List (List ℕ × List ℕ)
  pub words_are : words ≡ program ∷ codes "check" ∷ a ∷ b ∷ flat_map (λ o. o.0 ∷ o.1 ∷ []) options
  pub plain_a : IsPlain a
  pub plain_b : IsPlain b
  pub plain : AllByRecursion IsPlainOption options
  pub out_is : out ≡ out_of options

-- a check of the two files, paired by position, that reads no other file, writes none except under the prefix, and prints only its
-- verdict
pub record IsPlainCheck (a b : List ℕ) (out : Option (List ℕ)) (c : CheckCommand) : Type 0 where
  pub a_is : c.a ≡ a
  pub b_is : c.b ≡ b
  pub out_is : c.out ≡ out
  pub no_edits : c.edits ≡ None
  pub no_load : c.load ≡ None
  pub no_save : c.save ≡ None
  pub no_witness : c.witness ≡ None
  pub by_position : c.by_name ≡ false
  pub no_stats : c.stats ≡ false
  pub no_progress : c.progress ≡ false
