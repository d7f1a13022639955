-- Commands that are made of the rows of the table.
use Rattle.std.proofs.Common.{◌≡◌, ◌∙◌, ◌+◌, ◌<◌, ℕ, Bool, false, ◌||◌, List, ap, ap₂, sym, refl, subst, map, take, length, get_or, [], ◌∷◌, ◌++◌}
use Rattle.std.proofs.lemmas.List.{append_assoc, append-nil, take_more}
use Rattle.clap.proofs.SimpleLemmas.{not_empty}
use Rattle.clap.specs.Walk.{Rule, Text}
use Rattle.clap.specs.Words.{AddsArg, AddsInTurn, AddsSubcommand, app_of, rule_of}
use Rattle.clap.specs.Simple.{App, Shape, with_rule, with_subcommand}
use Rattle.clap.specs.declared.builder.arg.Arg.{Arg}
use Rattle.clap.specs.declared.builder.command.Command.{Command}
use Rattle.clap.specs.declared.builder.command.Command.TheViews.{out-Command as fields_of}
use Rattle.command_line.specs.Commands.{command, program}
use Rattle.command_line.specs.Table.{AreCommands, leaf, leaf_in, rule_in, shape_in}
use Rattle.command_line.specs.declared.table.ArgumentRow.{ArgumentRow}
use Rattle.command_line.specs.declared.table.CommandRow.{CommandRow}

-- each argument is that of its row, and of its command alone
abbrev pub AreArguments : List Arg → List ArgumentRow → Type 0
AreArguments [] [] = Unit {0}
AreArguments (x ∷ xs) (y ∷ ys) = ((rule_of x ≡ rule_in y) × (x.global ≡ false)) × AreArguments xs ys
AreArguments [] (y ∷ ys) = ⊥
AreArguments (x ∷ xs) [] = ⊥

-- one argument more
more_arguments : (xs : List Arg) (ys : List ArgumentRow) (a : Arg) (row : ArgumentRow) → AreArguments xs ys
    → rule_of a ≡ rule_in row → a.global ≡ false → AreArguments (xs ++ a ∷ []) (ys ++ row ∷ [])
more_arguments [] [] a row fits is local = ((is, local), tt)
more_arguments (x ∷ xs) (y ∷ ys) a row fits is local = (fits.0, more_arguments xs ys a row fits.1 is local)
more_arguments [] (y ∷ ys) a row fits is local = absurd fits
more_arguments (x ∷ xs) [] a row fits is local = absurd fits

-- one command more
more_commands : (xs : List Command) (ys : List CommandRow) (c : Command) (row : CommandRow) → AreCommands xs ys
    → app_of c ≡ leaf_in row → (fields_of c).has_globals ≡ false → AreCommands (xs ++ c ∷ []) (ys ++ row ∷ [])
more_commands [] [] c row fits is local = ((is, local), tt)
more_commands (x ∷ xs) (y ∷ ys) c row fits is local = (fits.0, more_commands xs ys c row fits.1 is local)
more_commands [] (y ∷ ys) c row fits is local = absurd fits
more_commands (x ∷ xs) [] c row fits is local = absurd fits

-- the argument of the next row comes last
pub next_argument : (rows : List ArgumentRow) (i : ℕ) (row : ArgumentRow) (xs : List Arg) (a : Arg)
    → i < length rows → AreArguments xs (take i rows) → rule_of a ≡ rule_in (get_or rows i row) → a.global ≡ false
    → AreArguments (xs ++ a ∷ []) (take (i + 1) rows)
next_argument rows i row xs a inside fits is local =
    rw (take_more rows i row inside) (more_arguments xs (take i rows) a (get_or rows i row) fits is local)

-- the command of the next row comes last
pub next_command : (rows : List CommandRow) (i : ℕ) (row : CommandRow) (xs : List Command) (c : Command)
    → i < length rows → AreCommands xs (take i rows) → app_of c ≡ leaf_in (get_or rows i row) → (fields_of c).has_globals ≡ false
    → AreCommands (xs ++ c ∷ []) (take (i + 1) rows)
next_command rows i row xs c inside fits is local =
    rw (take_more rows i row inside) (more_commands xs (take i rows) c (get_or rows i row) fits is local)

-- a command gets the arguments of the rows
pub with_arguments : (name : Text) (xs : List Arg) (ys : List ArgumentRow) (rules : List Rule) (old new : Command)
    → AreArguments xs ys → app_of old ≡ leaf (command name rules) → (fields_of old).has_globals ≡ false
    → AddsInTurn AddsArg old xs new
    → (app_of new ≡ leaf (command name (rules ++ map rule_in ys))) × ((fields_of new).has_globals ≡ false)
with_arguments name [] [] rules old new fits app local same =
    subst (λ (c : Command). (app_of c ≡ leaf (command name (rules ++ []))) × ((fields_of c).has_globals ≡ false)) same
    (app ∙ ap (λ (all : List Rule). leaf (command name all)) (sym (append-nil rules)), local)
with_arguments name (x ∷ xs) (y ∷ ys) rules old new fits app local turn =
    let step = turn.1 in
    let next = step.shape fits.0.1 ∙ ap₂ with_rule app fits.0.0 in
    let own = step.globals ∙ ap₂ (λ (p q : Bool). p || q) local fits.0.1 in
    let rest = with_arguments name xs ys (rules ++ rule_in y ∷ []) turn.0 new fits.1 next own turn.2 in
    (rest.0 ∙ ap (λ (all : List Rule). leaf (command name all)) (append_assoc rules (rule_in y ∷ []) (map rule_in ys)), rest.1)
with_arguments name [] (y ∷ ys) rules old new fits app local turn = absurd fits
with_arguments name (x ∷ xs) [] rules old new fits app local turn = absurd fits

-- the program gets the commands of the rows
pub with_commands : (xs : List Command) (ys : List CommandRow) (shapes : List Shape) (old new : Command)
    → AreCommands xs ys → app_of old ≡ program shapes → AddsInTurn AddsSubcommand old xs new
    → app_of new ≡ program (shapes ++ map shape_in ys)
with_commands [] [] shapes old new fits app same =
    subst (λ (c : Command). app_of c ≡ program (shapes ++ [])) same (app ∙ ap program (sym (append-nil shapes)))
with_commands (x ∷ xs) (y ∷ ys) shapes old new fits app turn =
    let next = turn.1.shape fits.0.1 ∙ ap₂ with_subcommand app (ap (λ (a : App). a.top) fits.0.0) ∙ grown (shape_in y) in
    with_commands xs ys (shapes ++ shape_in y ∷ []) turn.0 new fits.1 next turn.2
    ∙ ap program (append_assoc shapes (shape_in y ∷ []) (map shape_in ys))
  where
    grown : (shape : Shape) → with_subcommand (program shapes) shape ≡ program (shapes ++ shape ∷ [])
    grown shape = rw (not_empty shapes shape) refl
with_commands [] (y ∷ ys) shapes old new fits app turn = absurd fits
with_commands (x ∷ xs) [] shapes old new fits app turn = absurd fits
