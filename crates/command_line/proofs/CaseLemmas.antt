-- Words ask for something, or for help or the version, or are refused.
use Rattle.std.proofs.Common.{◌≡◌, ◌⊎◌, ◌∙◌, ◌||◌, Bool, true, false, inl, inr, refl, sym, ap, List, [], ◌∷◌, Option, Some, None, is_some}
use Rattle.std.specs.Prelude.{option_and_then}
use Rattle.std.specs.List.{list_any}
use Rattle.clap.specs.Kinds.{Kinds}
use Rattle.clap.specs.Simple.{subcommand_of}
use Rattle.clap.specs.Walk.{Text, is_empty}
use Rattle.clap.specs.declared.error.kind.ErrorKind.{ErrorKind}
use Rattle.clap.specs.declared.error.kind.ErrorKind.TheVariants.{DisplayHelp, DisplayVersion}
use Rattle.command_line.specs.Commands.{cec_app}
use Rattle.command_line.specs.Words.{AreRefused, Asks, Misuses, Outcome, Request, Requested, WantHelp, WantInfo, WantVersion, faults, is_info, names_help, outcome_in, outcome_of}
use Rattle.command_line.proofs.AnswerLemmas.{some_kinds}
use Rattle.command_line.proofs.HelpLemmas.{faults_alone}
use Rattle.command_line.proofs.RequestLemmas.{some_outcome}

-- what the words' matches come to
abbrev made : List Text → Option Outcome
made words = option_and_then (λ p. outcome_in p.0 p.1) (subcommand_of cec_app words)

info_of : (words : List Text) → names_help words ≡ false → (k : ErrorKind) → is_info k ≡ true → faults words ≡ k ∷ []
    → WantInfo words
info_of words named DisplayHelp is same = inl (named, same)
info_of words named DisplayVersion is same = inr (named, same)
info_of words named other is same = cc

pub one_holds : (words : List Text) → ((r : Request) × Asks words r) ⊎ (WantInfo words ⊎ AreRefused words)
unfolding outcome_of
one_holds words = go (names_help words) refl
  where
    told : (named : names_help words ≡ false) (info : Bool) → list_any is_info (faults words) ≡ info → is_empty (faults words) ≡ false
        → ((r : Request) × Asks words r) ⊎ (WantInfo words ⊎ AreRefused words)
    told named true is some =
        let one = (faults_alone words).alone is in
        inr (inl (info_of words named one.0 one.1 one.2))
    told named false is some = inr (inr (inr (inl (some, is))))

    asked : (named : names_help words ≡ false) → faults words ≡ [] → (outcome : Option Outcome) → made words ≡ outcome → is_some outcome ≡ true
        → ((r : Request) × Asks words r) ⊎ (WantInfo words ⊎ AreRefused words)
    asked named none (Some (Requested r)) is some = inl (r, rw (named, none) is)
    asked named none (Some (Misuses word)) is some = inr (inr (inr (inr (word, rw (named, none) is))))
    asked named none None is some = cc

    found : (named : names_help words ≡ false) (kinds : Kinds) → faults words ≡ kinds
        → ((r : Request) × Asks words r) ⊎ (WantInfo words ⊎ AreRefused words)
    found named [] none = asked named none (made words) refl (some_outcome words none)
    found named (k ∷ ks) is = told named (list_any is_info (faults words)) refl (ap is_empty is ∙ some_kinds k ks)

    go : (b : Bool) → names_help words ≡ b → ((r : Request) × Asks words r) ⊎ (WantInfo words ⊎ AreRefused words)
    go true named = inr (inr (inl named))
    go false named = found named (faults words) refl

-- words that come to something have no fault
outcome_parts : (words : List Text) (o : Outcome) → outcome_of words ≡ Some o → (names_help words ≡ false) × (is_empty (faults words) ≡ true)
unfolding outcome_of
outcome_parts words o asks = go (names_help words) (is_empty (faults words)) refl refl
  where
    go : (b d : Bool) → names_help words ≡ b → is_empty (faults words) ≡ d → (names_help words ≡ false) × (is_empty (faults words) ≡ true)
    go false true named none = (named, none)
    go false false named none = let bad : None ≡ Some o = rw (named, none) at asks in cc
    go true d named none = let bad : None ≡ Some o = rw named at asks in cc

-- a request for help or the version, and what else the words aren't then
module _ (words : List Text) (k : ErrorKind) (info : is_info k ≡ true) (named : names_help words ≡ false)
    (is : faults words ≡ k ∷ []) where
  no_outcome : (o : Outcome) → ¬ (outcome_of words ≡ Some o)
  no_outcome o asks =
      let none = (outcome_parts words o asks).1 in
      let bad : is_empty (k ∷ []) ≡ true = rw is at none in
      cc

  not_refused : ¬ AreRefused words
  not_refused (inl help) = cc
  not_refused (inr (inl other)) =
      let none : list_any is_info (k ∷ []) ≡ false = rw is at other.1 in
      let bad : (true || false) ≡ false = rw info at none in
      cc
  not_refused (inr (inr none)) = no_outcome (Misuses none.0) none.1

pub asks_alone : (words : List Text) (r : Request) → Asks words r → ¬ (WantInfo words ⊎ AreRefused words)
asks_alone words r asks (inl (inl help)) = no_outcome words DisplayHelp refl help.0 help.1 (Requested r) asks
asks_alone words r asks (inl (inr version)) =
    no_outcome words DisplayVersion refl version.0 version.1 (Requested r) asks
asks_alone words r asks (inr (inl named)) = let parts = (outcome_parts words (Requested r) asks).0 in cc
asks_alone words r asks (inr (inr (inl other))) = let parts = (outcome_parts words (Requested r) asks).1 in cc
asks_alone words r asks (inr (inr (inr none))) =
    let bad : Some (Requested r) ≡ Some (Misuses none.0) = sym asks ∙ none.1 in
    cc

pub info_alone : (words : List Text) → WantInfo words → ¬ AreRefused words
info_alone words (inl help) = not_refused words DisplayHelp refl help.0 help.1
info_alone words (inr version) = not_refused words DisplayVersion refl version.0 version.1

pub help_alone : (words : List Text) → WantHelp words → ¬ WantVersion words
help_alone words help version = let bad : DisplayHelp ∷ [] ≡ DisplayVersion ∷ [] = sym help.1 ∙ version.1 in cc
