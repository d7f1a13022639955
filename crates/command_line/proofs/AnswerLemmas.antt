-- What `read` answers, by the kinds of a refusal.
use Rattle.std.proofs.Common.{◌≡◌, ◌⊎◌, ◌∙◌, ℕ, true, false, inl, inr, refl, sym, ap, subst, List, [], ◌∷◌, Bool, Option, Some, None, is_some}
use Rattle.std.specs.Prelude.{option_and_then, string_bytes, Result, Ok, Err, IfOk, IfErr}
use Rattle.std.specs.List.{list_any}
use Rattle.std.proofs.lemmas.Bool.{false_from_ne_true}
use Rattle.clap.specs.Kinds.{IsAmong, Kinds}
use Rattle.clap.specs.Simple.{HasMatchesOf}
use Rattle.clap.specs.Walk.{Row, Text, is_empty}
use Rattle.clap.specs.declared.parser.matches.ArgMatches.{ArgMatches}
use Rattle.clap.specs.declared.error.kind.ErrorKind.{ErrorKind}
use Rattle.clap.specs.declared.error.kind.ErrorKind.TheVariants.{DisplayHelp, DisplayVersion, OutOfMemory}
use Rattle.command_line.specs.Answers.{Informs, MayRefuse, request, version_text}
use Rattle.command_line.specs.Parsing.{IsRefusal, RefusesFound, RefusesHelp, RefusesMisuse, found}
use Rattle.command_line.specs.declared.asked.Asked.{Asked}
use Rattle.command_line.specs.Commands.{cec_app}
use Rattle.command_line.specs.Words.{AreRefused, AskAmiss, Asks, Misuse, Misuses, Outcome, Requested, WantHelp, faults, is_info, names_help, outcome_in, outcome_of}
use Rattle.command_line.specs.declared.reading.Refusal.{Refusal}
use Rattle.command_line.specs.declared.reading.Refusal.TheVariants.{Help, Usage, NoMemory}
use Rattle.command_line.proofs.HelpLemmas.{faults_alone}
use Rattle.command_line.proofs.RequestLemmas.{some_outcome}
use Rattle.std.proofs.lemmas.Bool.{ne_eqb, or_left, or_right}
use Rattle.std.proofs.Common.{arith}

pub some_kinds : (k : ErrorKind) (ks : Kinds) → is_empty (k ∷ ks) ≡ false
some_kinds k ks = ne_eqb _ _ (λ e. omega arith)

-- a kind that is among some makes them some
among_some : (kinds : Kinds) (k : ErrorKind) → IsAmong k kinds → is_empty kinds ≡ false
among_some [] k among = absurd among
among_some (x ∷ xs) k among = some_kinds x xs

among_info : (kinds : Kinds) (k : ErrorKind) → IsAmong k kinds → is_info k ≡ true → list_any is_info kinds ≡ true
among_info [] k among info = absurd among
among_info (x ∷ xs) k (inl is) info = or_left _ _ (subst (λ (y : ErrorKind). is_info y ≡ true) is info)
among_info (x ∷ xs) k (inr rest) info = or_right _ _ (among_info xs k rest info)

among_one : (j k : ErrorKind) → IsAmong k (j ∷ []) → k ≡ j
among_one j k (inl is) = is
among_one j k (inr none) = absurd none

-- a request for help or the version is the only kind where it is one
only_info : (words : List Text) (k : ErrorKind) → IsAmong k (faults words) → is_info k ≡ true → faults words ≡ k ∷ []
only_info words k among info =
    let one = (faults_alone words).alone (among_info (faults words) k among info) in
    let same : k ≡ one.0 = among_one one.0 k (subst (λ (kinds : Kinds). IsAmong k kinds) one.2 among) in
    one.2 ∙ ap (λ (j : ErrorKind). j ∷ []) (sym same)

wanted : (words : List Text) (k j : ErrorKind) → names_help words ≡ false → (k ≡ OutOfMemory) ⊎ IsAmong k (faults words)
    → k ≡ j → is_info j ≡ true → (names_help words ≡ false) × (faults words ≡ j ∷ [])
wanted words k j named (inl memory) is info =
    let bad : is_info OutOfMemory ≡ true = subst (λ (x : ErrorKind). is_info x ≡ true) (sym is ∙ memory) info in cc
wanted words k j named (inr among) is info =
    (named, only_info words j (subst (λ (x : ErrorKind). IsAmong x (faults words)) is among) info)

-- the words ask for help or the version where that is the kind of the refusal
info_wanted : (words : List Text) (k : ErrorKind) (text : List ℕ) → names_help words ≡ false
    → (k ≡ OutOfMemory) ⊎ IsAmong k (faults words)
    → (k ≡ DisplayHelp) ⊎ ((k ≡ DisplayVersion) × (text ≡ version_text)) → Informs words text
info_wanted words k text named fails (inl help) =
    let wants : WantHelp words = wanted words k DisplayHelp named fails help refl in
    record {
      wanted = inl wants;
      version = λ other. let bad : DisplayHelp ∷ [] ≡ DisplayVersion ∷ [] = sym wants.1 ∙ other.1 in cc;
    }
info_wanted words k text named fails (inr version) = record {
  wanted = inr (wanted words k DisplayVersion named fails version.0 refl);
  version = λ wants. version.1;
}

-- and are refused where it is another one
words_refused : (words : List Text) (k : ErrorKind) → (k ≡ OutOfMemory) ⊎ IsAmong k (faults words) → is_info k ≡ false
    → (k ≡ OutOfMemory → ⊥) → AreRefused words
words_refused words k (inl memory) other no_memory = absurd (no_memory memory)
words_refused words k (inr among) other no_memory = inr (inl (
  among_some (faults words) k among,
  false_from_ne_true _ (λ info.
      let one = (faults_alone words).alone info in
      let same : k ≡ one.0 = among_one one.0 k (subst (λ (kinds : Kinds). IsAmong k kinds) one.2 among) in
      let is : is_info k ≡ true = subst (λ (x : ErrorKind). is_info x ≡ true) (sym same) one.1 in
      cc),
))

-- words with a fault come to nothing
no_outcome : (words : List Text) (o : Outcome) → is_empty (faults words) ≡ false → outcome_of words ≡ Some o → ⊥
unfolding outcome_of
no_outcome words o some is = go (names_help words) refl
  where
    go : (b : Bool) → names_help words ≡ b → ⊥
    go true named = let bad : None ≡ Some o = rw named at is in cc
    go false named = let bad : None ≡ Some o = rw (named, some) at is in cc

fault_there : (words : List Text) (k : ErrorKind) → (k ≡ OutOfMemory) ⊎ IsAmong k (faults words) → (k ≡ OutOfMemory → ⊥)
    → is_empty (faults words) ≡ false
fault_there words k (inl memory) no_memory = absurd (no_memory memory)
fault_there words k (inr among) no_memory = among_some (faults words) k among

pub refusal_told : (words : List Text) (k : ErrorKind) (refusal : Refusal) → names_help words ≡ false
    → (k ≡ OutOfMemory) ⊎ IsAmong k (faults words) → IsRefusal k refusal → MayRefuse words refusal
refusal_told words k (Help text) named fails is = info_wanted words k (string_bytes text) named fails is
refusal_told words k (Usage text) named fails is = (
  words_refused words k fails is.0 is.1,
  record {
    no_help = λ help. let bad : true ≡ false = sym help ∙ named in cc;
    amiss = λ word asks. absurd (no_outcome words (Misuses word) (fault_there words k fails is.1) asks);
  },
)
refusal_told words k NoMemory named fails is = tt

-- ---- words that are taken

-- the matches come to something
pub outcome_there : (words : List Text) (m : ArgMatches) → faults words ≡ [] → HasMatchesOf cec_app words m → is_some (found m) ≡ true
outcome_there words m none matches =
    ap (λ (p : Option (Text × List Row)). is_some (option_and_then (λ (q : Text × List Row). outcome_in q.0 q.1) p)) (matches refl).1
    ∙ some_outcome words none

-- to what the words come to
pub outcome_told : (words : List Text) (m : ArgMatches) (o : Outcome) → names_help words ≡ false → faults words ≡ [] → HasMatchesOf cec_app words m
    → found m ≡ Some o → outcome_of words ≡ Some o
unfolding outcome_of
outcome_told words m o named none matches made = rw (named, none, ← (matches refl).1) made

-- values that ask for nothing are refused
misuse_told : (words : List Text) (word : Misuse) (refusal : Refusal) → names_help words ≡ false → AskAmiss words word → RefusesMisuse word refusal
    → MayRefuse words refusal
misuse_told words word (Help text) named asks is = absurd is
misuse_told words word (Usage text) named asks is = (
  inr (inr (word, asks)),
  record {
    no_help = λ help. let bad : true ≡ false = sym help ∙ named in cc;
    amiss = λ other others.
        let same : Some (Misuses word) ≡ Some (Misuses other) = sym asks ∙ others in
        let equal : word ≡ other = cc in
        rw (← equal) is;
  },
)
misuse_told words word NoMemory named asks is = tt

found_told : (words : List Text) (m : ArgMatches) (refusal : Refusal) → names_help words ≡ false → faults words ≡ [] → HasMatchesOf cec_app words m
    → RefusesFound (found m) refusal → MayRefuse words refusal
found_told words m refusal named none matches refuses = go (found m) refl refuses
  where
    go : (o : Option Outcome) → found m ≡ o → RefusesFound o refusal → MayRefuse words refusal
    go (Some (Misuses word)) is r = misuse_told words word refusal named (outcome_told words m (Misuses word) named none matches is) r
    go (Some (Requested request)) is r = absurd r
    go None is r = absurd r

-- the same of an answer
pub answer_asks : (words : List Text) (m : ArgMatches) (answer : Result Asked Refusal) → names_help words ≡ false → faults words ≡ []
    → HasMatchesOf cec_app words m → IfOk answer (λ asked. found m ≡ Some (Requested (request asked)))
    → IfOk answer (λ asked. Asks words (request asked))
answer_asks words m (Ok asked) named none matches is = outcome_told words m (Requested (request asked)) named none matches is
answer_asks words m (Err refusal) named none matches is = is

pub answer_refuses : (words : List Text) (m : ArgMatches) (answer : Result Asked Refusal) → names_help words ≡ false → faults words ≡ []
    → HasMatchesOf cec_app words m → IfErr answer (RefusesFound (found m)) → IfErr answer (MayRefuse words)
answer_refuses words m (Ok asked) named none matches is = is
answer_refuses words m (Err refusal) named none matches is = found_told words m refusal named none matches is

-- the command `help` is refused
no_request : (words : List Text) (o : Outcome) → names_help words ≡ true → outcome_of words ≡ Some o → ⊥
unfolding outcome_of
no_request words o named is = let bad : None ≡ Some o = rw named at is in cc

pub help_refused : (words : List Text) (refusal : Refusal) → names_help words ≡ true → RefusesHelp refusal → MayRefuse words refusal
help_refused words (Help text) named is = absurd is
help_refused words (Usage text) named is = (
  inl named,
  record {
    no_help = λ help. is;
    amiss = λ word asks. absurd (no_request words (Misuses word) named asks);
  },
)
help_refused words NoMemory named is = tt
