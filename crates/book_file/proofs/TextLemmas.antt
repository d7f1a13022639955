-- The text of lemmas spells them.
use Rattle.std.proofs.Common.{◌≡◌, ◌≢◌, ℕ, ◌+◌, ◌^◌, ◌<◌, Bool, true, false, eqb, Some, List, [], ◌∷◌, ◌++◌, map, decimal, Result, Ok, length, refl, ap, ◌∙◌, append_assoc, arith}
use Rattle.std.specs.Prelude.{codes}
use Rattle.std.specs.List.{list_any, flat_map, AllByRecursion}
use Rattle.std.proofs.lemmas.List.Folds.{list_any-append}
use Rattle.lits.specs.Clause.{IsClause}
use Rattle.lits.specs.Same.{same_lit, opposite}
use Rattle.lits.specs.declared.node.Side.TheVariants.{A, B}
use Rattle.lits.specs.declared.node.Node.{Node}
use Rattle.lits.specs.declared.node.Node.TheVariants.{Const, Input, Gate, Xor}
use Rattle.lits.specs.declared.literal.Lit.{Lit}
use Rattle.lits.specs.declared.step.Ref.{Ref}
use Rattle.lits.specs.declared.step.Step.{Step}
use Rattle.lemma_book.specs.declared.entry.Entry.{Entry}
use Rattle.lemma_book.specs.declared.entry.Entry.TheVariants as entry
use Rattle.tokens.specs.Reading.{◌>>=◌}
use Rattle.tokens.specs.Text.{joined}
use Rattle.tokens.proofs.Facts.{IsToken, IsToken-decimal, joined-one_line, lines-ended}
use Rattle.book_file.specs.declared.error.BookErr.{BookErr}
use Rattle.book_file.specs.declared.said.Said.TheVariants.{Header, Merge, Out, Shows, Ends}
use Rattle.book_file.specs.Lines.{is_word, literals_in, names_in, said_of, said_in}
use Rattle.book_file.specs.Reading.{Opening, AnEntry, AStep, MoreSteps, Spelled, spelled_from, SpellsBook}
use Rattle.book_file.specs.Writing.{node_text, literal_text, name_text, step_words, merge_words, out_words, step_lines, entry_lines, text_of, FitsNode}
use Rattle.book_file.proofs.FirstsLemmas.{whole-clause}
use Rattle.book_file.proofs.LineLemmas.{spelled-line}
use Rattle.book_file.proofs.WordLemmas.{words-joined, number-decimal, IsToken-node, node-read, IsToken-literal, literal-read, CanName, IsToken-name, name-read}

-- ---- lines

-- what a file can say of a step, and of a lemma
pub record CanShow (s : Step) : Type 0 where
  pub clause : IsClause same_lit opposite s.clause
  pub lits : AllByRecursion (λ l. FitsNode l.node) s.clause
  pub hints : AllByRecursion CanName s.hints

abbrev pub CanWrite : Entry → Type 0
CanWrite (entry.Merge node lit steps) = FitsNode node × FitsNode lit.node × (steps ≢ []) × AllByRecursion CanShow steps
CanWrite (entry.Out j steps) = (j < 2 ^ 32) × (steps ≢ []) × AllByRecursion CanShow steps
CanWrite e = ⊥

-- no node and no literal is the semicolon
node-no_mark : (n : Node) → is_word (codes ";") (node_text n) ≡ false
unfolding node_text
node-no_mark Const = refl
node-no_mark (Input k) = refl
node-no_mark (Gate A v) = refl
node-no_mark (Gate B v) = refl
node-no_mark (Xor j) = refl

not_mark : (l : Lit) → is_word (codes ";") (literal_text l) ≡ false
unfolding literal_text
not_mark l = go l.neg refl
  where
    go : (b : Bool) → l.neg ≡ b → is_word (codes ";") (literal_text l) ≡ false
    go false e = rw e (node-no_mark l.node)
    go true e = rw e refl

literals-read : (lits : List Lit) (words : List (List ℕ)) → AllByRecursion (λ l. FitsNode l.node) lits
    → literals_in (map literal_text lits ++ codes ";" ∷ words) ≡ Some (lits, words)
literals-read [] words all = refl
literals-read (l ∷ ls) words all = rw (not_mark l, literal-read l all.0, literals-read ls words all.1) refl

names-read : (names : List Ref) → AllByRecursion CanName names → names_in (map name_text names) ≡ Some names
names-read [] all = refl
names-read (r ∷ rs) all = rw (name-read r all.0, names-read rs all.1) refl

tokens-names : (names : List Ref) → AllByRecursion CanName names → AllByRecursion IsToken (map name_text names)
tokens-names [] all = tt
tokens-names (r ∷ rs) all = (IsToken-name r all.0, tokens-names rs all.1)

tokens-literals : (lits : List Lit) (more : List (List ℕ)) → AllByRecursion (λ l. FitsNode l.node) lits → AllByRecursion IsToken more
    → AllByRecursion IsToken (map literal_text lits ++ more)
tokens-literals [] more all rest = rest
tokens-literals (l ∷ ls) more all rest = (IsToken-literal l all.0, tokens-literals ls more all.1 rest)

step-tokens : (s : Step) → CanShow s → AllByRecursion IsToken (step_words s)
step-tokens s can = (
  record { filled = refl; printed = refl },
  tokens-literals s.clause (codes ";" ∷ map name_text s.hints) can.lits (record { filled = refl; printed = refl }, tokens-names s.hints can.hints),
)

step-said : (s : Step) → CanShow s → said_in (joined (step_words s)) ≡ Some (Shows s)
step-said s can =
    let tokens = step-tokens s can in
    ap said_of (words-joined (codes "s") (map literal_text s.clause ++ codes ";" ∷ map name_text s.hints) tokens.0 tokens.1)
    ∙ rw (literals-read s.clause (map name_text s.hints) can.lits, names-read s.hints can.hints, whole-clause s.clause s.clause refl can.clause) refl

merge-tokens : (node : Node) (lit : Lit) → FitsNode node → FitsNode lit.node → AllByRecursion IsToken (merge_words node lit)
merge-tokens node lit fits fits' = (record { filled = refl; printed = refl }, (IsToken-node node fits, (IsToken-literal lit fits', tt)))

merge-said : (node : Node) (lit : Lit) → FitsNode node → FitsNode lit.node → said_in (joined (merge_words node lit)) ≡ Some (Merge node lit)
merge-said node lit fits fits' =
    let tokens = merge-tokens node lit fits fits' in
    ap said_of (words-joined (codes "m") (node_text node ∷ literal_text lit ∷ []) tokens.0 tokens.1)
    ∙ rw (node-read node fits, literal-read lit fits') refl

out-tokens : (j : ℕ) → j < 2 ^ 32 → AllByRecursion IsToken (out_words j)
out-tokens j fits = (record { filled = refl; printed = refl }, (IsToken-decimal j (omega arith), tt))

out-said : (j : ℕ) → j < 2 ^ 32 → said_in (joined (out_words j)) ≡ Some (Out j)
out-said j fits =
    let tokens = out-tokens j fits in
    ap said_of (words-joined (codes "o") (decimal j ∷ []) tokens.0 tokens.1)
    ∙ rw (number-decimal (2 ^ 32) j fits (omega arith)) refl

-- ---- what lines spell

abbrev spells : List Step → List Entry → Result Spelled BookErr
spells steps entries = Ok (record { steps = steps; entries = entries })

longer : (xs ys : List (List ℕ)) → 0 < length ys → 0 < length (xs ++ ys)
longer [] ys some = some
longer (x ∷ xs) ys some = omega arith

module _ (rest : List (List ℕ)) (some : 0 < length rest) (es : List Entry)
    (behind : (at : ℕ) → spelled_from AnEntry at rest ≡ spells [] es) where
  more-steps : (steps : List Step) → AllByRecursion CanShow steps → (at : ℕ) → spelled_from MoreSteps at (step_lines steps ++ rest) ≡ spells steps es
  more-steps [] all at = spelled-line MoreSteps at (codes ".") rest some Ends AnEntry refl refl ∙ rw (behind (at + 1)) refl
  more-steps (s ∷ ss) all at =
      spelled-line MoreSteps at (joined (step_words s)) (step_lines ss ++ rest) (longer (step_lines ss) rest some) (Shows s) MoreSteps
      (step-said s all.0) refl
      ∙ rw (more-steps ss all.1 (at + 1)) refl

  first-steps : (steps : List Step) → steps ≢ [] → AllByRecursion CanShow steps → (at : ℕ)
      → spelled_from AStep at (step_lines steps ++ rest) ≡ spells steps es
  first-steps [] none all at = absurd (none refl)
  first-steps (s ∷ ss) none all at =
      spelled-line AStep at (joined (step_words s)) (step_lines ss ++ rest) (longer (step_lines ss) rest some) (Shows s) MoreSteps
      (step-said s all.0) refl
      ∙ rw (more-steps ss all.1 (at + 1)) refl

  entry-spelled : (e : Entry) → CanWrite e → (at : ℕ) → spelled_from AnEntry at (entry_lines e ++ rest) ≡ spells [] (e ∷ es)
  entry-spelled (entry.Merge node lit steps) can at =
      spelled-line AnEntry at (joined (merge_words node lit)) (step_lines steps ++ rest) (longer (step_lines steps) rest some) (Merge node lit) AStep
      (merge-said node lit can.0 can.1) refl
      ∙ rw (first-steps steps can.2 can.3 (at + 1)) refl
  entry-spelled (entry.Out j steps) can at =
      spelled-line AnEntry at (joined (out_words j)) (step_lines steps ++ rest) (longer (step_lines steps) rest some) (Out j) AStep
      (out-said j can.0) refl
      ∙ rw (first-steps steps can.1 can.2 (at + 1)) refl
  entry-spelled (entry.Apart node lit input) can at = absurd can
  entry-spelled (entry.Spent node lit seen log) can at = absurd can
  entry-spelled (entry.OutApart j input) can at = absurd can
  entry-spelled (entry.OutSpent j seen log) can at = absurd can

entries-spelled : (es : List Entry) → AllByRecursion CanWrite es → (at : ℕ)
    → spelled_from AnEntry at (flat_map entry_lines es ++ [] ∷ []) ≡ spells [] es
entries-spelled [] all at = refl
entries-spelled (e ∷ es) all at =
    ap (spelled_from AnEntry at) (append_assoc (entry_lines e) (flat_map entry_lines es) ([] ∷ []))
    ∙ entry-spelled (flat_map entry_lines es ++ [] ∷ []) (longer (flat_map entry_lines es) ([] ∷ []) (omega arith)) es
    (entries-spelled es all.1) e all.0 at

-- ---- no line ends in a line

abbrev pub has_end : List ℕ → Bool
has_end line = list_any (λ b. eqb b 10) line

steps-one_line : (steps : List Step) → AllByRecursion CanShow steps → list_any has_end (step_lines steps) ≡ false
steps-one_line [] all = refl
steps-one_line (s ∷ ss) all = rw (joined-one_line (step_words s) (step-tokens s all.0), steps-one_line ss all.1) refl

entry-one_line : (e : Entry) → CanWrite e → list_any has_end (entry_lines e) ≡ false
entry-one_line (entry.Merge node lit steps) can =
    rw (joined-one_line (merge_words node lit) (merge-tokens node lit can.0 can.1), steps-one_line steps can.3) refl
entry-one_line (entry.Out j steps) can = rw (joined-one_line (out_words j) (out-tokens j can.0), steps-one_line steps can.2) refl
entry-one_line (entry.Apart node lit input) can = absurd can
entry-one_line (entry.Spent node lit seen log) can = absurd can
entry-one_line (entry.OutApart j input) can = absurd can
entry-one_line (entry.OutSpent j seen log) can = absurd can

entries-one_line : (es : List Entry) → AllByRecursion CanWrite es → list_any has_end (flat_map entry_lines es) ≡ false
entries-one_line [] all = refl
entries-one_line (e ∷ es) all =
    list_any-append has_end (entry_lines e) (flat_map entry_lines es) ∙ rw (entry-one_line e all.0, entries-one_line es all.1) refl

-- the text of lemmas spells them
pub text-spells : (lemmas : List Entry) → AllByRecursion CanWrite lemmas → SpellsBook (text_of lemmas) lemmas
text-spells lemmas all =
    ap (λ (ls : List (List ℕ)). spelled_from Opening 1 ls >>= λ spelled. Ok spelled.entries)
    (lines-ended (codes "lemmas 1" ∷ flat_map entry_lines lemmas) (rw (entries-one_line lemmas all) refl))
    ∙ ap (λ (s : Result Spelled BookErr). s >>= λ spelled. Ok spelled.entries)
    (spelled-line Opening 1 (codes "lemmas 1") (flat_map entry_lines lemmas ++ [] ∷ []) (longer (flat_map entry_lines lemmas) ([] ∷ []) (omega arith))
    Header AnEntry refl refl)
    ∙ rw (entries-spelled lemmas all 2) refl
