-- What is written is read back.
use Rattle.std.proofs.Common.{◌≡◌, ℕ, ◌+◌, ◌^◌, ◌<◌, Bool, true, false, eqb, List, [], ◌∷◌, ◌++◌, Option, Some, None, Ok, length, map, drop, decimal, refl, sym, ap, ◌∙◌, subst, append-nil, append_assoc, ne_eqb, eq-eqb, le-ltb, lt-ltb, arith}
use Rattle.std.specs.Prelude.{codes}
use Rattle.std.specs.List.{flat_map, list_any, AllByRecursion}
use Rattle.std.proofs.lemmas.Bool.{eqb-true}
use Rattle.std.proofs.lemmas.List.{map-append}
use Rattle.byte_scan.specs.Scanning.{value_from}
use Rattle.lits.specs.Clause.{firsts, IsClause}
use Rattle.lits.specs.Dimacs.{DimacsLiteral}
use Rattle.lits.specs.Same.{same_dim, opposite_dim}
use Rattle.tokens.specs.declared.number.Number.{Number}
use Rattle.tokens.specs.Numbers.{number_in}
use Rattle.tokens.specs.Text.{literal_text, joined, ended}
use Rattle.tokens.specs.Words.{Part, placed, is_whitespace, lines_in, words_by}
use Rattle.tokens.proofs.Facts.{bytes_of, placed_words-bytes, IsToken, IsToken-decimal, IsToken-literal, PartsTokens-whitespace, words_by-joined, joined-one_line, trailed-joined, lines-ended, size_in-decimal, number_in-literal}
use Rattle.dimacs_text.specs.Words.{is_comment, without_comment, words_of, words_from, words_in}
use Rattle.dimacs_text.specs.Reading.{announced_in, header_in, entry_of, entry_in, entries_in, SpellsCnf}
use Rattle.dimacs_text.specs.Clauses.{entries_of}
use Rattle.dimacs_text.specs.CnfText.{IsOver, clause_text, header_text, cnf_text}
use Rattle.dimacs_text.proofs.ClauseLemmas.{clauses_in-whole}
use Rattle.dimacs_text.proofs.FirstsLemmas.{firsts-clauses}

-- ---- the lines that are written

-- the words of a clause's line, and of the header
abbrev clause_words : List DimacsLiteral → List (List ℕ)
clause_words clause = map literal_text clause ++ (48 ∷ []) ∷ []

abbrev header_words : ℕ → ℕ → List (List ℕ)
header_words variables count = codes "p" ∷ codes "cnf" ∷ decimal variables ∷ decimal count ∷ []

abbrev clause_line : List DimacsLiteral → List ℕ
clause_line clause = joined (clause_words clause)

abbrev lines : ℕ → List (List DimacsLiteral) → List (List ℕ)
lines variables clauses = joined (header_words variables (length clauses)) ∷ map clause_line clauses

clause_text-line : (clause : List DimacsLiteral) → clause_text clause ≡ ended (clause_line clause)
unfolding clause_text
clause_text-line clause =
    sym (append_assoc (flat_map (λ d. literal_text d ++ 32 ∷ []) clause) (48 ∷ []) (10 ∷ []))
    ∙ ap ended (trailed-joined literal_text clause (48 ∷ []))

clauses-lines : (clauses : List (List DimacsLiteral))
    → flat_map clause_text clauses ≡ flat_map ended (map clause_line clauses)
clauses-lines [] = refl
clauses-lines (c ∷ cs) = rw (clause_text-line c, clauses-lines cs) refl

header_text-line : (variables count : ℕ)
    → header_text variables count ≡ ended (joined (header_words variables count))
unfolding header_text
header_text-line variables count =
    rw (append-nil (decimal count), append_assoc (decimal variables) (32 ∷ []) (decimal count)) refl

cnf_text-lines : (variables : ℕ) (clauses : List (List DimacsLiteral))
    → cnf_text variables clauses ≡ flat_map ended (lines variables clauses)
unfolding cnf_text
cnf_text-lines variables clauses =
    rw (header_text-line variables (length clauses), clauses-lines clauses) refl

-- ---- their words

-- no line is a comment
abbrev AreSaid : List (List ℕ) → Type 0
AreSaid lines = AllByRecursion (λ line. is_comment line ≡ false) lines

lines-bytes : (at : ℕ) (lines : List (List ℕ)) → AreSaid lines
    → bytes_of
    (flat_map
    (λ (line : Part). words_of (record { at = line.at; bytes = without_comment line.bytes }))
    (placed at lines))
    ≡ flat_map (words_by is_whitespace) lines
lines-bytes at [] said = refl
lines-bytes at (line ∷ lines) said =
    let speaks = said.0 in
    let rest = placed (at + length line + 1) lines in
    map-append (λ (w : Part). w.bytes) (words_of (record { at = at; bytes = without_comment line }))
    (flat_map (λ (l : Part). words_of (record { at = l.at; bytes = without_comment l.bytes })) rest)
    ∙ rw (
      speaks,
      placed_words-bytes is_whitespace at line,
      lines-bytes
          (at + length line + 1) lines said.1,
    ) refl

words_from-bytes : (at : ℕ) (text : List ℕ) (lines : List (List ℕ)) → lines_in text ≡ lines
    → AreSaid lines
    → bytes_of (words_from at text) ≡ flat_map (words_by is_whitespace) lines
words_from-bytes at text lines e said = rw e (lines-bytes at lines said)

-- a line that begins with a number is none
number-speaks : (word more : List ℕ) (n : Number) → number_in word ≡ Some n
    → is_comment (word ++ more) ≡ false
number-speaks [] more n e = cc
number-speaks (b ∷ bs) more n e = go (eqb b 99) refl
  where
    go : (t : Bool) → eqb b 99 ≡ t → eqb b 99 ≡ false
    go false f = f
    go true f =
        let same : b ≡ 99 = eqb-true b 99 f in
        let none : number_in (99 ∷ bs) ≡ Some n =
        subst (λ (x : ℕ). number_in (x ∷ bs) ≡ Some n) same e in cc

module _ (variables : ℕ) (fits : variables < 2 ^ 31) where
  clause-tokens : (clause : List DimacsLiteral) → AllByRecursion (IsOver variables) clause
      → AllByRecursion IsToken (clause_words clause)
  clause-tokens [] all = (record { filled = refl; printed = refl }, tt)
  clause-tokens (d ∷ ds) all =
      (IsToken-literal d (all.0.0, omega (arith, all.0.1)), clause-tokens ds all.1)

  clause-speaks : (clause : List DimacsLiteral) → AllByRecursion (IsOver variables) clause
      → is_comment (clause_line clause) ≡ false
  clause-speaks [] all = refl
  clause-speaks (d ∷ ds) all =
      number-speaks (literal_text d) _ _ (number_in-literal d (all.0.0, omega (arith, all.0.1)))

  clauses-said : (clauses : List (List DimacsLiteral))
      → AllByRecursion (AllByRecursion (IsOver variables)) clauses
      → AreSaid (map clause_line clauses ++ [] ∷ [])
  clauses-said [] all = (refl, tt)
  clauses-said (c ∷ cs) all = (clause-speaks c all.0, clauses-said cs all.1)

  clauses-single : (clauses : List (List DimacsLiteral))
      → AllByRecursion (AllByRecursion (IsOver variables)) clauses
      → list_any (list_any (λ b. eqb b 10)) (map clause_line clauses) ≡ false
  clauses-single [] all = refl
  clauses-single (c ∷ cs) all =
      rw (joined-one_line (clause_words c) (clause-tokens c all.0), clauses-single cs all.1) refl

  header-tokens : (count : ℕ) → count < 2 ^ 31
      → AllByRecursion IsToken (header_words variables count)
  header-tokens count few = (
    record { filled = refl; printed = refl },
    (
      record { filled = refl; printed = refl },
      (IsToken-decimal variables (omega arith), (IsToken-decimal count (omega arith), tt)),
    ),
  )

  -- the text of an entry
  abbrev entry_text : Option DimacsLiteral → List ℕ
  entry_text None = 48 ∷ []
  entry_text (Some d) = literal_text d

  clause-texts : (clause : List DimacsLiteral)
      → clause_words clause ≡ map entry_text (entries_of clause)
  clause-texts [] = refl
  clause-texts (d ∷ ds) = ap (λ (l : List (List ℕ)). literal_text d ∷ l) (clause-texts ds)

  clauses-texts : (clauses : List (List DimacsLiteral))
      → AllByRecursion (AllByRecursion (IsOver variables)) clauses
      → flat_map (words_by is_whitespace) (map clause_line clauses ++ [] ∷ []) ≡ map entry_text
      (flat_map entries_of clauses)
  clauses-texts [] all = refl
  clauses-texts (c ∷ cs) all =
      rw (
        words_by-joined is_whitespace (clause_words c) PartsTokens-whitespace
            (clause-tokens c all.0),
        clause-texts c,
        clauses-texts cs all.1,
      )
      (sym (map-append entry_text (entries_of c) (flat_map entries_of cs)))

  words-texts : (clauses : List (List DimacsLiteral)) → length clauses < 2 ^ 31
      → AllByRecursion (AllByRecursion (IsOver variables)) clauses
      → bytes_of (words_in (cnf_text variables clauses))
      ≡ codes "p" ∷ codes "cnf" ∷ decimal variables ∷ decimal (length clauses) ∷ map entry_text
      (flat_map entries_of clauses)
  words-texts clauses few all =
      let header = header_words variables (length clauses) in
      let tokens = header-tokens (length clauses) few in
      let single = joined-one_line header tokens in
      let split : lines_in (cnf_text variables clauses) ≡ lines variables clauses ++ [] ∷ [] =
      ap lines_in (cnf_text-lines variables clauses)
      ∙ lines-ended (lines variables clauses) (rw (single, clauses-single clauses all) refl) in
      words_from-bytes 0 (cnf_text variables clauses) (lines variables clauses ++ [] ∷ []) split
      (refl, clauses-said clauses all)
      ∙ ap (λ (l : List (List ℕ)). l ++ flat_map (words_by is_whitespace)
      (map clause_line clauses ++ [] ∷ []))
      (words_by-joined is_whitespace header PartsTokens-whitespace tokens)
      ∙ ap (λ (l : List (List ℕ)). header ++ l) (clauses-texts clauses all)

  -- ---- what the words say

  announced_in-decimal : (n : ℕ) → n < 2 ^ 31 → announced_in (decimal n) ≡ Some n
  announced_in-decimal n lt = let below =
      lt-ltb _ _ lt in rw (size_in-decimal n (omega arith), below) refl

  -- the word 0 ends a clause
  entry-zero : (at : ℕ) → entry_of variables at (number_in (48 ∷ [])) ≡ Ok None
  unfolding value_from
  entry-zero at = let low = le-ltb variables 0 (omega arith) in rw low refl

  header-written : (count : ℕ) (words : List Part) (more : List (List ℕ)) → count < 2 ^ 31
      → bytes_of words ≡ codes "p" ∷ codes "cnf" ∷ decimal variables ∷ decimal count ∷ more
      → (header_in words ≡ Some (record { variables = variables; clauses = count })) ×
      (bytes_of (drop 4 words) ≡ more)
  header-written count [] more few e = cc
  header-written count (p ∷ []) more few e = cc
  header-written count (p ∷ q ∷ []) more few e = cc
  header-written count (p ∷ q ∷ v ∷ []) more few e = cc
  header-written count (p ∷ q ∷ v ∷ c ∷ words) more few e =
      let p_is : p.bytes ≡ codes "p" = cc in
      let cnf_is : q.bytes ≡ codes "cnf" = cc in
      let variables_is : v.bytes ≡ decimal variables = cc in
      let count_is : c.bytes ≡ decimal count = cc in
      let more_is : bytes_of words ≡ more = cc in
      let variables_read = announced_in-decimal variables fits in
      let count_read = announced_in-decimal count few in
      (rw (p_is, cnf_is, variables_is, count_is, variables_read, count_read) refl, more_is)

  abbrev IsEntry : Option DimacsLiteral → Type 0
  IsEntry None = Unit {0}
  IsEntry (Some d) = IsOver variables d

  entry-written : (entry : Option DimacsLiteral) (word : Part) → IsEntry entry
      → word.bytes ≡ entry_text entry → entry_in variables word ≡ Ok entry
  entry-written None word is e = rw e (entry-zero word.at)
  entry-written (Some d) word is e =
      let low = le-ltb variables d.var is.1 in
      let some : eqb d.var 0 ≡ false = ne_eqb _ _ (λ f. omega (arith, is.0)) in
      rw (e, number_in-literal d (is.0, omega (arith, is.1)), low, some) refl

  entries-written : (entries : List (Option DimacsLiteral)) (words : List Part)
      → AllByRecursion IsEntry entries → bytes_of words ≡ map entry_text entries
      → entries_in variables words ≡ Ok entries
  entries-written [] [] all e = refl
  entries-written [] (w ∷ ws) all e = cc
  entries-written (n ∷ ns) [] all e = cc
  entries-written (n ∷ ns) (w ∷ ws) all e =
      let here : w.bytes ≡ entry_text n = cc in
      let there : bytes_of ws ≡ map entry_text ns = cc in
      rw (entry-written n w all.0 here, entries-written ns ws all.1 there) refl

  clause-entries : (clause : List DimacsLiteral) (more : List (Option DimacsLiteral))
      → AllByRecursion (IsOver variables) clause → AllByRecursion IsEntry more
      → AllByRecursion IsEntry (entries_of clause ++ more)
  clause-entries [] more all rest = (tt, rest)
  clause-entries (d ∷ ds) more all rest = (all.0, clause-entries ds more all.1 rest)

  clauses-entries : (clauses : List (List DimacsLiteral))
      → AllByRecursion (AllByRecursion (IsOver variables)) clauses
      → AllByRecursion IsEntry (flat_map entries_of clauses)
  clauses-entries [] all = tt
  clauses-entries (c ∷ cs) all =
      clause-entries c (flat_map entries_of cs) all.0 (clauses-entries cs all.1)

  pub written-lists : (lists : List (List DimacsLiteral)) → length lists < 2 ^ 31
      → AllByRecursion (AllByRecursion (IsOver variables)) lists
      → SpellsCnf (cnf_text variables lists)
      (record { variables = variables; clauses = map (firsts same_dim) lists })
  written-lists lists few all =
      let header =
      header-written (length lists) (words_in (cnf_text variables lists))
      (map entry_text (flat_map entries_of lists)) few (words-texts lists few all) in
      let entries =
      entries-written (flat_map entries_of lists) (drop 4 (words_in (cnf_text variables lists)))
      (clauses-entries lists all) header.1 in
      let count = eq-eqb (length lists) (length lists) refl in
      rw (header.0, entries, clauses_in-whole lists, count) refl

  pub written-clauses : (clauses : List (List DimacsLiteral)) → length clauses < 2 ^ 31
      → AllByRecursion (AllByRecursion (IsOver variables)) clauses
      → AllByRecursion (IsClause same_dim opposite_dim) clauses
      → SpellsCnf (cnf_text variables clauses) (record { variables = variables; clauses = clauses })
  written-clauses clauses few all are =
      written-lists clauses few all ∙ rw (firsts-clauses clauses are) refl
