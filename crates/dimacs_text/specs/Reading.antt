-- The CNF text of the DIMACS challenge (1993): the words `p`, `cnf`, the greatest variable and the number of clauses,
-- then the clauses, each its literals and a 0. A line's end parts words as a blank does, so a clause may span lines, and
-- comments may stand between any two lines. The first fault of a text is that of its first word that is out of place;
-- then its end is judged, and the number of its clauses last.
use Rattle.std.specs.Prelude.{◌≡◌, ℕ, ◌^◌, Bool, true, false, ◌&&◌, codes, List, [], ◌∷◌, length, map, drop, Option, Some, None, option_map, option_and_then, ok_or, Result, Ok, Err, nat_lt, ◌==◌, if◌then◌else◌}
use Rattle.std.specs.Str.{bytes_eq}
use Rattle.lits.specs.Clause.{firsts}
use Rattle.lits.specs.Dimacs.{DimacsLiteral}
use Rattle.lits.specs.Same.{same_dim}
use Rattle.dimacs_text.specs.declared.cnf.Cnf.{Cnf}
use Rattle.dimacs_text.specs.declared.error.CnfErr.{CnfErr}
use Rattle.dimacs_text.specs.declared.error.CnfErr.TheVariants.{BadHeader, BadNumber, Var, Count, Truncated, NoMemory}
use Rattle.dimacs_text.specs.declared.header.Header.{Header}
use Rattle.dimacs_text.specs.Words.{words_in}
use Rattle.tokens.specs.declared.number.Number.{Number}
use Rattle.tokens.specs.Numbers.{size_in, number_in}
use Rattle.tokens.specs.Reading.{◌>>=◌, GivesUnless}
use Rattle.tokens.specs.Words.{Part}

-- the number that a word of the header announces: digits alone, and at most 2,147,483,647
abbrev pub announced_in : List ℕ → Option ℕ
announced_in word = option_and_then (λ n. if nat_lt n (2 ^ 31) then Some n else None) (size_in word)

-- The header that four words are: `p`, `cnf`, the greatest variable and the number of clauses.
abbrev pub header_of : Part → Part → Part → Part → Option Header
header_of p cnf variables clauses =
    if bytes_eq p.bytes (codes "p") && bytes_eq cnf.bytes (codes "cnf")
    then option_and_then
    (λ v. option_map (λ c. record { variables = v; clauses = c }) (announced_in clauses.bytes))
    (announced_in variables.bytes)
    else None

-- the header that the first four words are
abbrev pub header_in : List Part → Option Header
header_in (p ∷ cnf ∷ variables ∷ clauses ∷ words) = header_of p cnf variables clauses
header_in words = None

-- what a word behind the header says: a literal, or none where it is the 0 that ends a clause
abbrev pub entry_of : ℕ → ℕ → Option Number → Result (Option DimacsLiteral) CnfErr
entry_of variables at None = Err (BadNumber at)
entry_of variables at (Some n) =
    if nat_lt variables n.size then Err (Var n.size)
    else if n.size == 0 then Ok None
    else Ok (Some (record { var = n.size; neg = n.minus }))

abbrev pub entry_in : ℕ → Part → Result (Option DimacsLiteral) CnfErr
entry_in variables word = entry_of variables word.at (number_in word.bytes)

-- what the words say, one after the other
abbrev pub entries_in : ℕ → List Part → Result (List (Option DimacsLiteral)) CnfErr
entries_in variables [] = Ok []
entries_in variables (word ∷ words) = do
  entry ← entry_in variables word
  entries ← entries_in variables words
  Ok (entry ∷ entries)

-- the clauses with a literal more in front of the first one, if there is one
abbrev pub with_literal : DimacsLiteral → List (List DimacsLiteral)
    → Option (List (List DimacsLiteral))
with_literal literal [] = None
with_literal literal (clause ∷ clauses) = Some ((literal ∷ clause) ∷ clauses)

-- The clauses of literals and zeros, if the last is a 0. Literals count as often as they stand there.
abbrev pub clauses_in : List (Option DimacsLiteral) → Option (List (List DimacsLiteral))
clauses_in [] = Some []
clauses_in (None ∷ entries) = option_map (λ clauses. [] ∷ clauses) (clauses_in entries)
clauses_in (Some literal ∷ entries) = option_and_then (with_literal literal) (clauses_in entries)

-- The formula of clauses, of which a text of this length has as many as its header announces. A repeated literal
-- counts once.
abbrev pub formula_of : Header → ℕ → Option (List (List DimacsLiteral)) → Result Cnf CnfErr
formula_of header size None = Err (Truncated size)
formula_of header size (Some clauses) =
    if length clauses == header.clauses
    then Ok (record { variables = header.variables; clauses = map (firsts same_dim) clauses })
    else Err (Count header.clauses (length clauses))

-- the formula that the words of a text of this length spell
abbrev pub formula_from : ℕ → List Part → Result Cnf CnfErr
formula_from size words = do
  header ← ok_or (header_in words) BadHeader
  entries ← entries_in header.variables (drop 4 words)
  formula_of header size (clauses_in entries)

-- The formula that a text spells, or its first fault.
abbrev pub formula_in : List ℕ → Result Cnf CnfErr
formula_in text = formula_from (length text) (words_in text)

-- the text is a CNF of this formula
abbrev pub SpellsCnf : List ℕ → Cnf → Type 0
SpellsCnf text cnf = formula_in text ≡ Ok cnf

-- whether memory was refused
abbrev pub is_refusal : CnfErr → Bool
is_refusal NoMemory = true
is_refusal error = false

-- the answer is what is read, unless memory was refused
abbrev pub Gives : {A : Type 0} → Result A CnfErr → Result A CnfErr → Type 0
Gives answer read = GivesUnless is_refusal answer read
