-- When a book is legal, and what an entry that is good already makes of a book.
use Rattle.std.specs.Prelude.{◌≡◌, ℕ, ◌≤◌, List, [], ◌++◌, length}
use Rattle.std.specs.Option.{option_map_or}
use Rattle.netlist.specs.Net.{AigPair}
use Rattle.unit_prop.specs.Log.{InTurn}
use Rattle.lemma_book.specs.declared.entry.Entry.{Entry}
use Rattle.lemma_book.specs.declared.refused.Offered.{Offered}
use Rattle.lemma_book.specs.declared.refused.Offered.TheVariants.{At, Already}
use Rattle.lemma_book.specs.Entry.{Entries, settled_at, with_last}
use Rattle.lemma_book.specs.Good.{IsGood}

-- each entry is good over those before it
abbrev pub IsLegal : AigPair → Entries → Type 0
IsLegal net book =
    InTurn (λ before e. IsGood net (record { sweep_budget = book.sweep_budget; out_budget = book.out_budget; entries = before }) e)
    [] book.entries

-- the book has these entries and perhaps more behind them
pub record StartsWith (book first : Entries) : Type 0 where
  pub rest : List Entry
  pub entries : book.entries ≡ first.entries ++ rest
  pub sweep : book.sweep_budget ≡ first.sweep_budget
  pub out : book.out_budget ≡ first.out_budget

-- the answer to an entry that is good: the place of the entry that settles it, or its own, which is the last
abbrev pub answer_to : Entries → Entry → Offered
answer_to book e = option_map_or Already (settled_at book.entries e) (At (length book.entries))

-- the book after it: an entry that is settled changes nothing
abbrev pub book_after : Entries → Entry → Entries
book_after book e = option_map_or (λ i. book) (settled_at book.entries e) (with_last book e)

-- the answer's place is at least so great
abbrev pub IsFrom : ℕ → Offered → Type 0
IsFrom n (At i) = n ≤ i
IsFrom n (Already i) = n ≤ i
