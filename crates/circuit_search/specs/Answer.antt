-- What a search answers: an entry about what it was asked, and good over the book.
use Rattle.std.specs.Prelude.{◌≡◌, ◌⊎◌, ◌+◌, ◌-◌, ◌^◌, min, ℕ, Option, None, Some, ⊤}
use Rattle.netlist.specs.Net.{AigPair}
use Rattle.lemma_book.specs.declared.entry.Entry.{Entry}
use Rattle.lemma_book.specs.Entry.{Entries}
use Rattle.lemma_book.specs.Good.{IsGood}
pub use Rattle.search_parts.specs.Settles.{SettlesOutput, SettlesPair}

-- a search gives up, or finds an entry that is good over the book and settles what was asked
abbrev pub Finds : (Entry → Type 0) → AigPair → Entries → Option Entry → Type 0
Finds settles net book None = ⊤
Finds settles net book (Some e) = settles e × IsGood net book e

-- how many entries were refused, after one more; at the top of a word the count stays
abbrev pub after_one_more : ℕ → ℕ
after_one_more refused = min (refused + 1) (2 ^ 64 - 1)

-- an entry that is handed out isn't counted, and one that the book refuses is
abbrev pub CountsRefused : ℕ → ℕ → Option Entry → Type 0
CountsRefused before after None = after ≡ after_one_more before
CountsRefused before after (Some e) = after ≡ before

-- a search counts an entry that the book refuses, and nothing else
abbrev pub CountsDropped : ℕ → ℕ → Option Entry → Type 0
CountsDropped before after None = (after ≡ before) ⊎ (after ≡ after_one_more before)
CountsDropped before after (Some e) = after ≡ before
