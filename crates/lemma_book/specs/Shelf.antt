-- By what an entry of a list is looked for, and the first one that is found by it.
use Rattle.std.specs.Prelude.{ℕ, Bool, false, Option, Some, List}
use Rattle.std.specs.Option.{option_map, option_map_or}
use Rattle.netlist.specs.Place.{place_of}
use Rattle.lemma_book.specs.declared.entry.Entry.{Entry}
use Rattle.lemma_book.specs.declared.entry.Entry.TheVariants.{Spent}
use Rattle.lemma_book.specs.declared.index.Key.{Key}
use Rattle.lemma_book.specs.declared.index.Key.TheVariants.{On, SpentOn}
use Rattle.lemma_book.specs.contracts.index.KeyPartialEq.TheImpl as key_eq
use Rattle.lemma_book.specs.Entry.{subject_of}

-- the `==` of keys
abbrev pub same_key : Key → Key → Bool
same_key = key_eq.ghosts.eq

-- an entry is found by its subject, and a spent one by its node and literal
abbrev pub key_of : Entry → Option Key
key_of (Spent node lit seen log) = Some (SpentOn (record { node = node; lit = lit }))
key_of e = option_map On (subject_of e)

abbrev pub is_key : Key → Option Key → Bool
is_key k o = option_map_or (λ x. same_key x k) o false

abbrev pub has_key : Key → Entry → Bool
has_key k e = is_key k (key_of e)

-- the number of the first entry with the key
abbrev pub number_of : List Entry → Key → Option ℕ
number_of entries k = place_of (has_key k) entries
