-- How a set finds its literals: by chains, or by a mark for each code.
use Rattle.std.specs.Prelude.{◌≡◌, ℕ, Bool, false, List}
use Rattle.std.specs.List.{slice_index_or}
use Rattle.lits.specs.Clause.{has}
use Rattle.lits.specs.Chains.{IsReady}
use Rattle.lits.specs.declared.finder.Finder.{Finder}
use Rattle.lits.specs.declared.finder.Finder.TheVariants.{Chains, Marks}

abbrev pub is_marked : List Bool → ℕ → Bool
is_marked marks code = slice_index_or marks code false

-- the literals of the list are marked, and no others
abbrev pub AreMarks : {L : Type 0} → (L → L → Bool) → (L → ℕ) → List Bool → List L → Type 0
AreMarks {L} eq code marks lits = (x : L) → is_marked marks (code x) ≡ has eq lits x

-- no two literals have one code
abbrev pub HasOwnCodes : {L : Type 0} → (L → ℕ) → Type 0
HasOwnCodes {L} code = (x y : L) → code x ≡ code y → x ≡ y

-- the finder is one of the list
abbrev pub IsFinder : {L : Type 0} → (L → L → Bool) → (L → ℕ) → List L → Finder → Type 0
IsFinder eq code lits (Chains c) = IsReady code c.heads.items c.links.items lits
IsFinder eq code lits (Marks m) = HasOwnCodes code × AreMarks eq code m.marks.items lits
