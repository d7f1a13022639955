-- Merged nodes, and the root that merges lead to: the representative of a node's class (Kuehlmann et al. 2002), found
-- by following entries to lower nodes.
use Rattle.std.specs.Prelude.{◌≡◌, ℕ, zero, suc, Bool, Option, None, Some, List, [], ◌∷◌, ◌++◌, length, slice_get, if◌then◌else◌}
use Rattle.std.specs.Option.{option_map_or, option_and_then}
use Rattle.lits.specs.declared.node.Node.{Node}
use Rattle.lits.specs.declared.literal.Lit.{Lit}
use Rattle.lits.specs.Same.{opposite}
use Rattle.lemma_book.specs.declared.entry.Entry.{Entry}
use Rattle.lemma_book.specs.declared.entry.Entry.TheVariants.{Merge}
use Rattle.lemma_book.specs.declared.entry.Subject.TheVariants.{Merged}
use Rattle.lemma_book.specs.Entry.{place_on}

-- the merge of a node: the place of its entry, and the literal that has the node's value
pub record MergeAt : Type 0 where
  pub entry : ℕ
  pub lit : Lit

abbrev pub merge_in : ℕ → Entry → Option MergeAt
merge_in k (Merge node lit steps) = Some (record { entry = k; lit = lit })
merge_in k _ = None

-- the merge of the node in the book; none exactly where the node isn't merged
abbrev pub merge_of : List Entry → Node → Option MergeAt
merge_of entries node =
    option_and_then (λ k. option_and_then (merge_in k) (slice_get entries k)) (place_on entries (Merged node))

-- the literal, or its negation
abbrev pub carried : Bool → Lit → Lit
carried neg l = if neg then opposite l else l

-- goes to the target of the literal's node, with the sign carried along, as long as the node is merged and so many times
-- at most
abbrev pub follow : ℕ → List Entry → Lit → Lit
follow zero entries l = l
follow (suc n) entries l = option_map_or (λ m. follow n entries (carried l.neg m.lit)) (merge_of entries l.node) l

-- the entries on that way
abbrev pub followed : ℕ → List Entry → Lit → List ℕ
followed zero entries l = []
followed (suc n) entries l =
    option_map_or (λ m. m.entry ∷ followed n entries (carried l.neg m.lit)) (merge_of entries l.node) []

-- the root of a literal. Each target of a legal book is earlier than its node, so the way meets no entry twice
abbrev pub root_of : List Entry → Lit → Lit
root_of entries l = follow (length entries) entries l

-- the entries on the way to the root, in order
abbrev pub path_of : List Entry → Lit → List ℕ
path_of entries l = followed (length entries) entries l

-- the node isn't merged
abbrev pub IsRoot : List Entry → Node → Type 0
IsRoot entries node = merge_of entries node ≡ None

-- the literals on the way whose nodes are merged
abbrev pub passed : ℕ → List Entry → Lit → List Lit
passed zero entries l = []
passed (suc n) entries l =
    option_map_or (λ m. l ∷ passed n entries (carried l.neg m.lit)) (merge_of entries l.node) []

abbrev pub passed_by : List Entry → Lit → List Lit
passed_by entries l = passed (length entries) entries l

-- some first ones of the literals were put last
pub record PutsSome (lits old new : List Lit) : Type 0 where
  pub some : List Lit
  pub rest : List Lit
  pub parts : lits ≡ some ++ rest
  pub put : new ≡ old ++ some
