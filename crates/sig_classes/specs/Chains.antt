-- How first members of classes are found, where positions have classes already, which their rows part: those with one
-- bucket stand in one chain, the latest first. A link is one more than a position, and 0 ends the chain.
use Rattle.std.specs.Prelude.{◌≡◌, ℕ, ◌-◌, ◌<◌, ◌≤◌, ◌==◌, ◌||◌, ◌&&◌, Bool, true, false, not, nat_lt, Option, List, length, slice_index, MatchOption}
use Rattle.std.specs.List.{list_all, range_with_len, slice_index_or}
use Rattle.word_sim.specs.Rows.{Signatures}
use Rattle.sig_classes.specs.Alike.{row_of, alike, hash_of, bucket_of}

-- the first link of each bucket, and the link behind each position
pub record Chains : Type 0 where
  pub heads : List ℕ
  pub behind : List ℕ

-- links lead to positions, and down
pub record AreLinks (t : Chains) : Type 0 where
  pub some : 0 < length t.heads
  pub few : length t.heads < 4294967296
  pub room : length t.behind < 4294967296
  pub heads : (h : ℕ) → slice_index t.heads h ≤ length t.behind
  pub behind : (p : ℕ) → slice_index t.behind p ≤ p

-- no chain begins behind the position
abbrev pub AreBefore : ℕ → Chains → Type 0
AreBefore position t = (h : ℕ) → slice_index t.heads h ≤ position

-- the class that a position has already; where none are given all share one
abbrev pub class_of : List ℕ → ℕ → ℕ
class_of classes p = slice_index_or classes p 0

abbrev pub bucket_at : List ℕ → Signatures → Chains → ℕ → ℕ
bucket_at classes sigs t p = bucket_of (length t.heads) (hash_of (class_of classes p) sigs.patterns (row_of sigs p))

-- the rows of two positions are alike
abbrev pub are_alike : Signatures → ℕ → ℕ → Bool
are_alike sigs p q = alike sigs.patterns (row_of sigs p) (row_of sigs q)

-- two positions share a class already, and their rows are alike
abbrev pub are_one : List ℕ → Signatures → ℕ → ℕ → Bool
are_one classes sigs p q = class_of classes p == class_of classes q && are_alike sigs p q

-- the link ends the chain, or leads to a member of this bucket
pub record IsLink (bucket : ℕ → ℕ) (member : ℕ → Bool) (h link : ℕ) : Type 0 where
  pub is_member : 0 < link → member (link - 1) ≡ true
  pub in_bucket : 0 < link → bucket (link - 1) ≡ h

-- the chains of the buckets have these positions, each chain all of its bucket
pub record AreChains (bucket : ℕ → ℕ) (member : ℕ → Bool) (heads behind : List ℕ) : Type 0 where
  pub inside : (q : ℕ) → member q ≡ true → q < length behind
  pub head : (h : ℕ) → IsLink bucket member h (slice_index heads h)
  pub next : (q : ℕ) → member q ≡ true → IsLink bucket member (bucket q) (slice_index behind q)
  pub from_head : (q : ℕ) → member q ≡ true → q < slice_index heads (bucket q)
  pub from_next : (p q : ℕ) → member p ≡ true → member q ≡ true → bucket p ≡ bucket q → q < p → q < slice_index behind p

abbrev pub HasMembers : List ℕ → Signatures → (ℕ → Bool) → Chains → Type 0
HasMembers classes sigs member t = AreChains (bucket_at classes sigs t) member t.heads t.behind

-- a member in the position's class with a row alike; none exactly where there is none
abbrev pub IsFound : List ℕ → Signatures → (ℕ → Bool) → ℕ → Option ℕ → Type 0
IsFound classes sigs member p found = MatchOption found ((q : ℕ) → member q ≡ true → are_one classes sigs q p ≡ false)
    (λ q. (member q ≡ true) × (are_one classes sigs q p ≡ true))

-- one position more
abbrev pub with_member : ℕ → (ℕ → Bool) → ℕ → Bool
with_member p member q = q == p || member q

-- the first members of the classes of the roots below n: no earlier root is in one class with it
abbrev pub is_first : List ℕ → Signatures → (ℕ → Bool) → ℕ → ℕ → Bool
is_first classes sigs root n q =
    nat_lt q n && (root q && list_all (λ r. not (root r && are_one classes sigs r q)) (range_with_len 0 q))
