-- Classes that are kept while patterns join a pool: a position has the least one of its class. Merged nodes may be left out,
-- since the root of one has its value, or its complement, on every input.
use Rattle.std.specs.Prelude.{◌≡◌, ℕ, ◌+◌, ◌*◌, ◌/◌, ◌<◌, ◌≤◌, ◌==◌, ◌&&◌, nat_lt, min, Bool, true, false, not, Option, None, List, length, take, if◌then◌else◌}
use Rattle.netlist.specs.Net.{AigPair, nodes_of, node_at}
use Rattle.word_sim.specs.Patterns.{part_from}
use Rattle.word_sim.specs.Rows.{Signatures, turned, value_on}
use Rattle.lemma_book.specs.declared.entry.Entry.{Entry}
use Rattle.lemma_book.specs.declared.entry.Task.{Task}
use Rattle.sig_classes.specs.Alike.{first_bit, row_of}
use Rattle.sig_classes.specs.Chains.{Chains, HasMembers, are_one, class_of, is_first}
use Rattle.sig_classes.specs.Pass.{root_at, task_at}

-- no pattern tells the nodes at two positions apart, up to complement: on each they have the value that they have on the
-- first one, or neither has
abbrev pub AreSame : AigPair → List (List Bool) → ℕ → ℕ → Type 0
AreSame net patterns q p = (k : ℕ) → k < length patterns
    → turned (value_on net patterns (node_at net q) 0) (value_on net patterns (node_at net q) k)
    ≡ turned (value_on net patterns (node_at net p) 0) (value_on net patterns (node_at net p) k)

-- whether a position counts: one that is left out has a number in the place of its class's least position that no position has
abbrev pub counts : List ℕ → ℕ → Bool
counts leaders p = not (class_of leaders p == 4294967295)

-- q is the least of the positions of p's class that count
pub record IsLeastSame (net : AigPair) (patterns : List (List Bool)) (counting : ℕ → Bool) (q p : ℕ) : Type 0 where
  pub low : q ≤ p
  pub own : counting q ≡ true
  pub same : AreSame net patterns q p
  pub least : (r : ℕ) → r < q → counting r ≡ true → ¬ AreSame net patterns r p

-- each position that counts has the least one of its class
pub record AreClasses (net : AigPair) (patterns : List (List Bool)) (leaders : List ℕ) : Type 0 where
  pub size : length leaders ≡ length (nodes_of net)
  pub each : (p : ℕ) → p < length (nodes_of net) → counts leaders p ≡ true
      → IsLeastSame net patterns (counts leaders) (class_of leaders p) p

-- no root of a book is left out
abbrev pub HaveRoots : AigPair → List Entry → List ℕ → Type 0
HaveRoots net entries leaders = (p : ℕ) → p < length (nodes_of net) → root_at net entries p ≡ true → counts leaders p ≡ true

-- what the book merges is left out too
pub record AreWithout (net : AigPair) (entries : List Entry) (n : ℕ) (old new : List ℕ) : Type 0 where
  pub size : length new ≡ length old
  pub each : (p : ℕ) → class_of new p ≡ (if nat_lt p n && not (root_at net entries p) then 4294967295 else class_of old p)

-- classes, and over how many of a pool's first patterns
pub record Kept : Type 0 where
  pub seen : ℕ
  pub leaders : List ℕ

pub record AreKept (net : AigPair) (patterns : List (List Bool)) (kept : Kept) : Type 0 where
  pub some : kept.seen ≤ length patterns
  pub classes : AreClasses net (take kept.seen patterns) kept.leaders

-- how many patterns were seen after the next block of four words
abbrev pub next_seen : ℕ → ℕ → ℕ
next_seen seen count = min (64 * (seen / 64 + 4)) count

-- what the next block is simulated on
abbrev pub next_part : ℕ → List (List Bool) → List (List Bool)
next_part seen patterns = part_from seen 4 patterns

-- q is the least position that counts, shares p's class and has a row alike
pub record IsLeastOne (classes : List ℕ) (sigs : Signatures) (q p : ℕ) : Type 0 where
  pub low : q ≤ p
  pub own : counts classes q ≡ true
  pub one : are_one classes sigs q p ≡ true
  pub least : (r : ℕ) → r < q → counts classes r ≡ true → are_one classes sigs r p ≡ false

-- each of the first so many positions that counts has its least one, and those that are left out stay so
pub record AreLeast (classes : List ℕ) (sigs : Signatures) (n : ℕ) (leaders : List ℕ) : Type 0 where
  pub size : length leaders ≡ n
  pub each : (p : ℕ) → p < n → counts classes p ≡ true → IsLeastOne classes sigs (class_of leaders p) p
  pub out : (p : ℕ) → p < n → counts classes p ≡ false → class_of leaders p ≡ 4294967295

-- the chains have the first members of the classes of those that count before this position
abbrev pub HasLeasts : List ℕ → Signatures → ℕ → Chains → Type 0
HasLeasts classes sigs n t = HasMembers classes sigs (is_first classes sigs (counts classes) n) t

-- each row begins with the node's value on the first pattern
abbrev pub HaveSigns : AigPair → List (List Bool) → Signatures → Type 0
HaveSigns net patterns sigs = (p : ℕ) → p < length (nodes_of net)
    → first_bit (row_of sigs p) ≡ value_on net patterns (node_at net p) 0

-- the task of the node at p, where q is the least position of its class
abbrev pub led_at : AigPair → List Entry → Signatures → ℕ → ℕ → Option Task
led_at net entries sigs q p = if nat_lt q p && root_at net entries p then task_at net entries sigs q p else None
