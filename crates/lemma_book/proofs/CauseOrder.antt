-- What the first bad step, or the first clause that isn't new, makes of an entry against which no cause stands before its steps.
use Rattle.std.proofs.Common.{◌≡◌, ℕ, ◌<◌, arith, inl, inr}
use Rattle.netlist.specs.Net.{AigPair}
use Rattle.lemma_book.specs.declared.entry.Entry.{Entry}
use Rattle.lemma_book.specs.Entry.{Entries}
use Rattle.lemma_book.specs.Good.{NoNode, Already, NotEarlier, NotApart, Shape, Count, Seen, NoStep, NotNew, HasStep, HasNew, IsFreeOf, IsGood}
use Rattle.lemma_book.specs.Fault.{IsFreeBefore, IsFirst}

module _ (net : AigPair) (book : Entries) (e : Entry) where
  module _ (free : IsFreeBefore net book e (NoStep 0)) where
    -- the first step that is none
    pub first-step : (k : ℕ) → ((j : ℕ) → j < k → HasStep net book.entries j e) → ¬ HasStep net book.entries k e → IsFirst net book e (NoStep k)
    first-step k steps stands = record { stands = stands; first = before }
      where
        before : IsFreeBefore net book e (NoStep k)
        before x (inl less) = free x (inl less)
        before NoNode (inr same) = absurd (let h : 0 ≡ 7 = same.0 in omega (arith, h))
        before Already (inr same) = absurd (let h : 1 ≡ 7 = same.0 in omega (arith, h))
        before NotEarlier (inr same) = absurd (let h : 2 ≡ 7 = same.0 in omega (arith, h))
        before NotApart (inr same) = absurd (let h : 3 ≡ 7 = same.0 in omega (arith, h))
        before Shape (inr same) = absurd (let h : 4 ≡ 7 = same.0 in omega (arith, h))
        before Count (inr same) = absurd (let h : 5 ≡ 7 = same.0 in omega (arith, h))
        before Seen (inr same) = absurd (let h : 6 ≡ 7 = same.0 in omega (arith, h))
        before (NoStep j) (inr same) = steps j same.1
        before (NotNew j) (inr same) = absurd (let h : 8 ≡ 7 = same.0 in omega (arith, h))

    -- all that is asked but for new clauses
    free-of : ((j : ℕ) → HasStep net book.entries j e) → ((j : ℕ) → IsFreeOf net book e (NotNew j)) → IsGood net book e
    free-of steps news NoNode = free NoNode (inl (omega arith))
    free-of steps news Already = free Already (inl (omega arith))
    free-of steps news NotEarlier = free NotEarlier (inl (omega arith))
    free-of steps news NotApart = free NotApart (inl (omega arith))
    free-of steps news Shape = free Shape (inl (omega arith))
    free-of steps news Count = free Count (inl (omega arith))
    free-of steps news Seen = free Seen (inl (omega arith))
    free-of steps news (NoStep k) = steps k
    free-of steps news (NotNew k) = news k

    pub good-all : ((j : ℕ) → HasStep net book.entries j e) → ((j : ℕ) → HasNew net book.entries j e) → IsGood net book e
    good-all steps news = free-of steps news

    -- the first clause that isn't new
    pub first-new : (k : ℕ) → ((j : ℕ) → HasStep net book.entries j e) → ((j : ℕ) → j < k → HasNew net book.entries j e)
        → ¬ HasNew net book.entries k e → IsFirst net book e (NotNew k)
    first-new k steps news stands = record { stands = stands; first = before }
      where
        before : IsFreeBefore net book e (NotNew k)
        before NoNode b = free NoNode (inl (omega arith))
        before Already b = free Already (inl (omega arith))
        before NotEarlier b = free NotEarlier (inl (omega arith))
        before NotApart b = free NotApart (inl (omega arith))
        before Shape b = free Shape (inl (omega arith))
        before Count b = free Count (inl (omega arith))
        before Seen b = free Seen (inl (omega arith))
        before (NoStep j) b = steps j
        before (NotNew j) (inl less) = absurd (let h : 8 < 8 = less in omega (arith, h))
        before (NotNew j) (inr same) = news j same.1
