-- The board at its end, and at its start.
use Rattle.std.proofs.Common.{◌≡◌, ℕ, ◌+◌, ◌^◌, List, [], map, sym, ap, ◌∙◌, subst, arith}
use Rattle.std.proofs.lemmas.List.{nil_from_length}
use Rattle.atomic_table.specs.Seated.{TableId}
use Rattle.lemma_book.specs.Entry.{Entries}
use Rattle.lemma_book.specs.Book.{IsLegal}
use Rattle.ticket_lock.specs.Totals.{total, times}
use Rattle.ticket_lock.specs.Views.{member_of, IsIdle}
use Rattle.ticket_lock.specs.Claims.{account, Begins, Sums, Ended}
use Rattle.ticket_lock.proofs.Facts.{total-le, total-alone, total-plus, times-length}
use Rattle.board_lock.specs.declared.view.Note.{Note}
use Rattle.board_lock.specs.Story.{Story, Root, turn_of, under}
use Rattle.board_lock.specs.Rule.{turns, drawn, missed, draws_of, made, noted, Knows, Claimed}
use Rattle.board_lock.specs.Views.{View, Party, first_of}
use Rattle.board_lock.specs.Pass.{Held, held_of, IsWholePass}
use Rattle.board_lock.specs.Closed.{IsClosed}
use Rattle.board_lock.proofs.GatherLemmas.{gather-one}
use Rattle.board_lock.proofs.Steps.{begins}

pub sums : (root : Root) → Sums (Claimed root) made
sums root a claimed =
    let t : total (λ (m : Party). made m.own) a.passes ≡ total turns a.passes + total drawn a.passes = total-plus turns drawn a.passes in
    let b = claimed.counts.turns in
    let c = claimed.counts.drawn in
    omega arith

-- a pass that is whole has all turns of the lock
pub whole_view : (t : TableId) (v : View) (pass : Held) → held_of t v ≡ pass → IsWholePass pass → (v.left + v.splits) + made v.own ≡ 2 ^ 62
whole_view t v pass is whole = let w : IsWholePass (held_of t v) = subst IsWholePass (sym is) whole in omega arith

closed : (root : Root) (t : TableId) (v : View) (h : Story) (n : ℕ) → IsIdle v → Ended (Claimed root) made (member_of v) h n
    → IsClosed root (held_of t v) h.book h.turns h.missed n
closed root t v h n idle ended = record {
  legal = old.tale.legal;
  replays = old.tale.replays;
  known = mine.known (times-length v.number v.numbers idle.own);
  so = mine.so;
  each = λ p.
      old.answers.under p
      ∙ gather-one (noted p) ended.passes ended.id m ended.at
      (λ j k far a. ap (λ (ns : List Note). under p (map turn_of ns)) (nil_from_length k.own.notes (let z = ended.others j k far a in omega arith)));
  draws = λ x.
      sym (total-alone (draws_of x) ended.passes ended.id m ended.at
      (λ j k far a. ap (times x) (nil_from_length k.own.draws (let z = ended.others j k far a in omega arith))))
      ∙ old.answers.once x;
  missed_is =
      sym old.answers.missed
      ∙ total-alone missed ended.passes ended.id m ended.at (λ j k far a. let z = ended.others j k far a in omega arith);
  numbers = λ p. let o = ended.apart p in let t = total-le (λ (k : Party). times p k.numbers) ended.passes ended.id m ended.at in omega arith;
} where
  m : Party
  m = member_of v

  old : Claimed root (account ended.served n h ended.passes)
  old = ended.claimed

  mine : Knows h m
  mine = old.knows ended.id m ended.at

pub closes : (root : Root) (t : TableId) (v : View) (h : Story) (n : ℕ) (pass : Held) → held_of t v ≡ pass → IsIdle v
    → Ended (Claimed root) made (member_of v) h n → IsClosed root pass h.book h.turns h.missed n
closes root t v h n pass is idle ended =
    subst (λ (p : Held). IsClosed root p h.book h.turns h.missed n) is (closed root t v h n idle ended)

-- ---- and at its start

pub opens : (root : Root) (book : Entries) (h : Story) → root.opening ≡ book → h ≡ record { book = book; turns = []; missed = 0 }
    → IsLegal root.net book → Begins (Claimed root) h (first_of root)
opens root book h opening is legal =
    subst (λ (x : Story). Begins (Claimed root) x (first_of root))
    (ap (λ (b : Entries). record { book = b; turns = []; missed = 0 }) opening ∙ sym is)
    (begins root (subst (IsLegal root.net) (sym opening) legal))
