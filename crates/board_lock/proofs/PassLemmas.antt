-- What a pass is between two calls.
use Rattle.std.proofs.Common.{◌≡◌, ℕ, ◌+◌, ◌<◌, ◌≤◌, Bool, true, false, cond, nat_le, Some, [], length, sym, refl, ap, ◌∙◌, subst, arith}
use Rattle.std.proofs.lemmas.Bool.Decides.{nat_tests}
use Rattle.atomic_table.specs.Seated.{TableId}
use Rattle.netlist.specs.Net.{AigPair}
use Rattle.lemma_book.specs.declared.entry.Entry.{Entry}
use Rattle.lemma_book.specs.declared.refused.Offered.TheVariants.{Already}
use Rattle.lemma_book.specs.Entry.{Entries, settled_at}
use Rattle.lemma_book.specs.Book.{StartsWith}
use Rattle.ticket_lock.specs.Views.{IsIdle, inside, past, both_of, numbering, kept_of, cut_of}
use Rattle.ticket_lock.proofs.Facts.{times-append}
use Rattle.board_lock.specs.Story.{Story, note_of, said_of, story_after}
use Rattle.board_lock.specs.Views.{View, noting, longer, new_of}
use Rattle.board_lock.specs.Views.{both_of as both_own}
use Rattle.board_lock.specs.Plays.{Place, Tells, offered_note}
use Rattle.board_lock.specs.Pass.{IsPass, Held, held_of, SplitOff, OfferedOne}
use Rattle.board_lock.proofs.BookLemmas.{answer-settled, settled-known}

longer-is : (xs ys : Entries) (b : Bool) → nat_le (length xs.entries) (length ys.entries) ≡ b → longer xs ys ≡ cond b ys xs
longer-is xs ys b e = ap (λ (c : Bool). cond c ys xs) e

pub longer-right : (xs ys : Entries) → length xs.entries ≤ length ys.entries → longer xs ys ≡ ys
longer-right xs ys h = longer-is xs ys true (grind (arith, nat_tests))

pub longer-left : (xs ys : Entries) → length ys.entries < length xs.entries → longer xs ys ≡ xs
longer-left xs ys h = longer-is xs ys false (grind (arith, nat_tests))

both_idle : (v u : View) → IsIdle v → IsIdle u → IsIdle (both_of both_own v u)
both_idle v u i j = record { waits = i.waits; holds = i.holds; held = rw (i.held, j.held) refl; own = let t = times-append v.number v.numbers u.numbers in let o = i.own in omega arith }

pub joined_pass : (v u me : Place) (nv nu lv lu : ℕ) (sv su seen : Entries) → IsPass v nv sv lv → IsPass u nu su lu → me ≡ (both_of both_own v.0 u.0, []) → seen ≡ longer sv su → IsPass me nv seen (lv + lu)
joined_pass v u me nv nu lv lu sv su seen p q is longest = record {
  number_is = p.number_is ∙ sym (ap (λ (m : Place). m.0.number) is);
  idle = subst (λ (m : Place). IsIdle m.0) (sym is) (both_idle v.0 u.0 p.idle q.idle);
  free = ap (λ (m : Place). m.1) is;
  seen_is = longest ∙ rw (p.seen_is, q.seen_is) refl ∙ sym (ap (λ (m : Place). m.0.own.known) is);
  left_is = rw (p.left_is, q.left_is) refl ∙ sym (ap (λ (m : Place). m.0.left) is);
}

pub split_off : (t t' t'' : TableId) (v : View) (n turns : ℕ) (me new : Place) (old : Held) → old ≡ held_of t v → me ≡ (kept_of (λ o. o) turns (numbering v n), []) → new ≡ (cut_of new_of turns (numbering v n), []) → t' ≡ t → t'' ≡ t
    → SplitOff turns old (held_of t' me.0) (held_of t'' new.0)
split_off t t' t'' v n turns me new old is b c d e = record {
  number = n;
  new_is = rw (d, b, is) refl;
  result_is = rw (e, c, is) refl;
}

-- ---- an entry that is settled by one that the pass has seen

pub tells-settled : (net : AigPair) (v : View) (taken now : Story) (e f : Entry) (number i : ℕ) → taken ≡ v.taken → number ≡ v.number → e ≡ f
    → settled_at taken.book.entries e ≡ Some i → now ≡ story_after taken (note_of number (said_of e (Already i)))
    → Tells net v (offered_note v f (Already i)) now
tells-settled net v taken now e f number i story_is number_is asked at is = record {
  pass = refl;
  answer =
      subst (λ (x : Entry). settled_at v.taken.book.entries x ≡ Some i) asked
      (subst (λ (h : Story). settled_at h.book.entries e ≡ Some i) story_is at);
  now_is = is ∙ rw (story_is, number_is) refl;
}

pub offered-settled : (t t' : TableId) (v came left new : View) (ticket i : ℕ) (story : Story) (old : Held) (e f : Entry) → held_of t v ≡ old
    → came ≡ inside v ticket story → left ≡ came → new ≡ past left (noting left.own left.taken (offered_note left f (Already i))) → t' ≡ t → e ≡ f
    → StartsWith story.book v.own.known → settled_at old.known.entries e ≡ Some i → OfferedOne e old (held_of t' new) (Already i)
offered-settled t t' v came left new ticket i story old e f is a b c same asked begins at =
    let starts = subst (λ (h : Held). StartsWith story.book h.known) is begins in
    record {
      book = story.book;
      begins = starts;
      answer = answer-settled story.book e i (settled-known story.book old.known e i starts at);
      new_is = rw (c, b, a, same, sym is, asked) refl;
    }
