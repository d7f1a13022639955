-- What a turn shows its pass, and that its end keeps the board's claim, noted or missed.
use Rattle.std.proofs.Common.{◌≡◌, ◌≤◌, [], ◌∷◌, ◌++◌, length-append, sym, refl, ◌∙◌, subst, arith}
use Rattle.netlist.specs.Net.{AigPair}
use Rattle.lemma_book.specs.Book.{IsLegal}
use Rattle.ticket_lock.specs.Totals.{times}
use Rattle.ticket_lock.specs.Views.{member_of, owning, IsIn}
use Rattle.ticket_lock.specs.Claims.{Learns, Ends}
use Rattle.ticket_lock.proofs.Facts.{total-set, total-keep, each-set, within, times-length}
use Rattle.board_lock.specs.declared.view.Note.{Note}
use Rattle.board_lock.specs.Story.{Story, Root, AreSo, IsAnswer, story_after, story_missed}
use Rattle.board_lock.specs.Rule.{turns, drawn, Knows, Claimed}
use Rattle.board_lock.specs.Views.{View, Party, noting, missing}
use Rattle.board_lock.specs.Plays.{Sees, noted_by, AreNoted, missed_by, Tells}
use Rattle.board_lock.proofs.AnswerLemmas.{answers-set, answers-note}
use Rattle.board_lock.proofs.StoryLemmas.{are_so-append, tale-after, tale-missed, starts-after, are_so-after, is_so-after, learned-after}

pub learns : (root : Root) (net : AigPair) (m : Party) → net ≡ root.net → 1 ≤ times m.number m.numbers → Learns (Claimed root) m (Sees net m)
learns root net m over own id served n h passes at apart few old = record {
  few = let c = old.tale.count in omega arith;
  legal = subst (λ (x : AigPair). IsLegal x h.book) (sym over) old.tale.legal;
  begins = (old.knows id m at).known (times-length m.number m.numbers own);
}

noted_after : (root : Root) (m : Party) (h : Story) (note : Note) → 1 ≤ times m.number m.numbers → note.pass ≡ m.number
    → IsAnswer root.net h.book note.said → Ends (Claimed root) m h (story_after h note) (noted_by note m h) (AreNoted note m h)
noted_after root m h note own pass answer id served n passes at apart old =
    let new : Story = story_after h note in
    let w : Party = owning m (noting m.own h note) in
    let mine = old.knows id m at in
    let known = mine.known (times-length m.number m.numbers own) in
    let so : AreSo new.book (m.own.notes ++ note ∷ []) =
    are_so-append new.book m.own.notes (note ∷ []) (are_so-after h.book note.said m.own.notes mine.so)
    (is_so-after root.net h.book note.said answer, tt) in (
      record {
        counts = record {
          turns = let t = total-set turns passes id m w at in let o = old.counts.turns in omega (arith, length-append m.own.notes (note ∷ []));
          drawn = total-keep drawn passes id m w at refl ∙ old.counts.drawn;
        };
        tale = tale-after root served h note answer old.tale;
        knows = each-set (Knows new) passes id w (record { known = λ _. learned-after m.own h note.said known; so = so })
            (λ j u k a.
            let was = old.knows j u a in
            record {
              known = λ o. starts-after h.book u.own.known note.said (was.known o);
              so = are_so-after h.book note.said u.own.notes was.so;
            });
        answers = answers-note n h new passes id m note at (within passes id m at) old.answers apart pass own refl refl;
      },
      (so, known),
    )

pub noted : (root : Root) (v : View) (note : Note) (now : Story) → IsIn v → Tells root.net v note now
    → Ends (Claimed root) (member_of v) v.taken now (noted_by note (member_of v) v.taken) (AreNoted note (member_of v) v.taken)
noted root v note now inside tells =
    let m : Party = member_of v in
    subst (λ (y : Story). Ends (Claimed root) m v.taken y (noted_by note m v.taken) (AreNoted note m v.taken)) (sym tells.now_is)
    (noted_after root m v.taken note inside.own tells.pass tells.answer)

missed_after : (root : Root) (m : Party) (h : Story) → Ends (Claimed root) m h (story_missed h) (missed_by m h) (Unit {0})
missed_after root m h id served n passes at apart old =
    let new : Story = story_missed h in
    let w : Party = owning m (missing m.own) in
    let mine = old.knows id m at in (
      record {
        counts = record {
          turns = let t = total-set turns passes id m w at in let o = old.counts.turns in omega arith;
          drawn = total-keep drawn passes id m w at refl ∙ old.counts.drawn;
        };
        tale = tale-missed root served h old.tale;
        knows = each-set (Knows new) passes id w (record { known = mine.known; so = mine.so })
            (λ j u k a. let was = old.knows j u a in record { known = was.known; so = was.so });
        answers = answers-set n n h new passes id m w at old.answers refl refl refl (λ x. refl) (omega arith);
      },
      tt,
    )

pub missed : (root : Root) (m : Party) (h now : Story) → now ≡ story_missed h → Ends (Claimed root) m h now (missed_by m h) (Unit {0})
missed root m h now is =
    subst (λ (y : Story). Ends (Claimed root) m h y (missed_by m h) (Unit {0})) (sym is) (missed_after root m h)
