-- What a board's passes do outside their turns keeps its claim: a draw, a split and a join; and the claim at its start.
use Rattle.std.proofs.Common.{◌≡◌, ℕ, ◌+◌, ◌≤◌, Bool, true, false, cond, List, [], ◌∷◌, ◌++◌, length, length-append, set, refl, ◌∙◌, arith}
use mathlib.Core.Option.{some}
use lib.ListN.{get_elem?}
use Rattle.atomic_table.proofs.Lists.{set_else}
use Rattle.lemma_book.specs.Entry.{Entries}
use Rattle.lemma_book.specs.Book.{IsLegal, StartsWith}
use Rattle.sweep_core.proofs.Facts.{starts-self}
use Rattle.ticket_lock.specs.Totals.{times}
use Rattle.ticket_lock.specs.Views.{member, owning}
use Rattle.ticket_lock.specs.Claims.{Begins, Draws, Parts, Merges}
use Rattle.ticket_lock.proofs.Facts.{total-set, total-keep, total-cut, total-join, total-le, each-set, each-from, each-one, from-cut, from-join, within, times-append, times-length, once-last, drawn-below, below-all}
use Rattle.board_lock.specs.Story.{Root}
use Rattle.board_lock.specs.Rule.{turns, drawn, draws_of, noted, Knows, Claimed}
use Rattle.board_lock.specs.Views.{Party, first_of, new_of, both_of, spent, drew}
use Rattle.board_lock.specs.Plays.{drew_by, IsAbove}
use Rattle.board_lock.proofs.StoryLemmas.{are_so-append}
use Rattle.board_lock.proofs.AnswerLemmas.{answers-set, answers-cut, answers-join, merged, gone}

pub begins : (root : Root) → IsLegal root.net root.opening
    → Begins (Claimed root) (record { book = root.opening; turns = []; missed = 0 }) (first_of root)
begins root legal = let m : Party = member 0 (0 ∷ []) (first_of root) in record {
  counts = record { turns = refl; drawn = refl };
  tale = record { legal = legal; replays = record { begins = starts-self root.opening; run = refl }; count = refl };
  knows = each-one (Knows (record { book = root.opening; turns = []; missed = 0 })) m (record { known = λ _. starts-self root.opening; so = tt });
  answers = record {
    once = λ x. refl;
    missed = refl;
    under = λ p. refl;
    own = each-one (λ (x : Party). (p : ℕ) → times p x.numbers ≡ 0 → noted p x ≡ []) m (λ p z. refl);
  };
}

pub draws : (root : Root) (m : Party) → Draws (Claimed root) m (drew_by m) (IsAbove m)
draws root m id served n h passes at apart old = let w : Party = owning m (drew m.own n) in (
  record {
    counts = record {
      turns = total-keep turns passes id m w at refl ∙ old.counts.turns;
      drawn = let t = total-set drawn passes id m w at in let o = old.counts.drawn in omega (arith, length-append m.own.draws (n ∷ []));
    };
    tale = old.tale;
    knows = each-set (Knows h) passes id w (let k = old.knows id m at in record { known = k.known; so = k.so }) (λ j u k a. old.knows j u a);
    answers = answers-set n (n + 1) h h passes id m w at old.answers refl refl refl
        (λ x. let a = times-append x m.own.draws (n ∷ []) in let l = once-last x n in omega arith) (omega arith);
  },
  below-all n m.own.draws
      (λ x k.
      let t = total-le (draws_of x) passes id m at in
      let o = old.answers.once x in
      let d = drawn-below x n (omega arith) in
      omega arith),
)

pub parts : (root : Root) (m : Party) → 1 ≤ length m.numbers → Parts (Claimed root) m (λ o. o) new_of
parts root m own id served n new h passes at apart old =
    let l : Party = owning m m.own in
    let r : Party = member new (new ∷ []) (new_of m.own) in
    let was = old.knows id m at in
    record {
      counts = record {
        turns = total-cut turns passes id m l r at (omega arith) ∙ old.counts.turns;
        drawn = total-cut drawn passes id m l r at (omega arith) ∙ old.counts.drawn;
      };
      tale = old.tale;
      knows = each-from (Knows h) passes (set passes id l ++ r ∷ []) l r (record { known = was.known; so = was.so })
          (record { known = λ _. was.known own; so = tt }) old.knows (from-cut passes id l r);
      answers = answers-cut n h passes id new m at old.answers;
    }

longer-known : (book first second : Entries) → StartsWith book first → StartsWith book second → (b : Bool)
    → StartsWith book (cond b second first)
longer-known book first second h k true = k
longer-known book first second h k false = h

pub merges : (root : Root) (m k : Party) → 1 ≤ times m.number m.numbers → 1 ≤ times k.number k.numbers
    → Merges (Claimed root) m k both_of spent
merges root m k own_m own_k id other served n h passes at eo far apart old =
    let b : Party = merged m k in
    let last : List Party = set (set passes id b) other gone in
    let o : get_elem? (set passes id b) other ≡ some k = set_else passes id other b far ∙ eo in
    let km = old.knows id m at in
    let kk = old.knows other k eo in
    record {
      counts = record {
        turns = total-join turns passes id other m k b gone at o (omega (arith, length-append m.own.notes k.own.notes)) ∙ old.counts.turns;
        drawn = total-join drawn passes id other m k b gone at o (omega (arith, length-append m.own.draws k.own.draws)) ∙ old.counts.drawn;
      };
      tale = old.tale;
      knows = each-from (Knows h) passes last b gone
          (record {
            known = λ _.
                longer-known h.book m.own.known k.own.known (km.known (times-length m.number m.numbers own_m))
                (kk.known (times-length k.number k.numbers own_k)) _;
            so = are_so-append h.book m.own.notes k.own.notes km.so kk.so;
          })
          (record { known = λ (z : 1 ≤ 0). absurd (omega arith); so = tt })
          old.knows (from-join passes id other b gone);
      answers = answers-join n h passes id other m k at (within passes id m at) eo far old.answers apart;
    }
