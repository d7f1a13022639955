-- What holds of the pairs that are due holds of some of them.
use Rattle.std.proofs.Common.{◌≡◌, ◌⊎◌, false, List, [], ◌∷◌, ◌++◌, map, inl, inr, refl, sym, ap, ◌∙◌, subst}
use Rattle.std.specs.List.{AllByRecursion}
use Rattle.netlist.specs.Net.{AigPair}
use Rattle.netlist.proofs.Facts.{all-weaker}
use Rattle.word_sim.specs.Patterns.{Patterns}
use Rattle.lemma_book.specs.declared.entry.Entry.{Entry}
use Rattle.lemma_book.specs.declared.entry.Task.{Task}
use Rattle.lemma_book.specs.Entry.{Entries, Question, OfPair, question_of}
use Rattle.lemma_book.specs.Good.{IsEarlier}
use Rattle.sig_classes.specs.Leader.{AreRising}
use Rattle.sweep_workers.specs.declared.asked.Asked.TheVariants.{Pair}
use Rattle.sweep_workers.specs.Asked.{IsAmong, IsPart, questions}
use Rattle.sweep_workers.specs.Swept.{SweepsRound}

pub none-part : (ts : List Task) → IsPart [] ts
none-part [] = refl
none-part (t ∷ ts) = tt

-- all are some of them
pub part-all : (ts : List Task) → IsPart ts ts
part-all [] = refl
part-all (t ∷ ts) = inl (refl, part-all ts)

part-skip : (xs ts : List Task) (t : Task) → IsPart xs ts → IsPart xs (ts ++ t ∷ [])
part-skip [] ts t part = none-part (ts ++ t ∷ [])
part-skip (x ∷ xs) [] t part = cc
part-skip (x ∷ xs) (u ∷ us) t (inl p) = inl (p.0, part-skip xs us t p.1)
part-skip (x ∷ xs) (u ∷ us) t (inr p) = inr (part-skip (x ∷ xs) us t p)

part-take : (xs ts : List Task) (t : Task) → IsPart xs ts → IsPart (xs ++ t ∷ []) (ts ++ t ∷ [])
part-take [] [] t part = inl (refl, refl)
part-take [] (u ∷ us) t part = inr (part-take [] us t (none-part us))
part-take (x ∷ xs) [] t part = cc
part-take (x ∷ xs) (u ∷ us) t (inl p) = inl (p.0, part-take xs us t p.1)
part-take (x ∷ xs) (u ∷ us) t (inr p) = inr (part-take (x ∷ xs) us t p)

-- one more is passed, and taken or not
pub part-next : (xs ts new all : List Task) (t : Task) → IsPart xs ts → (new ≡ xs) ⊎ (new ≡ xs ++ t ∷ []) → all ≡ ts ++ t ∷ [] → IsPart new all
part-next xs ts new all t part (inl same) passed =
    subst (λ (ys : List Task). IsPart ys all) (sym same)
    (subst (λ (us : List Task). IsPart xs us) (sym passed) (part-skip xs ts t part))
part-next xs ts new all t part (inr more) passed =
    subst (λ (ys : List Task). IsPart ys all) (sym more)
    (subst (λ (us : List Task). IsPart (xs ++ t ∷ []) us) (sym passed) (part-take xs ts t part))

pub all-part : (P : Task → Type 0) (xs ts : List Task) → IsPart xs ts → AllByRecursion P ts → AllByRecursion P xs
all-part P [] ts part all = tt
all-part P (x ∷ xs) [] part all = cc
all-part P (x ∷ xs) (t ∷ ts) (inl p) all = (subst P (sym p.0) all.0, all-part P xs ts p.1 all.1)
all-part P (x ∷ xs) (t ∷ ts) (inr p) all = all-part P (x ∷ xs) ts p all.1

pub rising-part : (net : AigPair) (xs ts : List Task) → IsPart xs ts → AreRising net ts → AreRising net xs
rising-part net [] ts part rising = tt
rising-part net (x ∷ xs) [] part rising = cc
rising-part net (x ∷ xs) (t ∷ ts) (inl p) rising = (
  subst (λ (y : Task). AllByRecursion (λ u. IsEarlier net u.node (record { node = y.node; neg = false })) xs) (sym p.0)
      (all-part (λ u. IsEarlier net u.node (record { node = t.node; neg = false })) xs ts p.1 rising.0),
  rising-part net xs ts p.1 rising.1,
)
rising-part net (x ∷ xs) (t ∷ ts) (inr p) rising = rising-part net (x ∷ xs) ts p rising.1

among-part : (q : Question) (xs ts : List Task) → IsPart xs ts → IsAmong q (questions (map Pair xs)) → IsAmong q (questions (map Pair ts))
among-part q [] ts part among = absurd among
among-part q (x ∷ xs) [] part among = cc
among-part q (x ∷ xs) (t ∷ ts) (inl p) (inl is) = inl (ap (λ (u : Task). OfPair u.node u.lit) (sym p.0) ∙ is)
among-part q (x ∷ xs) (t ∷ ts) (inl p) (inr rest) = inr (among-part q xs ts p.1 rest)
among-part q (x ∷ xs) (t ∷ ts) (inr p) among = inr (among-part q (x ∷ xs) ts p among)

-- a round of some pairs is one of those that were due
pub round-part : (net : AigPair) (xs ts : List Task) (old new : Entries) (p q : Patterns) → IsPart xs ts → SweepsRound net xs old new p q
    → SweepsRound net ts old new p q
round-part net xs ts old new p q part round = record {
  sweeps = round.sweeps;
  among = all-weaker (λ (e : Entry). IsAmong (question_of e) (questions (map Pair xs)))
      (λ e. IsAmong (question_of e) (questions (map Pair ts)))
      (λ e among. among-part (question_of e) xs ts part among) round.sweeps.added round.among;
}
