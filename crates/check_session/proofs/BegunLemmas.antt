-- What a check begins with is fit for that, and an output that a pattern tells apart has no entry there.
use Rattle.std.proofs.Common.{◌≡◌, ◌≢◌, ℕ, ◌<◌, Bool, true, false, ◌&&◌, List, [], ◌∷◌, ◌++◌, append_assoc, length, Option, Some, None, refl, sym, ap, ◌∙◌, subst, arith}
use Rattle.std.specs.Option.{option_or, option_map_or}
use Rattle.std.specs.List.{AllByRecursion, find, list_all}
use Rattle.std.proofs.lemmas.List.Folds.{find-append}
use Rattle.lits.proofs.Facts.{all-append}
use Rattle.netlist.specs.Net.{AigPair, AgreesOn, DiffersOn}
use Rattle.word_sim.specs.Patterns.{Patterns, seeded}
use Rattle.lemma_book.specs.declared.entry.Entry.{Entry}
use Rattle.lemma_book.specs.declared.entry.Entry.TheVariants.{Merge, Apart, Spent, Out, OutApart, OutSpent}
use Rattle.lemma_book.specs.declared.entry.Subject.TheVariants.{Output}
use Rattle.lemma_book.specs.Entry.{Entries, about, has_apart, is_apart, is_on, settled_at, subject_of, with_last}
use Rattle.lemma_book.specs.Agreement.{IsTrue}
use Rattle.lemma_book.specs.Book.{StartsWith}
use Rattle.lemma_book.proofs.Facts.{output-unsettled}
use Rattle.check_session.specs.declared.options.Options.{Options}
use Rattle.check_session.specs.Pool.{Extends, IsPoolOf, first_pool}
use Rattle.check_session.specs.Begun.{is_equal, with_inputs}
use Rattle.check_session.specs.Outputs.{is_pair_or_out}
use Rattle.sweep_workers.specs.Swept.{is_of_pair}
use Rattle.check_session.proofs.PoolLemmas.{extends-twice}
use Rattle.check_session.proofs.OutputLemmas.{is_on-subject, off-subject, on-subject}

-- ---- patterns

-- patterns are for each pair with as many inputs
pub pool-alike : (m n : AigPair) (o : Options) (p : Patterns) → length n.a.inputs ≡ length m.a.inputs → IsPoolOf m o p → IsPoolOf n o p
pool-alike m n o p same of = record {
  fits = record {
    inputs = of.fits.inputs ∙ sym same;
    whole = subst (λ (k : ℕ). AllByRecursion (λ bits. length bits ≡ k) p.patterns) (sym same) of.fits.whole;
  };
  begins = subst (λ (k : ℕ). Extends (seeded o.seed o.words k) p) (sym same) of.begins;
}

-- with inputs behind them they are still that
pub pool-inputs : (net : AigPair) (o : Options) (p : Patterns) (inputs : List (List Bool)) → IsPoolOf net o p
    → AllByRecursion (λ bits. length bits ≡ length net.a.inputs) inputs → IsPoolOf net o (with_inputs p inputs)
pool-inputs net o p inputs of whole = record {
  fits = record {
    inputs = of.fits.inputs;
    whole = all-append (λ bits. length bits ≡ length net.a.inputs) p.patterns inputs of.fits.whole whole;
  };
  begins = extends-twice (first_pool net o) p (with_inputs p inputs) of.begins (record { added = inputs; is = refl });
}

-- ---- books that go on

pub starts-twice : (old mid new : Entries) → StartsWith mid old → StartsWith new mid → StartsWith new old
starts-twice old mid new first second = record {
  rest = first.rest ++ second.rest;
  entries = second.entries ∙ (ap (λ (es : List Entry). es ++ second.rest) first.entries ∙ append_assoc old.entries first.rest second.rest);
  sweep = second.sweep ∙ first.sweep;
  out = second.out ∙ first.out;
}

pub starts-last : (old new : Entries) (e : Entry) → new ≡ with_last old e → StartsWith new old
starts-last old new e put = record {
  rest = e ∷ [];
  entries = ap (λ (b : Entries). b.entries) put;
  sweep = ap (λ (b : Entries). b.sweep_budget) put;
  out = ap (λ (b : Entries). b.out_budget) put;
}

-- ---- entries that say of no output that it differs or is open

-- those that say that values are equal are such, and those about pairs of nodes
equal-plain : (e : Entry) → is_equal e ≡ true → is_pair_or_out e ≡ true
equal-plain (Merge node lit steps) equal = refl
equal-plain (Apart node lit input) equal = refl
equal-plain (Spent node lit seen log) equal = refl
equal-plain (Out j steps) equal = refl
equal-plain (OutApart j input) equal = cc
equal-plain (OutSpent j seen log) equal = cc

pair-plain : (e : Entry) → is_of_pair e ≡ true → is_pair_or_out e ≡ true
pair-plain (Merge node lit steps) pair = refl
pair-plain (Apart node lit input) pair = refl
pair-plain (Spent node lit seen log) pair = refl
pair-plain (Out j steps) pair = refl
pair-plain (OutApart j input) pair = cc
pair-plain (OutSpent j seen log) pair = cc

-- one and the others
all-first : (test : Entry → Bool) (e : Entry) (es : List Entry) → list_all test (e ∷ es) ≡ true → (test e ≡ true) × (list_all test es ≡ true)
all-first test e es all = go (test e) refl all
  where
    go : (b : Bool) → test e ≡ b → (test e && list_all test es) ≡ true → (test e ≡ true) × (list_all test es ≡ true)
    go true is all = (is, rw is at all)
    go false is all = let t : false ≡ true = rw is at all in cc

all-both : (test : Entry → Bool) (e : Entry) (es : List Entry) → test e ≡ true → list_all test es ≡ true → list_all test (e ∷ es) ≡ true
all-both test e es first rest = rw first rest

pub plain-equal : (es : List Entry) → list_all is_equal es ≡ true → list_all is_pair_or_out es ≡ true
plain-equal [] all = refl
plain-equal (e ∷ es) all =
    let parts = all-first is_equal e es all in
    all-both is_pair_or_out e es (equal-plain e parts.0) (plain-equal es parts.1)

plain-pairs : (es : List Entry) → list_all is_of_pair es ≡ true → list_all is_pair_or_out es ≡ true
plain-pairs [] all = refl
plain-pairs (e ∷ es) all =
    let parts = all-first is_of_pair e es all in
    all-both is_pair_or_out e es (pair-plain e parts.0) (plain-pairs es parts.1)

-- so are those that pairs of nodes stand behind
pub plain-behind : (es fs : List Entry) → list_all is_pair_or_out es ≡ true → list_all is_of_pair fs ≡ true → list_all is_pair_or_out (es ++ fs) ≡ true
plain-behind [] fs all pairs = plain-pairs fs pairs
plain-behind (e ∷ es) fs all pairs =
    let parts = all-first is_pair_or_out e es all in
    all-both is_pair_or_out e (es ++ fs) parts.0 (plain-behind es fs parts.1 pairs)

plain-apart : (e : Entry) → is_pair_or_out e ≡ true → is_apart e ≡ false
plain-apart (Merge node lit steps) plain = refl
plain-apart (Apart node lit input) plain = refl
plain-apart (Spent node lit seen log) plain = refl
plain-apart (Out j steps) plain = refl
plain-apart (OutApart j input) plain = cc
plain-apart (OutSpent j seen log) plain = cc

-- they tell no input on which an output differs
none-apart : (es : List Entry) (k : ℕ) → list_all is_pair_or_out es ≡ true → has_apart es k ≡ false
none-apart [] k all = refl
none-apart (e ∷ es) k all = go (is_on (Output k) e) refl (all-first is_pair_or_out e es all) (none-apart es k)
  where
    go : (b : Bool) → is_on (Output k) e ≡ b → (is_pair_or_out e ≡ true) × (list_all is_pair_or_out es ≡ true)
        → (list_all is_pair_or_out es ≡ true → has_apart es k ≡ false) → has_apart (e ∷ es) k ≡ false
    go true is both rest = rw is (plain-apart e both.0)
    go false is both rest = rw is (rest both.1)

-- where they are true there is none about an output that differs
pub differs-unsettled : (net : AigPair) (j : ℕ) (input : List Bool) (es : List Entry) → DiffersOn net j input → list_all is_pair_or_out es ≡ true
    → AllByRecursion (IsTrue net) es → about es j ≡ None
differs-unsettled net j input [] differs all true_all = refl
differs-unsettled net j input (Merge node lit steps ∷ es) differs all true_all =
    differs-unsettled net j input es differs all true_all.1
differs-unsettled net j input (Apart node lit bits ∷ es) differs all true_all =
    differs-unsettled net j input es differs all true_all.1
differs-unsettled net j input (Spent node lit seen log ∷ es) differs all true_all =
    differs-unsettled net j input es differs all true_all.1
differs-unsettled net j input (Out k steps ∷ es) differs all true_all =
    go (is_on (Output j) (Out k steps)) refl (differs-unsettled net j input es differs all true_all.1)
  where
    go : (b : Bool) → is_on (Output j) (Out k steps) ≡ b → about es j ≡ None → about (Out k steps ∷ es) j ≡ None
    go true is rest =
        let subject : Some (Output k) ≡ Some (Output j) = on-subject (Output j) (Out k steps) is in
        let number : k ≡ j = cc in
        let agrees : AgreesOn net j = subst (λ (i : ℕ). AgreesOn net i) number true_all.0 in
        absurd (differs.apart (agrees input differs.admitted))
    go false is rest = rw is rest
differs-unsettled net j input (OutApart k bits ∷ es) differs all true_all = cc
differs-unsettled net j input (OutSpent k seen log ∷ es) differs all true_all = cc

-- so an entry that tells an input settles nothing twice
pub apart-unsettled : (net : AigPair) (j : ℕ) (input : List Bool) (es : List Entry) → DiffersOn net j input → list_all is_pair_or_out es ≡ true
    → AllByRecursion (IsTrue net) es → settled_at es (OutApart j input) ≡ None
apart-unsettled net j input es differs all true_all = output-unsettled es j (differs-unsettled net j input es differs all true_all)

or-none : {X : Type 0} (o : Option X) → option_or o None ≡ o
or-none None = refl
or-none (Some x) = refl

-- behind them it is the one about its output
pub about-apart : (net : AigPair) (j : ℕ) (input : List Bool) (es : List Entry) → about es j ≡ None
    → about (es ++ OutApart j input ∷ []) j ≡ Some (OutApart j input)
about-apart net j input es none =
    let on : is_on (Output j) (OutApart j input) ≡ true = is_on-subject (Output j) (OutApart j input) refl in
    let last : find (is_on (Output j)) (OutApart j input ∷ []) ≡ Some (OutApart j input) = rw on refl in
    rw (find-append (is_on (Output j)) es (OutApart j input ∷ []), none, last) refl

-- and no lesser output has one that tells an input
pub lesser-apart : (j : ℕ) (input : List Bool) (es : List Entry) → list_all is_pair_or_out es ≡ true → (k : ℕ) → k < j
    → has_apart (es ++ OutApart j input ∷ []) k ≡ false
lesser-apart j input es all k less =
    let off : is_on (Output k) (OutApart j input) ≡ false = off-subject (Output k) (OutApart j input) other in
    let last : find (is_on (Output k)) (OutApart j input ∷ []) ≡ None = rw off refl in
    ap (λ (o : Option Entry). option_map_or is_apart o false)
    (find-append (is_on (Output k)) es (OutApart j input ∷ []) ∙ ap (option_or (about es k)) last ∙ or-none (about es k))
    ∙ none-apart es k all
  where
    other : subject_of (OutApart j input) ≢ Some (Output k)
    other e = let same : j ≡ k = cc in absurd (omega (arith, same, less))
