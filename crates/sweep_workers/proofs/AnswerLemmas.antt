-- What answered questions make of the book and of the patterns.
use Rattle.std.proofs.Common.{◌≡◌, ◌≢◌, ℕ, zero, suc, ◌+◌, ◌<◌, ◌≤◌, Bool, true, false, cond, List, [], ◌∷◌, ◌++◌, length, map, take, drop, ◌==◌, inl, inr, Result, Ok, Err, IfOk, OnOk, Option, None, Some, slice_get, refl, sym, ap, ◌∙◌, subst, arith, append_assoc, length-append}
use Rattle.std.specs.List.{list_all, find, AllByRecursion}
use Rattle.std.proofs.lemmas.Option.{none-some, same_Some}
use Rattle.std.proofs.lemmas.Bool.Decides.{nat_tests}
use Rattle.std.proofs.Math.Nat.{eq-or-lt_of_le}
use Rattle.std.proofs.lemmas.List.{append-nil, map-append, take-append-le}
use Rattle.lits.proofs.Facts.{all-append}
use Rattle.netlist.specs.Net.{AigPair}
use Rattle.word_sim.specs.Patterns.{Patterns}
use Rattle.unit_prop.specs.Log.{InTurn}
use Rattle.lemma_book.specs.declared.entry.Entry.{Entry}
use Rattle.lemma_book.specs.declared.entry.Entry.TheVariants.{Merge, Apart, Spent, Out, OutApart, OutSpent}
use Rattle.lemma_book.specs.declared.entry.Subject.TheVariants.{Output}
use Rattle.lemma_book.specs.declared.entry.Task.{Task}
use Rattle.lemma_book.specs.Entry.{Entries, Question, OfPair, OfOutput, about, asks_pair, asks_output, is_on, question_of, subject_of}
use Rattle.lemma_book.specs.Book.{IsLegal}
use Rattle.lemma_book.specs.Good.{IsGood, IsEarlier, NotApart}
use Rattle.lemma_book.proofs.Facts.{same-subject_self}
use Rattle.cone_query.specs.Query.{IsGate}
use Rattle.sig_classes.specs.Kept.{AreClasses, AreKept, Kept}
use Rattle.sig_classes.specs.Leader.{AreRising, AreTasks, IsDue}
use Rattle.sweep_workers.specs.declared.asked.Asked.{Asked}
use Rattle.sweep_workers.specs.declared.asked.Asked.TheVariants.{Pair}
use Rattle.sweep_workers.specs.Asked.{IsAmong, IsAskable, open_tasks, question_in, questions, task_about}
use Rattle.sweep_workers.specs.Answered.{AreAnswered, HasAnswer, many}
use Rattle.sweep_workers.specs.Swept.{HasInputs, IsPoolFor, SettlesOutputs, Sweeps, SweepsRound, apart_inputs, input_of, is_of_output, is_of_pair}
use Rattle.sweep_workers.proofs.OfferLemmas.{all-pass_append}
use Rattle.sweep_workers.proofs.RootLemmas.{opens-after}
use Rattle.sweep_workers.proofs.OnceLemmas.{each-among, once-append, once-round}
use Rattle.sweep_workers.proofs.WorkLemmas.{all-seen}

-- ---- kinds

no-pairs : (qs : List Question) → list_all asks_output qs ≡ true → many asks_pair qs ≡ 0
no-pairs [] all = refl
no-pairs (OfPair node lit ∷ qs) all = cc
no-pairs (OfOutput j ∷ qs) all = let h = no-pairs qs all in omega arith

kind-pair : (e : Entry) (n : ℕ) → cond (asks_pair (question_of e)) 1 0 + n ≡ 0 → (is_of_output e ≡ true) × (n ≡ 0)
kind-pair (Merge node lit steps) n none = absurd (omega (arith, none))
kind-pair (Apart node lit input) n none = absurd (omega (arith, none))
kind-pair (Spent node lit seen log) n none = absurd (omega (arith, none))
kind-pair (Out j steps) n none = (refl, omega (arith, none))
kind-pair (OutApart j input) n none = (refl, omega (arith, none))
kind-pair (OutSpent j seen log) n none = (refl, omega (arith, none))

all-outputs : (es : List Entry) → many asks_pair (map question_of es) ≡ 0 → list_all is_of_output es ≡ true
all-outputs [] none = refl
all-outputs (e ∷ es) none =
    let k = kind-pair e (many asks_pair (map question_of es)) none in
    let rest = all-outputs es k.1 in
    rw (k.0, rest) refl

kind-output : (e : Entry) (n : ℕ) → cond (asks_output (question_of e)) 1 0 + n ≡ 0 → (is_of_pair e ≡ true) × (n ≡ 0)
kind-output (Merge node lit steps) n none = (refl, omega (arith, none))
kind-output (Apart node lit input) n none = (refl, omega (arith, none))
kind-output (Spent node lit seen log) n none = (refl, omega (arith, none))
kind-output (Out j steps) n none = absurd (omega (arith, none))
kind-output (OutApart j input) n none = absurd (omega (arith, none))
kind-output (OutSpent j seen log) n none = absurd (omega (arith, none))

all-pairs : (es : List Entry) → many asks_output (map question_of es) ≡ 0 → list_all is_of_pair es ≡ true
all-pairs [] none = refl
all-pairs (e ∷ es) none =
    let k = kind-output e (many asks_output (map question_of es)) none in
    let rest = all-pairs es k.1 in
    rw (k.0, rest) refl

no-outputs : (ts : List Task) → many asks_output (questions (map Pair ts)) ≡ 0
no-outputs [] = refl
no-outputs (t ∷ ts) = let h = no-outputs ts in omega arith

-- ---- outputs

found-at : (test : Entry → Bool) (es : List Entry) (k : ℕ) (e : Entry) → slice_get es k ≡ Some e → test e ≡ true → find test es ≢ None
found-at test [] k e at pass = absurd (none-some e at)
found-at test (x ∷ xs) zero e at pass = λ none. let t : test x ≡ true = ap test (same_Some x e at) ∙ pass in let n : Some x ≡ None = rw t at none in cc
found-at test (x ∷ xs) (suc k) e at pass = go (test x) refl (found-at test xs k e at pass)
  where
    go : (b : Bool) → test x ≡ b → find test xs ≢ None → find test (x ∷ xs) ≢ None
    go true is rest = λ none. let n : Some x ≡ None = rw is at none in cc
    go false is rest = λ none. rest (rw is at none)

found-more : (test : Entry → Bool) (xs ys : List Entry) → find test xs ≢ None → find test (xs ++ ys) ≢ None
found-more test [] ys some = absurd (some refl)
found-more test (x ∷ xs) ys some = go (test x) refl some (found-more test xs ys)
  where
    go : (b : Bool) → test x ≡ b → find test (x ∷ xs) ≢ None → (find test xs ≢ None → find test (xs ++ ys) ≢ None) → find test (x ∷ xs ++ ys) ≢ None
    go true is some rest = λ none. let n : Some x ≡ None = rw is at none in cc
    go false is some rest = λ none. rest (λ z. some (rw is z)) (rw is at none)

on-output : (j : ℕ) (e : Entry) → subject_of e ≡ Some (Output j) → is_on (Output j) e ≡ true
on-output j e is = rw is (same-subject_self (Output j))

among-all : (P : Question → Type 0) (q : Question) (qs : List Question) → AllByRecursion P qs → IsAmong q qs → P q
among-all P q [] all among = absurd among
among-all P q (x ∷ xs) all (inl is) = subst P is all.0
among-all P q (x ∷ xs) all (inr rest) = among-all P q xs all.1 rest

pub outputs-settled : (net : AigPair) (asked : List Question) (old new : Entries) → IsLegal net old → AreAnswered net asked old new
    → list_all asks_output asked ≡ true
    → ((j : ℕ) → j < length net.a.outputs → about old.entries j ≡ None → IsAmong (OfOutput j) asked)
    → SettlesOutputs net old new
outputs-settled net asked old new was_legal done kinds whole = record {
  sweep_budget = done.sweep_budget;
  out_budget = done.out_budget;
  added = done.added;
  begins = done.begins;
  kinds = added-kinds;
  legal = done.legal;
  settled = λ j below. go j below (about old.entries j) refl;
  seen = done.seen;
  roots = opens-after net old.entries done.added new done.legal done.begins old refl was_legal added-kinds done.added done.roots;
}
  where
    added-kinds : list_all is_of_output done.added ≡ true
    added-kinds = all-outputs done.added (let f = done.few asks_pair in let n = no-pairs asked kinds in omega arith)

    go : (j : ℕ) → j < length net.a.outputs → (o : Option Entry) → about old.entries j ≡ o → about new.entries j ≢ None
    go j below None is =
        let a = among-all (HasAnswer new.entries) (OfOutput j) asked done.settled (whole j below is) in
        found-at (is_on (Output j)) new.entries a.place a.entry a.at (on-output j a.entry a.answers)
    go j below (Some e) is =
        subst (λ (es : List Entry). about es j ≢ None) (sym done.begins)
        (found-more (is_on (Output j)) old.entries done.added (λ none. none-some e (sym none ∙ is)))

-- the tasks about outputs ask about outputs, each of which is there, and about each that has no entry
tasks-kind : (entries : List Entry) (n : ℕ) → list_all asks_output (questions (open_tasks entries n)) ≡ true
tasks-kind entries zero = refl
tasks-kind entries (suc n) =
    ap (list_all asks_output) (map-append question_in (open_tasks entries n) (task_about (about entries n) n))
    ∙ all-pass_append asks_output (questions (open_tasks entries n)) (questions (task_about (about entries n) n)) (tasks-kind entries n)
    (one (about entries n))
  where
    one : (o : Option Entry) → list_all asks_output (questions (task_about o n)) ≡ true
    one None = refl
    one (Some e) = refl

tasks-askable : (net : AigPair) (entries : List Entry) (n : ℕ) → n ≤ length net.a.outputs → AllByRecursion (IsAskable net) (open_tasks entries n)
tasks-askable net entries zero most = tt
tasks-askable net entries (suc n) most =
    all-append (IsAskable net) (open_tasks entries n) (task_about (about entries n) n) (tasks-askable net entries n (omega arith))
    (one (about entries n))
  where
    one : (o : Option Entry) → AllByRecursion (IsAskable net) (task_about o n)
    one None = (omega arith, tt)
    one (Some e) = tt

among-left : (q : Question) (xs ys : List Question) → IsAmong q xs → IsAmong q (xs ++ ys)
among-left q [] ys among = absurd among
among-left q (x ∷ xs) ys (inl is) = inl is
among-left q (x ∷ xs) ys (inr rest) = inr (among-left q xs ys rest)

among-right : (q : Question) (xs ys : List Question) → IsAmong q ys → IsAmong q (xs ++ ys)
among-right q [] ys among = among
among-right q (x ∷ xs) ys among = inr (among-right q xs ys among)

tasks-open : (entries : List Entry) (n j : ℕ) → j < n → about entries j ≡ None → IsAmong (OfOutput j) (questions (open_tasks entries n))
tasks-open entries zero j below none = absurd (omega arith)
tasks-open entries (suc n) j below none =
    subst (IsAmong (OfOutput j)) (sym (map-append question_in (open_tasks entries n) (task_about (about entries n) n)))
    (elim (eq-or-lt_of_le (le_of_below j n below)) [
      | inl same ↦ among-right (OfOutput j) (questions (open_tasks entries n)) (questions (task_about (about entries n) n))
          (subst (λ (k : ℕ). IsAmong (OfOutput j) (questions (task_about (about entries k) k))) same
          (subst (λ (o : Option Entry). IsAmong (OfOutput j) (questions (task_about o j))) (sym none) (inl refl)))
      | inr less ↦ among-left (OfOutput j) (questions (open_tasks entries n)) (questions (task_about (about entries n) n))
          (tasks-open entries n j less none)
    ])
  where
    le_of_below : (j n : ℕ) → j < suc n → j ≤ n
    le_of_below j n below = omega arith

pub outputs-askable : (net : AigPair) (entries : List Entry) (tasks : List Asked) → tasks ≡ open_tasks entries (length net.a.outputs)
    → AllByRecursion (IsAskable net) tasks
outputs-askable net entries tasks are =
    subst (λ (ts : List Asked). AllByRecursion (IsAskable net) ts) (sym are) (tasks-askable net entries (length net.a.outputs) (omega arith))

pub settles-outputs : (net : AigPair) (old new : Entries) (tasks : List Asked) → tasks ≡ open_tasks old.entries (length net.a.outputs)
    → IsLegal net old → AreAnswered net (questions tasks) old new → SettlesOutputs net old new
settles-outputs net old new tasks are legal done =
    outputs-settled net (questions tasks) old new legal done
    (ap (λ (ts : List Asked). list_all asks_output (questions ts)) are ∙ tasks-kind old.entries (length net.a.outputs))
    (λ j below none. subst (λ (ts : List Asked). IsAmong (OfOutput j) (questions ts)) (sym are)
    (tasks-open old.entries (length net.a.outputs) j below none))

-- ---- pairs and patterns

whole-input : (net : AigPair) (book : Entries) (e : Entry) → IsGood net book e → HasInputs (length net.a.inputs) e
whole-input net book (Merge node lit steps) good = tt
whole-input net book (Apart node lit input) good = ((good NotApart).whole, tt)
whole-input net book (Spent node lit seen log) good = tt
whole-input net book (Out j steps) good = tt
whole-input net book (OutApart j input) good = tt
whole-input net book (OutSpent j seen log) good = tt

all-whole : (net : AigPair) (sweep out : ℕ) (before es : List Entry)
    → InTurn (λ b e. IsGood net (record { sweep_budget = sweep; out_budget = out; entries = b }) e) before es
    → AllByRecursion (HasInputs (length net.a.inputs)) es
all-whole net sweep out before [] legal = tt
all-whole net sweep out before (e ∷ es) legal = (
  whole-input net (record { sweep_budget = sweep; out_budget = out; entries = before }) e legal.0,
  all-whole net sweep out (before ++ e ∷ []) es legal.1,
)

pub legal-whole : (net : AigPair) (book : Entries) → IsLegal net book → AllByRecursion (HasInputs (length net.a.inputs)) book.entries
legal-whole net book legal = all-whole net book.sweep_budget book.out_budget [] book.entries legal

pub whole-at : (n : ℕ) (es : List Entry) (k : ℕ) (e : Entry) → slice_get es k ≡ Some e → AllByRecursion (HasInputs n) es → HasInputs n e
whole-at n [] k e at all = absurd (none-some e at)
whole-at n (x ∷ xs) zero e at all = subst (HasInputs n) (same_Some x e at) all.0
whole-at n (x ∷ xs) (suc k) e at all = whole-at n xs k e at all.1

behind : (n : ℕ) (xs ys : List Entry) → AllByRecursion (HasInputs n) (xs ++ ys) → AllByRecursion (HasInputs n) ys
behind n [] ys all = all
behind n (x ∷ xs) ys all = behind n xs ys all.1

inputs-whole : (n : ℕ) (es : List Entry) → AllByRecursion (HasInputs n) es → AllByRecursion (λ bits. length bits ≡ n) (apart_inputs es)
inputs-whole n [] all = tt
inputs-whole n (e ∷ es) all = all-append (λ bits. length bits ≡ n) (input_of e) (apart_inputs es) all.0 (inputs-whole n es all.1)

pub inputs-append : (xs ys : List Entry) → apart_inputs (xs ++ ys) ≡ apart_inputs xs ++ apart_inputs ys
inputs-append [] ys = refl
inputs-append (x ∷ xs) ys =
    ap (λ (ps : List (List Bool)). input_of x ++ ps) (inputs-append xs ys)
    ∙ sym (append_assoc (input_of x) (apart_inputs xs) (apart_inputs ys))

drop-front : (xs ys : List Entry) → drop (length xs) (xs ++ ys) ≡ ys
drop-front [] ys = refl
drop-front (x ∷ xs) ys = drop-front xs ys

-- the entry at a place, and those behind it
drop-at : (es : List Entry) (m : ℕ) (x : Entry) → slice_get es m ≡ Some x → drop m es ≡ x ∷ drop (m + 1) es
drop-at [] m x at = absurd (none-some x at)
drop-at (y ∷ ys) zero x at = ap (λ (z : Entry). z ∷ ys) (same_Some y x at)
drop-at (y ∷ ys) (suc m) x at = let e : suc m + 1 ≡ suc (m + 1) = omega arith in rw e (drop-at ys m x at)

drop-none : (es : List Entry) (m : ℕ) → slice_get es m ≡ None → (drop m es ≡ []) × (drop (m + 1) es ≡ [])
drop-none [] zero at = (refl, refl)
drop-none [] (suc m) at = let e : suc m + 1 ≡ suc (m + 1) = omega arith in (refl, rw e refl)
drop-none (y ∷ ys) zero at = let t : Some y ≡ None = at in cc
drop-none (y ∷ ys) (suc m) at = let e : suc m + 1 ≡ suc (m + 1) = omega arith in let r = drop-none ys m at in (r.0, rw e r.1)

pub inputs-at : (es : List Entry) (m : ℕ) (e : Entry) (old new : List (List Bool)) → slice_get es m ≡ Some e → new ≡ old ++ input_of e
    → new ++ apart_inputs (drop (m + 1) es) ≡ old ++ apart_inputs (drop m es)
inputs-at es m e old new at are =
    ap (λ (ps : List (List Bool)). ps ++ apart_inputs (drop (m + 1) es)) are
    ∙ (append_assoc old (input_of e) (apart_inputs (drop (m + 1) es))
    ∙ ap (λ (ps : List (List Bool)). old ++ ps) (sym (ap apart_inputs (drop-at es m e at))))

pub inputs-none : (es : List Entry) (m : ℕ) (ps : List (List Bool)) → slice_get es m ≡ None
    → ps ++ apart_inputs (drop (m + 1) es) ≡ ps ++ apart_inputs (drop m es)
inputs-none es m ps at =
    let none = drop-none es m at in
    ap (λ (xs : List Entry). ps ++ apart_inputs xs) (none.1 ∙ sym none.0)

-- a round of pairs
pub sweeps-round : (net : AigPair) (due : List Task) (tasks : List Asked) (old new : Entries) (p q : Patterns) (known : ℕ) → tasks ≡ map Pair due
    → AreRising net due → AreAnswered net (questions tasks) old new → known ≡ length old.entries → q.inputs ≡ p.inputs
    → q.patterns ≡ p.patterns ++ apart_inputs (drop known new.entries) → SweepsRound net due old new p q
sweeps-round net due tasks old new p q known are rising done count inputs patterns = record {
  sweeps = record {
    sweep_budget = done.sweep_budget;
    out_budget = done.out_budget;
    added = done.added;
    begins = done.begins;
    kinds = all-pairs done.added (let f = few asks_output in let z = no-outputs due in omega (arith, f, z));
    once = once-round net due done.added few rising;
    legal = done.legal;
    inputs = inputs;
    patterns =
        let rest : drop known new.entries ≡ done.added =
        ap (λ (k : ℕ). drop k new.entries) count ∙ (ap (drop (length old.entries)) done.begins ∙ drop-front old.entries done.added) in
        patterns ∙ ap (λ (es : List Entry). p.patterns ++ apart_inputs es) rest;
    seen = done.seen;
  };
  among = each-among (questions (map Pair due)) done.added few;
}
  where
    few : (test : Question → Bool) → many test (map question_of done.added) ≤ many test (questions (map Pair due))
    few test = subst (λ (ts : List Asked). many test (map question_of done.added) ≤ many test (questions ts)) are (done.few test)

-- a sweep that hasn't begun, and one more round
pub sweeps-none : (net : AigPair) (book : Entries) (pool : Patterns) → IsLegal net book → Sweeps net book book pool pool
sweeps-none net book pool legal = record {
  sweep_budget = refl;
  out_budget = refl;
  added = [];
  begins = sym (append-nil book.entries);
  kinds = refl;
  once = tt;
  legal = legal;
  inputs = refl;
  patterns = sym (append-nil pool.patterns);
  seen = refl;
}

pub sweeps-twice : (net : AigPair) (a b c : Entries) (p q r : Patterns) (one : Sweeps net a b p q) (two : Sweeps net b c q r)
    → AllByRecursion (λ f. AllByRecursion (λ e. question_of e ≢ question_of f) one.added) two.added → Sweeps net a c p r
sweeps-twice net a b c p q r one two apart = record {
  sweep_budget = two.sweep_budget ∙ one.sweep_budget;
  out_budget = two.out_budget ∙ one.out_budget;
  added = one.added ++ two.added;
  begins = two.begins ∙ (ap (λ (es : List Entry). es ++ two.added) one.begins ∙ append_assoc a.entries one.added two.added);
  kinds = all-pass_append is_of_pair one.added two.added one.kinds two.kinds;
  once = once-append one.added two.added one.once two.once apart;
  legal = two.legal;
  inputs = two.inputs ∙ one.inputs;
  patterns = two.patterns
      ∙ (ap (λ (ps : List (List Bool)). ps ++ apart_inputs two.added) one.patterns
      ∙ (append_assoc p.patterns (apart_inputs one.added) (apart_inputs two.added)
      ∙ ap (λ (ps : List (List Bool)). p.patterns ++ ps) (sym (inputs-append one.added two.added))));
  seen = all-seen a b one.added two.added one.begins one.seen two.seen;
}

-- the patterns still fit
pub pool-swept : (net : AigPair) (a b : Entries) (p q : Patterns) → Sweeps net a b p q → IsPoolFor net p → IsPoolFor net q
pool-swept net a b p q one fits = record {
  inputs = one.inputs ∙ fits.inputs;
  whole = subst (λ (ps : List (List Bool)). AllByRecursion (λ bits. length bits ≡ length net.a.inputs) ps) (sym one.patterns)
      (all-append (λ bits. length bits ≡ length net.a.inputs) p.patterns (apart_inputs one.added) fits.whole
      (inputs-whole (length net.a.inputs) one.added
      (behind (length net.a.inputs) a.entries one.added
      (subst (λ (es : List Entry). AllByRecursion (HasInputs (length net.a.inputs)) es) one.begins (legal-whole net b one.legal)))));
}

-- and classes over some of the first patterns are still that
pub kept-swept : (net : AigPair) (a b : Entries) (p q : Patterns) (kept : Kept) → Sweeps net a b p q → AreKept net p.patterns kept
    → AreKept net q.patterns kept
kept-swept net a b p q kept one are =
    let same : take kept.seen q.patterns ≡ take kept.seen p.patterns =
    ap (take kept.seen) one.patterns ∙ take-append-le kept.seen p.patterns (apart_inputs one.added) are.some in
    record {
      some = omega (arith, are.some, ap (λ (ps : List (List Bool)). length ps) one.patterns, length-append p.patterns (apart_inputs one.added));
      classes = subst (λ (ps : List (List Bool)). AreClasses net ps kept.leaders) (sym same) are.classes;
    }

-- what is due may be asked
due-gate : (net : AigPair) (entries : List Entry) (patterns : List (List Bool)) (t : Task) → IsDue net entries patterns t → IsGate t.node × IsEarlier net t.node t.lit
due-gate net entries patterns t due = (subst IsGate (sym due.gate.gate) tt, due.earlier)

all-due : (net : AigPair) (entries : List Entry) (patterns : List (List Bool)) (ts : List Task) → AllByRecursion (IsDue net entries patterns) ts
    → AllByRecursion (λ t. IsGate t.node × IsEarlier net t.node t.lit) ts
all-due net entries patterns [] due = tt
all-due net entries patterns (t ∷ ts) due = (due-gate net entries patterns t due.0, all-due net entries patterns ts due.1)

pub tasks-due : (net : AigPair) (entries : List Entry) (patterns : List (List Bool)) (ts : List Task) → AreTasks net entries patterns ts
    → AllByRecursion (λ t. IsGate t.node × IsEarlier net t.node t.lit) ts
tasks-due net entries patterns ts tasks = all-due net entries patterns ts tasks.due

pub pairs-askable : (net : AigPair) (ts : List Task) → AllByRecursion (λ t. IsGate t.node × IsEarlier net t.node t.lit) ts
    → AllByRecursion (IsAskable net) (map Pair ts)
pairs-askable net [] all = tt
pairs-askable net (t ∷ ts) all = (all.0, pairs-askable net ts all.1)

-- ---- answers of calls

pub on-ok : {T E : Type 0} (r : Result T E) (P Q : Type 0) → OnOk r P → (P → Q) → OnOk r Q
on-ok (Ok x) P Q p f = f p
on-ok (Err e) P Q p f = tt

pub if-ok : {T E : Type 0} (r : Result T E) (P Q : T → Type 0) → IfOk r P → ((x : T) → P x → Q x) → IfOk r Q
if-ok (Ok x) P Q p f = f x p
if-ok (Err e) P Q p f = tt

pub known-within : (net : AigPair) (asked : List Question) (old new : Entries) (known : ℕ) → AreAnswered net asked old new
    → known ≡ length old.entries → known ≤ length new.entries
known-within net asked old new known done is =
    let l = ap (λ (es : List Entry). length es) done.begins in
    omega (arith, l, length-append old.entries done.added)

pub none-items : {T : Type 0} (ts : List T) → (length ts == 0) ≡ true → ts ≡ []
none-items [] is = refl
none-items (t ∷ ts) is = absurd (grind (arith, nat_tests))
