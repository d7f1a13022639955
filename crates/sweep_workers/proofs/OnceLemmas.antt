-- No question is that of two entries which a sweep adds: in a round each is asked once, and what a round has settled isn't due again.
use Rattle.std.proofs.Common.{◌≡◌, ◌≢◌, ℕ, ◌+◌, ◌≤◌, ◌==◌, ◌&&◌, Bool, true, false, cond, List, [], ◌∷◌, ◌++◌, map, inl, inr, Option, None, Some, refl, sym, ◌∙◌, subst, arith}
use Rattle.std.specs.List.{AllByRecursion, list_any}
use Rattle.std.specs.Prelude.{◌||◌}
use Rattle.std.proofs.lemmas.Bool.{and_parts}
use Rattle.std.proofs.lemmas.Bool.Decides.{nat_tests}
use Rattle.lits.specs.declared.node.Node.{Node}
use Rattle.lits.specs.declared.literal.Lit.{Lit}
use Rattle.lits.specs.Same.{same_node, same_lit}
use Rattle.lits.proofs.Facts.{all-append, all-parts, exact-lit, exact-node, same-lit_self, same-node_self}
use Rattle.netlist.specs.Net.{AigPair, position_of, value_of, lit_holds}
use Rattle.netlist.specs.Place.{place_of}
use Rattle.netlist.proofs.Facts.{all-weaker}
use Rattle.unit_prop.specs.Log.{InTurn}
use Rattle.word_sim.specs.Patterns.{Patterns}
use Rattle.lemma_book.specs.declared.entry.Entry.{Entry}
use Rattle.lemma_book.specs.declared.entry.Entry.TheVariants.{Merge, Apart, Spent, Out, OutApart, OutSpent}
use Rattle.lemma_book.specs.declared.entry.Subject.TheVariants.{Merged}
use Rattle.lemma_book.specs.declared.entry.Task.{Task}
use Rattle.lemma_book.specs.Entry.{Entries, Question, OfPair, OfOutput, is_on, is_spent_on, question_of}
use Rattle.lemma_book.specs.Book.{IsLegal}
use Rattle.lemma_book.specs.Good.{HasApart, IsBefore, IsEarlier, IsGood, NotApart}
use Rattle.lemma_book.proofs.Facts.{root-unsettled, same-subject_self}
use Rattle.sig_classes.specs.Leader.{AreRising, AreTasks, IsDue}
use Rattle.sweep_workers.specs.declared.asked.Asked.TheVariants.{Pair}
use Rattle.sweep_workers.specs.Asked.{IsAmong, questions}
use Rattle.sweep_workers.specs.Answered.{many}
use Rattle.sweep_workers.specs.Swept.{AskOnce, Sweeps, apart_inputs, input_of}

-- ---- a test of questions

abbrev same_question : Question → Question → Bool
same_question (OfPair n l) (OfPair m k) = same_node n m && same_lit l k
same_question (OfPair n l) (OfOutput j) = false
same_question (OfOutput i) (OfPair m k) = false
same_question (OfOutput i) (OfOutput j) = i == j

same-self : (q : Question) → same_question q q ≡ true
same-self (OfPair n l) = rw (same-node_self n, same-lit_self l) refl
same-self (OfOutput j) = grind (arith, nat_tests)

same-exact : (p q : Question) → same_question p q ≡ true → p ≡ q
same-exact (OfPair n l) (OfPair m k) same =
    let parts = and_parts (same_node n m) (same_lit l k) same in
    let node : n ≡ m = exact-node n m parts.0 in
    let lit : l ≡ k = exact-lit l k parts.1 in
    cc
same-exact (OfPair n l) (OfOutput j) same = cc
same-exact (OfOutput i) (OfPair m k) same = cc
same-exact (OfOutput i) (OfOutput j) same = let number : i ≡ j = grind (arith, nat_tests) in cc

-- ---- what is counted

none-counted : (test : Question → Bool) (es : List Entry) → many test (map question_of es) ≡ 0 → AllByRecursion (λ f. test (question_of f) ≡ false) es
none-counted test [] none = tt
none-counted test (e ∷ es) none = go (test (question_of e)) refl none (none-counted test es)
  where
    go : (b : Bool) → test (question_of e) ≡ b → cond b 1 0 + many test (map question_of es) ≡ 0
        → (many test (map question_of es) ≡ 0 → AllByRecursion (λ f. test (question_of f) ≡ false) es)
        → (test (question_of e) ≡ false) × AllByRecursion (λ f. test (question_of f) ≡ false) es
    go true is none rest = absurd (omega (arith, none))
    go false is none rest = (is, rest (omega (arith, none)))

differs-from : (e f : Entry) → same_question (question_of e) (question_of f) ≡ false → question_of f ≢ question_of e
differs-from e f other same =
    let self : same_question (question_of e) (question_of f) ≡ true =
    subst (λ (q : Question). same_question (question_of e) q ≡ true) (sym same) (same-self (question_of e)) in
    cc

-- entries of which each question is counted once at most ask it once
once-few : (es : List Entry) → ((q : Question) → many (same_question q) (map question_of es) ≤ 1) → AskOnce es
once-few [] few = tt
once-few (e ∷ es) few =
    let here : cond (same_question (question_of e) (question_of e)) 1 0 + many (same_question (question_of e)) (map question_of es) ≤ 1 = few (question_of e) in
    let one : 1 + many (same_question (question_of e)) (map question_of es) ≤ 1 = rw (same-self (question_of e)) at here in (
      all-weaker (λ f. same_question (question_of e) (question_of f) ≡ false) (λ f. question_of f ≢ question_of e)
          (λ f other. differs-from e f other) es (none-counted (same_question (question_of e)) es (omega (arith, one))),
      once-few es (λ q. let all = few q in omega (arith, all)),
    )

-- ---- a round's pairs

before-self : (o : Option ℕ) → ¬ IsBefore o o
before-self None b = b
before-self (Some p) b = absurd (omega (arith, b))

-- a node that stands later is another
later-other : (net : AigPair) (n m : Node) → IsEarlier net n (record { node = m; neg = false }) → n ≢ m
later-other net n m earlier same =
    before-self (position_of net m) (subst (λ (k : Node). IsBefore (position_of net m) (position_of net k)) same earlier)

none-later : (net : AigPair) (t : Task) (ts : List Task) (q : Question) → q ≡ OfPair t.node t.lit
    → AllByRecursion (λ u. IsEarlier net u.node (record { node = t.node; neg = false })) ts
    → many (same_question q) (questions (map Pair ts)) ≡ 0
none-later net t [] q is later = refl
none-later net t (u ∷ us) q is later = go (same_question q (OfPair u.node u.lit)) refl (none-later net t us q is later.1)
  where
    go : (b : Bool) → same_question q (OfPair u.node u.lit) ≡ b → many (same_question q) (questions (map Pair us)) ≡ 0
        → many (same_question q) (questions (map Pair (u ∷ us))) ≡ 0
    go true same rest =
        let one : OfPair t.node t.lit ≡ OfPair u.node u.lit = sym is ∙ same-exact q (OfPair u.node u.lit) same in
        let node : u.node ≡ t.node = cc in
        absurd (later-other net u.node t.node later.0 node)
    go false same rest = rw (same, rest) refl

-- of pairs that rise each is asked once at most
rising-few : (net : AigPair) (ts : List Task) (q : Question) → AreRising net ts → many (same_question q) (questions (map Pair ts)) ≤ 1
rising-few net [] q rising = omega arith
rising-few net (t ∷ ts) q rising = go (same_question q (OfPair t.node t.lit)) refl (rising-few net ts q rising.1)
  where
    go : (b : Bool) → same_question q (OfPair t.node t.lit) ≡ b → many (same_question q) (questions (map Pair ts)) ≤ 1
        → many (same_question q) (questions (map Pair (t ∷ ts))) ≤ 1
    go true same rest =
        let none = none-later net t ts q (same-exact q (OfPair t.node t.lit) same) rising.0 in
        rw (same, none) (omega arith)
    go false same rest = rw same (omega (arith, rest))

-- what is answered of a round's pairs asks each once
pub once-round : (net : AigPair) (ts : List Task) (es : List Entry)
    → ((test : Question → Bool) → many test (map question_of es) ≤ many test (questions (map Pair ts))) → AreRising net ts → AskOnce es
once-round net ts es few rising =
    once-few es (λ q. let all = few (same_question q) in let one = rising-few net ts q rising in omega (arith, all, one))

-- and each is among them
among-counted : (q : Question) (qs : List Question) → 1 ≤ many (same_question q) qs → IsAmong q qs
among-counted q [] some = absurd (omega (arith, some))
among-counted q (x ∷ xs) some = go (same_question q x) refl some (among-counted q xs)
  where
    go : (b : Bool) → same_question q x ≡ b → 1 ≤ cond b 1 0 + many (same_question q) xs
        → (1 ≤ many (same_question q) xs → IsAmong q xs) → IsAmong q (x ∷ xs)
    go true same some rest = inl (sym (same-exact q x same))
    go false same some rest = inr (rest (omega (arith, some)))

each-counted : (es : List Entry) → AllByRecursion (λ f. 1 ≤ many (same_question (question_of f)) (map question_of es)) es
each-counted [] = tt
each-counted (e ∷ es) = (
  rw (same-self (question_of e)) (omega arith),
  all-weaker (λ f. 1 ≤ many (same_question (question_of f)) (map question_of es))
      (λ f. 1 ≤ many (same_question (question_of f)) (map question_of (e ∷ es)))
      (λ f some. more (same_question (question_of f) (question_of e)) (many (same_question (question_of f)) (map question_of es)) some)
      es (each-counted es),
)
  where
    more : (b : Bool) (n : ℕ) → 1 ≤ n → 1 ≤ cond b 1 0 + n
    more b n some = omega (arith, some)

pub each-among : (asked : List Question) (es : List Entry)
    → ((test : Question → Bool) → many test (map question_of es) ≤ many test asked) → AllByRecursion (λ f. IsAmong (question_of f) asked) es
each-among asked es few =
    all-weaker (λ f. 1 ≤ many (same_question (question_of f)) (map question_of es)) (λ f. IsAmong (question_of f) asked)
    (λ f some. among-counted (question_of f) asked (let all = few (same_question (question_of f)) in omega (arith, all, some)))
    es (each-counted es)

-- ---- what a round has settled isn't due again

none-placed : (test : Entry → Bool) (es : List Entry) → place_of test es ≡ None → AllByRecursion (λ e. test e ≡ false) es
none-placed test [] none = tt
none-placed test (e ∷ es) none = go (test e) refl none (place_of test es) refl (none-placed test es)
  where
    go : (b : Bool) → test e ≡ b → place_of test (e ∷ es) ≡ None → (o : Option ℕ) → place_of test es ≡ o
        → (place_of test es ≡ None → AllByRecursion (λ x. test x ≡ false) es)
        → (test e ≡ false) × AllByRecursion (λ x. test x ≡ false) es
    go true is n o rest_is rest = let t : Some 0 ≡ None = rw is at n in cc
    go false is n None rest_is rest = (is, rest rest_is)
    go false is n (Some k) rest_is rest = let t : Some (k + 1) ≡ None = rw (is, rest_is) at n in cc

none-any : (test : Entry → Bool) (es : List Entry) → list_any test es ≡ false → AllByRecursion (λ e. test e ≡ false) es
none-any test [] none = tt
none-any test (e ∷ es) none = go (test e) refl none (none-any test es)
  where
    go : (b : Bool) → test e ≡ b → (test e || list_any test es) ≡ false → (list_any test es ≡ false → AllByRecursion (λ x. test x ≡ false) es)
        → (test e ≡ false) × AllByRecursion (λ x. test x ≡ false) es
    go true is n rest = let t : true ≡ false = rw is at n in cc
    go false is n rest = (is, rest (rw is at n))

-- a legal book's counterexamples tell their nodes apart
all-apart : (net : AigPair) (sweep out : ℕ) (before es : List Entry)
    → InTurn (λ b e. IsGood net (record { sweep_budget = sweep; out_budget = out; entries = b }) e) before es
    → AllByRecursion (HasApart net) es
all-apart net sweep out before [] legal = tt
all-apart net sweep out before (e ∷ es) legal = (legal.0 NotApart, all-apart net sweep out (before ++ e ∷ []) es legal.1)

-- a pair that is due isn't that of an entry before
module _ (net : AigPair) (t : Task) where
  fresh-one : (e : Entry) → is_on (Merged t.node) e ≡ false → is_spent_on t.node t.lit e ≡ false → HasApart net e
      → AllByRecursion (λ bits. value_of net bits t.node ≡ lit_holds (value_of net bits) t.lit) (input_of e)
      → question_of e ≢ OfPair t.node t.lit
  fresh-one (Merge node lit steps) merged spent apart alike same =
      let one : node ≡ t.node = cc in
      let on : is_on (Merged t.node) (Merge t.node lit steps) ≡ true = same-subject_self (Merged t.node) in
      let off : is_on (Merged t.node) (Merge t.node lit steps) ≡ false =
      subst (λ (n : Node). is_on (Merged t.node) (Merge n lit steps) ≡ false) one merged in
      cc
  fresh-one (Apart node lit input) merged spent apart alike same =
      let one : node ≡ t.node = cc in
      let other : lit ≡ t.lit = cc in
      let differ : value_of net input t.node ≢ lit_holds (value_of net input) t.lit =
      subst (λ (l : Lit). value_of net input t.node ≢ lit_holds (value_of net input) l) other
      (subst (λ (n : Node). value_of net input n ≢ lit_holds (value_of net input) lit) one apart.apart) in
      absurd (differ alike.0)
  fresh-one (Spent node lit seen log) merged spent apart alike same =
      let one : node ≡ t.node = cc in
      let other : lit ≡ t.lit = cc in
      let on : (same_node t.node t.node && same_lit t.lit t.lit) ≡ true = rw (same-node_self t.node, same-lit_self t.lit) refl in
      let off : (same_node t.node t.node && same_lit t.lit t.lit) ≡ false =
      subst (λ (l : Lit). (same_node t.node t.node && same_lit l t.lit) ≡ false) other
      (subst (λ (n : Node). (same_node n t.node && same_lit lit t.lit) ≡ false) one spent) in
      cc
  fresh-one (Out j steps) merged spent apart alike same = cc
  fresh-one (OutApart j input) merged spent apart alike same = cc
  fresh-one (OutSpent j seen log) merged spent apart alike same = cc

  fresh-all : (es : List Entry) → AllByRecursion (λ e. is_on (Merged t.node) e ≡ false) es
      → AllByRecursion (λ e. is_spent_on t.node t.lit e ≡ false) es → AllByRecursion (HasApart net) es
      → AllByRecursion (λ bits. value_of net bits t.node ≡ lit_holds (value_of net bits) t.lit) (apart_inputs es)
      → AllByRecursion (λ e. question_of e ≢ OfPair t.node t.lit) es
  fresh-all [] merged spent apart alike = tt
  fresh-all (e ∷ es) merged spent apart alike =
      let parts = all-parts (λ bits. value_of net bits t.node ≡ lit_holds (value_of net bits) t.lit) (input_of e) (apart_inputs es) alike in
      (fresh-one e merged.0 spent.0 apart.0 parts.0, fresh-all es merged.1 spent.1 apart.1 parts.1)

  fresh-due : (old new : Entries) (p q : Patterns) (added : List Entry) → IsLegal net new → new.entries ≡ old.entries ++ added
      → q.patterns ≡ p.patterns ++ apart_inputs added → IsDue net new.entries q.patterns t
      → AllByRecursion (λ e. question_of e ≢ OfPair t.node t.lit) added
  fresh-due old new p q added legal begins patterns due =
      fresh-all added
      (all-parts (λ e. is_on (Merged t.node) e ≡ false) old.entries added
      (subst (λ (es : List Entry). AllByRecursion (λ e. is_on (Merged t.node) e ≡ false) es) begins
      (none-placed (is_on (Merged t.node)) new.entries (root-unsettled new.entries t.node due.gate.root)))).1
      (all-parts (λ e. is_spent_on t.node t.lit e ≡ false) old.entries added
      (subst (λ (es : List Entry). AllByRecursion (λ e. is_spent_on t.node t.lit e ≡ false) es) begins
      (none-any (is_spent_on t.node t.lit) new.entries due.unspent))).1
      (all-parts (HasApart net) old.entries added
      (subst (λ (es : List Entry). AllByRecursion (HasApart net) es) begins
      (all-apart net new.sweep_budget new.out_budget [] new.entries legal))).1
      (all-parts (λ bits. value_of net bits t.node ≡ lit_holds (value_of net bits) t.lit) p.patterns (apart_inputs added)
      (subst (λ (ps : List (List Bool)). AllByRecursion (λ bits. value_of net bits t.node ≡ lit_holds (value_of net bits) t.lit) ps) patterns
      due.leader.candidate.alike)).1

fresh-tasks : (net : AigPair) (old new : Entries) (p q : Patterns) (added : List Entry) → IsLegal net new → new.entries ≡ old.entries ++ added
    → q.patterns ≡ p.patterns ++ apart_inputs added → (ts : List Task) → AllByRecursion (IsDue net new.entries q.patterns) ts
    → AllByRecursion (λ x. AllByRecursion (λ e. question_of e ≢ x) added) (questions (map Pair ts))
fresh-tasks net old new p q added legal begins patterns [] due = tt
fresh-tasks net old new p q added legal begins patterns (t ∷ ts) due = (
  fresh-due net t old new p q added legal begins patterns due.0,
  fresh-tasks net old new p q added legal begins patterns ts due.1,
)

among-all : (P : Question → Type 0) (q : Question) (qs : List Question) → AllByRecursion P qs → IsAmong q qs → P q
among-all P q [] all among = absurd among
among-all P q (x ∷ xs) all (inl is) = subst P is all.0
among-all P q (x ∷ xs) all (inr rest) = among-all P q xs all.1 rest

-- so no entry of a round has the question of one of the rounds before
pub fresh-round : (net : AigPair) (old new : Entries) (p q : Patterns) (one : Sweeps net old new p q) (ts : List Task) (es : List Entry)
    → AreTasks net new.entries q.patterns ts → AllByRecursion (λ f. IsAmong (question_of f) (questions (map Pair ts))) es
    → AllByRecursion (λ f. AllByRecursion (λ e. question_of e ≢ question_of f) one.added) es
fresh-round net old new p q one ts es tasks among =
    let fresh = fresh-tasks net old new p q one.added one.legal one.begins one.patterns ts tasks.due in
    all-weaker (λ f. IsAmong (question_of f) (questions (map Pair ts))) (λ f. AllByRecursion (λ e. question_of e ≢ question_of f) one.added)
    (λ f is. among-all (λ x. AllByRecursion (λ e. question_of e ≢ x) one.added) (question_of f) (questions (map Pair ts)) fresh is) es among

-- ---- entries behind others

pub once-append : (xs ys : List Entry) → AskOnce xs → AskOnce ys
    → AllByRecursion (λ f. AllByRecursion (λ e. question_of e ≢ question_of f) xs) ys → AskOnce (xs ++ ys)
once-append [] ys first second apart = second
once-append (x ∷ xs) ys first second apart = (
  all-append (λ f. question_of f ≢ question_of x) xs ys first.0
      (all-weaker (λ f. (question_of x ≢ question_of f) × AllByRecursion (λ e. question_of e ≢ question_of f) xs)
      (λ f. question_of f ≢ question_of x) (λ f other same. other.0 (sym same)) ys apart),
  once-append xs ys first.1 second
      (all-weaker (λ f. (question_of x ≢ question_of f) × AllByRecursion (λ e. question_of e ≢ question_of f) xs)
      (λ f. AllByRecursion (λ e. question_of e ≢ question_of f) xs) (λ f other. other.1) ys apart),
)
