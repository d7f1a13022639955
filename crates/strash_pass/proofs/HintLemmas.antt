-- Hints that are found by words are those that scanning finds by sets of literals.
use Rattle.std.proofs.Common.{◌≡◌, ℕ, ◌+◌, ◌^◌, ◌<◌, ◌==◌, w64, Bool, true, false, not, Option, Some, None, List, [], ◌∷◌, ◌++◌, map, filter, refl, sym, ap, ◌∙◌, subst, append_assoc}
use Rattle.std.specs.Int.{trailing_zeros}
use Rattle.std.specs.List.{find, AllByRecursion}
use Rattle.std.proofs.lemmas.Bool.{and_parts, not-true, or_left}
use Rattle.std.proofs.lemmas.Option.{none-some, same_Some}
use Rattle.lits.specs.declared.literal.Lit.{Lit}
use Rattle.lits.specs.declared.step.Named.{Named}
use Rattle.lits.specs.declared.step.Ref.{Ref}
use Rattle.lits.specs.Clause.{has, firsts, has_pair, no_repeat, IsClause}
use Rattle.lits.specs.Same.{same_lit, opposite}
use Rattle.lits.specs.contracts.literal.LitLiteral.TheImpl.Laws as lit
use Rattle.lits.proofs.Facts.{has-firsts, lit_laws}
use Rattle.unit_prop.specs.Step.{fault_from, is_satisfied, open_in, IsStep}
use Rattle.unit_prop.specs.Propagation.{IsConsistent}
use Rattle.unit_prop.specs.HintScan.{asks, is_asking, IsNamed, ScansTo}
use Rattle.unit_prop.specs.HintScan.ScansTo.{last, next}
use Rattle.unit_prop.specs.Log.{base_clause}
use Rattle.unit_prop.proofs.Facts.{alone, consistent-push, contrary, has-filter, has-head, witness}
use Rattle.strash_pass.specs.declared.coded.Coded.{Coded}
use Rattle.strash_pass.specs.declared.marks.Marks.{Marks}
use Rattle.strash_pass.specs.Coded.{AreBits, AreCoded, AreMarks, Sets, asks_word, open_word, turned}
use Rattle.strash_pass.proofs.WordLemmas.{IsNumbering, asks-same, lowest-one, marks-push, open-bits, word-empty, word-filled}

-- the clause that a word stands for
pub record IsCoded (bit : Lit → Option ℕ) (n : Named) (c : Coded) : Type 0 where
  pub by : c.by ≡ n.by
  pub bits : AreBits bit n.clause c.word

module _ (bit : Lit → Option ℕ) (numbers : IsNumbering bit) (set : List Lit) (marks : Marks) (are : AreMarks bit set marks) where
  -- the first word that asks is that of the first clause that asks
  pub coded-found : (base : List Named) (cs : List Coded) (c : Coded) → AreCoded bit base cs → find (λ x. asks_word marks x.word) cs ≡ Some c
      → (n : Named) × (find (λ m. asks set m.clause) base ≡ Some n) × IsCoded bit n c
  coded-found [] [] c all e = absurd (none-some c e)
  coded-found [] (x ∷ xs) c all e = absurd all
  coded-found (n ∷ ns) [] c all e = absurd all
  coded-found (n ∷ ns) (x ∷ xs) c all e = go (asks_word marks x.word) refl (coded-found ns xs c all.1)
    where
      same : asks_word marks x.word ≡ asks set n.clause
      same = asks-same bit numbers set marks are n.clause x.word all.0.1

      go : (b : Bool) → asks_word marks x.word ≡ b
          → (find (λ y. asks_word marks y.word) xs ≡ Some c → (m : Named) × (find (λ k. asks set k.clause) ns ≡ Some m) × IsCoded bit m c)
          → (m : Named) × (find (λ k. asks set k.clause) (n ∷ ns) ≡ Some m) × IsCoded bit m c
      go true f rest =
          let g : Some x ≡ Some c = rw f at e in
          let is : x ≡ c = same_Some x c g in
          let here : asks set n.clause ≡ true = sym same ∙ f in
          (n, rw here refl, subst (IsCoded bit n) is (record { by = all.0.0; bits = all.0.1 }))
      go false f rest =
          let r = rest (rw f at e) in
          let here : asks set n.clause ≡ false = sym same ∙ f in
          (r.0, rw here r.1, r.2)

-- the first that asks asks
word-asks : (marks : Marks) (cs : List Coded) (c : Coded) → find (λ x. asks_word marks x.word) cs ≡ Some c → asks_word marks c.word ≡ true
word-asks marks [] c e = absurd (none-some c e)
word-asks marks (x ∷ xs) c e = go (asks_word marks x.word) refl (word-asks marks xs c)
  where
    go : (b : Bool) → asks_word marks x.word ≡ b → (find (λ y. asks_word marks y.word) xs ≡ Some c → asks_word marks c.word ≡ true)
        → asks_word marks c.word ≡ true
    go true f rest =
        let g : Some x ≡ Some c = rw f at e in
        subst (λ (y : Coded). asks_word marks y.word ≡ true) (same_Some x c g) f
    go false f rest = rest (rw f at e)

-- where hints are looked for: the marks are those of a set from which all hints that come to an end make hints from the start
pub record IsHinting (bit : Lit → Option ℕ) (base : List Named) (given : List Lit) (marks : Marks) (hints : List Ref) : Type 0 where
  pub set : List Lit
  pub marked : AreMarks bit set marks
  pub leads : (more : List Ref) → ScansTo base set more → ScansTo base given (hints ++ more)

pub hinting-start : (bit : Lit → Option ℕ) (base : List Named) (given : List Lit) (marks : Marks) → AreMarks bit given marks
    → IsHinting bit base given marks []
hinting-start bit base given marks are = record { set = given; marked = are; leads = λ more scans. scans }

module _ (bit : Lit → Option ℕ) (numbers : IsNumbering bit) (base : List Named) (given : List Lit) (marks : Marks) (hints : List Ref)
    (is : IsHinting bit base given marks hints) (cs : List Coded) (c : Coded) (coded : AreCoded bit base cs)
    (found : find (λ x. asks_word marks x.word) cs ≡ Some c) where
  -- the clause that asks
  the : (n : Named) × (find (λ m. asks is.set m.clause) base ≡ Some n) × IsCoded bit n c
  the = coded-found bit numbers is.set marks is.marked base cs c coded found

  open_is : AreBits bit (open_in same_lit opposite is.set the.0.clause) (open_word marks c.word)
  open_is = open-bits bit numbers is.set marks is.marked the.0.clause c.word the.2.bits

  -- it is wholly false
  pub hinting-last : open_word marks c.word ≡ 0 → ScansTo base given (hints ++ c.by ∷ [])
  hinting-last nothing =
      subst (λ (r : Ref). ScansTo base given (hints ++ r ∷ [])) (sym the.2.by)
      (is.leads (the.0.by ∷ []) (last is.set the.0 the.1 (none (open_in same_lit opposite is.set the.0.clause) refl)))
    where
      none : (os : List Lit) → open_in same_lit opposite is.set the.0.clause ≡ os → open_in same_lit opposite is.set the.0.clause ≡ []
      none [] e = e
      none (l ∷ ls) e =
          let bits : AreBits bit (l ∷ ls) (open_word marks c.word) = subst (λ (os : List Lit). AreBits bit os (open_word marks c.word)) e open_is in
          contrary _ (ap (λ (w : ℕ). w == 0) nothing) (word-filled bit l ls (open_word marks c.word) bits)

  -- it leaves one literal
  pub hinting-next : (new : Marks) (word : ℕ) → word ≡ open_word marks c.word → (word ≡ 0 → ⊥) → Sets marks.yes (trailing_zeros w64 word) new.yes
      → Sets marks.no (turned (trailing_zeros w64 word)) new.no → new.no < 2 ^ 64 → IsHinting bit base given new (hints ++ c.by ∷ [])
  hinting-next new word word_is some sets_true sets_false small = go (open_in same_lit opposite is.set the.0.clause) refl open_is
    where
      asking : asks_word marks c.word ≡ true
      asking = word-asks marks cs c found

      go : (os : List Lit) → open_in same_lit opposite is.set the.0.clause ≡ os → AreBits bit os (open_word marks c.word)
          → IsHinting bit base given new (hints ++ c.by ∷ [])
      go [] e bits = absurd (some (word_is ∙ word-empty bit numbers (open_word marks c.word) bits))
      go (l ∷ []) e bits =
          let at = bits.have l (has-head lit_laws l []) in
          let low : trailing_zeros w64 word ≡ at.0 = ap (trailing_zeros w64) word_is ∙ lowest-one bit numbers (open_word marks c.word) at.0 l bits at.1 in
          record {
            set = is.set ++ l ∷ [];
            marked = marks-push bit numbers is.set l marks new at.0 is.marked at.1
                (subst (λ (b : ℕ). Sets marks.yes b new.yes) low sets_true) (subst (λ (b : ℕ). Sets marks.no (turned b) new.no) low sets_false) small;
            leads = λ more scans.
                rw (append_assoc hints (c.by ∷ []) more)
                (subst (λ (r : Ref). ScansTo base given (hints ++ r ∷ more)) (sym the.2.by) (is.leads (the.0.by ∷ more) (next is.set the.0 l more the.1 e scans)));
          }
      go (l ∷ m ∷ ls) e bits =
          contrary _ (sym (asks-same bit numbers is.set marks is.marked the.0.clause c.word the.2.bits) ∙ asking)
          (ap (is_asking is.set) e)

-- ---- a step by the hints that scanning gives
-- a clause that asks isn't true
unsatisfied : (set clause os : List Lit) → IsConsistent same_lit opposite set → open_in same_lit opposite set clause ≡ os
    → ((l : Lit) → has same_lit os l ≡ true → has same_lit set l ≡ false) → is_satisfied same_lit set clause ≡ false
unsatisfied set clause os consistent e fresh = go (is_satisfied same_lit set clause) refl
  where
    go : (b : Bool) → is_satisfied same_lit set clause ≡ b → b ≡ false
    go false f = refl
    go true f =
        let w = witness lit_laws (has same_lit set) clause f in
        let free : has same_lit (open_in same_lit opposite set clause) w.0 ≡ true =
        has-firsts lit_laws (filter (λ l. not (has same_lit set (opposite l))) clause) w.0
        ∙ has-filter lit_laws (λ l. not (has same_lit set (opposite l))) clause w.0
        ∙ rw (w.1, consistent.apart w.0 w.2) refl in
        contrary _ w.2 (fresh w.0 (sym (ap (λ (ls : List Lit). has same_lit ls w.0) e) ∙ free))

-- the first that passes is in the list, and passes
find-passes : {X : Type 0} (P : X → Type 0) (p : X → Bool) (xs : List X) (x : X) → AllByRecursion P xs → find p xs ≡ Some x
    → (p x ≡ true) × P x
find-passes P p [] x all e = absurd (none-some x e)
find-passes {X} P p (y ∷ ys) x all e = go (p y) refl (find-passes P p ys x all.1)
  where
    go : (b : Bool) → p y ≡ b → (find p ys ≡ Some x → (p x ≡ true) × P x) → (p x ≡ true) × P x
    go true f rest =
        let g : Some y ≡ Some x = rw f at e in let same : y ≡ x = same_Some y x g in
        (subst (λ (z : X). p z ≡ true) same f, subst P same all.0)
    go false f rest = rest (rw f at e)

-- the literal that an asking clause leaves is free
left-fresh : (set clause : List Lit) (l : Lit) → asks set clause ≡ true → open_in same_lit opposite set clause ≡ l ∷ []
    → (has same_lit set l ≡ false) × (has same_lit set (opposite l) ≡ false)
left-fresh set clause l e f = (
  not-true (has same_lit set l) (sym (ap (is_asking set) f) ∙ e),
  not-true (has same_lit set (opposite l)) (and_parts _ _
      (sym (has-firsts lit_laws (filter (λ m. not (has same_lit set (opposite m))) clause) l ∙ has-filter lit_laws (λ m. not (has same_lit set (opposite m))) clause l)
      ∙ ap (λ (ls : List Lit). has same_lit ls l) f ∙ has-head lit_laws l [])).1,
)

faultless : (base : List Named) → IsNamed base → (place : ℕ) (set : List Lit) (hints : List Ref) → IsConsistent same_lit opposite set
    → ScansTo base set hints → fault_from same_lit opposite (base_clause base) place (record { set = set; clashed = false }) hints ≡ None
faultless base named place _ _ consistent (last set n found e) =
    let at = find-passes (λ m. base_clause base m.by ≡ Some m.clause) (λ m. asks set m.clause) base n named found in
    rw (at.1, unsatisfied set n.clause [] consistent e (λ l h. cc), e) refl
faultless base named place _ _ consistent (next set n l more found e scans) =
    let at = find-passes (λ m. base_clause base m.by ≡ Some m.clause) (λ m. asks set m.clause) base n named found in
    let fresh = left-fresh set n.clause l at.0 e in
    rw (at.1, unsatisfied set n.clause (l ∷ []) consistent e (λ m h. subst (λ (k : Lit). has same_lit set k ≡ false) (lit_laws.exact l m (alone _ h)) fresh.0), e)
    (faultless base named (place + 1) (set ++ l ∷ []) more (consistent-push lit_laws lit.differs-law [] [] set l consistent (record { fresh = fresh.0; apart = fresh.1 })) scans)

-- the negations of a clause of two literals stand for themselves
two-once : (one other : Lit) → IsClause same_lit opposite (one ∷ other ∷ []) → firsts same_lit (one ∷ other ∷ []) ≡ one ∷ other ∷ []
two-once one other is = go (same_lit one other) refl
  where
    parts : (not (has same_lit (other ∷ []) one) ≡ true) × (no_repeat same_lit (other ∷ []) ≡ true)
    parts = and_parts (not (has same_lit (other ∷ []) one)) (no_repeat same_lit (other ∷ [])) is.once

    go : (b : Bool) → same_lit one other ≡ b → firsts same_lit (one ∷ other ∷ []) ≡ one ∷ other ∷ []
    go false e = rw e refl
    go true e =
        let same : one ≡ other = lit_laws.exact one other e in
        let here : has same_lit (other ∷ []) one ≡ true = subst (λ (k : Lit). has same_lit (k ∷ []) one ≡ true) same (has-head lit_laws one []) in
        contrary _ here (not-true _ parts.0)

two-consistent : (one other : Lit) → IsClause same_lit opposite (one ∷ other ∷ [])
    → IsConsistent same_lit opposite (opposite one ∷ opposite other ∷ [])
two-consistent one other is =
    consistent-push lit_laws lit.differs-law [] [] (opposite one ∷ []) (opposite other)
    (consistent-push lit_laws lit.differs-law [] [] [] (opposite one) (record { apart = λ l h. refl }) (record { fresh = refl; apart = refl }))
    (record { fresh = fresh; apart = apart })
  where
    fresh : has same_lit (opposite one ∷ []) (opposite other) ≡ false
    fresh = go (same_lit (opposite one) (opposite other)) refl
      where
        go : (b : Bool) → same_lit (opposite one) (opposite other) ≡ b → has same_lit (opposite one ∷ []) (opposite other) ≡ false
        go false e = rw e refl
        go true e =
            let same : one ≡ other = sym (lit_laws.twice one) ∙ ap opposite (lit_laws.exact _ _ e) ∙ lit_laws.twice other in
            let here : has same_lit (other ∷ []) one ≡ true = subst (λ (k : Lit). has same_lit (k ∷ []) one ≡ true) same (has-head lit_laws one []) in
            contrary _ here (not-true _ (and_parts (not (has same_lit (other ∷ []) one)) (no_repeat same_lit (other ∷ [])) is.once).0)

    apart : has same_lit (opposite one ∷ []) (opposite (opposite other)) ≡ false
    apart = go (same_lit (opposite one) (opposite (opposite other))) refl
      where
        go : (b : Bool) → same_lit (opposite one) (opposite (opposite other)) ≡ b → has same_lit (opposite one ∷ []) (opposite (opposite other)) ≡ false
        go false e = rw e refl
        go true e =
            let same : opposite one ≡ other = lit_laws.exact _ _ e ∙ lit_laws.twice other in
            let pair : has_pair same_lit opposite (one ∷ other ∷ []) ≡ true =
            or_left _ _ (subst (λ (k : Lit). has same_lit (k ∷ []) (opposite one) ≡ true) same (has-head lit_laws (opposite one) [])) in
            contrary _ pair is.apart

pub scanned-step : (base : List Named) (one other : Lit) (clause : List Lit) (hints : List Ref) → IsNamed base
    → IsClause same_lit opposite (one ∷ other ∷ []) → clause ≡ one ∷ other ∷ [] → ScansTo base (opposite one ∷ opposite other ∷ []) hints
    → IsStep same_lit opposite (base_clause base) clause hints
scanned-step base one other clause hints named is e scans =
    let apart : has_pair same_lit opposite clause ≡ false = ap (has_pair same_lit opposite) e ∙ is.apart in
    let once : map opposite (firsts same_lit clause) ≡ opposite one ∷ opposite other ∷ [] =
    ap (λ (c : List Lit). map opposite (firsts same_lit c)) e ∙ ap (map opposite) (two-once one other is) in
    rw (apart, once) (faultless base named 1 (opposite one ∷ opposite other ∷ []) hints (two-consistent one other is) scans)

-- ---- clauses as words, one after another
pub coded-push : (bit : Lit → Option ℕ) (ns : List Named) (cs : List Coded) (n : Named) (c : Coded) → AreCoded bit ns cs → c.by ≡ n.by
    → AreBits bit n.clause c.word → AreCoded bit (ns ++ n ∷ []) (cs ++ c ∷ [])
coded-push bit [] [] n c all by bits = ((by, bits), tt)
coded-push bit [] (x ∷ xs) n c all by bits = absurd all
coded-push bit (m ∷ ms) [] n c all by bits = absurd all
coded-push bit (m ∷ ms) (x ∷ xs) n c all by bits = (all.0, coded-push bit ms xs n c all.1 by bits)
