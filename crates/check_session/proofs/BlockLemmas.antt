-- What blocks of patterns, one after another, tell of the outputs.
use Rattle.std.proofs.Common.{◌≡◌, ℕ, ◌+◌, ◌*◌, ◌/◌, ◌≤◌, nat_lt, Bool, true, false, List, ◌++◌, length, take, drop, Option, None, Some, refl, sym, ap, ◌∙◌, subst, arith, if◌then◌else◌}
use Rattle.std.specs.List.{AllByRecursion, find}
use Rattle.std.specs.Option.{option_or}
use Rattle.std.proofs.lemmas.Bool.Decides.{nat_tests}
use Rattle.std.proofs.lemmas.List.{take-append-drop, take-take, take_all}
use Rattle.std.proofs.lemmas.List.Folds.{find-append}
use Rattle.lits.proofs.Facts.{all-append, all-parts}
use Rattle.netlist.specs.Net.{AigPair}
use Rattle.word_sim.specs.Patterns.{Patterns, part_from}
use Rattle.sweep_workers.specs.Swept.{IsPoolFor}
use Rattle.check_session.specs.declared.patterns.Difference.{Difference}
use Rattle.check_session.specs.Pool.{NoneApart, tells_apart}
use Rattle.check_session.specs.Blocks.{IsFirstIn, lesser}
use Rattle.check_session.proofs.PoolLemmas.{find-halves}

-- ---- a block among all patterns

abbrev before : ℕ → List (List Bool) → List (List Bool)
before b patterns = take (256 * b) patterns

-- the patterns of block b, behind those of the first word
abbrev pub block-part : ℕ → List (List Bool) → List (List Bool)
block-part b patterns = part_from (256 * b) 4 patterns

module _ (test : List Bool → Bool) where
  or-first : (a r s block : Option (List Bool)) → option_or a r ≡ option_or s block → s ≡ None
      → option_or s block ≡ option_or s (option_or a block)
  or-first None r s block same none = refl
  or-first (Some x) r s block same none = rw none (sym (rw none at same))

  or-some : (a s block : Option (List Bool)) (x : List Bool) → s ≡ Some x → option_or s block ≡ option_or s (option_or a block)
  or-some a s block x some = rw some refl

  -- what is found among the first blocks, or else in this part, is what is found among all of them
  find-part : (first rest seen block : List (List Bool)) → first ++ rest ≡ seen ++ block
      → find test (seen ++ block) ≡ option_or (find test seen) (find test (first ++ block))
  find-part first rest seen block same =
      find-append test seen block ∙ go (find test seen) refl ∙ ap (option_or (find test seen)) (sym (find-append test first block))
    where
      both : option_or (find test first) (find test rest) ≡ option_or (find test seen) (find test block)
      both = sym (find-append test first rest) ∙ ap (find test) same ∙ find-append test seen block

      go : (s : Option (List Bool)) → find test seen ≡ s
          → option_or (find test seen) (find test block) ≡ option_or (find test seen) (option_or (find test first) (find test block))
      go None e = or-first (find test first) (find test rest) (find test seen) (find test block) both e
      go (Some x) e = or-some (find test first) (find test seen) (find test block) x e

module _ (patterns : List (List Bool)) (b : ℕ) where
  abbrev after : List (List Bool)
  after = before (b + 1) patterns

  abbrev block : List (List Bool)
  block = drop (256 * b) after

  part-is : block-part b patterns ≡ take 64 patterns ++ block
  part-is =
      let at : 64 * (256 * b / 64) ≡ 256 * b = omega arith in
      let end : 64 * (256 * b / 64 + 4) ≡ 256 * (b + 1) = omega arith in
      ap (λ (n : ℕ). take 64 patterns ++ drop n (take (64 * (256 * b / 64 + 4)) patterns)) at
      ∙ ap (λ (n : ℕ). take 64 patterns ++ drop (256 * b) (take n patterns)) end

  after-is : before b patterns ++ block ≡ after
  after-is =
      ap (λ (ps : List (List Bool)). ps ++ block) (sym (take-take (256 * b) (256 * (b + 1)) patterns (omega arith)))
      ∙ take-append-drop (256 * b) after

  first-is : take 64 patterns ++ drop 64 after ≡ after
  first-is =
      ap (λ (ps : List (List Bool)). ps ++ drop 64 after) (sym (take-take 64 (256 * (b + 1)) patterns (omega arith)))
      ∙ take-append-drop 64 after

  found-after : (test : List Bool → Bool) → find test after ≡ option_or (find test (before b patterns)) (find test (block-part b patterns))
  found-after test =
      ap (find test) (sym after-is)
      ∙ find-part test (take 64 patterns) (drop 64 after) (before b patterns) block (first-is ∙ sym after-is)
      ∙ ap (λ (ps : List (List Bool)). option_or (find test (before b patterns)) (find test ps)) (sym part-is)

  -- ---- the least outputs

  module _ (net : AigPair) where
    abbrev told : ℕ → List (List Bool) → Option (List Bool)
    told j ps = find (tells_apart net j) ps

    none-both : (j : ℕ) → told j (before b patterns) ≡ None → told j (block-part b patterns) ≡ None → told j after ≡ None
    none-both j one two = found-after (tells_apart net j) ∙ rw (one, two) refl

    some-first : (j : ℕ) (x : List Bool) → told j (before b patterns) ≡ Some x → told j after ≡ Some x
    some-first j x one = found-after (tells_apart net j) ∙ rw one refl

    some-second : (j : ℕ) (x : List Bool) → told j (before b patterns) ≡ None → told j (block-part b patterns) ≡ Some x → told j after ≡ Some x
    some-second j x one two = found-after (tells_apart net j) ∙ rw (one, two) refl

    -- a block more
    pub first-lesser : (first second : Option Difference) → IsFirstIn net (before b patterns) first
        → IsFirstIn net (block-part b patterns) second → IsFirstIn net after (lesser first second)
    first-lesser None None one two = λ j below. none-both j (one j below) (two j below)
    first-lesser None (Some e) one two = record {
      within = two.within;
      first = some-second e.output e.input (one e.output two.within) two.first;
      least = λ k less. none-both k (one k (omega (arith, less, two.within))) (two.least k less);
    }
    first-lesser (Some d) None one two = record {
      within = one.within;
      first = some-first d.output d.input one.first;
      least = λ k less. none-both k (one.least k less) (two k (omega (arith, less, one.within)));
    }
    first-lesser (Some d) (Some e) one two = go (nat_lt e.output d.output) refl
      where
        go : (c : Bool) → nat_lt e.output d.output ≡ c → IsFirstIn net after (if c then Some e else Some d)
        go true is = record {
          within = two.within;
          first = some-second e.output e.input (one.least e.output (grind (arith, nat_tests, is))) two.first;
          least = λ k less. none-both k (one.least k (grind (arith, nat_tests, is, less))) (two.least k less);
        }
        go false is = record {
          within = one.within;
          first = some-first d.output d.input one.first;
          least = λ k less. none-both k (one.least k less) (two.least k (grind (arith, nat_tests, is, less)));
        }

-- no pattern tells an output apart before the block in which those begin that were not seen
pub none-before : (net : AigPair) (patterns : List (List Bool)) (seen : ℕ) → NoneApart net (take seen patterns)
    → IsFirstIn net (before (seen / 256) patterns) None
none-before net patterns seen none j below =
    let test = tells_apart net j in
    sym (ap (λ (ps : List (List Bool)). find test ps) (take-take (256 * (seen / 256)) seen patterns (omega arith)))
    ∙ (find-halves test (256 * (seen / 256)) (take seen patterns) (none j below)).0

-- nor in all of them, where all were seen
pub none-left : (net : AigPair) (patterns : List (List Bool)) (seen : ℕ) → length patterns ≤ seen → NoneApart net (take seen patterns)
    → IsFirstIn net patterns None
none-left net patterns seen all none = subst (λ (ps : List (List Bool)). NoneApart net ps) (take_all seen patterns all) none

-- behind the last block are no more
pub all-blocks : (net : AigPair) (patterns : List (List Bool)) (b : ℕ) (found : Option Difference) → length patterns ≤ 256 * b
    → IsFirstIn net (before b patterns) found → IsFirstIn net patterns found
all-blocks net patterns b found end first =
    subst (λ (ps : List (List Bool)). IsFirstIn net ps found) (take_all (256 * b) patterns end) first

-- ---- the patterns of a block are for the pair

module _ (P : List Bool → Type 0) where
  all-halves : (n : ℕ) (ps : List (List Bool)) → AllByRecursion P ps → AllByRecursion P (take n ps) × AllByRecursion P (drop n ps)
  all-halves n ps all =
      all-parts P (take n ps) (drop n ps) (subst (λ (qs : List (List Bool)). AllByRecursion P qs) (sym (take-append-drop n ps)) all)

  all-part : (seen words : ℕ) (ps : List (List Bool)) → AllByRecursion P ps → AllByRecursion P (part_from seen words ps)
  all-part seen words ps all =
      let end = 64 * (seen / 64 + words) in
      all-append P (take 64 ps) (drop (64 * (seen / 64)) (take end ps)) (all-halves 64 ps all).0
      (all-halves (64 * (seen / 64)) (take end ps) (all-halves end ps all).0).1

pub part-fits : (net : AigPair) (pool part : Patterns) (seen words : ℕ) → IsPoolFor net pool
    → part ≡ record { inputs = pool.inputs; patterns = part_from seen words pool.patterns } → IsPoolFor net part
part-fits net pool part seen words fits is =
    subst (λ (p : Patterns). IsPoolFor net p) (sym is) (record {
      inputs = fits.inputs;
      whole = all-part (λ bits. length bits ≡ length net.a.inputs) seen words pool.patterns fits.whole;
    })
