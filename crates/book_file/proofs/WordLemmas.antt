-- What is written of numbers, nodes, literals and names is a word, and is read back.
use Rattle.std.proofs.Common.{◌≡◌, ℕ, zero, suc, ◌^◌, ◌<◌, ◌≤◌, Bool, true, false, eqb, ltb, Some, None, List, [], ◌∷◌, ◌++◌, decimal, length, refl, sym, ap, ◌∙◌, append-nil, ne_eqb, lt-ltb, arith}
use Rattle.std.specs.Prelude.{option_map, get_or}
use Rattle.std.specs.Char.{is_ascii_digit}
use Rattle.std.specs.List.{slice_split, list_any, list_all, AllByRecursion}
use Rattle.std.proofs.lemmas.Bool.{and_parts, or_parts, leb-true, ltb-true}
use Rattle.std.proofs.lemmas.Fmt.{first_decimal, length-decimal-le_succ}
use Rattle.lits.specs.declared.node.Side.TheVariants.{A, B}
use Rattle.lits.specs.declared.node.Node.{Node}
use Rattle.lits.specs.declared.node.Node.TheVariants.{Const, Input, Gate, Xor}
use Rattle.lits.specs.declared.literal.Lit.{Lit}
use Rattle.lits.specs.declared.step.Ref.{Ref}
use Rattle.lits.specs.declared.step.Ref.TheVariants.{Axiom, Entry as Shown, Own, Bound}
use Rattle.byte_scan.specs.HeaderLine.{is_number}
use Rattle.std.proofs.lemmas.List.Folds.{list_all-append}
use Rattle.tokens.specs.Words.{is_empty, is_space}
use Rattle.tokens.specs.Text.{joined, spaced}
use Rattle.tokens.proofs.Facts.{IsToken, IsToken-decimal, size_in-decimal}
use Rattle.book_file.specs.Words.{has_leading_zero, number_below, index_in, node_in, literal_of, literal_in, halves_of, axiom_in, name_in}
use Rattle.book_file.specs.Writing.{node_text, literal_text, name_text, FitsNode}

-- ---- parts of a text

split-whole : (p : ℕ → Bool) (xs : List ℕ) → list_any p xs ≡ false → slice_split p xs ≡ xs ∷ []
split-whole p [] none = refl
split-whole p (x ∷ xs) none =
    let parts = or_parts (p x) (list_any p xs) none in rw (parts.0, split-whole p xs parts.1) refl

split-first : (p : ℕ → Bool) (xs : List ℕ) (x : ℕ) (rest : List ℕ) → list_any p xs ≡ false → p x ≡ true
    → slice_split p (xs ++ x ∷ rest) ≡ xs ∷ slice_split p rest
split-first p [] y rest none here = rw here refl
split-first p (x ∷ xs) y rest none here =
    let parts = or_parts (p x) (list_any p xs) none in
    rw (parts.0, split-first p xs y rest parts.1 here) refl

no_space : (word : List ℕ) → list_all (λ b. ltb 32 b) word ≡ true → list_any is_space word ≡ false
no_space [] all = refl
no_space (b ∷ bs) all =
    let parts = and_parts (ltb 32 b) (list_all (λ c. ltb 32 c) bs) all in
    let above = ltb-true 32 b parts.0 in
    let other : eqb b 32 ≡ false = ne_eqb b 32 (λ e. omega arith) in
    rw (other, no_space bs parts.1) refl

-- words with one space between are the words of their line
pub words-joined : (word : List ℕ) (words : List (List ℕ)) → IsToken word → AllByRecursion IsToken words
    → slice_split is_space (joined (word ∷ words)) ≡ word ∷ words
words-joined word [] is all = rw (append-nil word) (split-whole is_space word (no_space word is.printed))
words-joined word (next ∷ words) is all =
    split-first is_space word 32 (next ++ spaced words) (no_space word is.printed) refl
    ∙ ap (λ (l : List (List ℕ)). word ∷ l) (words-joined next words all.0 all.1)

-- ---- numbers

no_lead : (ds : List ℕ) → 48 < get_or ds 0 0 → has_leading_zero ds ≡ false
no_lead [] first = refl
no_lead (b ∷ []) first = refl
no_lead (b ∷ c ∷ ds) first = ne_eqb b 48 (λ e. omega arith)

short_lead : (ds : List ℕ) → length ds ≤ 1 → has_leading_zero ds ≡ false
short_lead [] less = refl
short_lead (b ∷ []) less = refl
short_lead (b ∷ c ∷ ds) less = absurd (omega arith)

no_leading : (n : ℕ) → n < 2 ^ 64 → has_leading_zero (decimal n) ≡ false
no_leading zero lt = short_lead (decimal 0) (length-decimal-le_succ 0 lt)
no_leading (suc n) lt = no_lead (decimal (suc n)) (first_decimal (suc n) (omega arith) lt)

pub number-decimal : (limit n : ℕ) → n < limit → limit ≤ 10 ^ 18 → number_below limit (decimal n) ≡ Some n
number-decimal limit n lt low =
    let size = size_in-decimal n (omega arith) in
    let below : ltb n limit ≡ true = lt-ltb n limit lt in
    rw (no_leading n (omega arith), size, below) refl

index-decimal : (n : ℕ) → n < 2 ^ 32 → index_in (decimal n) ≡ Some n
index-decimal n lt = number-decimal (2 ^ 32) n lt (omega arith)

digits : (n : ℕ) → n < 10 ^ 18 → list_all is_ascii_digit (decimal n) ≡ true
digits n lt = go (is_number (decimal n)) refl
  where
    go : (b : Bool) → is_number (decimal n) ≡ b → list_all is_ascii_digit (decimal n) ≡ true
    go true e = (and_parts _ _ e).0
    go false e = let f : None ≡ Some n = rw e at (size_in-decimal n lt) in cc

no_slash_digits : (ds : List ℕ) → list_all is_ascii_digit ds ≡ true → list_any (λ b. eqb b 47) ds ≡ false
no_slash_digits [] all = refl
no_slash_digits (d ∷ ds) all =
    let parts = and_parts (is_ascii_digit d) (list_all is_ascii_digit ds) all in
    let low = leb-true 48 d (and_parts _ _ parts.0).0 in
    let other : eqb d 47 ≡ false = ne_eqb d 47 (λ e. omega arith) in
    rw (other, no_slash_digits ds parts.1) refl

no_slash : (n : ℕ) → n < 10 ^ 18 → list_any (λ b. eqb b 47) (decimal n) ≡ false
no_slash n lt = no_slash_digits (decimal n) (digits n lt)

-- ---- nodes and literals

-- a byte in front of a number
IsToken-kind : (b n : ℕ) → ltb 32 b ≡ true → n < 2 ^ 64 → IsToken (b ∷ decimal n)
IsToken-kind b n above lt =
    let printed = (IsToken-decimal n lt).printed in
    record { filled = refl; printed = rw (above, printed) refl }

pub IsToken-node : (node : Node) → FitsNode node → IsToken (node_text node)
unfolding node_text
IsToken-node Const fits = record { filled = refl; printed = refl }
IsToken-node (Input k) fits = IsToken-kind 105 k refl (omega arith)
IsToken-node (Gate A v) fits = IsToken-kind 97 v refl (omega arith)
IsToken-node (Gate B v) fits = IsToken-kind 98 v refl (omega arith)
IsToken-node (Xor j) fits = IsToken-kind 120 j refl (omega arith)

pub node-read : (node : Node) → FitsNode node → node_in (node_text node) ≡ Some node
unfolding node_text
node-read Const fits = refl
node-read (Input k) fits = rw (index-decimal k fits) refl
node-read (Gate A v) fits = rw (index-decimal v fits) refl
node-read (Gate B v) fits = rw (index-decimal v fits) refl
node-read (Xor j) fits = rw (index-decimal j fits) refl

node-no_slash : (node : Node) → FitsNode node → list_any (λ b. eqb b 47) (node_text node) ≡ false
unfolding node_text
node-no_slash Const fits = refl
node-no_slash (Input k) fits = rw (no_slash k (omega arith)) refl
node-no_slash (Gate A v) fits = rw (no_slash v (omega arith)) refl
node-no_slash (Gate B v) fits = rw (no_slash v (omega arith)) refl
node-no_slash (Xor j) fits = rw (no_slash j (omega arith)) refl

-- a node without a sign in front of it
plain-read : (node : Node) → literal_in (node_text node) ≡ option_map (literal_of false) (node_in (node_text node))
unfolding node_text
plain-read Const = refl
plain-read (Input k) = refl
plain-read (Gate A v) = refl
plain-read (Gate B v) = refl
plain-read (Xor j) = refl

pub IsToken-literal : (l : Lit) → FitsNode l.node → IsToken (literal_text l)
unfolding literal_text
IsToken-literal l fits = go l.neg refl
  where
    go : (b : Bool) → l.neg ≡ b → IsToken (literal_text l)
    go false e = rw e (IsToken-node l.node fits)
    go true e =
        let printed = (IsToken-node l.node fits).printed in
        rw e (record { filled = refl; printed = rw printed refl })

pub literal-read : (l : Lit) → FitsNode l.node → literal_in (literal_text l) ≡ Some l
unfolding literal_text
literal-read l fits = go l.neg refl
  where
    go : (b : Bool) → l.neg ≡ b → literal_in (literal_text l) ≡ Some l
    go false e =
        let same : literal_text l ≡ node_text l.node = rw e refl in
        ap literal_in same ∙ plain-read l.node ∙ ap (option_map (literal_of false)) (node-read l.node fits)
        ∙ ap (λ (neg : Bool). Some (literal_of neg l.node)) (sym e)
    go true e =
        let same : literal_text l ≡ 45 ∷ node_text l.node = rw e refl in
        ap literal_in same ∙ ap (option_map (literal_of true)) (node-read l.node fits)
        ∙ ap (λ (neg : Bool). Some (literal_of neg l.node)) (sym e)

-- ---- names of clauses

-- what a file can say of a name
abbrev pub CanName : Ref → Type 0
CanName (Axiom node k) = FitsNode node × (k < 256)
CanName (Shown n s) = (n < 10 ^ 18) × (s < 2)
CanName (Own k) = k < 10 ^ 18
CanName (Bound side k) = k < 2 ^ 32

halves-joined : (first : List ℕ) (k : ℕ) → list_any (λ b. eqb b 47) first ≡ false → k < 10 ^ 18
    → halves_of (first ++ 47 ∷ decimal k) ≡ Some (first, decimal k)
halves-joined first k none lt =
    rw (split-first (λ b. eqb b 47) first 47 (decimal k) none refl, split-whole (λ b. eqb b 47) (decimal k) (no_slash k lt)) refl

tokens-joined : (first : List ℕ) (k : ℕ) → IsToken first → k < 2 ^ 64 → IsToken (first ++ 47 ∷ decimal k)
tokens-joined first k is lt = record {
  filled = filled first (47 ∷ decimal k) is.filled;
  printed = list_all-append (λ b. ltb 32 b) first (47 ∷ decimal k) ∙ rw (is.printed, (IsToken-decimal k lt).printed) refl;
}
  where
    filled : (xs ys : List ℕ) → is_empty xs ≡ false → is_empty (xs ++ ys) ≡ false
    filled [] ys e = cc
    filled (x ∷ xs) ys e = refl

in_front : (b : ℕ) (word : List ℕ) → ltb 32 b ≡ true → IsToken word → IsToken (b ∷ word)
in_front b word above is = let printed = is.printed in record { filled = refl; printed = rw (above, printed) refl }

pub IsToken-name : (r : Ref) → CanName r → IsToken (name_text r)
unfolding name_text
IsToken-name (Axiom node k) can = tokens-joined (node_text node) k (IsToken-node node can.0) (omega (arith, can.1))
IsToken-name (Shown n s) can =
    in_front 35 (decimal n ++ 47 ∷ decimal s) refl
    (tokens-joined (decimal n) s (IsToken-decimal n (omega (arith, can.0))) (omega (arith, can.1)))
IsToken-name (Own k) can = in_front 64 (decimal k) refl (IsToken-decimal k (omega arith))
IsToken-name (Bound A k) can = in_front 33 (97 ∷ decimal k) refl (in_front 97 (decimal k) refl (IsToken-decimal k (omega arith)))
IsToken-name (Bound B k) can = in_front 33 (98 ∷ decimal k) refl (in_front 98 (decimal k) refl (IsToken-decimal k (omega arith)))

-- the name of an axiom begins as its node does
axiom-word : (node : Node) (more : List ℕ) → name_in (node_text node ++ more) ≡ axiom_in (node_text node ++ more)
unfolding node_text
axiom-word Const more = refl
axiom-word (Input k) more = refl
axiom-word (Gate A v) more = refl
axiom-word (Gate B v) more = refl
axiom-word (Xor j) more = refl

pub name-read : (r : Ref) → CanName r → name_in (name_text r) ≡ Some r
unfolding name_text
name-read (Axiom node k) can =
    axiom-word node (47 ∷ decimal k)
    ∙ rw (
      halves-joined (node_text node) k (node-no_slash node can.0) (omega (arith, can.1)),
      node-read node can.0,
      number-decimal 256 k can.1 (omega arith),
    ) refl
name-read (Shown n s) can =
    rw (
      halves-joined (decimal n) s (no_slash n can.0) (omega (arith, can.1)),
      number-decimal (10 ^ 18) n can.0 (omega arith),
      number-decimal 2 s can.1 (omega arith),
    ) refl
name-read (Own k) can = rw (number-decimal (10 ^ 18) k can (omega arith)) refl
name-read (Bound A k) can = rw (index-decimal k can) refl
name-read (Bound B k) can = rw (index-decimal k can) refl
