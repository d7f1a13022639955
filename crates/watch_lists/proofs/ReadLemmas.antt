-- What readers find.
use Rattle.std.proofs.Common.{◌≡◌, ℕ, ◌+◌, ◌*◌, ◌/◌, ◌%◌, ◌<◌, Bool, true, false, not, List, [], ◌∷◌, ◌++◌, length, refl, sym, ap, ◌∙◌, subst, arith, get_or, nat_eq}
use Rattle.std.specs.Prelude.{slice_index_or, ◌==◌, IsTrue, ◌↔◌}
use Rattle.std.proofs.lemmas.List.{get_or_default, length_push, get_or_push}
use Rattle.std.proofs.lemmas.Bool.Decides.{nat_tests}
use Rattle.lits.specs.Clause.{has}
use Rattle.lits.specs.Same.{same_lit, opposite}
use Rattle.lits.specs.declared.node.Node.{Node}
use Rattle.lits.specs.declared.node.Node.TheVariants.{Const}
use Rattle.lits.specs.declared.literal.Lit.{Lit}
use Rattle.unit_prop.specs.Propagation.{IsFree}
use Rattle.unit_prop.proofs.Facts.{contrary}
use Rattle.flat_base.specs.Codes.{lit_at, code_of, IsCode}
use Rattle.watch_lists.specs.Codes.{flip, AreCodesOf}
use Rattle.watch_lists.specs.State.{codes_at}
use Rattle.watch_lists.specs.Trail.{put_at, clause_at, lits_of}
use Rattle.watch_lists.specs.Whole.{IsWhole}
use Rattle.watch_lists.specs.declared.put.Put.{Put}
use Rattle.watch_lists.specs.declared.engine.Engine.{Engine}
use Rattle.watch_lists.proofs.Facts.{lit_at-flip, has-same, flip-code, has-at}
use Rattle.watch_lists.proofs.TransferLemmas.{clauses_at}
use Rattle.watch_lists.proofs.LevelLemmas.{place_of}
use Rattle.watch_lists.proofs.WholeLemmas.{clause-at, same-length, lit-at}

-- the literal that a number and a sign make
pub lit_at-made : (nodes : List Node) (number : ℕ) (neg : Bool) (node : Node) → slice_index_or nodes number Const ≡ node → lit_at nodes (code_of number neg) ≡ record { node = node; neg = neg }
unfolding lit_at
lit_at-made nodes number true node e =
    let half : (2 * number + 1) / 2 ≡ number = omega arith in
    let odd : ((2 * number + 1) % 2 == 1) ≡ true = grind (arith, nat_tests) in
    rw (half, odd, e) refl
lit_at-made nodes number false node e =
    let half : (2 * number + 0) / 2 ≡ number = omega arith in
    let even : ((2 * number + 0) % 2 == 1) ≡ false = grind (arith, nat_tests) in
    rw (half, even, e) refl

pub code-made : (nodes : List Node) (number : ℕ) (neg : Bool) → number < length nodes → IsCode nodes (code_of number neg)
code-made nodes number true h = omega arith
code-made nodes number false h = omega arith

module _ {nodes : List Node} {e : Engine} {puts : List Put} {capacity : ℕ} (whole : IsWhole nodes e puts capacity) where
  pub code-truth : (c : ℕ) → IsCode nodes c → c < length e.truth.items
  code-truth c h = let s = whole.size in omega arith

  pub has-put : (c : ℕ) → IsCode nodes c → has same_lit (lits_of puts) (lit_at nodes c) ≡ has nat_eq e.trail.items c
  has-put c h = ap (λ (l : List Lit). has same_lit l (lit_at nodes c)) whole.lits ∙ has-same nodes e.trail.items c whole.once whole.codes h

  -- a mark that was read
  pub mark-read : (c : ℕ) (b : Bool) → IsCode nodes c → b ≡ slice_index_or e.truth.items c b → b ≡ has same_lit (lits_of puts) (lit_at nodes c)
  mark-read c b h read = read ∙ (get_or_default e.truth.items c b false (code-truth c h) ∙ (whole.engine.trail.marks c ∙ sym (has-put c h)))

  mark-flip : (c n : ℕ) (b : Bool) → IsCode nodes c → n ≡ flip c → b ≡ slice_index_or e.truth.items n b → b ≡ has same_lit (lits_of puts) (opposite (lit_at nodes c))
  mark-flip c n b h is read =
      subst (λ (l : Lit). b ≡ has same_lit (lits_of puts) l) (ap (lit_at nodes) is ∙ lit_at-flip nodes c)
      (mark-read n b (subst (λ (z : ℕ). IsCode nodes z) (sym is) (flip-code nodes c h)) read)

  pub free-read : (c n : ℕ) (a b : Bool) → IsCode nodes c → a ≡ slice_index_or e.truth.items c a → a ≡ false → n ≡ flip c → b ≡ slice_index_or e.truth.items n b
      → IsTrue (not b) ↔ IsFree same_lit opposite (lits_of puts) (lit_at nodes c)
  free-read c n a b h read is_false is read_flip = go b refl
    where
      first : has same_lit (lits_of puts) (lit_at nodes c) ≡ false
      first = sym (mark-read c a h read) ∙ is_false

      go : (d : Bool) → b ≡ d → IsTrue (not d) ↔ IsFree same_lit opposite (lits_of puts) (lit_at nodes c)
      go true f = (λ t. contrary _ t refl, λ free. contrary _ (sym (mark-flip c n b h is read_flip) ∙ f) free.apart)
      go false f = (λ t. record { fresh = first; apart = sym (mark-flip c n b h is read_flip) ∙ f }, λ free. refl)

  pub taken-read : (c : ℕ) (a : Bool) → IsCode nodes c → a ≡ slice_index_or e.truth.items c a → a ≡ true → IsTrue false ↔ IsFree same_lit opposite (lits_of puts) (lit_at nodes c)
  taken-read c a h read is_true = (λ t. contrary _ t refl, λ free. contrary _ (sym (mark-read c a h read) ∙ is_true) free.fresh)

  -- a place that was read
  pub place-read : (c p : ℕ) (a : Bool) → IsCode nodes c → a ≡ slice_index_or e.truth.items c a → a ≡ true → p ≡ slice_index_or e.places.items c p
      → (p < length puts) × ((put_at puts p).lit ≡ lit_at nodes c)
  place-read c p a h read is_true there =
      let inside : has nat_eq e.trail.items c ≡ true = sym (has-put c h) ∙ (sym (mark-read c a h read) ∙ is_true) in
      let w = place_of e.trail.items c inside in
      let same : p ≡ w.place = there ∙ (get_or_default e.places.items c p 0 (omega (arith, code-truth c h, whole.engine.trail.places_all))
      ∙ (ap (λ (z : ℕ). get_or e.places.items z 0) (sym w.is) ∙ whole.engine.trail.placed w.place w.below)) in
      let below : w.place < length puts = omega (arith, w.below, same-length whole) in
      (omega arith, ap (λ (z : ℕ). (put_at puts z).lit) same ∙ (lit-at whole w.place below ∙ ap (lit_at nodes) w.is))

  pub code-read : (k x : ℕ) → k < length puts → x ≡ slice_index_or e.trail.items k x → IsCode nodes x × (lit_at nodes x ≡ (put_at puts k).lit)
  code-read k x h read =
      let k_in : k < length e.trail.items = omega (arith, same-length whole) in
      let same : x ≡ get_or e.trail.items k 0 = read ∙ get_or_default e.trail.items k x 0 k_in in
      (subst (λ (z : ℕ). IsCode nodes z) (sym same) (whole.codes (get_or e.trail.items k 0) (has-at e.trail.items k k_in)), ap (lit_at nodes) same ∙ sym (lit-at whole k h))

  -- the codes of a clause
  pub clause-read : (i : ℕ) → AreCodesOf nodes (clause_at (clauses_at nodes e.clauses) i) (codes_at e.clauses i)
  clause-read i = record {
    within = λ k d h. subst (λ (z : ℕ). IsCode nodes z) (sym (get_or_default codes k d 0 h)) (whole.clauses i (get_or codes k 0) (has-at codes k h));
    same = λ l. sym (ap (λ (c : List Lit). has same_lit c l) (clause-at nodes e.clauses i));
  }
    where
      codes : List ℕ
      codes = codes_at e.clauses i

-- a code that was made
pub made : (nodes : List Node) (number : ℕ) (l : Lit) (code : ℕ) → number < length nodes → slice_index_or nodes number Const ≡ l.node → code ≡ code_of number l.neg
    → IsCode nodes code × (lit_at nodes code ≡ l)
made nodes number l code h there is =
    (subst (λ (z : ℕ). IsCode nodes z) (sym is) (code-made nodes number l.neg h), ap (lit_at nodes) is ∙ lit_at-made nodes number l.neg l.node there)

pub made-last : (nodes : List Node) (number : ℕ) (l : Lit) (code : ℕ) → number ≡ length nodes → code ≡ code_of number l.neg
    → IsCode (nodes ++ l.node ∷ []) code × (lit_at (nodes ++ l.node ∷ []) code ≡ l)
made-last nodes number l code h is =
    made (nodes ++ l.node ∷ []) number l code (omega (arith, length_push nodes l.node)) (get_or_push nodes l.node Const number (sym h)) is

pub free-codes : {nodes : List Node} {e : Engine} {puts : List Put} {capacity : ℕ} → IsWhole nodes e puts capacity → (c : ℕ) → IsCode nodes c
    → IsFree same_lit opposite (lits_of puts) (lit_at nodes c) → (has nat_eq e.trail.items c ≡ false) × (has nat_eq e.trail.items (flip c) ≡ false)
free-codes {nodes} {e} {puts} whole c h free = (
  sym (has-put whole c h) ∙ free.fresh,
  sym (has-put whole (flip c) (flip-code nodes c h)) ∙ (ap (has same_lit (lits_of puts)) (lit_at-flip nodes c) ∙ free.apart),
)
