-- Rows that stand one after another: a row that is written, and those before it.
use Rattle.std.proofs.Common.{◌≡◌, ◌∙◌, ℕ, suc, ◌+◌, ◌*◌, ◌-◌, ◌<◌, ◌≤◌, ◌&&◌, nat_lt, Bool, List, [], ◌++◌, length, map, take, drop, get_or, sym, ap, subst, arith, length-append, length-drop, length-take, inl, inr}
use Rattle.std.specs.Prelude.{slice_get}
use Rattle.std.specs.List.{range_with_len, slice_index_or}
use Rattle.std.proofs.lemmas.List.{drop-drop, length-map}
use Rattle.std.proofs.lemmas.List.FromFn.{length-map-range_with_len, get_or-map-range_with_len}
use Rattle.std.proofs.lemmas.Option.{slice_get-get_or}
use Rattle.netlist.specs.declared.gate.Fanins.{Fanins}
use Rattle.std.proofs.Math.Seq.{drop-append_seam, take-append_seam}
use Rattle.std.proofs.lemmas.List.{take-append-le, drop-append-le}
use Rattle.std.proofs.lemmas.Bool.{cases_lt}
use Rattle.netlist.specs.Net.{AigPair, IsNet, nodes_of, node_at, definitions, fanins_of, all_fanins}
use Rattle.netlist.proofs.Facts.{IsGateAt, gate-at, length-nodes, length-definitions}
use Rattle.word_sim.specs.Patterns.{words_of}
use Rattle.word_sim.specs.Rows.{HasBits, IsRow, row_at, turned, value_on, AreFilled, AreRows, AreSignatures, IsKeptFrom, IsPut}
use Rattle.word_sim.proofs.PoolLemmas.{times-mono}

-- the row that is written behind what is done
pub row-there : (words p : ℕ) (done row tail : List ℕ) → length done ≡ p * words → length row ≡ words
    → row_at words p (done ++ (row ++ tail)) ≡ row
row-there words p done row tail place size =
    ap (λ (n : ℕ). take words (drop n (done ++ (row ++ tail)))) (sym place)
    ∙ ap (take words) (drop-append_seam done (row ++ tail))
    ∙ ap (λ (n : ℕ). take n (row ++ tail)) (sym size) ∙ take-append_seam row tail

-- a row ends before a later one begins
pub row-end : (words p q : ℕ) → q < p → q * words + words ≤ p * words
row-end words p q below = omega (arith, times-mono (suc q) p words below)

-- a row has its words
pub row-size : (words p : ℕ) (rows : List ℕ) → (p + 1) * words ≤ length rows → length (row_at words p rows) ≡ words
row-size words p rows room = omega (arith, length-take words (drop (p * words) rows), length-drop (p * words) rows, room)

-- an earlier row
pub row-kept : (words p q : ℕ) (done more : List ℕ) → length done ≡ p * words → q < p → row_at words q (done ++ more) ≡ row_at words q done
row-kept words p q done more place below =
    let end : q * words + words ≤ length done = omega (arith, row-end words p q below) in
    ap (take words) (drop-append-le (q * words) done more (omega arith))
    ∙ take-append-le words (drop (q * words) done) more (omega (arith, length-drop (q * words) done))

-- one row more
pub filled-next : (net : AigPair) (patterns : List (List Bool)) (n : ℕ) (old new : List ℕ) → AreFilled net patterns n old
    → IsPut (words_of (length patterns)) n old new → IsRow net patterns (node_at net n) (row_at (words_of (length patterns)) n new)
    → AreFilled net patterns (n + 1) new
filled-next net patterns n old new filled put row = record {
  size = put.size ∙ filled.size;
  each = λ p below. elim (cases_lt p n) [
    | inl less ↦ subst (λ (ws : List ℕ). IsRow net patterns (node_at net p) ws) (sym (put.before p less)) (filled.each p less)
    | inr more ↦
        let same : n ≡ p = omega arith in
        subst (λ (k : ℕ). IsRow net patterns (node_at net k) (row_at (words_of (length patterns)) k new)) same row
  ];
}

-- what stands behind a row that is written is as it was
pub part-kept : (words p k : ℕ) (old done rest row : List ℕ) → old ≡ done ++ rest → length done ≡ p * words → length row ≡ words → k ≡ words
    → IsKeptFrom words (p + 1) old (done ++ (row ++ drop k rest))
part-kept words p k old done rest row whole place size same =
    let from : (p + 1) * words ≡ length done + words = omega (arith, place) in
    behind (row ++ drop k rest) from
    ∙ ap (λ (n : ℕ). drop n (row ++ drop k rest)) (sym size) ∙ drop-append_seam row (drop k rest) ∙ ap (λ (n : ℕ). drop n rest) same
    ∙ sym (ap (λ (xs : List ℕ). drop ((p + 1) * words) xs) whole ∙ behind rest from)
  where
    behind : (more : List ℕ) → (p + 1) * words ≡ length done + words → drop ((p + 1) * words) (done ++ more) ≡ drop words more
    behind more from =
        ap (λ (n : ℕ). drop n (done ++ more)) from ∙ sym (drop-drop words (length done) (done ++ more))
        ∙ ap (drop words) (drop-append_seam done more)

-- and so is what stands behind more rows
pub kept-later : (words p q : ℕ) (old mid new : List ℕ) → p ≤ q → IsKeptFrom words p old mid → IsKeptFrom words q mid new
    → IsKeptFrom words q old new
kept-later words p q old mid new most first next = next ∙ later mid ∙ ap (drop (q * words - p * words)) first ∙ sym (later old)
  where
    later : (xs : List ℕ) → drop (q * words) xs ≡ drop (q * words - p * words) (drop (p * words) xs)
    later xs =
        let from : q * words ≡ p * words + (q * words - p * words) = omega (arith, times-mono p q words most) in
        ap (λ (n : ℕ). drop n xs) from ∙ sym (drop-drop (q * words - p * words) (p * words) xs)

-- so a row behind one that is written is as it was
pub row-behind : (words p q : ℕ) (old new : List ℕ) → p < q → IsKeptFrom words (p + 1) old new → row_at words q new ≡ row_at words q old
row-behind words p q old new below kept = ap (take words) (later new ∙ ap (drop (q * words - (p + 1) * words)) kept ∙ sym (later old))
  where
    later : (xs : List ℕ) → drop (q * words) xs ≡ drop (q * words - (p + 1) * words) (drop ((p + 1) * words) xs)
    later xs =
        let from : q * words ≡ (p + 1) * words + (q * words - (p + 1) * words) = omega (arith, times-mono (p + 1) q words (omega (arith, below))) in
        ap (λ (n : ℕ). drop n xs) from ∙ sym (drop-drop (q * words - (p + 1) * words) ((p + 1) * words) xs)

-- one row is written behind what is done
pub put-part : (words p k : ℕ) (old done rest row : List ℕ) → old ≡ done ++ rest → length done ≡ p * words
    → (p + 1) * words ≤ length old → length row ≡ words → k ≡ words → IsPut words p old (done ++ (row ++ drop k rest))
put-part words p k old done rest row whole place room size same =
    let total : length old ≡ length done + length rest = ap (λ (xs : List ℕ). length xs) whole ∙ length-append done rest in
    record {
      size = omega (arith, length-append done (row ++ drop k rest), length-append row (drop k rest), length-drop k rest);
      before = λ q below.
          row-kept words p q done (row ++ drop k rest) place below
          ∙ sym (ap (λ (xs : List ℕ). row_at words q xs) whole ∙ row-kept words p q done rest place below);
    }

-- bits of equal values
pub bits-same : (count : ℕ) (f g : ℕ → Bool) (words : List ℕ) → ((p : ℕ) → f p ≡ g p) → HasBits count f words → HasBits count g words
bits-same count f g words same bits = record {
  size = bits.size;
  bits = λ w b inside within. bits.bits w b inside within ∙ ap (λ (t : Bool). nat_lt (64 * w + b) count && t) (same (64 * w + b));
}

-- a gate among all, read in a list
pub gate-there : (net : AigPair) → IsNet net → (fs : List Fanins) (k : ℕ) (d : Fanins) → fs ≡ all_fanins net → k < length fs
    → IsGateAt net (1 + length net.a.inputs + k) (get_or fs k d)
gate-there net is fs k d whole inside =
    gate-at net is k (get_or fs k d) (ap (λ (xs : List Fanins). slice_get xs k) (sym whole) ∙ slice_get-get_or fs k d inside)

-- the gates are the last nodes
pub gates-last : (net : AigPair) (fs : List Fanins) → fs ≡ all_fanins net → 1 + length net.a.inputs + length fs ≡ length (nodes_of net)
gates-last net fs whole =
    omega (arith, ap (λ (xs : List Fanins). length xs) whole, length-map (definitions net) (fanins_of net), length-definitions net, length-nodes net)

-- the row of a gate comes next
pub gate-next : (net : AigPair) (patterns : List (List Bool)) (f : Fanins) (words count position : ℕ) (old new : List ℕ)
    → IsGateAt net position f → words ≡ words_of count → count ≡ length patterns → AreFilled net patterns position old
    → IsPut words position old new
    → ((left right : ℕ → Bool) → HasBits count left (row_at words f.left.position old) → HasBits count right (row_at words f.right.position old)
    → HasBits count (λ p. turned f.left.neg (left p) && turned f.right.neg (right p)) (row_at words position new))
    → AreFilled net patterns (position + 1) new
gate-next net patterns f words count position old new gate wide many filled put row =
    let same : words ≡ words_of (length patterns) = wide ∙ ap words_of many in
    let value = λ (p : ℕ). value_on net patterns (node_at net p) in
    let there : (left right : ℕ → Bool) → HasBits (length patterns) left (row_at (words_of (length patterns)) f.left.position old)
    → HasBits (length patterns) right (row_at (words_of (length patterns)) f.right.position old)
    → HasBits (length patterns) (λ p. turned f.left.neg (left p) && turned f.right.neg (right p)) (row_at (words_of (length patterns)) position new) =
    subst (λ (n : ℕ). (left right : ℕ → Bool) → HasBits n left (row_at (words_of (length patterns)) f.left.position old)
    → HasBits n right (row_at (words_of (length patterns)) f.right.position old)
    → HasBits n (λ p. turned f.left.neg (left p) && turned f.right.neg (right p)) (row_at (words_of (length patterns)) position new)) many
    (subst (λ (w : ℕ). (left right : ℕ → Bool) → HasBits count left (row_at w f.left.position old) → HasBits count right (row_at w f.right.position old)
    → HasBits count (λ p. turned f.left.neg (left p) && turned f.right.neg (right p)) (row_at w position new)) same row) in
    filled-next net patterns position old new filled (subst (λ (w : ℕ). IsPut w position old new) same put)
    (bits-same (length patterns) _ (value position) _ (λ p. sym (gate.value (slice_index_or patterns p [])))
    (there (value f.left.position) (value f.right.position) (filled.each f.left.position gate.left) (filled.each f.right.position gate.right)))

-- the rows of so many positions, kept one after another
abbrev pub rows-kept : ℕ → ℕ → List ℕ → List (List ℕ)
rows-kept patterns positions words = map (λ p. row_at (words_of patterns) p words) (range_with_len 0 positions)

pub rows-count : (patterns positions : ℕ) (words : List ℕ) → length (rows-kept patterns positions words) ≡ positions
rows-count patterns positions words = length-map-range_with_len (λ p. row_at (words_of patterns) p words) 0 positions

pub rows-at : (patterns positions : ℕ) (words : List ℕ) (p : ℕ) → p < positions
    → slice_index_or (rows-kept patterns positions words) p [] ≡ row_at (words_of patterns) p words
rows-at patterns positions words p below =
    get_or-map-range_with_len (λ p. row_at (words_of patterns) p words) 0 positions p p [] below (omega arith)

-- rows of all nodes, kept so, are signatures
pub kept-signatures : (net : AigPair) (patterns : List (List Bool)) (count positions : ℕ) (words : List ℕ) → AreRows net patterns words
    → count ≡ length patterns → 1 ≤ length patterns → positions ≡ length (nodes_of net)
    → AreSignatures net patterns (record { patterns = count; rows = rows-kept count positions words })
kept-signatures net patterns count positions words rows many some all = record {
  size = many;
  some = some;
  count = rows-count count positions words ∙ all;
  each = λ p below.
      let inside : p < positions = omega (arith, rows-count count positions words, below) in
      let same : row_at (words_of (length patterns)) p words ≡ slice_index_or (rows-kept count positions words) p [] =
      sym (ap (λ (n : ℕ). row_at (words_of n) p words) many) ∙ sym (rows-at count positions words p inside) in
      subst (λ (ws : List ℕ). IsRow net patterns (node_at net p) ws) same (rows.each p (omega (arith, inside, all)));
}
