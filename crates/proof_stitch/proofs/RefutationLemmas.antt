-- What is written of a legal book that has an Out entry for each output refutes the miter.
use Rattle.std.proofs.Common.{◌≡◌, ℕ, suc, ◌+◌, ◌*◌, ◌<◌, ◌≤◌, ◌^◌, true, Option, Some, None, List, [], ◌∷◌, ◌++◌, length, map, refl, sym, ap, ◌∙◌, subst, arith, length-append, add-zero}
use Rattle.std.specs.Prelude.{slice_get, unwrap_or}
use Rattle.std.specs.List.{range_with_len, slice_index_or, AllByRecursion}
use Rattle.std.proofs.lemmas.List.{length-map, append-nil}
use Rattle.std.proofs.lemmas.Option.{none-some, same_Some}
use Rattle.std.proofs.lemmas.Bool.{eq-eqb}
use Rattle.lits.specs.declared.node.Node.TheVariants.{Input, Xor}
use Rattle.lits.specs.declared.node.Side.TheVariants.{A, B}
use Rattle.lits.specs.declared.literal.Lit.{Lit}
use Rattle.lits.specs.declared.step.Step.{Step}
use Rattle.netlist.specs.Place.{place_of}
use Rattle.netlist.specs.Circuit.{most}
use Rattle.netlist.specs.Net.{AigPair, IsNet, definition_of, definitions, nodes_of}
use Rattle.lits.specs.Same.{same_node, same_dim, opposite_dim}
use Rattle.netlist.specs.Miter.{variable_of, variables_of, xors_of, miter_of}
use Rattle.netlist.proofs.Facts.{length-range, at-place, variable-some, few_gates_of}
use Rattle.lemma_book.specs.declared.entry.Entry.{Entry}
use Rattle.lemma_book.specs.Entry.{equal_clause, has_out}
use Rattle.lrat_text.specs.Derivation.{formula_live}
use Rattle.proof_stitch.specs.Steps.{additions_from, additions}
use Rattle.proof_stitch.specs.Written.{written_steps, shown_clauses, shown_from, shown_ids, book_additions}
use Rattle.proof_stitch.specs.Stitch.{unit_id, empty_addition, empty_line, is_for_empty, refutation_of, IsRefutation}
use Rattle.proof_stitch.proofs.AxiomLemmas.{there}
use Rattle.proof_stitch.proofs.GrowLemmas.{Formula, Grows}
use Rattle.proof_stitch.proofs.StepLemmas.{clause_of, clauses_in, FitsDimacs}
use Rattle.proof_stitch.proofs.ShownLemmas.{IsShown, shown-live, grows-entries}
use Rattle.proof_stitch.proofs.EmptyLemmas.{IsWhole, empty-step}
use Rattle.proof_stitch.proofs.XorLemmas.{all-in, equal_number, numbers-fresh, numbers-apart, numbers-inside, last-live, miter-some}
use Rattle.proof_stitch.proofs.TrimmedLemmas.{Spelling, trimmed-written, trimmed-empty}
use Rattle.proof_stitch.proofs.BookLemmas.{IsSoundBook, out-unit, total}

-- a net has few nodes
few_variables : (net : AigPair) → IsNet net → length (variables_of net) ≤ 1 + 3 * most
few_variables net is =
    omega (
      arith,
      length-append (nodes_of net) (xors_of net),
      length-append (map Input (range_with_len 0 (length net.a.inputs))) (map (λ d. d.node) (definitions net)),
      length-map (range_with_len 0 (length net.a.inputs)) Input,
      length-range (length net.a.inputs) 0,
      length-map (definitions net) (λ d. d.node),
      length-append (map (definition_of A net.a) net.a.gates) (map (definition_of B net.b) net.b.gates),
      length-map net.a.gates (definition_of A net.a),
      length-map net.b.gates (definition_of B net.b),
      length-map (range_with_len 0 (length net.a.outputs)) Xor,
      length-range (length net.a.outputs) 0,
      few_gates_of net.a is.a,
      few_gates_of net.b is.b,
      is.a.count,
    )

-- so their CNF variables are in the range of DIMACS
pub fits_dimacs : (net : AigPair) → IsNet net → FitsDimacs net
fits_dimacs net is l there =
    let v = variable-some net l.node there in
    let at : unwrap_or (variable_of net l.node) 0 ≡ v.0 = ap (λ (o : Option ℕ). unwrap_or o 0) v.1 in
    let bounds = below v.0 v.1 in
    (omega arith, omega (arith, few_variables net is))
  where
    below : (k : ℕ) → variable_of net l.node ≡ Some k → (1 ≤ k) × (k ≤ length (variables_of net))
    below k e = go (place_of (λ n. same_node n l.node) (variables_of net)) refl
      where
        go : (o : Option ℕ) → place_of (λ n. same_node n l.node) (variables_of net) ≡ o → (1 ≤ k) × (k ≤ length (variables_of net))
        go None f = let g : None ≡ Some k = rw f at e in absurd (none-some k g)
        go (Some i) f =
            let next : i + 1 ≡ k = same_Some (i + 1) k (rw f at e) in
            let within = (at-place (λ n. same_node n l.node) (variables_of net) i f).3 in
            (omega arith, omega arith)

-- the unit of an output is live under its id
unit-live : (net : AigPair) (entries : List Entry) → AllByRecursion (IsShown net) entries → (j : ℕ) → has_out entries j ≡ true
    → (formula : Formula) → formula ≡ miter_of net ++ clauses_in net (map written_steps entries)
    → formula_live formula (unit_id net entries j) ≡ Some (equal_number net j ∷ [])
unit-live net entries shows j has_out formula e =
    let unit = out-unit entries j has_out in
    let m = length (miter_of net) in
    let at = slice_index_or (shown_from (m + 1) entries) unit.place 0 in
    let here : slice_get (shown_clauses unit.entry) 0 ≡ Some (equal_clause j) = ap (λ (l : List (List Lit)). slice_get l 0) unit.shows in
    let live = (shown-live net entries shows (miter_of net) (m + 1) refl unit.place unit.entry unit.at 0 (equal_clause j) here []).1 in
    let whole : miter_of net ++ (clauses_in net (map written_steps entries) ++ []) ≡ formula =
    ap (λ (l : Formula). miter_of net ++ l) (append-nil (clauses_in net (map written_steps entries))) ∙ sym e in
    rw unit.found
    (subst (λ (n : ℕ). formula_live formula n ≡ Some (equal_number net j ∷ [])) (add-zero at)
    (subst (λ (f : Formula). formula_live f (at + 0) ≡ Some (equal_number net j ∷ [])) whole live))

-- as many clauses as additions
pub length-additions_from : (net : AigPair) (shown : List ℕ) (first id : ℕ) (steps : List Step) → length (additions_from net shown first id steps) ≡ length steps
length-additions_from net shown first id [] = refl
length-additions_from net shown first id (s ∷ ss) = ap suc (length-additions_from net shown first (id + 1) ss)

pub length-additions : (net : AigPair) (shown : List ℕ) (id : ℕ) (lists : List (List Step)) → length (additions net shown id lists) ≡ total lists
length-additions net shown id [] = refl
length-additions net shown id (steps ∷ lists) =
    omega (
      arith,
      length-append (additions_from net shown id id steps) (additions net shown (id + length steps) lists),
      length-additions_from net shown id id steps,
      length-additions net shown (id + length steps) lists,
    )

pub length-clauses_in : (net : AigPair) (lists : List (List Step)) → length (clauses_in net lists) ≡ total lists
length-clauses_in net [] = refl
length-clauses_in net (steps ∷ lists) =
    omega (
      arith,
      length-append (map (clause_of net) steps) (clauses_in net lists),
      length-map steps (clause_of net),
      length-clauses_in net lists,
    )

-- the steps of a legal book are few
pub total-few : (net : AigPair) (out : ℕ) (entries : List Entry) → IsSoundBook net out entries
    → total (map written_steps entries) ≤ 50331649 * 1000000002
total-few net out entries book =
    omega (
      arith,
      book.few,
      few_variables net book.is_net,
      length-append (nodes_of net) (xors_of net),
      length-map (range_with_len 0 (length net.a.outputs)) Xor,
      length-range (length net.a.outputs) 0,
    )

module _ (net : AigPair) (out : ℕ) (entries : List Entry) (book : IsSoundBook net out entries)
    (outs : (j : ℕ) → j < length net.a.outputs → has_out entries j ≡ true) where
  abbrev m : ℕ
  m = length (miter_of net)

  abbrev outputs : List ℕ
  outputs = range_with_len 0 (length net.a.outputs)

  whole : (f : Formula) → f ≡ miter_of net ++ clauses_in net (map written_steps entries)
      → IsWhole same_dim opposite_dim (formula_live f) (unit_id net entries) (equal_number net) outputs m
  whole f e = record {
    fresh = numbers-fresh net (length net.a.outputs) 0 (omega arith);
    units =
        all-in (λ j. formula_live f (unit_id net entries j) ≡ Some (equal_number net j ∷ [])) 0 (length net.a.outputs) (length net.a.outputs)
        (λ j below. unit-live net entries book.shown j (outs j below) f e) (omega arith);
    negations = last-live net f (record { more = clauses_in net (map written_steps entries); is = e });
    apart = numbers-apart net;
    inside = numbers-inside net;
  }

  empty : (f : Formula) → f ≡ miter_of net ++ clauses_in net (map written_steps entries) → Grows f (empty_line net entries)
  empty f e = (
    record {
      id_is =
          let l : length f ≡ length (miter_of net ++ clauses_in net (map written_steps entries)) = ap length e in
          omega (
            arith,
            length-append (miter_of net) (clauses_in net (map written_steps entries)),
            length-clauses_in net (map written_steps entries),
            length-additions net (shown_ids net entries) (m + 1) (map written_steps entries),
          );
      step = empty-step same_dim opposite_dim (formula_live f) (unit_id net entries) (equal_number net) outputs m (whole f e);
      range = tt;
    },
    tt,
  )

  -- the miter grows by all steps and the empty clause
  pub all-grow : Grows (miter_of net) (book_additions net entries ++ empty_line net entries)
  all-grow =
      grows-entries net book.is_net (fits_dimacs net book.is_net) entries [] entries refl tt book.shown book.in_turn (miter_of net)
      (sym (append-nil (miter_of net))) (empty_line net entries) (m + 1) refl empty

  pub all-few : length (book_additions net entries ++ empty_line net entries) ≡ total (map written_steps entries) + 1
  all-few =
      omega (
        arith,
        length-append (book_additions net entries) (empty_line net entries),
        length-additions net (shown_ids net entries) (m + 1) (map written_steps entries),
      )

  -- the empty clause is asked for
  pub empty-asked : is_for_empty net entries (m + length (book_additions net entries) + 1) ≡ true
  empty-asked = rw (eq-eqb (m + length (book_additions net entries) + 1) (m + length (book_additions net entries) + 1) refl) refl

  -- what is written refutes the miter
  pub refutation-refutes : Spelling → m < 2 ^ 32 → IsRefutation net (refutation_of net entries)
  unfolding refutation_of
  refutation-refutes spelling few =
      let written =
      trimmed-written (miter_of net) (is_for_empty net entries) (book_additions net entries ++ empty_line net entries) spelling all-grow
      (miter-some net) (omega (arith, few)) (omega (arith, few, all-few, total-few net out entries book)) in
      record {
        spells = written.spells;
        refutes = record {
          derives = written.derives;
          empty =
              trimmed-empty m (is_for_empty net entries) (book_additions net entries)
              (empty_addition net entries (m + length (book_additions net entries) + 1)) empty-asked refl;
        };
        ids = written.ids;
      }
