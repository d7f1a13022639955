-- The text of the miter is that of its clauses, node by node.
use Rattle.std.proofs.Common.{◌≡◌, ℕ, zero, suc, ◌+◌, ◌<◌, Bool, true, false, Option, Some, None, List, [], ◌∷◌, ◌++◌, length, map, get_or, refl, sym, ap, ◌∙◌, append_assoc, append-nil, arith}
use Rattle.std.specs.Prelude.{codes, is_some}
use Rattle.std.specs.List.{flat_map, range_with_len}
use Rattle.std.specs.Option.{option_map, unwrap_or}
use Rattle.std.proofs.lemmas.Grind.{flat_map-append}
use Rattle.std.proofs.lemmas.Option.{same_Some, slice_get-get_or}
use Rattle.lits.specs.Clause.{has}
use Rattle.lits.specs.Same.{same_node}
use Rattle.lits.specs.declared.literal.Lit.{Lit}
use Rattle.lits.specs.declared.node.Node.{Node}
use Rattle.lits.specs.declared.node.Node.TheVariants.{Const, Xor}
use Rattle.lits.specs.declared.node.Side.TheVariants.{A, B}
use Rattle.netlist.specs.Net.{AigPair, IsNet, bounds_of, bounds_on, node_at, nodes_of}
use Rattle.netlist.specs.Place.{place_of}
use Rattle.netlist.specs.Miter.{axioms_of, clauses_of, cnf_number_of, defining_clauses, miter_of, numbered, positive, unit, units_of, variables_of, xors_of}
use Rattle.netlist.proofs.Facts.{has-variable, has-xor, is_some-place, length-range, position-node, range-has}
use Rattle.desk_port.specs.Desk.{DeskState, Sizes}
use Rattle.desk_port.specs.declared.errors.PutErr.{PutErr}
use Rattle.desk_port.specs.Pieces.{Moves, StopsInPieces, Takes}
use Rattle.desk_port.proofs.Facts.{moves-then, stops-first, stops-then, takes-then}
use Rattle.std.specs.Prelude.{Result}
use Rattle.std.proofs.lemmas.List.{length-map}
use Rattle.dimacs_text.specs.CnfText.{clause_text, cnf_text, header_text, literal_word}
use Rattle.check_session.specs.Files.{cnf_text_of}
use Rattle.check_session.specs.MiterText.{word_of, line_of, node_lines, defining_lines, unit_lines, xor_line}

-- ---- texts of lists

flat_map-map : {X Y Z : Type 0} (f : Y → List Z) (g : X → Y) (xs : List X) → flat_map f (map g xs) ≡ flat_map (λ x. f (g x)) xs
flat_map-map f g [] = refl
flat_map-map {Z = Z} f g (x ∷ xs) = ap (λ (l : List Z). f (g x) ++ l) (flat_map-map f g xs)

flat_map-flat_map : {X Y Z : Type 0} (f : Y → List Z) (g : X → List Y) (xs : List X)
    → flat_map f (flat_map g xs) ≡ flat_map (λ x. flat_map f (g x)) xs
flat_map-flat_map f g [] = refl
flat_map-flat_map {Z = Z} f g (x ∷ xs) =
    flat_map-append f (g x) (flat_map g xs) ∙ ap (λ (l : List Z). flat_map f (g x) ++ l) (flat_map-flat_map f g xs)

-- ---- the miter's text

module _ (net : AigPair) where
  defining-lines : flat_map (line_of net) (defining_clauses net) ≡ defining_lines net
  defining-lines =
      flat_map-flat_map (line_of net) (axioms_of net) (variables_of net)
      ∙ flat_map-append (node_lines net) (nodes_of net) (xors_of net)

  unit-lines : flat_map (line_of net) (units_of net) ≡ unit_lines net A ++ unit_lines net B
  unit-lines =
      flat_map-map (line_of net) unit (bounds_of net)
      ∙ flat_map-append (λ lit. line_of net (unit lit)) (bounds_on net A) (bounds_on net B)

  clauses-lines : flat_map clause_text (miter_of net)
      ≡ defining_lines net ++ ((unit_lines net A ++ unit_lines net B) ++ xor_line net)
  clauses-lines =
      let defining = flat_map (line_of net) (defining_clauses net) in
      let units = flat_map (line_of net) (units_of net) in
      flat_map-map clause_text (map (numbered net)) (clauses_of net)
      ∙ flat_map-append (line_of net) (defining_clauses net ++ units_of net) (map positive (xors_of net) ∷ [])
      ∙ ap (λ (l : List ℕ). flat_map (line_of net) (defining_clauses net ++ units_of net) ++ l) (append-nil (xor_line net))
      ∙ ap (λ (l : List ℕ). l ++ xor_line net) (flat_map-append (line_of net) (defining_clauses net) (units_of net))
      ∙ append_assoc defining units (xor_line net)
      ∙ ap (λ (l : List ℕ). l ++ (units ++ xor_line net)) defining-lines
      ∙ ap (λ (l : List ℕ). defining_lines net ++ (l ++ xor_line net)) unit-lines

  text-lines : cnf_text (length (variables_of net)) (miter_of net)
      ≡ (header_text (length (variables_of net)) (length (miter_of net)) ++ defining_lines net)
      ++ ((unit_lines net A ++ unit_lines net B) ++ xor_line net)
  unfolding cnf_text
  text-lines =
      let header = header_text (length (variables_of net)) (length (miter_of net)) in
      ap (λ (l : List ℕ). header ++ l) clauses-lines
      ∙ sym (append_assoc header (defining_lines net) ((unit_lines net A ++ unit_lines net B) ++ xor_line net))

  pub miter-lines : cnf_text_of net
      ≡ (header_text (length (variables_of net)) (length (miter_of net)) ++ defining_lines net)
      ++ ((unit_lines net A ++ unit_lines net B) ++ xor_line net)
  unfolding cnf_text_of
  miter-lines = text-lines

  -- a clause is its literals and its end
  pub line-words : (clause : List Lit) → line_of net clause ≡ flat_map (word_of net) clause ++ codes "0\n"
  unfolding clause_text
  line-words clause = ap (λ (l : List ℕ). l ++ codes "0\n") (flat_map-map literal_word (numbered net) clause)

  pub xor-words : xor_line net ≡ flat_map (λ x. word_of net (positive x)) (xors_of net) ++ codes "0\n"
  xor-words =
      line-words (map positive (xors_of net))
      ∙ ap (λ (l : List ℕ). l ++ codes "0\n") (flat_map-map (word_of net) positive (xors_of net))

  -- ---- each literal has a number

  pub number-there : (l : Lit) → has same_node (variables_of net) l.node ≡ true → cnf_number_of net l ≡ Some (numbered net l)
  number-there l there = at (place_of (λ n. same_node n l.node) (variables_of net)) refl
    where
      at : (o : Option ℕ) → place_of (λ n. same_node n l.node) (variables_of net) ≡ o → cnf_number_of net l ≡ Some (numbered net l)
      at None e =
          let here : false ≡ true =
          ap (λ (o : Option ℕ). is_some o) (sym e) ∙ is_some-place (λ n. same_node n l.node) (variables_of net) ∙ there in
          cc
      at (Some k) e = rw e refl

  pub xor-there : (j : ℕ) → j < length net.a.outputs → has same_node (variables_of net) (Xor j) ≡ true
  xor-there j below = has-xor net j ∙ range-has 0 (length net.a.outputs) j (omega arith) (omega arith)

  pub node-there : IsNet net → (p : ℕ) → p < length (nodes_of net) → has same_node (variables_of net) (node_at net p) ≡ true
  node-there is p below =
      has-variable net (node_at net p)
      (sym (is_some-place (λ n. same_node n (node_at net p)) (nodes_of net))
      ∙ ap (λ (o : Option ℕ). is_some o) (position-node net is p below))

  -- ---- the elements that the loops come to

  pub node-is : (n : Node) (p : ℕ) → p < length (nodes_of net) → n ≡ node_at net p → n ≡ get_or (nodes_of net) p n
  node-is n p below e =
      e ∙ same_Some (get_or (nodes_of net) p Const) (get_or (nodes_of net) p n)
      (sym (slice_get-get_or (nodes_of net) p Const below) ∙ slice_get-get_or (nodes_of net) p n below)

pub lit-is : (lits : List Lit) (i : ℕ) (d : Lit) → i < length lits → get_or lits i d ≡ get_or lits i (get_or lits i d)
lit-is lits i d below =
    same_Some (get_or lits i d) (get_or lits i (get_or lits i d))
    (sym (slice_get-get_or lits i d below) ∙ slice_get-get_or lits i (get_or lits i d) below)

xor-at : (a n k : ℕ) (d : Node) → k < n → get_or (map Xor (range_with_len a n)) k d ≡ Xor (a + k)
xor-at a zero k d below = absurd (omega arith)
xor-at a (suc n) zero d below = let e : a ≡ a + 0 = omega arith in ap Xor e
xor-at a (suc n) (suc k) d below =
    let e : a + 1 + k ≡ a + suc k = omega arith in xor-at (a + 1) n k d (omega arith) ∙ ap Xor e

pub xor-is : (net : AigPair) (j : ℕ) → j < length net.a.outputs → Xor j ≡ get_or (xors_of net) j (Xor j)
xor-is net j below =
    let e : j ≡ 0 + j = omega arith in ap Xor e ∙ sym (xor-at 0 (length net.a.outputs) j (Xor j) below)

pub length-xors : (net : AigPair) → length (xors_of net) ≡ length net.a.outputs
length-xors net =
    length-map (range_with_len 0 (length net.a.outputs)) Xor ∙ length-range (length net.a.outputs) 0

-- ---- a text of three parts

pub first-stops : (a b c h : List ℕ) (e : PutErr) (s t : DeskState) (z y : Sizes)
    → StopsInPieces (h ++ a) e s t z y → StopsInPieces (h ++ ((a ++ b) ++ c)) e s t z y
first-stops a b c h e s t z y p = stops-first (a ++ b) c h e s t z y (stops-first a b h e s t z y p)

pub second-stops : (a b c h0 h1 : List ℕ) (e : PutErr) (s0 s1 s2 : DeskState) (z0 z1 z2 : Sizes)
    → Moves a h0 h1 s0 s1 z0 z1 → StopsInPieces (h1 ++ b) e s1 s2 z1 z2 → StopsInPieces (h0 ++ ((a ++ b) ++ c)) e s0 s2 z0 z2
second-stops a b c h0 h1 e s0 s1 s2 z0 z1 z2 p q =
    stops-first (a ++ b) c h0 e s0 s2 z0 z2 (stops-then a b h0 h1 h1 s0 s1 s2 z0 z1 z2 e p q)

pub third-takes : {T : Type 0} (a b c h0 h1 h2 h3 : List ℕ) (s0 s1 s2 s3 : DeskState) (z0 z1 z2 z3 : Sizes) (r : Result T PutErr)
    → Moves a h0 h1 s0 s1 z0 z1 → Moves b h1 h2 s1 s2 z1 z2 → Takes c h2 h3 s2 s3 z2 z3 r
    → Takes ((a ++ b) ++ c) h0 h3 s0 s3 z0 z3 r
third-takes a b c h0 h1 h2 h3 s0 s1 s2 s3 z0 z1 z2 z3 r p q t =
    takes-then (a ++ b) c h0 h2 h3 s0 s2 s3 z0 z2 z3 r (moves-then a b h0 h1 h2 s0 s1 s2 z0 z1 z2 p q) t
