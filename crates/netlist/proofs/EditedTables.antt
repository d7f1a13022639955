-- What an edit makes of a circuit's list of gates and of its table of variables.
use Rattle.std.proofs.Common.{◌≡◌, ℕ, ◌<◌, Bool, true, false, Option, Some, List, ◌∷◌, ◌++◌, length, take, drop, refl, sym, ap, ◌∙◌, subst}
use Rattle.std.specs.Prelude.{◌==◌, slice_set, IsSome}
use Rattle.std.specs.List.{insert, remove}
use Rattle.std.specs.Option.{is_some}
use Rattle.std.proofs.lemmas.Bool.{and_parts, not-true}
use Rattle.lits.specs.Clause.{has, no_repeat}
use Rattle.netlist.specs.declared.gate.And.{And}
use Rattle.netlist.specs.Place.{place_of}
use Rattle.netlist.specs.Circuit.{Aig, IsCircuit, gate_vars, variables_in}
use Rattle.netlist.specs.VariableTable.{Places, IsTable, AreVariables, HasRoom}
use Rattle.netlist.specs.Source.{IsIndexed}
use Rattle.netlist.specs.Edit.{has_gate, gates_before, gates_since, with_gate, with_new, without_gate, CanPut, CanDrop}
use Rattle.netlist.proofs.PlaceLemmas.{is_some-place, before-take}
use Rattle.netlist.proofs.VariableLemmas.{variables, list_any-vars}
use Rattle.netlist.proofs.EditLemmas.{or_cases, or_skip, same_number, set-swap, since-drop, remove-but}
use Rattle.netlist.proofs.EditedCircuits.{is_put, is_dropped, has-new, kept-has}
use Rattle.netlist.proofs.RoomLemmas.{table_room}

-- a gate that is there has a place
pub gate_there : (c : Aig) (v : ℕ) (o : Option ℕ) → o ≡ place_of (λ g. g.var == v) c.gates → has_gate c v ≡ true → IsSome o
gate_there c v o e there = ap is_some e ∙ is_some-place (λ g. g.var == v) c.gates ∙ sym (list_any-vars c.gates v) ∙ there

pub set_whole : (c new : Aig) (g : And) (i : ℕ) → IsCircuit c → place_of (λ x. x.var == g.var) c.gates ≡ Some i
    → new ≡ record c { gates = slice_set c.gates i g } → new ≡ with_gate c g
set_whole c new g i circuit e f = f ∙ ap (λ (gs : List And). record c { gates = gs }) (set-swap (0 ∷ c.inputs) c.gates g i circuit.gates e)

pub drop_whole : (c new : Aig) (v i : ℕ) → IsCircuit c → place_of (λ x. x.var == v) c.gates ≡ Some i
    → new ≡ record c { gates = remove c.gates i } → new ≡ without_gate c v
drop_whole c new v i circuit e f = f ∙ ap (λ (gs : List And). record c { gates = gs }) (remove-but (0 ∷ c.inputs) c.gates v i circuit.gates e)

pub before_whole : (c : Aig) (v i : ℕ) → place_of (λ x. x.var == v) c.gates ≡ Some i → take i c.gates ≡ gates_before c (Some v)
before_whole c v i e = sym (before-take (λ x. x.var == v) c.gates i e)

pub since_whole : (c : Aig) (v i : ℕ) → place_of (λ x. x.var == v) c.gates ≡ Some i → drop i c.gates ≡ gates_since c (Some v)
since_whole c v i e = sym (since-drop (λ x. x.var == v) c.gates i e)

pub put_whole : (c new : Aig) (g : And) (place : Option ℕ) (i : ℕ) → take i c.gates ≡ gates_before c place → drop i c.gates ≡ gates_since c place
    → new ≡ record c { gates = insert c.gates i g } → new ≡ with_new c g place
put_whole c new g place i e f h =
    h ∙ ap (λ (gs : List And). record c { gates = gs ++ g ∷ drop i c.gates }) e
    ∙ ap (λ (gs : List And). record c { gates = gates_before c place ++ g ∷ gs }) f

-- a circuit's inputs and gates define no constant
not_zero : (c : Aig) (v : ℕ) → IsCircuit c → has ◌==◌ (c.inputs ++ gate_vars c.gates) v ≡ true → (v == 0) ≡ false
not_zero c v circuit e = go (v == 0) refl
  where
    none : has ◌==◌ (c.inputs ++ gate_vars c.gates) 0 ≡ false
    none = not-true (has ◌==◌ (c.inputs ++ gate_vars c.gates) 0)
        (and_parts _ (no_repeat ◌==◌ (c.inputs ++ gate_vars c.gates)) (variables c circuit).distinct).0

    go : (b : Bool) → (v == 0) ≡ b → b ≡ false
    go false t = refl
    go true t =
        let there : has ◌==◌ (c.inputs ++ gate_vars c.gates) 0 ≡ true =
        subst (λ (n : ℕ). has ◌==◌ (c.inputs ++ gate_vars c.gates) n ≡ true) (same_number v 0 t) e in
        cc (there, none)

pub room_dropped : (c : Aig) (t : Places) (v : ℕ) → IsIndexed c t → CanDrop c v → HasRoom t (c.inputs ++ gate_vars (without_gate c v).gates)
room_dropped c t v indexed can w e =
    table_room t (variables_in c) w indexed.table
    (kept-has c v w (or_skip (0 == w) (has ◌==◌ (c.inputs ++ gate_vars (without_gate c v).gates) w) e))
    (not_zero (without_gate c v) w (is_dropped c v indexed.circuit can) e)

pub room_put : (c : Aig) (t : Places) (g : And) (place : Option ℕ) → IsCircuit c → IsTable t (variables_in c) → CanPut c g place
    → g.var < length t.by_variable → HasRoom t (c.inputs ++ gate_vars (with_new c g place).gates)
room_put c t g place circuit table can room w e =
    or_cases (w < length t.by_variable) (g.var == w) (has ◌==◌ (variables_in c) w)
    (sym (has-new c g place w) ∙ or_skip (0 == w) (has ◌==◌ (c.inputs ++ gate_vars (with_new c g place).gates) w) e)
    (λ same. subst (λ (n : ℕ). n < length t.by_variable) (same_number g.var w same) room)
    (λ not_same there. table_room t (variables_in c) w table there (not_zero (with_new c g place) w (is_put c g place circuit can) e))

-- the edited circuit with its table filled anew
module _ (new : Aig) (inputs : List ℕ) (gates : List And) (e : inputs ≡ new.inputs) (f : gates ≡ new.gates) where
  pub refill_variables : IsCircuit new → AreVariables inputs gates
  refill_variables circuit = rw (e, f) (variables new circuit)

  pub refill_room : (t : Places) → HasRoom t (new.inputs ++ gate_vars new.gates) → HasRoom t (inputs ++ gate_vars gates)
  refill_room t room = rw (e, f) room

  pub refilled : (t : Places) → IsCircuit new → IsTable t (0 ∷ (inputs ++ gate_vars gates)) → IsIndexed new t
  refilled t circuit table = record {
    circuit = circuit;
    table = subst (λ (gs : List And). IsTable t (0 ∷ (new.inputs ++ gate_vars gs))) f
        (subst (λ (vs : List ℕ). IsTable t (0 ∷ (vs ++ gate_vars gates))) e table);
  }

-- the parts p of a circuit c after its gate of v went from its place
pub dropped_is : {p c new : Aig} {t : Places} {o : Option ℕ} (v i : ℕ) → p ≡ c → IsIndexed p t → o ≡ place_of (λ x. x.var == v) c.gates → o ≡ Some i
    → new ≡ record p { gates = remove p.gates i } → new ≡ without_gate c v
dropped_is {p} {c} {new} v i view indexed place found gone =
    drop_whole c new v i (subst (λ (g : Aig). IsCircuit g) view indexed.circuit) (sym place ∙ found)
    (subst (λ (g : Aig). new ≡ record g { gates = remove g.gates i }) view gone)

-- the same after a new gate came
pub put_is : {p c new : Aig} (g : And) (place : Option ℕ) (i : ℕ) → p ≡ c → take i c.gates ≡ gates_before c place → drop i c.gates ≡ gates_since c place
    → new ≡ record p { gates = insert p.gates i g } → new ≡ with_new c g place
put_is {p} {c} {new} g place i view first rest there =
    put_whole c new g place i first rest (subst (λ (a : Aig). new ≡ record a { gates = insert a.gates i g }) view there)

-- and after its gate got other fanins
pub set_is : {p c new : Aig} {t : Places} {o : Option ℕ} (g : And) (i : ℕ) → p ≡ c → IsIndexed p t → o ≡ place_of (λ x. x.var == g.var) c.gates → o ≡ Some i
    → new ≡ record p { gates = slice_set p.gates i g } → new ≡ with_gate c g
set_is {p} {c} {new} g i view indexed place found there =
    set_whole c new g i (subst (λ (a : Aig). IsCircuit a) view indexed.circuit) (sym place ∙ found)
    (subst (λ (a : Aig). new ≡ record a { gates = slice_set a.gates i g }) view there)
