-- An insertion by the node's CNF variable finds the node, and the answer tells whether it is new.
use Rattle.std.proofs.Common.{◌≡◌, ◌∙◌, ap, refl, sym, Bool, false, Some, length, ◌+◌, arith}
use Rattle.std.specs.Prelude.{if◌then◌else◌}
use Rattle.std.specs.Option.{is_some}
use Rattle.netlist.specs.Miter.{variable_of}
use Rattle.lemma_book.proofs.WalkLemmas.{number-variable, finds-new, finds-known}
use Rattle.lemma_book.proofs.walk.Walk.find.Goals as goal

pub returns-in_ok-push : goal.returns-in_ok-push
returns-in_ok-push c =
    let e = c.in_ok-insert.ensures in
    let none : is_some c.in_ok-insert.field-0 ≡ false = c.if-is_none.ensures in
    let at : variable_of c.args.net.now c.args.node ≡ Some c.var.result =
    number-variable c.args.net.now (record { node = c.args.node; neg = false }) c.in-Some.number (sym c.in-Some.ensures)
    ∙ ap Some (sym c.var.ensures.var) in
    finds-new c.args.net.now c.args.node c.var.result at c.args.self.now (record { found = c.insert.new.self; pending = c.push.new.self })
    c.requires.walk e.entries e.ordered c.in_ok-push.ensures.items (e.len ∙ rw none refl) (ap is_some (sym e.old) ∙ none)

pub returns-else-is_none : goal.returns-else-is_none
returns-else-is_none c =
    let e = c.in_ok-insert.ensures in
    let some = c.if-is_none.ensures in
    let at : variable_of c.args.net.now c.args.node ≡ Some c.var.result =
    number-variable c.args.net.now (record { node = c.args.node; neg = false }) c.in-Some.number (sym c.in-Some.ensures)
    ∙ ap Some (sym c.var.ensures.var) in
    let count : length c.insert.new.self.entries ≡ length c.args.self.now.found.entries =
    omega (arith, e.len ∙ ap (λ (b : Bool). length c.args.self.now.found.entries + (if b then 0 else 1)) some) in
    finds-known c.args.net.now c.args.node c.var.result at c.args.self.now (record { found = c.insert.new.self; pending = c.args.self.now.pending })
    c.requires.walk e.entries e.ordered refl count (ap is_some (sym e.old) ∙ some)
