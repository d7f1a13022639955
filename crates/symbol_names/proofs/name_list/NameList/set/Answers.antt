use Rattle.std.proofs.Common.{◌≡◌, ◌+◌, ◌-◌, ◌<◌, ◌∙◌, ap, length, set, List, Option, ℕ, arith}
use Rattle.std.proofs.lemmas.Result.{err_from_is_err_and}
use Rattle.symbol_names.specs.NameList.{name_of}
use Rattle.symbol_names.proofs.SpanLemmas.{AreSpans-room, AreSpans-set, names-room, names-set, length-names}
use Rattle.symbol_names.proofs.name_list.NameList.set.Goals as goal

pub invariant_of-self-in_err-extend_from_slice : goal.invariant_of-self-in_err-extend_from_slice
invariant_of-self-in_err-extend_from_slice c =
    let i = c.self.inside in
    let place : c.args.place < i.count = omega (arith, c.requires, ap length c.self.view_is, length-names i.count i.bytes.items i.spans.items c.self.invariant) in
    rw (c.in_err-extend_from_slice.ensures.items, c.in_ok-make_room.ensures.ok) (AreSpans-room i.count c.args.place i.bytes.items i.spans.items c.self.invariant place)

pub returns-in_err-extend_from_slice-clause-err : goal.returns-in_err-extend_from_slice-clause-err
returns-in_err-extend_from_slice-clause-err c =
    let i = c.self.inside in
    let from = c.from_residual-in_err-extend_from_slice in
    let p = err_from_is_err_and from.result from.ensures.1 in
    let place : c.args.place < i.count = omega (arith, c.requires, ap length c.self.view_is, length-names i.count i.bytes.items i.spans.items c.self.invariant) in
    let fits = c.self.invariant.few in
    rw (p.1, c.in_err-extend_from_slice.ensures.items, c.in_ok-make_room.ensures.ok)
    (names-room i.count (c.args.place + 1 - length i.spans.items) i.bytes.items i.spans.items (omega arith) ∙ c.self.view_is)

pub invariant_of-self-2 : goal.invariant_of-self-2
invariant_of-self-2 c =
    let i = c.self.inside in
    let place : c.args.place < i.count = omega (arith, c.requires, ap length c.self.view_is, length-names i.count i.bytes.items i.spans.items c.self.invariant) in
    rw (c.in_ok-extend_from_slice.ensures.items, c.in_ok-make_room.ensures.ok, c.len.ensures, c.self.inside.bytes.ok.0) (AreSpans-set i.count c.args.place i.bytes.items c.args.name.now i.spans.items c.self.invariant place)

pub returns-clause-ok : goal.returns-clause-ok
returns-clause-ok c =
    let i = c.self.inside in
    let place : c.args.place < i.count = omega (arith, c.requires, ap length c.self.view_is, length-names i.count i.bytes.items i.spans.items c.self.invariant) in
    rw (c.in_ok-extend_from_slice.ensures.items, c.in_ok-make_room.ensures.ok, c.len.ensures, c.self.inside.bytes.ok.0)
    (names-set i.count c.args.place i.bytes.items c.args.name.now i.spans.items c.self.invariant place
    ∙ ap (λ (ns : List (Option (List ℕ))). set ns c.args.place (name_of c.args.name.now)) c.self.view_is)
