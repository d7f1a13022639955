use Rattle.std.proofs.Common.{◌≡◌, ℕ, ◌+◌, List, [], ◌∷◌, ◌++◌, length, ap, ◌∙◌, map}
use Rattle.std.proofs.lemmas.List.{length-append}
use Rattle.watch_lists.specs.Flat.{piece}
use Rattle.watch_lists.proofs.FlatLemmas.{pieces-push, spans-push}
use Rattle.watch_lists.proofs.flat.Flat.push.Goals as goal

pub returns-clause-ok : goal.returns-clause-ok
returns-clause-ok c =
    let lits = c.self.inside.lits.items in
    let spans = c.self.inside.spans.items in
    let more = c.args.clause.now in
    let view : map (piece lits) spans ≡ c.args.self.now = c.self.view_is in
    let all : c.extend_from_slice.new.self.items ≡ lits ++ more = c.in_ok-extend_from_slice.ensures.items in
    let start : c.len-start.result ≡ length lits = c.len-start.ensures ∙ c.self.inside.lits.ok.0 in
    let end : c.len-end.result ≡ length lits + length more = c.len-end.ensures ∙ (c.extend_from_slice.new.self.ok.0 ∙ (ap length all ∙ length-append lits more)) in
    rw (c.push_reserved.ensures.items, c.reserve.ensures.items, all, start, end) (pieces-push lits more spans c.self.invariant ∙ ap (λ (z : List (List ℕ)). z ++ more ∷ []) view)

pub invariant_of-self-2 : goal.invariant_of-self-2
invariant_of-self-2 c =
    let lits = c.self.inside.lits.items in
    let more = c.args.clause.now in
    let all : c.extend_from_slice.new.self.items ≡ lits ++ more = c.in_ok-extend_from_slice.ensures.items in
    let start : c.len-start.result ≡ length lits = c.len-start.ensures ∙ c.self.inside.lits.ok.0 in
    let end : c.len-end.result ≡ length lits + length more = c.len-end.ensures ∙ (c.extend_from_slice.new.self.ok.0 ∙ (ap length all ∙ length-append lits more)) in
    rw (c.push_reserved.ensures.items, c.reserve.ensures.items, all, start, end) (spans-push lits more c.self.inside.spans.items c.self.invariant)
