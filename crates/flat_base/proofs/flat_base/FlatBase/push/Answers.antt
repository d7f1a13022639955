use Rattle.std.proofs.Common.{◌≡◌, ◌+◌, [], ◌∷◌, ◌++◌, length, ap, subst, sym, ◌∙◌}
use Rattle.std.proofs.lemmas.List.{length-append}
use Rattle.flat_base.specs.Flat.{Flat, IsCoded, named_of, clause_at}
use Rattle.flat_base.proofs.FlatLemmas.{coded-push, places-push, flat-push, named-push}
use Rattle.flat_base.proofs.flat_base.FlatBase.push.Goals as goal

pub invariant_of-self-2 : goal.invariant_of-self-2
invariant_of-self-2 c =
    let codes = c.self.inside.codes.items in
    let more = c.args.codes.now in
    let nodes = c.self.inside.nodes.items in
    let places = c.self.inside.places.items in
    let all : c.extend_from_slice.new.self.items ≡ codes ++ more = c.in_ok-extend_from_slice.ensures.items in
    let start : c.len-start.result ≡ length codes = c.len-start.ensures ∙ c.self.inside.codes.ok.0 in
    let end : c.len-end.result ≡ length codes + length more = c.len-end.ensures ∙ (c.extend_from_slice.new.self.ok.0 ∙ (ap length all ∙ length-append codes more)) in
    let is : IsCoded nodes more = subst (λ (f : Flat). IsCoded f.nodes more) (sym c.self.view_is) c.requires in
    rw (c.push_reserved.ensures.items, c.reserve.ensures.items, all, start, end, coded-push codes more c.args.by places c.self.invariant.1)
    (flat-push nodes _ more c.args.by c.self.invariant.0 is, places-push codes more c.args.by places c.self.invariant.1)

pub returns-clause-clauses : goal.returns-clause-clauses
returns-clause-clauses c =
    let codes = c.self.inside.codes.items in
    let more = c.args.codes.now in
    let all : c.extend_from_slice.new.self.items ≡ codes ++ more = c.in_ok-extend_from_slice.ensures.items in
    let start : c.len-start.result ≡ length codes = c.len-start.ensures ∙ c.self.inside.codes.ok.0 in
    let end : c.len-end.result ≡ length codes + length more = c.len-end.ensures ∙ (c.extend_from_slice.new.self.ok.0 ∙ (ap length all ∙ length-append codes more)) in
    rw (c.push_reserved.ensures.items, c.reserve.ensures.items, all, start, end)
    (coded-push codes more c.args.by c.self.inside.places.items c.self.invariant.1
    ∙ ap (λ (f : Flat). f.clauses ++ record { codes = more; by = c.args.by } ∷ []) c.self.view_is)

pub returns-clause-named : goal.returns-clause-named
returns-clause-named c =
    let codes = c.self.inside.codes.items in
    let more = c.args.codes.now in
    let nodes = c.self.inside.nodes.items in
    let places = c.self.inside.places.items in
    let all : c.extend_from_slice.new.self.items ≡ codes ++ more = c.in_ok-extend_from_slice.ensures.items in
    let start : c.len-start.result ≡ length codes = c.len-start.ensures ∙ c.self.inside.codes.ok.0 in
    let end : c.len-end.result ≡ length codes + length more = c.len-end.ensures ∙ (c.extend_from_slice.new.self.ok.0 ∙ (ap length all ∙ length-append codes more)) in
    rw (c.push_reserved.ensures.items, c.reserve.ensures.items, all, start, end, coded-push codes more c.args.by places c.self.invariant.1)
    (named-push nodes _ more c.args.by
    ∙ ap (λ (f : Flat). named_of f ++ record { clause = clause_at f.nodes more; by = c.args.by } ∷ []) c.self.view_is)
