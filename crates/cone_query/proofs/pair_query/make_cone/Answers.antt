-- A gate's cone that names the input is that of both nodes.
use Rattle.std.proofs.Common.{List, [], ◌∷◌, length, take, sym, subst, ◌∙◌}
use Rattle.std.proofs.Math.Seq.{take-length}
use Rattle.flat_base.specs.Flat.{named_of}
use Rattle.lemma_book.specs.Cone.{IsCone}
use Rattle.lemma_book.specs.declared.entry.Entry.{Entry}
use Rattle.cone_query.proofs.OccursLemmas.{speaks_of, named-over, named-input, unnamed-input, named-speaks}
use Rattle.cone_query.proofs.PairLemmas.{pair-there}
use Rattle.cone_query.proofs.ReachedLemmas.{own-both}
use Rattle.cone_query.proofs.pair_query.make_cone.Goals as goal

pub cone-requires : goal.cone-requires
cone-requires c = record {
  legal = c.requires.legal;
  there = pair-there c.args.net.now c.args.seen.now c.args.task.now c.requires;
}

pub cone-requires-2-clause-there : goal.cone-requires-2-clause-there
cone-requires-2-clause-there c = ((pair-there c.args.net.now c.args.seen.now c.args.task.now c.requires).0, tt)

pub names-requires-clause-there : goal.names-requires-clause-there
names-requires-clause-there c = (pair-there c.args.net.now c.args.seen.now c.args.task.now c.requires).1.0

pub returns-clause-cone : goal.returns-clause-cone
returns-clause-cone c t =
    let net = c.args.net.now in
    let seen = c.args.seen.now in
    let task = c.args.task.now in
    let base = named_of c.cone-2.new.self.base in
    let cone = subst (λ (es : List Entry). IsCone net es (task.node ∷ []) base) (sym (take-length seen.entries)) c.in_ok-cone-2.ensures.cone in
    own-both net (take (length seen.entries) seen.entries) task.node task.lit base cone
    (named-over net seen task base cone c.names.result (c.names.ensures ∙ named-speaks base task.lit) t)

pub returns-clause-named : goal.returns-clause-named
returns-clause-named c t =
    let net = c.args.net.now in
    let seen = c.args.seen.now in
    let task = c.args.task.now in
    let base = named_of c.cone-2.new.self.base in
    let cone = subst (λ (es : List Entry). IsCone net es (task.node ∷ []) base) (sym (take-length seen.entries)) c.in_ok-cone-2.ensures.cone in
    named-input net seen task base cone c.names.result (c.names.ensures ∙ named-speaks base task.lit) t

pub returns-clause-unnamed : goal.returns-clause-unnamed
returns-clause-unnamed c f =
    let net = c.args.net.now in
    let seen = c.args.seen.now in
    let task = c.args.task.now in
    let base = named_of c.cone-2.new.self.base in
    let cone = subst (λ (es : List Entry). IsCone net es (task.node ∷ []) base) (sym (take-length seen.entries)) c.in_ok-cone-2.ensures.cone in
    unnamed-input net seen task base cone c.names.result (c.names.ensures ∙ named-speaks base task.lit) f c.in-Input.field-0 c.in-Input.is
