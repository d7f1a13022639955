-- The output's cone is a base, and the refuter was started with it.
use Rattle.std.proofs.Common.{length, take, sym, ◌∙◌, ap, subst, List}
use Rattle.std.proofs.Math.Seq.{take-length}
use Rattle.lits.specs.declared.step.Named.{Named}
use Rattle.unit_prop.specs.Log.{IsBase}
use Rattle.flat_base.specs.Flat.{Flat, named_of}
use Rattle.lemma_book.specs.declared.entry.Entry.{Entry}
use Rattle.lemma_book.specs.Cone.{IsOutputCone}
use Rattle.lemma_book.proofs.Facts.{output_cone-base}
use Rattle.cone_query.proofs.output_query.query.Goals as goal

pub start_flat-requires : goal.start_flat-requires
start_flat-requires g c =
    subst (λ (f : Flat). IsBase (named_of f)) (sym c.base.ensures)
    (output_cone-base c.args.net.now _ c.requires.net_is c.args.j (named_of c.output_cone.new.self.base) c.in_ok-output_cone.ensures.cone)

pub ask-requires-clause-cone : goal.ask-requires-clause-cone
ask-requires-clause-cone g c =
    subst (λ (b : List Named). IsOutputCone c.args.net.now (take (length c.args.seen.now.entries) c.args.seen.now.entries) c.args.j b)
    (sym (c.in_ok-start_flat.ensures.base ∙ ap named_of c.base.ensures))
    (subst (λ (es : List Entry). IsOutputCone c.args.net.now es c.args.j (named_of c.output_cone.new.self.base)) (sym (take-length c.args.seen.now.entries))
    c.in_ok-output_cone.ensures.cone)
