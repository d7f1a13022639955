use Rattle.std.proofs.Common.{◌≡◌, ◌∙◌, ◌++◌, List, ℕ, ap, codes, string_bytes, sym}
use Rattle.std.proofs.lemmas.List.{append_assoc}
use Rattle.std.proofs.lemmas.Result.{IfOk-weaker}
use Rattle.command_line.specs.Answers.{misnamed_text}
use Rattle.command_line.specs.Parsing.{misnamed_texts}
use Rattle.command_line.proofs.reading.misnamed_text.Goals as goal

-- three parts between four others, joined from the right or from the left
joined : (a b c d e f g : List ℕ) → a ++ (b ++ (c ++ (d ++ (e ++ (f ++ g))))) ≡ a ++ (((((b ++ c) ++ d) ++ e) ++ f) ++ g)
joined a b c d e f g =
    ap (λ rest. a ++ rest)
    (sym (append_assoc b c (d ++ (e ++ (f ++ g)))) ∙ sym (append_assoc (b ++ c) d (e ++ (f ++ g)))
    ∙ sym (append_assoc ((b ++ c) ++ d) e (f ++ g)) ∙ sym (append_assoc (((b ++ c) ++ d) ++ e) f g))

pub returns : goal.returns
returns c =
    let m = misnamed_texts c.args.misnamed.now in
    IfOk-weaker c.format.result _ (λ s. string_bytes s ≡ misnamed_text m)
    (λ s is.
    is ∙ joined (codes "error: invalid value '") m.word (codes "' for '") m.argument (codes "'\n  [possible values: ") m.names
    (codes "]\n\nFor more information, try '--help'.\n")) c.format.ensures.ok
