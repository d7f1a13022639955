use Rattle.std.proofs.Common.{length, sym, ◌∙◌, arith, rules, tests}
use Rattle.std.proofs.lemmas.List.{map_push}
use Rattle.byte_scan.specs.Scanning.{value}
use Rattle.byte_scan.specs.HeaderLine.{words_of, is_number}
use Rattle.byte_scan.proofs.WordLemmas.{answer_none, answer_some}
use Rattle.byte_scan.proofs.WordsLemmas.{texts, next_word, all_words}
use Rattle.byte_scan.proofs.NineLemmas.{HasWords-push, nine_numbers-many, nine_numbers-few, nine_numbers-other, nine_numbers-read}
use Rattle.byte_scan.proofs.header_line.spaced_numbers.Goals as goal

pub returns-then-count-eq9 : goal.returns-then-count-eq9
returns-then-count-eq9 c =
    let start = c.split-word-items.ensures in
    let next = next_word _ c.args.text.now _ _ _ _ _ _ _ c.loop-word.yielded_by c.into_iter-word-iterator.ensures.into_iter_gives start.rest start.done start.closure c.next.ensures.steps (λ b answer q called. search (rules, tests)) c.in-Some.word c.in-Some.is in
    sym (nine_numbers-many (words_of c.args.text.now) (omega (arith, next.0, c.loop-word.invariant.counted)))

pub returns-in_err-numbers : goal.returns-in_err-numbers
returns-in_err-numbers c =
    let start = c.split-word-items.ensures in
    let next = next_word _ c.args.text.now _ _ _ _ _ _ _ c.loop-word.yielded_by c.into_iter-word-iterator.ensures.into_iter_gives start.rest start.done start.closure c.next.ensures.steps (λ b answer q called. search (rules, tests)) c.in-Some.word c.in-Some.is in
    let other = answer_none (is_number c.in-Some.word.now) (value c.in-Some.word.now) c.in_err-numbers.ensures in
    c.from_residual.ensures ∙ sym (nine_numbers-other (words_of c.args.text.now) (length (texts c.loop-word.yielded)) c.in-Some.word.now next.0 (rw (← next.1) other))

pub loop-word-preserved : goal.loop-word-preserved
loop-word-preserved c =
    let is = answer_some (is_number c.in-Some.word.now) (value c.in-Some.word.now) c.in_ok-numbers.field-0 c.in_ok-numbers.ensures in
    rw (map_push (λ x. x.now) c.loop-word.yielded c.in-Some.word, is.1) (HasWords-push (texts c.loop-word.yielded) c.loop-word.numbers c.loop-word.count c.in-Some.word.now c.loop-word.invariant c.if-count-eq9.false is.0)

pub returns-then-count-lt5 : goal.returns-then-count-lt5
returns-then-count-lt5 c =
    let start = c.split-word-items.ensures in
    let all = all_words _ c.args.text.now _ _ _ _ _ _ _ c.loop-word.yielded_by c.into_iter-word-iterator.ensures.into_iter_gives start.rest start.done start.closure c.next.ensures.steps (λ b answer q called. search (rules, tests)) c.in-None.is in
    rw (← all) (sym (nine_numbers-few (texts c.loop-word.yielded) (omega (arith, c.loop-word.invariant.counted))))

pub returns-else-count-lt5 : goal.returns-else-count-lt5
returns-else-count-lt5 c =
    let start = c.split-word-items.ensures in
    let all = all_words _ c.args.text.now _ _ _ _ _ _ _ c.loop-word.yielded_by c.into_iter-word-iterator.ensures.into_iter_gives start.rest start.done start.closure c.next.ensures.steps (λ b answer q called. search (rules, tests)) c.in-None.is in
    rw (← all) (sym (nine_numbers-read (texts c.loop-word.yielded) c.loop-word.numbers c.loop-word.count c.loop-word.invariant c.if-count-lt5.false))
