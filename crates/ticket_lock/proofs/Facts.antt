-- What crates above may cite.

-- totals where one element changes, is cut in two, or takes in another
pub use Rattle.ticket_lock.proofs.TotalLemmas.{total-set, total-keep, total-cut, total-join, total-le, total-two, total-alone, total-plus}
-- what holds of each element after such a change
pub use Rattle.ticket_lock.proofs.TotalLemmas.{each-set, each-from, each-one, from-cut, from-join, within}
-- how often a number stands in a list
pub use Rattle.ticket_lock.proofs.TimesLemmas.{times-append, times-length, once-last, once-most, drawn-below, below-all}
