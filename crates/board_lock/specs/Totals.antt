-- How often a number stands in a list, as clauses about draws and numbers say it.
pub use Rattle.ticket_lock.specs.Totals.{times, once_below, AllBelow}
