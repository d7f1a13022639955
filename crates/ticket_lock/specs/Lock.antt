-- What a lock is to those who use it: the table that its places belong to, and what it is about.
use Rattle.atomic_table.specs.Seated.{TableId}

pub record Lock (K : Type 0) : Type 0 where
  pub table : TableId
  pub about : K
