-- What a strip book means: the queues of four strips (rules 5).
use Rattle.orders.specs.declared.row.OrderRow.{OrderRow}
use Rattle.orders.specs.declared.row.StopRow.{StopRow}
use Rattle.orders.specs.declared.ranked.Numbered.{Ghosts}
use Rattle.books.specs.declared.stored_book.StoredBook.{StoredBook}
use Rattle.books.specs.Model.{Queues}
use Rattle.books.specs.StoredQueues.{stored_queues}
use Rattle.strips.specs.declared.row.RankedRow.{RankedRow}
use Rattle.strips.specs.StripContents.{strip_contents}

-- the queues of a strip book (rules 5)
abbrev pub strip_queues : {n : Ghosts OrderRow} {m : Ghosts StopRow} →
    StoredBook (RankedRow OrderRow n) (RankedRow StopRow m) → Queues
strip_queues = stored_queues strip_contents strip_contents
