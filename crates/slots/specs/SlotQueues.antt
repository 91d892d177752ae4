-- What a slot book means: the queues of four stores of slots (rules 5).
use Rattle.orders.specs.declared.row.OrderRow.{OrderRow}
use Rattle.orders.specs.declared.row.StopRow.{StopRow}
use Rattle.books.specs.declared.stored_book.StoredBook.{StoredBook}
use Rattle.books.specs.Model.{Queues}
use Rattle.books.specs.StoredQueues.{stored_queues}
use Rattle.slots.specs.declared.store.SlotStore.{SlotStore}
use Rattle.slots.specs.SlotContents.{slot_contents}

-- the queues of a slot book (rules 5)
abbrev pub slot_queues : StoredBook (SlotStore OrderRow) (SlotStore StopRow) → Queues
slot_queues =
    stored_queues (λ store. slot_contents store.slots) (λ store. slot_contents store.slots)
