-- What a book of four stores means: the queues of the orders and stops that its rows are read as
-- (rules 5).
use Rattle.std.specs.Prelude.{ℕ, []}
use Rattle.orders.specs.Rows.{order_of, stop_of}
use Rattle.orders.specs.declared.row.OrderRow.{OrderRow}
use Rattle.orders.specs.declared.row.StopRow.{StopRow}
use Rattle.books.specs.declared.stored_book.StoredBook.{StoredBook}
use Rattle.books.specs.Model.{Queues}
use Rattle.books.specs.Contents.{Contents, stored_items}

-- the queues, given what a store of orders and a store of stops mean
abbrev pub stored_queues : {O S : Type 0} →
    (O → Contents OrderRow) → (S → Contents StopRow) → StoredBook O S → Queues
stored_queues orders stops book = record {
  stands = record {
    buy = stored_items order_of orders book.bids;
    sell = stored_items order_of orders book.offers;
  };
  waits = record {
    buy = stored_items stop_of stops book.buys;
    sell = stored_items stop_of stops book.sells;
  };
  standing_capacity = record {
    buy = (orders book.bids).capacity;
    sell = (orders book.offers).capacity;
  };
  waiting_capacity = record {
    buy = (stops book.buys).capacity;
    sell = (stops book.sells).capacity;
  };
}

-- four empty queues of given capacities (rules 5)
abbrev pub empty_queues : (bids offers buys sells : ℕ) → Queues
empty_queues bids offers buys sells = record {
  stands = record { buy = []; sell = [] };
  waits = record { buy = []; sell = [] };
  standing_capacity = record { buy = bids; sell = offers };
  waiting_capacity = record { buy = buys; sell = sells };
}
