-- The match state of a book, a tape and a session, with the incoming order (rules 1).
use Rattle.std.specs.Prelude.{Option}
use Rattle.orders.specs.declared.order.Order.{Order}
use Rattle.books.specs.Model.{Queues}
use Rattle.tapes.specs.Logs.{Log}
use Rattle.matching.specs.declared.session.Session.{Session}
use Rattle.matching.specs.Model.{MatchState}

abbrev pub match_state : Queues → Log → Session → Option Order → MatchState
match_state queues tape session incoming = record {
  queues = queues;
  incoming = incoming;
  tape = tape;
  session = session;
}
