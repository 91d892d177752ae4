use Rattle.std.proofs.Common.{sym, ◌∙◌, rules}
use Rattle.std.proofs.lemmas.Iterator.Search.{any_from_yields_List}
use Rattle.std.proofs.lemmas.Iterator.Consumers.{YieldsList-from_first}
use borrow.Author.Tests.{tests}
use Rattle.books.specs.Model.{orders_in}
use Rattle.books.specs.OrdersLeft.{orders_left}
use Rattle.venue.specs.Known.{claims}
use Rattle.venue.proofs.ClientNotHeld.{not_held}
use Rattle.venue.proofs.lookup.ClientNumberClaim.is_claimed_in.Goals as goal

pub returns-then-may_have_client : goal.returns-then-may_have_client
returns-then-may_have_client g c =
    let q = g.B.Book.queues c.args.book.now in
    any_from_yields_List (claims c.args.self.firm c.args.self.client c.args.self.except) c.any.new.self _ c.any.result c.any.ensures.ran (YieldsList-from_first (λ y. y) (orders_left g.B.Book.queues) (orders_in c.args.queue q) c.orders_in.ensures.rest) (λ x b q k. search (rules, tests))

pub returns-else-may_have_client : goal.returns-else-may_have_client
returns-else-may_have_client g c =
    let q = g.B.Book.queues c.args.book.now in
    c.if-may_have_client.false ∙ sym (not_held c.args.self.firm c.args.self.client c.args.self.except c.args.queue q c.may_have_client.result c.may_have_client.ensures c.if-may_have_client.false)
