use Rattle.std.proofs.Common.{◌≡◌, rules, ◌∙◌, ap}
use Rattle.std.specs.Option.{option_map}
use Rattle.std.proofs.lemmas.Iterator.Search.{find_from_yields_List}
use Rattle.std.proofs.lemmas.Iterator.Consumers.{YieldsList-from_first}
use borrow.Author.Tests.{tests}
use Rattle.books.specs.OrdersLeft.{orders_left}
use Rattle.matching.specs.Reach.{own, opposite_orders}
use Rattle.matching.proofs.ReachByChains.{price_of, own_found}
use Rattle.matching.proofs.reaching.own_price.Goals as goal

pub returns : goal.returns
returns g c =
    let l = opposite_orders c.args.order (g.B.Book.queues c.args.book.now) in
    let f = find_from_yields_List (own c.args.order) c.find.new.self _ c.find.result c.find.ensures.ran (YieldsList-from_first (λ y. y) (orders_left g.B.Book.queues) l c.opposite_orders.ensures.answer) (λ x b q k. search (rules, tests)) in
    let m : c.map.result ≡ option_map price_of (option_map (λ y. y) c.find.result) = search (rules, tests) in
    m ∙ ap (option_map price_of) f ∙ own_found c.args.order l
