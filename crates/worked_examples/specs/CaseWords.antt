-- How the worked cases are written: forms, lines, and the records that are left in the queues.
use Rattle.std.specs.Prelude.{◌≡◌, ℕ, List, [], ◌∷◌, map, reverse, Some, None, Option}
use Rattle.orders.specs.declared.price.Price.{Price}
use Rattle.orders.specs.declared.order.Order.{Order}
use Rattle.orders.specs.declared.order.Stop.{Stop}
use Rattle.books.specs.Model.{Queues}
use Rattle.tapes.specs.declared.cause.Cause.{Cause}
use Rattle.tapes.specs.declared.line.Line.{Line}
use Rattle.tapes.specs.declared.line.Line.TheVariants.{Accepted, Replaced, Triggered, Traded, Cancelled}
use Rattle.forms.specs.declared.form.Form.{Form}
use Rattle.forms.specs.declared.form.Form.TheVariants.{Entry, Change, Cancel}
use Rattle.venue.specs.Days.{State, set_up, step}

abbrev pub price : ℕ → Price
price hundredths = record { hundredths = hundredths }

-- the terms of an entry besides its client number; every order is of firm 1
pub record EntryTerms : Type 0 where
  pub side : ℕ
  pub order_type : ℕ
  pub validity : ℕ
  pub limit : Option Price
  pub trigger : Option Price
  pub quantity : ℕ
  pub disclosed : ℕ
  pub investor : ℕ

abbrev pub entry : ℕ → EntryTerms → Form
entry client terms = Entry (record {
  firm = Some 1;
  client = Some client;
  side = Some terms.side;
  order_type = Some terms.order_type;
  validity = Some terms.validity;
  price = terms.limit;
  trigger = terms.trigger;
  quantity = Some terms.quantity;
  disclosed = Some terms.disclosed;
  minimum = None;
  investor = Some terms.investor;
  tag = None;
})

-- a Day limit order of a side: type 2, validity 0, nothing disclosed, no investor
abbrev pub limit_order : (side quantity hundredths : ℕ) → EntryTerms
limit_order side quantity hundredths = record {
  side = side;
  order_type = 50;
  validity = 0;
  limit = Some (price hundredths);
  trigger = None;
  quantity = quantity;
  disclosed = 0;
  investor = 0;
}

abbrev pub buy : (quantity hundredths : ℕ) → EntryTerms
buy quantity hundredths = limit_order 1 quantity hundredths

abbrev pub sell : (quantity hundredths : ℕ) → EntryTerms
sell quantity hundredths = limit_order 2 quantity hundredths

abbrev pub disclosing : ℕ → EntryTerms → EntryTerms
disclosing disclosed terms = record terms { disclosed = disclosed }

abbrev pub for_investor : ℕ → EntryTerms → EntryTerms
for_investor investor terms = record terms { investor = investor }

-- fill or kill: validity 4
abbrev pub fok : EntryTerms → EntryTerms
fok terms = record terms { validity = 4 }

-- a market order to sell, whose leftover is a limit order: type K
abbrev pub sell_at_market : (quantity : ℕ) → EntryTerms
sell_at_market quantity = record (sell quantity 0) { order_type = 75; limit = None }

-- a buy stop: type 4
abbrev pub buy_stop : (quantity trigger hundredths : ℕ) → EntryTerms
buy_stop quantity trigger hundredths =
    record (buy quantity hundredths) { order_type = 52; trigger = Some (price trigger) }

abbrev pub change : (client number quantity hundredths : ℕ) → Form
change client number quantity hundredths = Change (record {
  firm = Some 1;
  client = Some client;
  number = Some number;
  price = Some (price hundredths);
  quantity = Some quantity;
  disclosed = None;
  validity = None;
})

abbrev pub cancel : (number : ℕ) → Form
cancel number = Cancel (record { firm = Some 1; number = Some number })

-- the lines of the tape, by kind (rules 16)

abbrev pub A : (number hundredths quantity : ℕ) → Line
A number hundredths quantity = Accepted number (Some (price hundredths)) quantity

abbrev pub R : (number hundredths quantity : ℕ) → Line
R number hundredths quantity = Replaced number (price hundredths) quantity

abbrev pub S : (number hundredths lots : ℕ) → Line
S number hundredths lots = Triggered number (price hundredths) lots

abbrev pub T : (incoming resting hundredths lots : ℕ) → Line
T incoming resting hundredths lots = Traded incoming resting (price hundredths) lots

abbrev pub C : (number hundredths lots : ℕ) → Cause → Line
C number hundredths lots cause = Cancelled number (Some (price hundredths)) lots cause

-- a record that is left, with its shown and its open lots

pub record Rest : Type 0 where
  pub number : ℕ
  pub hundredths : ℕ
  pub shown : ℕ
  pub open_lots : ℕ

abbrev pub rest : (number hundredths shown open_lots : ℕ) → Rest
rest number hundredths shown open_lots =
    record { number = number; hundredths = hundredths; shown = shown; open_lots = open_lots }

abbrev pub rest_of : Order → Rest
rest_of order = rest order.number order.price.hundredths order.shown order.open_lots

abbrev pub rest_of_stop : Stop → Rest
rest_of_stop stop = rest_of stop.order

-- bids, offers, buy stops and sell stops
abbrev pub records_left : Queues → List (List Rest)
records_left queues =
    map rest_of queues.stands.buy
    ∷ map rest_of queues.stands.sell
    ∷ map rest_of_stop queues.waits.buy
    ∷ map rest_of_stop queues.waits.sell
    ∷ []

-- a case: the forms of its steps, the lines of the tape and the records left, queue by queue

pub record Case : Type 0 where
  pub steps : List Form
  pub lines : List Line
  pub left : List (List Rest)

-- each case starts from an empty book of capacities of 10, a tape of 1,000 lines, day 1 and stamp 1
abbrev pub empty_book : Queues
empty_book = record {
  stands = record { buy = []; sell = [] };
  waits = record { buy = []; sell = [] };
  standing_capacity = record { buy = 10; sell = 10 };
  waiting_capacity = record { buy = 10; sell = 10 };
}

abbrev pub run : List Form → State → State
run [] state = state
run (form ∷ forms) state = run forms (step form state)

abbrev pub end : Case → State
end c = run c.steps (set_up 1 1 empty_book 1000)

-- the tape has exactly these lines, the oldest first, and the queues exactly these records
pub record CaseHolds (c : Case) : Type 0 where
  pub lines : reverse (end c).tape.lines ≡ c.lines
  pub left : records_left (end c).queues ≡ c.left
