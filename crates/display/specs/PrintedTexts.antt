-- Printed text, byte by byte (rules 2, 16, 17).
use Rattle.std.specs.Prelude.{ℕ, ◌/◌, ◌%◌, List, ◌++◌, codes, decimal, encode_utf8, Option}
use Rattle.std.specs.Option.{unwrap_or}
use Rattle.orders.specs.declared.price.Price.{Price}
use Rattle.orders.specs.declared.order.Order.{Order}
use Rattle.orders.specs.declared.side.Side.{Side}
use Rattle.orders.specs.declared.side.Side.TheVariants.{Buy, Sell}
use Rattle.sheets.specs.declared.reply.Reply.{Reply}
use Rattle.tapes.specs.Causes.{cause_number}
use Rattle.tapes.specs.declared.cause.Cause.{Cause}
use Rattle.tapes.specs.declared.line.Line.{Line}
use Rattle.tapes.specs.declared.line.Line.TheVariants.{Accepted, Replaced, Triggered, Traded, Cancelled}
use Rattle.display.specs.declared.text.Fields.{Fields}
use Rattle.display.specs.declared.text.TheConstants.{ACCEPTED, REPLACED, TRIGGERED, TRADED, CANCELLED}

-- hundredths, with a comma and two digits, as 0,05 and 20,00 (rules 2)
abbrev pub price_text : ℕ → List ℕ
price_text hundredths =
    decimal (hundredths / 100)
    ++ (codes "," ++ (decimal (hundredths % 100 / 10) ++ decimal (hundredths % 10)))

-- an absent limit prints as 0,00 (rules 2)
abbrev pub price_of : Option Price → Price
price_of limit = unwrap_or limit (record { hundredths = 0 })

-- a line that names one order and no cause (rules 16)
abbrev pub for_order : (kind number : ℕ) → Price → (lots : ℕ) → Fields
for_order kind number price lots = record {
  kind = kind;
  number = number;
  other = 0;
  price = price;
  lots = lots;
  cause = 0;
}

-- the same with the resting order of a trade (rules 16)
abbrev pub with_other : Fields → (other : ℕ) → Fields
with_other fields other = record fields { other = other }

-- the same with the cause of a cancel (rules 16)
abbrev pub with_cause : Fields → Cause → Fields
with_cause fields cause = record fields { cause = cause_number cause }

-- the fields of a line of the tape, of kind 'A', 'R', 'S', 'T' or 'C' (rules 16)
abbrev pub fields : Line → Fields
fields (Accepted number limit quantity) = for_order ACCEPTED number (price_of limit) quantity
fields (Replaced number limit quantity) = for_order REPLACED number limit quantity
fields (Triggered number limit lots) = for_order TRIGGERED number limit lots
fields (Traded incoming resting price lots) =
    with_other (for_order TRADED incoming price lots) resting
fields (Cancelled number limit lots cause) =
    with_cause (for_order CANCELLED number (price_of limit) lots) cause

-- kind, number, other, price, lots, cause (rules 16, 17)
abbrev pub fields_text : Fields → List ℕ
fields_text line =
    encode_utf8 line.kind ++ (codes " " ++ (decimal line.number ++ (codes " " ++ (decimal line.other
    ++ (codes " " ++ (price_text line.price.hundredths ++ (codes " " ++ (decimal line.lots
    ++ (codes " " ++ decimal line.cause)))))))))

-- number, cell, place (rules 17)
abbrev pub answer_text : Reply → List ℕ
answer_text reply =
    decimal reply.number
    ++ (codes " " ++ (decimal reply.cell ++ (codes " " ++ decimal reply.place)))

-- `reply`, the row, and the answer to it (rules 17)
abbrev pub reply_text : Reply → List ℕ
reply_text reply = codes "reply " ++ (decimal reply.row ++ (codes " " ++ answer_text reply))

-- the printed name of a queue of orders, by its side (rules 17)
abbrev pub side_text : Side → List ℕ
side_text Buy = codes "bid"
side_text Sell = codes "offer"

-- a standing order: its queue, number, price, shown lots and open lots (rules 17)
abbrev pub standing_text : Order → List ℕ
standing_text order =
    side_text order.side ++ (codes " " ++ (decimal order.number
    ++ (codes " " ++ (price_text order.price.hundredths
    ++ (codes " " ++ (decimal order.shown ++ (codes " " ++ decimal order.open_lots)))))))
