-- The form of an entry: blanks, then ranges, then barred combinations (numbers 3, 5).
use Rattle.std.specs.Prelude.{ℕ, Bool, false, not, is_some, is_none, Some, None, Ok, Err, Option, Result, if◌then◌else◌}
use Rattle.std.specs.Option.{unwrap_or}
use Rattle.orders.specs.declared.price.Price.{Price}
use Rattle.forms.specs.Results.{and_then}
use Rattle.forms.specs.declared.form.EntryForm.{EntryForm}
use Rattle.forms.specs.declared.refusal.Refusal.{Refusal}
use Rattle.forms.specs.declared.refusal.Refusal.TheVariants.{OutOfRange, Barred}
use Rattle.matching.specs.declared.new_order.OrderType.{OrderType}
use Rattle.matching.specs.declared.new_order.OrderType.TheVariants.{Limit, Market, StopLimit}
use Rattle.matching.specs.declared.new_order.NewOrder.{NewOrder}
use Rattle.validation.specs.declared.cells.TypeCode.{TypeCode}
use Rattle.validation.specs.declared.cells.TypeCode.TheVariants.{Limit as LimitType, StopLimit as StopType, Market as MarketType}
use Rattle.validation.specs.Cells.{blanks_first, in_range, if_filled, firm_in, identifier_in, lots_in, investor_in, tag_in, side_in, validity_in, type_of, price_in}
use Rattle.validation.specs.Combinations.{barred}

-- price is filled exactly with types 2 and 4; with a type out of range it may be either (rules 8)
abbrev pub price_wrong : Option TypeCode → Bool → Bool
price_wrong None filled = false
price_wrong (Some MarketType) filled = filled
price_wrong (Some _) filled = not filled

-- trigger is filled exactly with type 4 (rules 8)
abbrev pub trigger_wrong : Option TypeCode → Bool → Bool
trigger_wrong None filled = false
trigger_wrong (Some StopType) filled = not filled
trigger_wrong (Some _) filled = filled

abbrev pub type_in_cell : Option ℕ → Option TypeCode
type_in_cell None = None
type_in_cell (Some byte) = type_of byte

-- the first cell that is blank against the rules, or filled (numbers 3)
abbrev pub wrong_blank : EntryForm → Option ℕ
wrong_blank form =
    if is_none form.firm then Some 1
    else if is_none form.client then Some 2
    else if is_none form.side then Some 3
    else if is_none form.order_type then Some 4
    else if is_none form.validity then Some 5
    else if price_wrong (type_in_cell form.order_type) (is_some form.price) then Some 6
    else if trigger_wrong (type_in_cell form.order_type) (is_some form.trigger) then Some 7
    else if is_none form.quantity then Some 8
    else None

-- the type with its prices; the cell is out of range where one is missing
abbrev pub order_type_of : TypeCode → Option Price → Option Price → Result OrderType Refusal
order_type_of MarketType price trigger = Ok Market
order_type_of LimitType (Some limit) trigger = Ok (Limit limit)
order_type_of StopType (Some limit) (Some trigger) = Ok (StopLimit limit trigger)
order_type_of _ _ _ = Err (OutOfRange 4)

-- every cell within its range, leftmost first (numbers 3)
abbrev pub typed_entry : EntryForm → Result NewOrder Refusal
typed_entry form =
    and_then (firm_in 1 (unwrap_or form.firm 0)) (λ firm.
    and_then (identifier_in 2 (unwrap_or form.client 0)) (λ client.
    and_then (side_in 3 (unwrap_or form.side 0)) (λ side.
    and_then (in_range 4 (type_in_cell form.order_type)) (λ type.
    and_then (validity_in 5 (unwrap_or form.validity 0)) (λ validity.
    and_then (if_filled (price_in 6) form.price) (λ price.
    and_then (if_filled (price_in 7) form.trigger) (λ trigger.
    and_then (lots_in 1 8 (unwrap_or form.quantity 0)) (λ quantity.
    and_then (lots_in 0 9 (unwrap_or form.disclosed 0)) (λ disclosed.
    and_then (lots_in 0 10 (unwrap_or form.minimum 0)) (λ minimum.
    and_then (investor_in 11 (unwrap_or form.investor 0)) (λ investor.
    and_then (tag_in 12 (unwrap_or form.tag 0)) (λ tag.
    and_then (order_type_of type price trigger) (λ order_type.
    Ok (record {
      firm = firm;
      client = client;
      side = side;
      order_type = order_type;
      validity = validity;
      quantity = quantity;
      disclosed = disclosed;
      minimum = minimum;
      investor = investor;
      tag = tag;
    }))))))))))))))

abbrev pub if_allowed : NewOrder → Result NewOrder Refusal
if_allowed new_order = if barred new_order then Err Barred else Ok new_order

-- what the form asks for, or the first of 7, 8 and 9 that applies (numbers 5)
abbrev pub validate_entry : EntryForm → Result NewOrder Refusal
validate_entry form = blanks_first (wrong_blank form) (and_then (typed_entry form) if_allowed)
