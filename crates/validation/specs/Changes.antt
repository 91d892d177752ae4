-- The form of a change: blanks, then ranges, then a validity that is barred (numbers 3, 5).
use Rattle.std.specs.Prelude.{ℕ, Bool, false, is_none, Some, None, Ok, Err, Option, Result, if◌then◌else◌}
use Rattle.std.specs.Option.{unwrap_or}
use Rattle.orders.specs.declared.side.Validity.{Validity}
use Rattle.orders.specs.Sides.{is_immediate}
use Rattle.forms.specs.Results.{and_then}
use Rattle.forms.specs.declared.form.ChangeForm.{ChangeForm}
use Rattle.forms.specs.declared.refusal.Refusal.{Refusal}
use Rattle.forms.specs.declared.refusal.Refusal.TheVariants.{Barred}
use Rattle.validation.specs.declared.changes.AmendRequest.{AmendRequest}
use Rattle.validation.specs.Cells.{blanks_first, if_filled, firm_in, identifier_in, lots_in, validity_in, price_in}

-- firm, client number and order number are filled; any other may be blank (rules 13)
abbrev pub wrong_change_blank : ChangeForm → Option ℕ
wrong_change_blank form =
    if is_none form.firm then Some 1
    else if is_none form.client then Some 2
    else if is_none form.number then Some 3
    else None

-- every cell within its range, leftmost first (numbers 3)
abbrev pub typed_change : ChangeForm → Result AmendRequest Refusal
typed_change form =
    and_then (firm_in 1 (unwrap_or form.firm 0)) (λ firm.
    and_then (identifier_in 2 (unwrap_or form.client 0)) (λ client.
    and_then (identifier_in 3 (unwrap_or form.number 0)) (λ number.
    and_then (if_filled (price_in 4) form.price) (λ price.
    and_then (if_filled (lots_in 1 5) form.quantity) (λ quantity.
    and_then (if_filled (lots_in 0 6) form.disclosed) (λ disclosed.
    and_then (if_filled (validity_in 7) form.validity) (λ validity.
    Ok (record {
      firm = firm;
      number = number;
      change = record {
        client = client;
        price = price;
        quantity = quantity;
        disclosed = disclosed;
        validity = validity;
      };
    }))))))))

-- no order is changed to IOC or FOK (rules 13)
abbrev pub validity_barred : Option Validity → Bool
validity_barred None = false
validity_barred (Some validity) = is_immediate validity

abbrev pub if_lasting : AmendRequest → Result AmendRequest Refusal
if_lasting request = if validity_barred request.change.validity then Err Barred else Ok request

-- what the form asks for, or the first of 7, 8 and 9 that applies (numbers 5)
abbrev pub validate_change : ChangeForm → Result AmendRequest Refusal
validate_change form =
    blanks_first (wrong_change_blank form) (and_then (typed_change form) if_lasting)
