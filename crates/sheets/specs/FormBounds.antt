-- The forms that a row has room for: those whose values their cells have room for.
use Rattle.std.specs.Prelude.{ℕ, Bool, true, ◌&&◌, Some, None, Option, nat_lt}
use Rattle.orders.specs.declared.price.Price.{Price}
use Rattle.forms.specs.declared.form.Form.{Form}
use Rattle.forms.specs.declared.form.Form.TheVariants.{Entry, Change, Cancel, MassCancel, Closing, Opening}
use Rattle.sheets.specs.declared.cells.TheConstants.{CELL_NUMBERS_END, CELL_PRICES_END}

-- blank, or a number of at most twelve digits (sheets 4)
abbrev pub number_in_bounds : Option ℕ → Bool
number_in_bounds None = true
number_in_bounds (Some number) = nat_lt number CELL_NUMBERS_END

-- blank, or a price of at most 999999,99 (sheets 4)
abbrev pub price_in_bounds : Option Price → Bool
price_in_bounds None = true
price_in_bounds (Some price) = nat_lt price.hundredths CELL_PRICES_END

-- every cell has room for its value; the type is any byte (sheets 4, 5)
abbrev pub form_in_bounds : Form → Bool
form_in_bounds (Entry f) =
    number_in_bounds f.firm && (number_in_bounds f.client && (number_in_bounds f.side
    && (number_in_bounds f.validity && (price_in_bounds f.price && (price_in_bounds f.trigger
    && (number_in_bounds f.quantity && (number_in_bounds f.disclosed && (number_in_bounds f.minimum
    && (number_in_bounds f.investor && number_in_bounds f.tag)))))))))
form_in_bounds (Change f) =
    number_in_bounds f.firm && (number_in_bounds f.client && (number_in_bounds f.number
    && (price_in_bounds f.price && (number_in_bounds f.quantity && (number_in_bounds f.disclosed
    && number_in_bounds f.validity)))))
form_in_bounds (Cancel f) = number_in_bounds f.firm && number_in_bounds f.number
form_in_bounds (MassCancel f) =
    number_in_bounds f.firm && (number_in_bounds f.side
    && (number_in_bounds f.tag && number_in_bounds f.investor))
form_in_bounds Closing = true
form_in_bounds (Opening f) = number_in_bounds f.day
