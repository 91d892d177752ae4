-- The forms of a cancel, a mass cancel and an opening (numbers 3, 5).
use Rattle.std.specs.Prelude.{ℕ, is_none, Some, None, Ok, Err, Option, Result, if◌then◌else◌}
use Rattle.std.specs.Option.{unwrap_or}
use Rattle.forms.specs.Results.{and_then}
use Rattle.forms.specs.declared.form.CancelForm.{CancelForm}
use Rattle.forms.specs.declared.form.MassCancelForm.{MassCancelForm}
use Rattle.forms.specs.declared.form.OpeningForm.{OpeningForm}
use Rattle.forms.specs.declared.refusal.Refusal.{Refusal}
use Rattle.forms.specs.declared.refusal.Refusal.TheVariants.{WrongBlank}
use Rattle.matching.specs.declared.removal.CancelFilter.{CancelFilter}
use Rattle.validation.specs.declared.removals.CancelRequest.{CancelRequest}
use Rattle.validation.specs.Cells.{blanks_first, if_filled, firm_in, identifier_in, day_in, investor_in, tag_in, side_in}

-- both cells are filled (rules 14)
abbrev pub wrong_cancel_blank : CancelForm → Option ℕ
wrong_cancel_blank form =
    if is_none form.firm then Some 1
    else if is_none form.number then Some 2
    else None

abbrev pub validate_cancel : CancelForm → Result CancelRequest Refusal
validate_cancel form =
    blanks_first (wrong_cancel_blank form)
    (and_then (firm_in 1 (unwrap_or form.firm 0)) (λ firm.
    and_then (identifier_in 2 (unwrap_or form.number 0)) (λ number.
    Ok (record { firm = firm; number = number }))))

-- the firm is filled; a blank cell behind it means every one (rules 14)
abbrev pub validate_mass_cancel : MassCancelForm → Result CancelFilter Refusal
validate_mass_cancel form =
    blanks_first (if is_none form.firm then Some 1 else None)
    (and_then (firm_in 1 (unwrap_or form.firm 0)) (λ firm.
    and_then (if_filled (side_in 2) form.side) (λ side.
    and_then (if_filled (tag_in 3) form.tag) (λ tag.
    and_then (if_filled (investor_in 4) form.investor) (λ investor.
    Ok (record { firm = firm; side = side; tag = tag; investor = investor }))))))

abbrev pub opening_day : Option ℕ → Result ℕ Refusal
opening_day None = Err (WrongBlank 1)
opening_day (Some day) = day_in 1 day

-- the day is filled (rules 15)
abbrev pub validate_opening : OpeningForm → Result ℕ Refusal
validate_opening form = opening_day form.day
