-- Worked lines: what is read of each (lines 1).
use Rattle.std.specs.Prelude.{◌≡◌, ℕ, List, Some, None, Ok, Err, codes}
use Rattle.forms.specs.declared.form.Form.{Form}
use Rattle.forms.specs.declared.form.Form.TheVariants.{Entry, Change, Cancel, MassCancel, Closing, Opening}
use Rattle.line_format.specs.Lines.{read_line}

-- a line asks for a form
abbrev pub Asks : (line : List ℕ) → Form → Type 0
Asks line form = read_line line ≡ Ok (Some form)

-- a line is refused for the word that begins at a place, from 1, and has so many bytes
abbrev pub RefusedFor : (line : List ℕ) → (place length : ℕ) → Type 0
RefusedFor line place length = read_line line ≡ Err (record { place = place; length = length })

-- what is read of each line (lines 1)
pub record WorkedLines : Type 0 where
  pub no_words : read_line (codes "") ≡ Ok None
  pub spaces : read_line (codes "   ") ≡ Ok None
  pub tab_and_return : read_line (codes "\t\r") ≡ Ok None
  pub comment : read_line (codes "  # Z") ≡ Ok None
  pub closing : Asks (codes "Z") Closing
  pub opening : Asks (codes "O day=2") (Opening (record { day = Some 2 }))
  pub cancel : Asks (codes "X firm=12 number=3")
      (Cancel (record { firm = Some 12; number = Some 3 }))
  pub blank_cell : Asks (codes "X number=3") (Cancel (record { firm = None; number = Some 3 }))
  pub any_order : Asks (codes " X  number=003   firm=12# late")
      (Cancel (record { firm = Some 12; number = Some 3 }))
  pub tabs_between : Asks (codes "X\tfirm=12\t number=3\r")
      (Cancel (record { firm = Some 12; number = Some 3 }))
  pub out_of_range : Asks (codes "X firm=999999999999")
      (Cancel (record { firm = Some 999999999999; number = None }))
  pub words_for_sides : Asks (codes "A firm=1 side=sell tag=0")
      (MassCancel (record { firm = Some 1; side = Some 2; tag = Some 0; investor = None }))
  pub change : Asks (codes "M number=7 price=0,05 validity=gtc") (Change (record {
    firm = None;
    client = None;
    number = Some 7;
    price = Some (record { hundredths = 5 });
    quantity = None;
    disclosed = None;
    validity = Some 1;
  }))
  pub entry : Asks (codes "E firm=12 client=7 side=buy type=2 validity=day price=20,00 quantity=200")
      (Entry (record {
        firm = Some 12;
        client = Some 7;
        side = Some 1;
        order_type = Some 50;
        validity = Some 0;
        price = Some (record { hundredths = 2000 });
        trigger = None;
        quantity = Some 200;
        disclosed = None;
        minimum = None;
        investor = None;
        tag = None;
      }))
  pub unknown_letter : RefusedFor (codes " Y firm=12") 2 1
  pub long_letter : RefusedFor (codes "XX firm=12") 1 2
  pub unknown_name : RefusedFor (codes "X firm=12 side=1") 11 6
  pub behind_tabs : RefusedFor (codes "\tX\tfirm=a") 4 6
  pub twice : RefusedFor (codes "X firm=12  firm=12") 12 7
  pub no_value : RefusedFor (codes "X firm=") 3 5
  pub no_name : RefusedFor (codes "X =12") 3 3
  pub no_sign : RefusedFor (codes "X firm") 3 4
  pub no_number : RefusedFor (codes "X firm=1a number=b") 3 7
  pub thirteen_digits : RefusedFor (codes "X firm=1234567890123") 3 18
  pub no_price : RefusedFor (codes "E price=20.00") 3 11
  pub two_types : RefusedFor (codes "E type=24") 3 7
  pub no_side : RefusedFor (codes "E side=gtc") 3 8
