-- A sheet of two rows, byte by byte (sheets 7).
use Rattle.std.specs.Prelude.{◌≡◌, ℕ, List, [], ◌∷◌, ◌++◌, Some, None, codes}
use Rattle.forms.specs.declared.form.Form.{Form}
use Rattle.forms.specs.declared.form.Form.TheVariants.{Entry}
use Rattle.sheet_writer.specs.WrittenRows.{sheet_written}

-- a limit order for the day at 20,00
abbrev pub price_20 : (firm client side quantity : ℕ) → Form
price_20 firm client side quantity = Entry (record {
  firm = Some firm;
  client = Some client;
  side = Some side;
  order_type = Some 50;
  validity = Some 0;
  price = Some (record { hundredths = 2000 });
  trigger = None;
  quantity = Some quantity;
  disclosed = None;
  minimum = None;
  investor = None;
  tag = None;
})

-- 'E', twelve cells and their pairs: filled are firm, client number, side, type, validity, price
-- and quantity
abbrev pub row_begins : List ℕ
row_begins =
    69 ∷ 12 ∷ 26 ∷ 2 ∷ 28 ∷ 1 ∷ 29 ∷ 1 ∷ 30 ∷ 1 ∷ 31 ∷ 1 ∷ 32 ∷ 5
    ∷ 37 ∷ 0 ∷ 37 ∷ 3 ∷ 40 ∷ 0 ∷ 40 ∷ 0 ∷ 40 ∷ 0 ∷ 40 ∷ 0 ∷ []

-- firm 12 buys 200, firm 34 sells 100
pub record WorkedSheet : Type 0 where
  pub two_rows : sheet_written (price_20 12 7 1 200 ∷ price_20 34 8 2 100 ∷ [])
      ≡ (0 ∷ 2 ∷ 0 ∷ 10 ∷ 0 ∷ 40 ∷ 0 ∷ 50 ∷ 0 ∷ 40 ∷ [])
      ++ (row_begins ++ (codes "12712020,00200" ++ (row_begins ++ codes "34822020,00100")))
  pub no_rows : sheet_written [] ≡ 0 ∷ 0 ∷ []
