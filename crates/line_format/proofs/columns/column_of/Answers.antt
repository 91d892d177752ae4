use Rattle.std.proofs.Common.{◌≡◌, ℕ, ◌+◌, List, [], ◌∷◌, map, position, slice_index_or, Option, Bor, refl, arith, rules}
use Rattle.std.specs.Option.{option_map}
use Rattle.std.specs.Str.{bytes_eq}
use Rattle.std.proofs.lemmas.Grind.{common_steps}
use Rattle.sheets.specs.declared.letter.Letter.{Letter}
use Rattle.line_format.specs.declared.columns.Column.{Column}
use Rattle.line_format.specs.declared.columns.CellKind.{CellKind}
use Rattle.line_format.specs.declared.columns.CellKind.TheVariants.{Number}
use Rattle.line_format.specs.Columns.{columns, column_named, column_of}
use Rattle.line_format.proofs.columns.column_of.Goals as goal

abbrev Names : Type 0
Names = List (Bor (List ℕ) × CellKind)

abbrev read : Names → List (List ℕ × CellKind)
read cs = map (λ c. (c.0.now, c.1)) cs

abbrev index_of : List ℕ → Names → Option ℕ
index_of name cs = position (λ c. bytes_eq name c.0.now) cs

-- the column at an index; the columns count on from k
abbrev column_at : ℕ → Names → ℕ → Column
column_at k cs n = record { index = k + n; kind = (slice_index_or cs n (record { ref_ptr = (0, 0); now = [] }, Number)).1 }

named : (k : ℕ) (cs : Names) (name : List ℕ) → column_named k (read cs) name ≡ option_map (column_at k cs) (index_of name cs)
named k [] name = refl
named k (c ∷ cs) name = grind (arith, common_steps, named (k + 1) cs name)

-- the column of a name is the one at the name's index
at_index : (letter : Letter) (cs : Names) (name : List ℕ) (o : Option ℕ) → read cs ≡ columns letter → o ≡ index_of name cs
    → column_of letter name ≡ option_map (column_at 0 cs) o
at_index letter cs name o e p = rw (← e, p) (named 0 cs name)

pub returns-in_err-index-clause-answer : goal.returns-in_err-index-clause-answer
returns-in_err-index-clause-answer c =
    let e = at_index _ _ c.args.name.now _ c.columns-columns.ensures c.index_of.ensures in
    search rules

pub returns-clause-answer : goal.returns-clause-answer
returns-clause-answer c =
    let e = at_index _ _ c.args.name.now _ c.columns-columns.ensures c.index_of.ensures in
    search rules
