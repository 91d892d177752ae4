-- The cells of a line, filled word by word (lines 1).
use Rattle.std.specs.Prelude.{ℕ, ◌+◌, List, drop, replicate, Some, None, Option, slice_index_or, slice_set}
use Rattle.std.specs.List.{prefix_len}
use Rattle.sheets.specs.Layout.{part}
use Rattle.sheets.specs.declared.letter.Letter.{Letter}
use Rattle.sheets.specs.declared.letter.TheConstants.{MOST_CELLS}
use Rattle.line_format.specs.declared.columns.Column.{Column}
use Rattle.line_format.specs.declared.values.Value.{Value}
use Rattle.line_format.specs.declared.words.ByteRun.TheVariants.{Name}
use Rattle.line_format.specs.Words.{takes}
use Rattle.line_format.specs.Columns.{column_of}
use Rattle.line_format.specs.Values.{read_value}

-- the values of the cells, in the order of the letter's columns
abbrev pub Values : Type 0
Values = List (Option Value)

-- a cell that no word names is blank (lines 1)
abbrev pub blank_cells : Values
blank_cells = replicate MOST_CELLS None

-- a cell is filled once, by a value that can be read; k is its index, `old` what it has (lines 1)
abbrev pub fill_cell : (k : ℕ) → (old value : Option Value) → Values → Option Values
fill_cell k (Some old) value cells = None
fill_cell k None None cells = None
fill_cell k None (Some value) cells = Some (slice_set cells k (Some value))

-- the cell of a column, which has to be the letter's, is filled (lines 1)
abbrev pub fill_column : Option Column → (value : List ℕ) → Values → Option Values
fill_column None value cells = None
fill_column (Some column) value cells =
    fill_cell column.index (slice_index_or cells column.index None)
    (read_value column.kind value) cells

-- the bytes before the `=` of a word (lines 1)
abbrev pub name_length : List ℕ → ℕ
name_length word = prefix_len (takes Name) word

-- a word is a name, `=` and a value: it fills the cell that it names (lines 1)
abbrev pub with_word : Letter → Values → (word : List ℕ) → Option Values
with_word letter cells word =
    let name = part word 0 (name_length word) in
    let value = drop (name_length word + 1) word in
    fill_column (column_of letter name) value cells
