-- The forms that the lines of a text name, or the refusal of the first line that cannot be taken
-- (lines 2).
use Rattle.std.specs.Prelude.{◌≡◌, ℕ, ◌+◌, ◌-◌, ◌≤◌, List, [], ◌∷◌, ◌++◌, length, Some, None, Ok, Err, Option, Result, ◌==◌, nat_le, nat_lt, if◌then◌else◌}
use Rattle.std.specs.List.{slice_get, slice_split}
use Rattle.std.specs.Option.{unwrap_or}
use Rattle.forms.specs.Results.{and_then}
use Rattle.forms.specs.declared.form.Form.{Form}
use Rattle.sheets.specs.Layout.{part}
use Rattle.sheets.specs.declared.sheet.TheConstants.{MOST_ROWS, MOST_BYTES}
use Rattle.line_format.specs.Lines.{read_line}
use Rattle.line_format.specs.Words.{next_word, bad_word}
use Rattle.line_format.specs.declared.words.BadWord.{BadWord}
use Rattle.sheet_writer.specs.declared.draft.Draft.{Draft}
use Rattle.sheet_writer.specs.Drafts.{DraftHolds}
use Rattle.sheet_writer.specs.WrittenRows.{sheet_written, ReadsAs}
use Rattle.text_sheets.specs.declared.refused.Refused.{Refused}
use Rattle.text_sheets.specs.declared.refused.Why.{Why}
use Rattle.text_sheets.specs.declared.refused.Why.TheVariants.{Word, Rows, Bytes}

-- the lines of a text, which end with a line feed, the byte 10 (lines 2)
abbrev pub lines_of_text : List ℕ → List (List ℕ)
lines_of_text text = slice_split (λ byte. byte == 10) text

-- the refusal of a line: its number, the place and the length of the word to blame, and why
-- (lines 2)
abbrev pub refused : (number : ℕ) → BadWord → Why → Refused
refused number word why =
    record { line = number; place = word.place; length = word.length; why = why }

-- a form joins those of the lines before it; where the sheet has no room for its row, the first
-- word of its line is to blame (lines 2)
abbrev pub joined : (number : ℕ) → (line : List ℕ) → List Form → Form → Result (List Form) Refused
joined number line forms form =
    let first = bad_word (next_word line 0) in
    if nat_le MOST_ROWS (length forms) then Err (refused number first Rows)
    else if nat_lt MOST_BYTES (length (sheet_written (forms ++ form ∷ [])))
    then Err (refused number first Bytes)
    else Ok (forms ++ form ∷ [])

-- one line more: no row, a form, or a word that the line is refused for (lines 2)
abbrev pub with_read : (number : ℕ) → (line : List ℕ) → List Form
    → Result (Option Form) BadWord → Result (List Form) Refused
with_read number line forms (Ok None) = Ok forms
with_read number line forms (Ok (Some form)) = joined number line forms form
with_read number line forms (Err word) = Err (refused number word Word)

-- one line more, read (lines 2)
abbrev pub with_line : (number : ℕ) → (line : List ℕ) → List Form → Result (List Form) Refused
with_line number line forms = with_read number line forms (read_line line)

-- line by line, of which the first has this number (lines 2)
abbrev pub named_from : (number : ℕ) → List (List ℕ) → List Form → Result (List Form) Refused
named_from number [] forms = Ok forms
named_from number (line ∷ rest) forms =
    and_then (with_line number line forms) (named_from (number + 1) rest)

-- the forms that a text names, or the refusal of its first line that cannot be taken (lines 2)
abbrev pub forms_named : List ℕ → Result (List Form) Refused
forms_named text = named_from 1 (lines_of_text text) []

-- the word of a text that a refusal blames (lines 2)
abbrev pub word_blamed : (text : List ℕ) → Refused → List ℕ
word_blamed text refused =
    let line = unwrap_or (slice_get (lines_of_text text) (refused.line - 1)) [] in
    part line (refused.place - 1) refused.length

-- that word has bytes, as many as the refusal gives (lines 2)
pub record Blames (text : List ℕ) (refused : Refused) : Type 0 where
  pub counted : 1 ≤ refused.line
  pub some : 1 ≤ refused.length
  pub whole : length (word_blamed text refused) ≡ refused.length

-- a refusal is of the line of this number, which has so many bytes, and blames a word in it
pub record RefusedInLine (number size : ℕ) (refused : Refused) : Type 0 where
  pub numbered : refused.line ≡ number
  pub from_1 : 1 ≤ refused.place
  pub some : 1 ≤ refused.length
  pub inside : refused.place + refused.length ≤ size + 1

-- a draft that held some forms holds those with a line's form, or the line is refused
abbrev pub LineAdded : (number : ℕ) → (line : List ℕ) → List Form → Draft
    → Result (Unit {0}) Refused → Type 0
LineAdded number line forms draft (Ok done) =
    (after : List Form) × (with_line number line forms ≡ Ok after) × DraftHolds draft after
LineAdded number line forms draft (Err refused) = with_line number line forms ≡ Err refused

-- a sheet is made of a text: it has the rows of the forms that the lines name, and reads as these
-- forms (lines 2)
pub record SheetMade (text sheet : List ℕ) : Type 0 where
  pub forms : List Form
  pub named : forms_named text ≡ Ok forms
  pub written : sheet ≡ sheet_written forms
  pub back : ReadsAs forms sheet

-- a text is refused for its first line that cannot be taken, and blames a word of it (lines 2)
pub record TextRefused (text : List ℕ) (refused : Refused) : Type 0 where
  pub first : forms_named text ≡ Err refused
  pub blames : Blames text refused
