-- Sheets as a venue works them, row by row (sheets 6).
use Rattle.std.specs.Prelude.{ℕ, zero, suc, ◌+◌, ◌-◌, List, length, Some, None, Ok, Err, Option, Result, nat_lt, if◌then◌else◌}
use Rattle.forms.specs.declared.form.Form.{Form}
use Rattle.forms.specs.declared.refusal.Refusal.{Refusal}
use Rattle.forms.specs.declared.refusal.Refusal.TheVariants.{NoReplies}
use Rattle.venue.specs.Days.{State, answer, step}
use Rattle.sheets.specs.declared.reply.Reply.{Reply}
use Rattle.sheets.specs.declared.replies.Replies.{Replies}
use Rattle.sheets.specs.Layout.{word}
use Rattle.sheets.specs.Rows.{read_form}
use Rattle.sheets.specs.Sheets.{sheet_refusal, row_bytes}
use Rattle.sheets.specs.Replies.{reply_of, reply_added, posted}

-- a venue with its list of replies, and the most replies that the list takes
pub record SheetRun : Type 0 where
  pub venue : State
  pub replies : List Reply
  pub room : ℕ

-- a venue with the replies that a list has
abbrev pub sheet_run : State → Replies → SheetRun
sheet_run venue replies = record { venue = venue; replies = posted replies; room = replies.limit }

-- the answer to a row: a row that cannot be read is refused, one that can asks for its step
-- (sheets 6)
abbrev pub row_answer : Result Form Refusal → State → Result (Unit {0}) Refusal
row_answer (Err refusal) venue = Err refusal
row_answer (Ok form) venue = answer form venue

-- the venue after a row (sheets 6)
abbrev pub state_after_row : Result Form Refusal → State → State
state_after_row (Err refusal) venue = venue
state_after_row (Ok form) venue = step form venue

-- a row is worked, and its reply is posted (sheets 6)
abbrev pub after_row : (row : ℕ) → (bytes : List ℕ) → SheetRun → SheetRun
after_row row bytes run = record {
  venue = state_after_row (read_form bytes) run.venue;
  replies =
      reply_added run.room run.replies (reply_of row (row_answer (read_form bytes) run.venue));
  room = run.room;
}

-- n rows of a sheet are worked, from row k on, counted from 0 (sheets 6)
unfoldable pub after_rows : (n k : ℕ) → (sheet : List ℕ) → SheetRun → SheetRun
after_rows zero k sheet run = run
after_rows (suc n) k sheet run =
    after_rows n (k + 1) sheet (after_row (k + 1) (row_bytes sheet k) run)

-- a sheet that its own bytes do not refuse is refused where fewer replies are free than it has rows
-- (numbers 1)
abbrev pub or_no_replies : (rows free : ℕ) → Option Refusal → Option Refusal
or_no_replies rows free (Some refusal) = Some refusal
or_no_replies rows free None = if nat_lt free rows then Some NoReplies else None

-- the refusal of a sheet before any row is worked, where so many replies are free (sheets 6)
abbrev pub refusal_before_rows : (sheet : List ℕ) → (free : ℕ) → Option Refusal
refusal_before_rows sheet free = or_no_replies (word sheet 0) free (sheet_refusal sheet)

-- what a sheet is refused with before any row is worked (sheets 6)
abbrev pub sheet_answer : (sheet : List ℕ) → SheetRun → Option Refusal
sheet_answer sheet run = refusal_before_rows sheet (run.room - length run.replies)

-- all rows of a sheet are worked, unless it is refused (sheets 6)
abbrev pub rows_unless : Option Refusal → (sheet : List ℕ) → SheetRun → SheetRun
rows_unless None sheet run = after_rows (word sheet 0) 0 sheet run
rows_unless (Some refusal) sheet run = run

-- a venue after a whole sheet (sheets 6)
abbrev pub after_sheet : (sheet : List ℕ) → SheetRun → SheetRun
after_sheet sheet run = rows_unless (sheet_answer sheet run) sheet run
