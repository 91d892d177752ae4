-- Replies, and the list that they are posted to (sheets 6).
use Rattle.std.specs.Prelude.{ℕ, ◌-◌, List, [], ◌∷◌, ◌++◌, length, Ok, Err, vec_items, Result, nat_lt, if◌then◌else◌}
use Rattle.forms.specs.Refusals.{refusal_number, refusal_cell, refusal_place}
use Rattle.forms.specs.declared.refusal.Refusal.{Refusal}
use Rattle.forms.specs.declared.refusal.Refusal.TheVariants.{RowMisplaced}
use Rattle.sheets.specs.declared.reply.Reply.{Reply}
use Rattle.sheets.specs.declared.replies.Replies.{Replies}

-- the reply to a row, of number 0 where it was accepted (sheets 6)
abbrev pub reply_of : (row : ℕ) → Result (Unit {0}) Refusal → Reply
reply_of row (Ok done) = record { row = row; number = 0; cell = 0; place = 0 }
reply_of row (Err refusal) = record {
  row = row;
  number = refusal_number refusal;
  cell = refusal_cell refusal;
  place = refusal_place refusal;
}

-- the row in the answer to a refused sheet, or 0 (numbers 1)
abbrev pub row_named : Refusal → ℕ
row_named (RowMisplaced row) = row
row_named _ = 0

-- the answer to a refused sheet (sheets 6)
abbrev pub sheet_reply : Refusal → Reply
sheet_reply refusal = record {
  row = row_named refusal;
  number = refusal_number refusal;
  cell = 0;
  place = 0;
}

-- the replies, the oldest first
abbrev pub posted : Replies → List Reply
posted replies = vec_items replies.list

-- how many more replies the list takes (sheets 6)
abbrev pub free_replies : Replies → ℕ
free_replies replies = replies.limit - length (posted replies)

-- one reply more, or the same where there are `limit` already (sheets 6)
abbrev pub reply_added : (limit : ℕ) → List Reply → Reply → List Reply
reply_added limit replies reply =
    if nat_lt (length replies) limit then replies ++ reply ∷ [] else replies

-- the replies of a list with one more posted to it (sheets 6)
abbrev pub with_reply : Replies → Reply → List Reply
with_reply replies reply = reply_added replies.limit (posted replies) reply
