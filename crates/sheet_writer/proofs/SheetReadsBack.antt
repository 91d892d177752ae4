-- A sheet that is written reads as its forms.
use Rattle.std.proofs.Common.{◌≡◌, ℕ, ◌≤◌, Bool, true, false, List, length, map, subst, None, Ok, ap, ◌∙◌, refl, arith}
use Rattle.std.proofs.lemmas.Bool.Decides.{nat_tests}
use Rattle.std.proofs.lemmas.List.{length-map}
use Rattle.std.specs.Prelude.{nat_lt}
use Rattle.std.specs.List.{list_all}
use Rattle.forms.specs.declared.form.Form.{Form}
use Rattle.sheets.specs.FormBounds.{form_in_bounds}
use Rattle.sheets.specs.Layout.{word, first_misplaced, directory_end}
use Rattle.sheets.specs.Rows.{read_form}
use Rattle.sheets.specs.Sheets.{row_count}
use Rattle.sheets.specs.declared.directory.Directory.TheVariants.{Rows}
use Rattle.sheet_writer.specs.PackedParts.{number_bytes}
use Rattle.sheet_writer.specs.WrittenRows.{row_written, sheet_written, ReadsAs}
use Rattle.sheet_writer.proofs.PartsNamed.{packed_keeps, packed_part, packed_size}
use Rattle.sheet_writer.proofs.RowReadsBack.{mapped_at, passes_at, row_back}

-- the sheet of forms that fit
module _ (fs : List Form) (fit : list_all form_in_bounds fs ≡ true) (few : length fs ≤ 512) (short : length (sheet_written fs) ≤ 65535) where
  count_there : word (sheet_written fs) 0 ≡ length fs
  count_there = omega (arith, length-map fs row_written)

  keeps : first_misplaced Rows (sheet_written fs) (length fs) ≡ None
  keeps =
      subst (λ (n : ℕ). first_misplaced Rows (sheet_written fs) n ≡ None) (length-map fs row_written)
      (packed_keeps Rows (number_bytes Rows (length (map row_written fs))) (map row_written fs) refl)

  long : directory_end Rows (length fs) ≤ length (sheet_written fs)
  long = omega (arith, packed_size Rows (number_bytes Rows (length (map row_written fs))) (map row_written fs) refl, length-map fs row_written)

  count_read : row_count (sheet_written fs) ≡ Ok (length fs)
  count_read =
      let a : ◌≡◌ {A = Bool} (nat_lt (length (sheet_written fs)) 2) false = grind (arith, nat_tests, long) in
      let b : ◌≡◌ {A = Bool} (nat_lt 65535 (length (sheet_written fs))) false = grind (arith, nat_tests) in
      let c : ◌≡◌ {A = Bool} (nat_lt 512 (length fs)) false = grind (arith, nat_tests) in
      let d : ◌≡◌ {A = Bool} (nat_lt (length (sheet_written fs)) (directory_end Rows (length fs))) false = grind (arith, nat_tests, long) in
      rw count_there (rw (a, b, c, d) refl)

  pub sheet_back : ReadsAs fs (sheet_written fs)
  sheet_back = record {
    accepted = rw (count_read, keeps) refl;
    counted = count_read;
    rows = λ k f e.
        ap read_form (packed_part Rows (number_bytes Rows (length (map row_written fs))) (map row_written fs) refl k (row_written f) (mapped_at row_written fs k f e))
        ∙ row_back f (passes_at form_in_bounds fs k f fit e);
  }
