-- The rows of a draft are bytes cut by lengths that add up to them.
use Rattle.std.proofs.Common.{◌≡◌, ℕ, ◌+◌, ◌≤◌, List, [], ◌∷◌, ◌++◌, length, map, take, drop, sym, ap, ◌∙◌, refl, length-append, arith}
use Rattle.std.proofs.lemmas.List.{length-drop, length-take-le, take-append-le, drop-append-le, take-append-drop, append-nil, take_all, nil_from_length}
use Rattle.std.proofs.lemmas.List.Folds.{concat-append}
use Rattle.std.proofs.lemmas.List.Sums.{sum_by-cons}
use Rattle.std.specs.List.{concat, sum}
use Rattle.sheets.specs.Layout.{directory_end}
use Rattle.sheets.specs.declared.directory.Directory.TheVariants.{Rows}
use Rattle.sheet_writer.specs.PackedParts.{number_bytes, laid_out}
use Rattle.sheet_writer.specs.WrittenRows.{sheet_of}
use Rattle.sheet_writer.specs.Drafts.{cut_by_lengths}
use Rattle.sheet_writer.proofs.PartsNamed.{packed_size}

-- as many parts as lengths
pub length-cut_by_lengths : (ns bs : List ℕ) → length (cut_by_lengths ns bs) ≡ length ns
length-cut_by_lengths [] bs = refl
length-cut_by_lengths (n ∷ ns) bs = omega (arith, length-cut_by_lengths ns (drop n bs))

-- what the first length leaves to the others
first_within : (n : ℕ) (ns bs : List ℕ) → sum (n ∷ ns) ≡ length bs → (n ≤ length bs) × (sum ns ≡ length (drop n bs))
first_within n ns bs e =
    (omega (arith, sum_by-cons (λ (x : ℕ). x) n ns), omega (arith, sum_by-cons (λ (x : ℕ). x) n ns, length-drop n bs))

-- the parts have these lengths and, one after the other, these bytes
lengths_cut : (ns bs : List ℕ) → sum ns ≡ length bs → map length (cut_by_lengths ns bs) ≡ ns
lengths_cut [] bs e = refl
lengths_cut (n ∷ ns) bs e =
    let w = first_within n ns bs e in
    let f = length-take-le n bs w.0 in
    let r = lengths_cut ns (drop n bs) w.1 in
    cc

concat_cut : (ns bs : List ℕ) → sum ns ≡ length bs → concat (cut_by_lengths ns bs) ≡ bs
concat_cut [] bs e = sym (nil_from_length bs (sym e))
concat_cut (n ∷ ns) bs e =
    let w = first_within n ns bs e in
    ap (λ (r : List ℕ). take n bs ++ r) (concat_cut ns (drop n bs) w.1) ∙ take-append-drop n bs

-- one part more at the end
pub cut_more : (ns bs p : List ℕ) → sum ns ≡ length bs → cut_by_lengths (ns ++ length p ∷ []) (bs ++ p) ≡ cut_by_lengths ns bs ++ p ∷ []
cut_more [] bs p e = rw (nil_from_length bs (sym e), take_all (length p) p (omega arith)) refl
cut_more (n ∷ ns) bs p e =
    let w = first_within n ns bs e in
    let t = take-append-le n bs p w.0 in
    let d = drop-append-le n bs p w.0 in
    let r = cut_more ns (drop n bs) p w.1 in
    rw (t, d, r) refl

-- the bytes of a draft are those of the sheet of its rows; how many they are
pub sheet_cut : (ns bs : List ℕ) → sum ns ≡ length bs → sheet_of (cut_by_lengths ns bs) ≡ laid_out Rows (number_bytes Rows (length ns)) ns bs
sheet_cut ns bs e = rw (length-cut_by_lengths ns bs, lengths_cut ns bs e, concat_cut ns bs e) refl

pub sheet_size : (ns bs : List ℕ) → sum ns ≡ length bs → length (sheet_of (cut_by_lengths ns bs)) ≡ directory_end Rows (length ns) + length bs
sheet_size ns bs e =
    packed_size Rows (number_bytes Rows (length (cut_by_lengths ns bs))) (cut_by_lengths ns bs) refl ∙ omega (arith, length-cut_by_lengths ns bs, ap length (concat_cut ns bs e))

-- and how many they are with one row more
pub sheet_more : (ns bs p : List ℕ) → sum ns ≡ length bs
    → length (sheet_of (cut_by_lengths ns bs ++ p ∷ [])) ≡ directory_end Rows (length ns + 1) + length bs + length p
sheet_more ns bs p e =
    packed_size Rows (number_bytes Rows (length (cut_by_lengths ns bs ++ p ∷ []))) (cut_by_lengths ns bs ++ p ∷ []) refl
    ∙ omega (
      arith,
      length-append (cut_by_lengths ns bs) (p ∷ []),
      length-cut_by_lengths ns bs,
      ap length (concat-append (cut_by_lengths ns bs) (p ∷ [])),
      length-append (concat (cut_by_lengths ns bs)) (concat (p ∷ [])),
      ap length (concat_cut ns bs e),
      ap length (append-nil p),
    )
