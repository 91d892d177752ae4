-- A directory whose parts are packed names each part, and none of its pairs is misplaced.
use Rattle.std.proofs.Common.{◌≡◌, ℕ, zero, suc, ◌+◌, ◌*◌, ◌≤◌, List, [], ◌∷◌, ◌++◌, length, map, get_or, Some, None, Option, sym, ap, ◌∙◌, refl, append_assoc, length-append, arith}
use Rattle.std.proofs.lemmas.Bool.Decides.{nat_tests}
use Rattle.std.proofs.lemmas.List.{get_or-append-add, take_at, drop_at, length-map}
use Rattle.std.specs.List.{concat, slice_get}
use Rattle.sheets.specs.Layout.{offset_at, length_at, directory_end, pair_end, first_misplaced_from, part_at, first_misplaced}
use Rattle.sheets.specs.declared.directory.Directory.{Directory}
use Rattle.sheets.specs.declared.directory.Directory.TheVariants.{Rows, Cells}
use Rattle.sheet_writer.specs.PackedParts.{number_bytes, pairs, packed}

-- pair j of a directory is the first of those of some parts; the parts are the last bytes, from an
-- offset on
pub record PartsFrom (d : Directory) (bs : List ℕ) (j at : ℕ) (parts : List (List ℕ)) : Type 0 where
  pub before : List ℕ
  pub behind : List ℕ
  pub named : bs ≡ before ++ (pairs d at (map length parts) ++ behind)
  pub from : length before ≡ directory_end d j
  pub front : List ℕ
  pub there : bs ≡ front ++ concat parts
  pub place : length front ≡ at

-- a byte after others
byte_after : (bs before rest : List ℕ) (i k : ℕ) → bs ≡ before ++ rest → i ≡ length before + k → get_or bs i 0 ≡ get_or rest k 0
byte_after bs before rest i k e h = rw (e, h) (get_or-append-add before rest k 0)

-- pair j has the offset and the length of the first part
first_named : (d : Directory) (bs : List ℕ) (j at : ℕ) (p : List ℕ) (ps : List (List ℕ)) → PartsFrom d bs j at (p ∷ ps)
    → (offset_at d bs j ≡ at) × (length_at d bs j ≡ length p)
first_named Rows bs j at p ps l =
    let a = byte_after bs l.before _ (4 * j + 2) 0 l.named (omega (arith, l.from)) in
    let b = byte_after bs l.before _ (4 * j + 2 + 1) 1 l.named (omega (arith, l.from)) in
    let c = byte_after bs l.before _ (4 * j + 4) 2 l.named (omega (arith, l.from)) in
    let e = byte_after bs l.before _ (4 * j + 4 + 1) 3 l.named (omega (arith, l.from)) in
    (omega (arith, a, b), omega (arith, c, e))
first_named Cells bs j at p ps l =
    (byte_after bs l.before _ (2 * j + 2) 0 l.named (omega (arith, l.from)), byte_after bs l.before _ (2 * j + 3) 1 l.named (omega (arith, l.from)))

-- and the part there is the first part, which ends inside
first_part : (d : Directory) (bs : List ℕ) (j at : ℕ) (p : List ℕ) (ps : List (List ℕ)) → PartsFrom d bs j at (p ∷ ps) → part_at d bs j ≡ p
first_part d bs j at p ps l =
    let n = first_named d bs j at p ps l in
    rw (n.0, n.1, l.there, drop_at l.front (p ++ concat ps) at l.place) (take_at p (concat ps) (length p) refl)

first_placed : (d : Directory) (bs : List ℕ) (j at : ℕ) (p : List ℕ) (ps : List (List ℕ)) → PartsFrom d bs j at (p ∷ ps)
    → pair_end d bs j at ≡ Some (at + length p)
first_placed d bs j at p ps l =
    let n = first_named d bs j at p ps l in
    let inside : at + length p ≤ length bs =
    omega (arith, ap length l.there, length-append l.front (p ++ concat ps), length-append p (concat ps), l.place) in
    grind (arith, nat_tests)

-- a pair has as many bytes in a directory of any length
pair_size : (d : Directory) (j a b : ℕ) → directory_end d j + length (number_bytes d a ++ number_bytes d b) ≡ directory_end d (j + 1)
pair_size Rows j a b = omega arith
pair_size Cells j a b = omega arith

-- the other parts have the pairs from the next one on, and follow the first part
next : (d : Directory) (bs : List ℕ) (j at : ℕ) (p : List ℕ) (ps : List (List ℕ)) → PartsFrom d bs j at (p ∷ ps)
    → PartsFrom d bs (j + 1) (at + length p) ps
next d bs j at p ps l = record {
  before = l.before ++ (number_bytes d at ++ number_bytes d (length p));
  behind = l.behind;
  named = l.named ∙ simp append_assoc;
  from = length-append l.before _ ∙ omega (arith, l.from, pair_size d j at (length p));
  front = l.front ++ p;
  there = l.there ∙ sym (append_assoc l.front p (concat ps));
  place = omega (arith, length-append l.front p, l.place);
}

-- so no pair is misplaced, and pair k names part k
none_misplaced : (d : Directory) (bs : List ℕ) (j at : ℕ) (parts : List (List ℕ)) → PartsFrom d bs j at parts
    → first_misplaced_from d bs (length parts) j at ≡ None
none_misplaced d bs j at [] l = refl
none_misplaced d bs j at (p ∷ ps) l =
    ap (λ (o : Option ℕ). elim o [ Some x ↦ first_misplaced_from d bs (length ps) (j + 1) x | None ↦ Some (j + 1) ]) (first_placed d bs j at p ps l)
    ∙ none_misplaced d bs (j + 1) (at + length p) ps (next d bs j at p ps l)

each_part : (d : Directory) (bs : List ℕ) (j at : ℕ) (parts : List (List ℕ)) → PartsFrom d bs j at parts
    → (i k : ℕ) (x : List ℕ) → i ≡ j + k → slice_get parts k ≡ Some x → part_at d bs i ≡ x
each_part d bs j at [] l i k x h e = cc
each_part d bs j at (p ∷ ps) l i zero x h e =
    let same : i ≡ j = omega arith in
    let part : part_at d bs j ≡ p = first_part d bs j at p ps l in
    rw same (part ∙ cc)
each_part d bs j at (p ∷ ps) l i (suc k) x h e =
    each_part d bs (j + 1) (at + length p) ps (next d bs j at p ps l) i k x (omega arith) e

-- a directory has a head of two bytes and its pairs
pub directory_size : (d : Directory) (at : ℕ) (ns : List ℕ) → 2 + length (pairs d at ns) ≡ directory_end d (length ns)
directory_size Rows at [] = refl
directory_size Cells at [] = refl
directory_size Rows at (n ∷ ns) = omega (arith, directory_size Rows (at + n) ns)
directory_size Cells at (n ∷ ns) = omega (arith, directory_size Cells (at + n) ns)

-- a directory without pairs has two bytes
begins : (d : Directory) → 2 ≡ directory_end d 0
begins Rows = refl
begins Cells = refl

-- all of it, of parts that are packed
module _ (d : Directory) (head : List ℕ) (parts : List (List ℕ)) (two : length head ≡ 2) where
  packed_from : PartsFrom d (packed d head parts) 0 (directory_end d (length (map length parts))) parts
  packed_from = record {
    before = head;
    behind = concat parts;
    named = refl;
    from = two ∙ begins d;
    front = head ++ pairs d (directory_end d (length (map length parts))) (map length parts);
    there = sym (append_assoc head _ (concat parts));
    place = length-append head _ ∙ omega (arith, two, directory_size d (directory_end d (length (map length parts))) (map length parts));
  }

  as_many : length (map length parts) ≡ length parts
  as_many = length-map parts length

  pub packed_keeps : first_misplaced d (packed d head parts) (length parts) ≡ None
  packed_keeps =
      ap (λ (n : ℕ). first_misplaced_from d (packed d head parts) (length parts) 0 (directory_end d n)) (sym as_many)
      ∙ none_misplaced d (packed d head parts) 0 _ parts packed_from

  pub packed_part : (k : ℕ) (x : List ℕ) → slice_get parts k ≡ Some x → part_at d (packed d head parts) k ≡ x
  packed_part k x e = each_part d (packed d head parts) 0 _ parts packed_from k k x (omega arith) e

  pub packed_size : length (packed d head parts) ≡ directory_end d (length parts) + length (concat parts)
  packed_size =
      let at = directory_end d (length (map length parts)) in
      length-append head _
      ∙ omega (arith, two, directory_size d at (map length parts), length-append (pairs d at (map length parts)) (concat parts), ap (directory_end d) as_many)
