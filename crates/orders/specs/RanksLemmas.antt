-- The laws of ranks: nothing ranks ahead of itself, a chain carries, and of two different ranks one
-- is ahead (rules 4).
use Rattle.std.specs.Prelude.{◌≡◌, ◌<◌, true, false, ◌⊎◌}
use Rattle.std.proofs.Common.{arith}
use Rattle.std.proofs.lemmas.Bool.Decides.{nat_tests}
use Rattle.orders.specs.declared.rank.Rank.{Rank}
use Rattle.orders.specs.Ranks.{ranks_ahead}

-- ahead by key, or else by turn, or else by number
abbrev AheadByParts : Rank → Rank → Type 0
AheadByParts a b =
    (a.key < b.key)
    ⊎ ((a.key ≡ b.key) × ((a.turn < b.turn) ⊎ ((a.turn ≡ b.turn) × (a.number < b.number))))

ahead_by_parts : (a b : Rank) → ranks_ahead a b ≡ true → AheadByParts a b
ahead_by_parts a b e = grind (arith, nat_tests)

pub ranks_ahead_irreflexive : (r : Rank) → ranks_ahead r r ≡ false
ranks_ahead_irreflexive r = grind (arith, nat_tests)

pub ranks_ahead_transitive : (a b c : Rank) →
    ranks_ahead a b ≡ true → ranks_ahead b c ≡ true → ranks_ahead a c ≡ true
ranks_ahead_transitive a b c p q =
    let x = ahead_by_parts a b p in
    let y = ahead_by_parts b c q in
    grind (arith, nat_tests)

pub ranks_ahead_connected : (a b : Rank) → ranks_ahead a b ≡ false → ranks_ahead b a ≡ false → a ≡ b
ranks_ahead_connected a b p q = grind (arith, nat_tests)
