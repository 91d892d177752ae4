-- No trade passes a limit or a turn (rules 4, 10), by the tally just before the trade line.
use Rattle.std.specs.Prelude.{◌≡◌, ℕ, true, false, if◌then◌else◌, ◌⊎◌, List, [], ◌∷◌}
use Rattle.std.specs.List.{AllByRecursion}
use Rattle.orders.specs.declared.price.Price.{Price}
use Rattle.orders.specs.declared.row.OrderRow.{OrderRow}
use Rattle.orders.specs.Ranks.{ranks_ahead, order_rank}
use Rattle.orders.specs.Lots.{within_limit}
use Rattle.tapes.specs.declared.line.Line.{Line}
use Rattle.tapes.specs.declared.line.Line.TheVariants.{Traded}
use Rattle.matching.specs.Running.{total}
use Rattle.laws.specs.Tally.{Tally, Request, numbered, stands_on, noted}

-- how many accounts of the tally are of this number
abbrev pub count_numbered : ℕ → Tally → ℕ
count_numbered number tally = total (λ a. if numbered number a then 1 else 0) tally.accounts

-- of an order's own side, none stands that ranks ahead of it (rules 4)
abbrev pub Foremost : Tally → OrderRow → Type 0
Foremost tally order = AllByRecursion
    (λ a. stands_on order.side a.status a.order ≡ true →
    ranks_ahead (order_rank a.order) (order_rank order) ≡ false)
    tally.accounts

-- the tally holds both orders, and each trades within its limit and in its turn
pub record Fair (incoming resting : ℕ) (price : Price) (tally : Tally) : Type 0 where
  pub one_incoming : count_numbered incoming tally ≡ 1
  pub one_resting : count_numbered resting tally ≡ 1
  pub in_turn : AllByRecursion
      (λ a. (a.order.number ≡ incoming) ⊎ (a.order.number ≡ resting) →
      (within_limit a.order.side a.order.price price ≡ true) × Foremost tally a.order)
      tally.accounts

abbrev pub FairLine : Line → Tally → Type 0
FairLine (Traded incoming resting price lots) tally = Fair incoming resting price tally
FairLine _ tally = Unit {0}

-- each of a step's lines, the latest first, by the tally just before it
abbrev pub FairLines : Request → List Line → Tally → Type 0
FairLines asked [] tally = Unit {0}
FairLines asked (line ∷ earlier) tally =
    FairLines asked earlier tally × FairLine line (noted asked earlier tally)
