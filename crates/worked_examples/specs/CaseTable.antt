-- The table of worked cases (rules 18).
use Rattle.std.specs.Prelude.{List, [], ◌∷◌}
use Rattle.std.specs.List.{AllByRecursion}
use Rattle.tapes.specs.declared.cause.Cause.TheVariants.{Requested, ShortReach, OwnInvestor}
use Rattle.worked_examples.specs.CaseWords.{Case, CaseHolds, entry, buy, sell, disclosing, for_investor, fok, sell_at_market, buy_stop, change, cancel, A, R, S, T, C, rest}

-- A bid changed upwards: a bid of 200 at 20,00 stands
abbrev pub bid_stands : Case
bid_stands = record {
  steps = entry 1 (buy 200 2000) ∷ [];
  lines = A 1 2000 200 ∷ [];
  left = (rest 1 2000 200 200 ∷ []) ∷ [] ∷ [] ∷ [] ∷ [];
}

-- .. and a sale of 100 at 20,00 trades with it
abbrev pub half_sold : Case
half_sold = record {
  steps = entry 1 (buy 200 2000) ∷ entry 2 (sell 100 2000) ∷ [];
  lines = A 1 2000 200 ∷ A 2 2000 100 ∷ T 2 1 2000 100 ∷ [];
  left = (rest 1 2000 100 100 ∷ []) ∷ [] ∷ [] ∷ [] ∷ [];
}

-- .. and the bid is changed to 300 at 21,00: 200 are open, since 100 were traded
abbrev pub bid_changed : Case
bid_changed = record {
  steps = entry 1 (buy 200 2000) ∷ entry 2 (sell 100 2000) ∷ change 1 1 300 2100 ∷ [];
  lines = A 1 2000 200 ∷ A 2 2000 100 ∷ T 2 1 2000 100 ∷ R 1 2100 300 ∷ [];
  left = (rest 1 2100 200 200 ∷ []) ∷ [] ∷ [] ∷ [] ∷ [];
}

-- .. and a sale of 100 at 21,00 leaves 100 open
abbrev pub more_sold : Case
more_sold = record {
  steps =
      entry 1 (buy 200 2000) ∷ entry 2 (sell 100 2000) ∷ change 1 1 300 2100
      ∷ entry 2 (sell 100 2100) ∷ [];
  lines =
      A 1 2000 200 ∷ A 2 2000 100 ∷ T 2 1 2000 100 ∷ R 1 2100 300 ∷ A 4 2100 100 ∷ T 4 1 2100 100
      ∷ [];
  left = (rest 1 2100 100 100 ∷ []) ∷ [] ∷ [] ∷ [] ∷ [];
}

-- .. and the bid is cancelled: 300 = 200 traded + 0 open + 100 cancelled
abbrev pub bid_cancelled : Case
bid_cancelled = record {
  steps =
      entry 1 (buy 200 2000) ∷ entry 2 (sell 100 2000) ∷ change 1 1 300 2100
      ∷ entry 2 (sell 100 2100) ∷ cancel 1 ∷ [];
  lines =
      A 1 2000 200 ∷ A 2 2000 100 ∷ T 2 1 2000 100 ∷ R 1 2100 300 ∷ A 4 2100 100 ∷ T 4 1 2100 100
      ∷ C 1 2100 100 Requested ∷ [];
  left = [] ∷ [] ∷ [] ∷ [] ∷ [];
}

-- A FOK that finds too little: cancelled whole, and the bid stays
abbrev pub fok_short : Case
fok_short = record {
  steps = entry 1 (buy 200 2000) ∷ entry 2 (fok (sell 400 2000)) ∷ [];
  lines = A 1 2000 200 ∷ A 2 2000 400 ∷ C 2 2000 400 ShortReach ∷ [];
  left = (rest 1 2000 200 200 ∷ []) ∷ [] ∷ [] ∷ [] ∷ [];
}

-- A market order whose leftover stands, at the bid's price
abbrev pub market_sale : Case
market_sale = record {
  steps = entry 1 (buy 100 2000) ∷ entry 2 (sell_at_market 200) ∷ [];
  lines = A 1 2000 100 ∷ A 2 2000 200 ∷ T 2 1 2000 100 ∷ [];
  left = [] ∷ (rest 2 2000 100 100 ∷ []) ∷ [] ∷ [] ∷ [];
}

-- A refill goes behind its price
abbrev pub refill_behind : Case
refill_behind = record {
  steps =
      entry 1 (disclosing 100 (sell 300 1000)) ∷ entry 2 (sell 100 1000) ∷ entry 3 (buy 250 1000)
      ∷ [];
  lines =
      A 1 1000 300 ∷ A 2 1000 100 ∷ A 3 1000 250 ∷ T 3 1 1000 100 ∷ T 3 2 1000 100 ∷ T 3 1 1000 50
      ∷ [];
  left = [] ∷ (rest 1 1000 50 150 ∷ []) ∷ [] ∷ [] ∷ [];
}

-- One's own investor in the way of a FOK: the reach is the 100 shown ahead of it
abbrev pub own_in_the_way : Case
own_in_the_way = record {
  steps =
      entry 1 (disclosing 100 (sell 300 1000)) ∷ entry 2 (for_investor 7 (sell 50 1000))
      ∷ entry 3 (fok (for_investor 7 (buy 200 1000))) ∷ [];
  lines = A 1 1000 300 ∷ A 2 1000 50 ∷ A 3 1000 200 ∷ C 3 1000 200 ShortReach ∷ [];
  left = [] ∷ (rest 1 1000 100 300 ∷ rest 2 1000 50 50 ∷ []) ∷ [] ∷ [] ∷ [];
}

-- One's own investor in the way of a Day order: it trades up to it
abbrev pub own_met : Case
own_met = record {
  steps =
      entry 1 (disclosing 100 (sell 300 1000)) ∷ entry 2 (for_investor 7 (sell 50 1000))
      ∷ entry 3 (for_investor 7 (buy 200 1000)) ∷ [];
  lines =
      A 1 1000 300 ∷ A 2 1000 50 ∷ A 3 1000 200 ∷ T 3 1 1000 100 ∷ C 3 1000 100 OwnInvestor ∷ [];
  left = [] ∷ (rest 2 1000 50 50 ∷ rest 1 1000 100 200 ∷ []) ∷ [] ∷ [] ∷ [];
}

-- A stop set off: the trade at 25,20 makes it ripe
abbrev pub stop_triggered : Case
stop_triggered = record {
  steps =
      entry 1 (buy_stop 200 2520 2530) ∷ entry 2 (sell 100 2520) ∷ entry 3 (sell 100 2530)
      ∷ entry 4 (buy 40 2520) ∷ [];
  lines =
      A 1 2530 200 ∷ A 2 2520 100 ∷ A 3 2530 100 ∷ A 4 2520 40 ∷ T 4 2 2520 40 ∷ S 1 2530 200
      ∷ T 1 2 2520 60 ∷ T 1 3 2530 100 ∷ [];
  left = (rest 1 2530 40 40 ∷ []) ∷ [] ∷ [] ∷ [] ∷ [];
}

abbrev pub table : List Case
table =
    bid_stands
    ∷ half_sold
    ∷ bid_changed
    ∷ more_sold
    ∷ bid_cancelled
    ∷ fok_short
    ∷ market_sale
    ∷ refill_behind
    ∷ own_in_the_way
    ∷ own_met
    ∷ stop_triggered
    ∷ []

-- every case of the table holds
abbrev pub WorkedCases : Type 0
WorkedCases = AllByRecursion CaseHolds table
