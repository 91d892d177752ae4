-- Each law can be broken, by an example.
use Rattle.std.proofs.Common.{◌≡◌, ℕ, ◌+◌, refl, inl, inr, arith}
use Rattle.std.proofs.lemmas.Bool.{true≢false, false≢true}
use Rattle.orders.specs.declared.side.Side.TheVariants.{Buy, Sell}
use Rattle.orders.specs.declared.order.Order.{Order}
use Rattle.orders.specs.Rows.{order_of}
use Rattle.laws.specs.Counterexamples.{Counterexamples, plain_order}

pub laws_can_fail : Counterexamples
laws_can_fail = record {
  lost_lot = λ h. (let z : ◌≡◌ {A = ℕ} 100 99 = h 1 in omega arith);
  doubled_lots = λ h. (let o : Order = order_of (plain_order 1 Sell) in let z : 100 ≡ 100 + (0 + (o.open_lots + 0) + (0 + 0)) + 0 = h 1 in omega (arith, o.some_shown, o.shown_within_open));
  out_of_turn = λ h. true≢false ((h.in_turn.1.1.0 (inr refl)).1.1.0 refl);
  above_limit = λ h. false≢true (h.in_turn.0 (inl refl)).0;
  unknown_order_trades = λ h. (let z : ◌≡◌ {A = ℕ} 0 1 = h.one_resting in omega arith);
  crossed = λ h. (let z = h.0.0 in omega arith);
  ripe = λ h. true≢false (h Buy).0;
}
