-- An order that is entered or changed is as it was asked.
use Rattle.std.proofs.Common.{◌≡◌, min, ap, subst}
use Rattle.orders.specs.declared.row.OrderRow.{OrderRow}
use Rattle.matching.specs.Model.{MatchState}
use Rattle.venue.specs.Days.{set_up}
use Rattle.laws.specs.Tally.{changed_row}
use Rattle.laws.specs.Runs.{after}
use Rattle.laws.specs.WithinRoom.{state_between_steps, EnteredAsRequested, ChangedAsRequested}
use Rattle.laws.proofs.RowsInBounds.{entered_row, order_from_row}
use Rattle.laws.proofs.EntryArrives.{ValidEntry}
use Rattle.laws.proofs.ChangeApplies.{requeued_row, amended_row}
use Rattle.laws.proofs.ValidatedRanges.{IfOk, entry_ok}
use Rattle.laws.proofs.EachForm.{ChangeGiven, change_given}
use Rattle.laws.proofs.WholeRuns.{after_set_up}
use Rattle.orders.specs.declared.order.Order.{Order}
use Rattle.orders.specs.Rows.{row_of}
use Rattle.orders.specs.Lots.{showing}
use Rattle.matching.specs.declared.amendment.Amendment.{Amendment}
use Rattle.matching.specs.Entering.{entered_order}
use Rattle.matching.specs.Changing.{new_disclosed, new_open_lots, amended_order, requeued_order}

same_lots : (o : Order) (r : OrderRow) → row_of o ≡ r → (o.quantity ≡ r.quantity) × (o.open_lots ≡ r.open_lots) × (o.shown ≡ r.shown) × (o.disclosed ≡ r.disclosed)
same_lots o r e =
    (ap (λ (r : OrderRow). r.quantity) e, ap (λ (r : OrderRow). r.open_lots) e, ap (λ (r : OrderRow). r.shown) e, ap (λ (r : OrderRow). r.disclosed) e)

pub entered_as_requested : EnteredAsRequested
entered_as_requested form a e price stamp =
    let p : ValidEntry a = subst (IfOk ValidEntry) e (entry_ok form) in
    same_lots (entered_order a price stamp) (entered_row a price stamp) (order_from_row a price stamp p.allowed)

pub changed_as_requested : ChangedAsRequested
changed_as_requested day stamp q limit forms form p e =
    let f : MatchState = state_between_steps (after forms (set_up day stamp q limit)) in
    let quiescent = (after_set_up day stamp q limit forms).0 in
    let g : ChangeGiven form f p = subst (IfOk (ChangeGiven form f)) e (change_given form f quiescent.consistent.queues) in
    let c : Amendment = p.change in
    let o : Order = p.order in (
      λ turn. same_lots (requeued_order turn c o) (changed_row c turn (showing (new_disclosed c o) (new_open_lots c o)) (row_of o)) (requeued_row turn c o g.0),
      λ l. same_lots (amended_order c o) (changed_row c o.turn (min o.shown (new_open_lots c o)) (row_of o)) (amended_row c o g.0 l),
    )
