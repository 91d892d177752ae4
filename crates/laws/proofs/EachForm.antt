-- Each form on an open day: a refused step changes nothing, and the laws hold after an accepted one.
use Rattle.std.proofs.Common.{◌≡◌, ℕ, ◌+◌, ◌<◌, ◌≤◌, false, eqb, ltb, leb, List, [], ◌++◌, length, Some, None, Ok, Err, Option, Result, unwrap_or, sym, refl, ap, ◌∙◌, subst, arith}
use Rattle.std.specs.List.{slice_get}
use Rattle.std.proofs.lemmas.Bool.{cond_both, ltb-false, leb-false}
use Rattle.orders.specs.declared.side.Side.{Side}
use Rattle.orders.specs.declared.price.Price.{Price}
use Rattle.orders.specs.declared.order.Order.{Order}
use Rattle.books.specs.declared.queue.Queue.{Queue}
use Rattle.books.specs.declared.queue.Queue.TheVariants.{Orders, Stops}
use Rattle.books.specs.declared.queue.Record.{Record}
use Rattle.books.specs.declared.queue.Record.TheVariants.{Standing, Waiting}
use Rattle.books.specs.Model.{Queues, at, found, look_at, order_of_record}
use Rattle.tapes.specs.declared.line.Line.{Line}
use Rattle.tapes.specs.declared.cause.Cause.TheVariants.{Requested as WasRequested, DayClosed}
use Rattle.tapes.specs.Logs.{free_lines}
use Rattle.forms.specs.declared.form.EntryForm.{EntryForm}
use Rattle.forms.specs.declared.form.ChangeForm.{ChangeForm}
use Rattle.forms.specs.declared.form.CancelForm.{CancelForm}
use Rattle.forms.specs.declared.form.MassCancelForm.{MassCancelForm}
use Rattle.forms.specs.declared.form.Form.{Form}
use Rattle.forms.specs.declared.form.Form.TheVariants.{Entry, Change as ChangeStep, Cancel, MassCancel, Closing}
use Rattle.forms.specs.declared.refusal.Refusal.{Refusal}
use Rattle.forms.specs.declared.refusal.Refusal.TheVariants.{TapeFull, NoStamps, UnknownOrder, QuantityTraded, DisclosedBarred}
use Rattle.matching.specs.declared.session.TheConstants.{STAMPS_END}
use Rattle.matching.specs.declared.new_order.NewOrder.{NewOrder}
use Rattle.matching.specs.declared.amendment.Amendment.{Amendment}
use Rattle.matching.specs.declared.removal.Removal.TheVariants.{Matching, DayOrders}
use Rattle.matching.specs.Sessions.{undrawn_stamps}
use Rattle.matching.specs.Model.{MatchState}
use Rattle.matching.specs.Entering.{enter}
use Rattle.matching.specs.Changing.{new_quantity, new_disclosed, lots_traded}
use Rattle.validation.specs.declared.changes.AmendRequest.{AmendRequest}
use Rattle.validation.specs.Combinations.{disclosed_barred}
use Rattle.validation.specs.Entries.{validate_entry}
use Rattle.validation.specs.Changes.{validate_change}
use Rattle.validation.specs.Removals.{validate_cancel, validate_mass_cancel}
use Rattle.venue.specs.declared.lookup.Found.{Found}
use Rattle.venue.specs.declared.plan.AmendPlan.{AmendPlan}
use Rattle.venue.specs.Rooms.{needed, lines_free, stamps_free}
use Rattle.venue.specs.Known.{client_free, of_firm, firms_record_at, firms_record, standing_in}
use Rattle.venue.specs.Steps.{answered, after_answer, entry_answer, check_quantity, check_disclosed, change_answer, carry_out_plan, cancel_answer, cancel_found, mass_cancel_answer, cancel_matching, cancel_day_orders}
use Rattle.laws.specs.Tally.{Tally, Request, change, removal, noted}
use Rattle.laws.specs.Fair.{FairLines}
use Rattle.laws.specs.Runs.{entry_requested, change_requested, request, tally_fed}
use Rattle.laws.specs.WithinRoom.{Trace, ended}
use Rattle.laws.proofs.SortedLists.{all_nth}
use Rattle.laws.proofs.ConsistentQueues.{ConsistentQueues, InPriceRange, OnSide}
use Rattle.laws.proofs.EventsApply.{RecordAt}
use Rattle.laws.proofs.LinesAndStamps.{tape}
use Rattle.laws.proofs.RunsToRest.{Quiescent}
use Rattle.laws.proofs.TallyAgrees.{TallyAgrees, tally_agrees_idle}
use Rattle.laws.proofs.LinesTell.{agrees_with_none}
use Rattle.laws.proofs.EntryArrives.{ValidEntry}
use Rattle.laws.proofs.ChangeApplies.{ValidChange}
use Rattle.laws.proofs.RoomSuffices.{RoomForStep}
use Rattle.laws.proofs.RemovalsApply.{RoomForRemovals, found_record_at, after_one_removal, after_removals}
use Rattle.laws.proofs.AcceptedSteps.{AfterAccepted, accepted_removals, accepted_entry, accepted_change}
use Rattle.laws.proofs.ValidatedRanges.{IfOk, IfSome, ok_then, entry_ok, ChangeInRanges, change_ok, allowed_from, any_ok}

-- what holds after a step, by its answer
pub record AfterStep (form : Form) (t : Tally) (f : MatchState) (r : Result (Unit {0}) Refusal) (g : MatchState) : Type 0 where
  pub quiescent : Quiescent g
  pub lines : List Line
  pub tape_grew : tape g ≡ lines ++ tape f
  pub fair : FairLines (request form) lines t
  pub matches : TallyAgrees (tally_fed r (request form) lines t) g
  pub trace : Trace f g

pub after_step_unchanged : (form : Form) (t : Tally) (f : MatchState) (r : Result (Unit {0}) Refusal) → Quiescent f → TallyAgrees t f → AfterStep form t f r f
after_step_unchanged form t f r c m = record { quiescent = c; lines = []; tape_grew = refl; fair = tt; matches = go r; trace = ended }
  where
    go : (r : Result (Unit {0}) Refusal) → TallyAgrees (tally_fed r (request form) [] t) f
    go (Ok x) = tally_agrees_idle f t c.idle m
    go (Err e) = m

after_step_accepted : (form : Form) (t : Tally) (f g : MatchState) → AfterAccepted (request form) t f g → AfterStep form t f (Ok tt) g
after_step_accepted form t f g h = record {
  quiescent = h.quiescent;
  lines = h.lines_tell.lines;
  tape_grew = h.lines_tell.tape_grew;
  fair = h.lines_tell.fair;
  matches = agrees_with_none g (noted (request form) h.lines_tell.lines t) h.quiescent.idle h.lines_tell.agrees;
  trace = h.trace;
}

-- a step is refused and changes nothing, or its checks give what its action needs
after_step_of : {A : Type 0} (form : Form) (f : MatchState) (t : Tally) (P : A → Type 0) (act : A → MatchState → MatchState) (r : Result A Refusal) → Quiescent f → TallyAgrees t f →
    IfOk P r → ((x : A) → P x → AfterAccepted (request form) t f (act x f)) → AfterStep form t f (answered r) (after_answer act r f)
after_step_of form f t P act (Ok x) c m h accepted = after_step_accepted form t f (act x f) (accepted x h)
after_step_of form f t P act (Err e) c m h accepted = after_step_unchanged form t f (Err e) c m

-- what holds where a check passes

ok_is : {A : Type 0} (P : A → Type 0) (r : Result A Refusal) → IfOk P r → IfOk (λ x. P x × (r ≡ Ok x)) r
ok_is P (Ok x) h = (h, refl)
ok_is P (Err e) h = tt

pub lines_ok : (f : MatchState) → IfOk (λ _. length (tape f) + needed f.queues ≤ f.tape.limit) (lines_free f.queues f.tape)
lines_ok f = cond_both (ltb (free_lines f.tape) (needed f.queues)) (Err TapeFull) (Ok tt) (IfOk (λ _. length (tape f) + needed f.queues ≤ f.tape.limit))
    (λ _. tt) (λ e. omega (arith, ltb-false (free_lines f.tape) (needed f.queues) e))

stamps_ok : (f : MatchState) → IfOk (λ _. f.session.next_stamp + needed f.queues ≤ STAMPS_END) (stamps_free f.queues f.session)
stamps_ok f = cond_both (ltb (undrawn_stamps f.session) (needed f.queues)) (Err NoStamps) (Ok tt) (IfOk (λ _. f.session.next_stamp + needed f.queues ≤ STAMPS_END))
    (λ _. tt) (λ e. omega (arith, ltb-false (undrawn_stamps f.session) (needed f.queues) e))

-- a record has the position where it was found
abbrev FoundAt : Queues → Found → Type 0
FoundAt q x = look_at x.queue x.at q ≡ Some x.«record»

found_ok : (firm number : ℕ) (q : Queues) → IfOk (FoundAt q) (firms_record firm number q)
found_ok firm number q = go (found number q)
  where
    here : (n : Queue) (i : ℕ) (m : Option Record) → look_at n i q ≡ m → IfOk (FoundAt q) (of_firm firm n i m)
    here n i None e = tt
    here n i (Some r) e = cond_both (eqb (order_of_record r).firm firm) (Ok (record { queue = n; at = i; «record» = r })) (Err UnknownOrder) (IfOk (FoundAt q)) (λ _. e) (λ _. tt)

    go : (m : Option (Queue × ℕ)) → IfOk (FoundAt q) (firms_record_at firm m q)
    go None = tt
    go (Some p) = here p.0 p.1 (look_at p.0 p.1 q) refl

-- entry

-- what an accepted entry's checks give
abbrev pub EntryGiven : EntryForm → MatchState → NewOrder → Type 0
EntryGiven form f a = ValidEntry a × RoomForStep f × (validate_entry form ≡ Ok a)

pub entry_given : (form : EntryForm) (f : MatchState) → IfOk (EntryGiven form f) (entry_answer form f)
entry_given form f =
    ok_then (λ a. ValidEntry a × (validate_entry form ≡ Ok a)) (EntryGiven form f) (validate_entry form) _ (ok_is ValidEntry (validate_entry form) (entry_ok form)) (λ a p.
    ok_then _ (EntryGiven form f) (lines_free f.queues f.tape) _ (lines_ok f) (λ _ l.
    ok_then _ (EntryGiven form f) (stamps_free f.queues f.session) _ (stamps_ok f) (λ _ s.
    ok_then _ (EntryGiven form f) (client_free a.firm a.client None f.queues) _ (any_ok (client_free a.firm a.client None f.queues)) (λ _ _.
    (p.0, record { free_lines = l; free_stamps = s }, p.1)))))

pub after_step_entry : (form : EntryForm) (f : MatchState) (t : Tally) → Quiescent f → TallyAgrees t f →
    AfterStep (Entry form) t f (answered (entry_answer form f)) (after_answer enter (entry_answer form f) f)
after_step_entry form f t c m =
    after_step_of (Entry form) f t (EntryGiven form f) enter (entry_answer form f) c m (entry_given form f)
    (λ a h. subst (λ (q : Request). AfterAccepted q t f (enter a f)) (sym (ap entry_requested h.2)) (accepted_entry a f t h.0 h.1 c m))

-- change

-- an order that was found stands in the queue of its side
found_stands : (n : Queue) (i : ℕ) (r : Record) (o : Order) (q : Queues) → r ≡ Standing o → RecordAt n i r q → ConsistentQueues q →
    (slice_get (at o.side q.stands) i ≡ Some o) × InPriceRange o.price
found_stands (Orders s) i r o q e h g =
    let z : h.0 ≡ o = same h.0 o (sym h.1 ∙ e) in
    let d = all_nth (OnSide s) (at s q.stands) i h.0 h.2 (g.on_side s) in
    let n : slice_get (at s q.stands) i ≡ Some o = h.2 ∙ ap Some z in
    (subst (λ (y : Side). slice_get (at y q.stands) i ≡ Some o) (sym (subst (λ (x : Order). x.side ≡ s) z d.0)) n, subst (λ (x : Order). InPriceRange x.price) z d.1)
  where
    same : (a b : Order) → Standing a ≡ Standing b → a ≡ b
    same a b e = cc
found_stands (Stops s) i r o q e h g = absurd (apart h.0 (sym h.1 ∙ e))
  where
    apart : (x : _) → Waiting x ≡ Standing o → ⊥
    apart x e = let u : ◌≡◌ {A = ℕ} 0 1 = cc in omega arith

standing_ok : (r : Record) → IfOk (λ o. r ≡ Standing o) (standing_in r)
standing_ok (Standing o) = refl
standing_ok (Waiting x) = tt

quantity_ok : (c : Amendment) (o : Order) → IfOk (λ _. lots_traded o < new_quantity c o) (check_quantity c o)
quantity_ok c o = cond_both (leb (new_quantity c o) (lots_traded o)) (Err QuantityTraded) (Ok tt) (IfOk (λ _. lots_traded o < new_quantity c o)) (λ _. tt) (λ e. leb-false (new_quantity c o) (lots_traded o) e)

disclosed_ok : (c : Amendment) (o : Order) → IfOk (λ _. disclosed_barred (new_quantity c o) (new_disclosed c o) ≡ false) (check_disclosed c o)
disclosed_ok c o = cond_both (disclosed_barred (new_quantity c o) (new_disclosed c o)) (Err DisclosedBarred) (Ok tt)
    (IfOk (λ _. disclosed_barred (new_quantity c o) (new_disclosed c o) ≡ false)) (λ _. tt) (λ e. e)

new_few : (m : Option ℕ) (q : ℕ) → IfSome (λ n. (1 ≤ n) × (n ≤ 1000000)) m → q ≤ 1000000 → unwrap_or m q ≤ 1000000
new_few None q h k = k
new_few (Some n) q h k = h.1

new_in_range : (m : Option Price) (p : Price) → IfSome InPriceRange m → InPriceRange p → InPriceRange (unwrap_or m p)
new_in_range None p h k = k
new_in_range (Some n) p h k = h

valid_change : (c : Amendment) (o : Order) → ChangeInRanges c → InPriceRange o.price → lots_traded o < new_quantity c o →
    disclosed_barred (new_quantity c o) (new_disclosed c o) ≡ false → ValidChange c o
valid_change c o w l a d = record {
  above = a;
  allowed = allowed_from (new_quantity c o) (new_disclosed c o) (omega arith) (new_few c.quantity o.quantity w.quantity o.quantity_within_most) d;
  price_in_range = new_in_range c.price o.price w.price l;
}

-- what an accepted change's checks give
abbrev pub ChangeGiven : ChangeForm → MatchState → AmendPlan → Type 0
ChangeGiven form f p = ValidChange p.change p.order × RoomForStep f × (slice_get (at p.order.side f.queues.stands) p.at ≡ Some p.order) × (request (ChangeStep form) ≡ change p.change)

pub change_given : (form : ChangeForm) (f : MatchState) → ConsistentQueues f.queues → IfOk (ChangeGiven form f) (change_answer form f)
change_given form f g =
    ok_then (λ (a : AmendRequest). ChangeInRanges a.change × (validate_change form ≡ Ok a)) (ChangeGiven form f) (validate_change form) _
    (ok_is (λ (a : AmendRequest). ChangeInRanges a.change) (validate_change form) (change_ok form)) (λ a w.
    ok_then _ (ChangeGiven form f) (lines_free f.queues f.tape) _ (lines_ok f) (λ _ l.
    ok_then _ (ChangeGiven form f) (stamps_free f.queues f.session) _ (stamps_ok f) (λ _ s.
    ok_then (FoundAt f.queues) (ChangeGiven form f) (firms_record a.firm a.number f.queues) _ (found_ok a.firm a.number f.queues) (λ x k.
    ok_then _ (ChangeGiven form f) (client_free a.firm a.change.client (Some a.number) f.queues) _
    (any_ok (client_free a.firm a.change.client (Some a.number) f.queues)) (λ _ _.
    ok_then (λ o. x.«record» ≡ Standing o) (ChangeGiven form f) (standing_in x.«record») _ (standing_ok x.«record») (λ o e.
    ok_then _ (ChangeGiven form f) (check_quantity a.change o) _ (quantity_ok a.change o) (λ _ u.
    ok_then _ (ChangeGiven form f) (check_disclosed a.change o) _ (disclosed_ok a.change o) (λ _ d.
    (let z = found_stands x.queue x.at x.«record» o f.queues e (found_record_at x.queue x.at x.«record» f.queues k) g in
    (valid_change a.change o w.0 z.1 u d, record { free_lines = l; free_stamps = s }, z.0, ap change_requested w.1))))))))))

pub after_step_change : (form : ChangeForm) (f : MatchState) (t : Tally) → Quiescent f → TallyAgrees t f →
    AfterStep (ChangeStep form) t f (answered (change_answer form f)) (after_answer carry_out_plan (change_answer form f) f)
after_step_change form f t c m =
    after_step_of (ChangeStep form) f t (ChangeGiven form f) carry_out_plan (change_answer form f) c m (change_given form f c.consistent.queues)
    (λ p h. subst (λ (q : Request). AfterAccepted q t f (carry_out_plan p f)) (sym h.3) (accepted_change p.change p.at p.order f t h.2 h.0 h.1 c m))

-- removals

pub removals_have_room : (f : MatchState) → length (tape f) + needed f.queues ≤ f.tape.limit → RoomForRemovals f
removals_have_room f h = omega arith

cancel_given : (form : CancelForm) (f : MatchState) → IfOk (λ x. RoomForRemovals f × FoundAt f.queues x) (cancel_answer form f.queues f.tape)
cancel_given form f =
    ok_then _ (λ x. RoomForRemovals f × FoundAt f.queues x) (validate_cancel form) _ (any_ok (validate_cancel form)) (λ a _.
    ok_then _ (λ x. RoomForRemovals f × FoundAt f.queues x) (lines_free f.queues f.tape) _ (lines_ok f) (λ _ l.
    both (firms_record a.firm a.number f.queues) (removals_have_room f l) (found_ok a.firm a.number f.queues)))
  where
    both : (r : Result Found Refusal) → RoomForRemovals f → IfOk (FoundAt f.queues) r → IfOk (λ x. RoomForRemovals f × FoundAt f.queues x) r
    both (Ok x) s h = (s, h)
    both (Err e) s h = tt

pub after_step_cancel : (form : CancelForm) (f : MatchState) (t : Tally) → Quiescent f → TallyAgrees t f →
    AfterStep (Cancel form) t f (answered (cancel_answer form f.queues f.tape)) (after_answer cancel_found (cancel_answer form f.queues f.tape) f)
after_step_cancel form f t c m =
    after_step_of (Cancel form) f t (λ x. RoomForRemovals f × FoundAt f.queues x) cancel_found (cancel_answer form f.queues f.tape) c m (cancel_given form f)
    (λ x h. accepted_removals removal t f (cancel_found x f)
    (after_one_removal removal WasRequested x.queue x.at x.«record» f t (found_record_at x.queue x.at x.«record» f.queues h.1) c h.0 m))

mass_given : (form : MassCancelForm) (f : MatchState) → IfOk (λ _. RoomForRemovals f) (mass_cancel_answer form f.queues f.tape)
mass_given form f =
    ok_then _ (λ _. RoomForRemovals f) (validate_mass_cancel form) _ (any_ok (validate_mass_cancel form)) (λ w _.
    ok_then _ (λ _. RoomForRemovals f) (lines_free f.queues f.tape) _ (lines_ok f) (λ _ l. removals_have_room f l))

pub after_step_mass_cancel : (form : MassCancelForm) (f : MatchState) (t : Tally) → Quiescent f → TallyAgrees t f →
    AfterStep (MassCancel form) t f (answered (mass_cancel_answer form f.queues f.tape)) (after_answer cancel_matching (mass_cancel_answer form f.queues f.tape) f)
after_step_mass_cancel form f t c m =
    after_step_of (MassCancel form) f t (λ _. RoomForRemovals f) cancel_matching (mass_cancel_answer form f.queues f.tape) c m (mass_given form f)
    (λ w h. accepted_removals removal t f (cancel_matching w f) (after_removals removal (Matching w) WasRequested f t c h m))

pub after_step_day_orders : (f : MatchState) (t : Tally) → RoomForRemovals f → Quiescent f → TallyAgrees t f → AfterStep Closing t f (Ok tt) (cancel_day_orders f)
after_step_day_orders f t s c m = after_step_accepted Closing t f (cancel_day_orders f) (accepted_removals removal t f (cancel_day_orders f) (after_removals removal DayOrders DayClosed f t c s m))
