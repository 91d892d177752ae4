-- What the checks of a form give: a valid entry, a change within its ranges (numbers 3).
use Rattle.std.proofs.Common.{◌≡◌, ℕ, ◌≤◌, false, ◌&&◌, ◌||◌, ltb, leb, Some, None, Ok, Err, Option, Result, unwrap_or, arith}
use Rattle.std.proofs.lemmas.Bool.{cond_both, and_parts, leb-true, or_parts, ltb-false}
use Rattle.std.proofs.lemmas.Bool.Decides.{nat_tests}
use Rattle.orders.specs.declared.price.Price.{Price}
use Rattle.orders.specs.Prices.{in_price_range}
use Rattle.orders.specs.Sides.{is_immediate}
use Rattle.forms.specs.declared.form.EntryForm.{EntryForm}
use Rattle.forms.specs.declared.form.ChangeForm.{ChangeForm}
use Rattle.forms.specs.declared.refusal.Refusal.{Refusal}
use Rattle.matching.specs.declared.new_order.NewOrder.{NewOrder}
use Rattle.matching.specs.declared.amendment.Amendment.{Amendment}
use Rattle.validation.specs.declared.changes.AmendRequest.{AmendRequest}
use Rattle.validation.specs.declared.cells.TypeCode.{TypeCode}
use Rattle.validation.specs.declared.cells.TypeCode.TheVariants.{Limit as LimitType, StopLimit as StopType, Market as MarketType}
use Rattle.forms.specs.Results.{and_then}
use Rattle.validation.specs.Cells.{blanks_first, in_range, if_filled, firm_in, identifier_in, lots_in, number_in, investor_in, tag_in, side_in, validity_in, price_in}
use Rattle.validation.specs.Combinations.{is_stop, disclosed_barred, barred}
use Rattle.validation.specs.Entries.{wrong_blank, type_in_cell, order_type_of, typed_entry, if_allowed, validate_entry}
use Rattle.validation.specs.Changes.{wrong_change_blank, typed_change, validity_barred, if_lasting, validate_change}
use Rattle.laws.proofs.ConsistentQueues.{InPriceRange}
use Rattle.laws.proofs.RowsInBounds.{QuantityAllowed}
use Rattle.laws.proofs.EntryArrives.{PricesInRange, ValidEntry}

-- a claim of the value of an Ok, or of a Some
abbrev pub IfOk : {A : Type 0} → (A → Type 0) → Result A Refusal → Type 0
IfOk P (Ok x) = P x
IfOk P (Err e) = Unit {0}

abbrev pub IfSome : {A : Type 0} → (A → Type 0) → Option A → Type 0
IfSome P (Some x) = P x
IfSome P None = Unit {0}

pub ok_then : {A B : Type 0} (Q : A → Type 0) (P : B → Type 0) (r : Result A Refusal) (k : A → Result B Refusal) → IfOk Q r → ((x : A) → Q x → IfOk P (k x)) →
    IfOk P (and_then r k)
ok_then Q P (Ok x) k h next = next x h
ok_then Q P (Err e) k h next = tt

pub any_ok : {A : Type 0} (r : Result A Refusal) → IfOk (λ _. Unit {0}) r
any_ok (Ok x) = tt
any_ok (Err e) = tt

-- a check of which only that it passes matters
any_then : {A B : Type 0} (P : B → Type 0) (r : Result A Refusal) (k : A → Result B Refusal) → ((x : A) → IfOk P (k x)) → IfOk P (and_then r k)
any_then P (Ok x) k next = next x
any_then P (Err e) k next = tt

number_ok : (low high at v : ℕ) → IfOk (λ n. (low ≤ n) × (n ≤ high)) (number_in low high at v)
number_ok low high at v = cond_both (leb low v && leb v high) (Ok v) (Err _) (IfOk (λ n. (low ≤ n) × (n ≤ high)))
    (λ e. let a = and_parts (leb low v) (leb v high) e in (leb-true low v a.0, leb-true v high a.1)) (λ _. tt)

price_ok : (at : ℕ) (p : Price) → IfOk InPriceRange (price_in at p)
price_ok at p = cond_both (in_price_range p) (Ok p) (Err _) (IfOk InPriceRange) (λ e. let a = and_parts (leb 1 p.hundredths) (leb p.hundredths 99999999) e in omega
    (arith, leb-true p.hundredths 99999999 a.1)) (λ _. tt)

filled_ok : {A B : Type 0} (P : B → Type 0) (f : A → Result B Refusal) → ((a : A) → IfOk P (f a)) → (m : Option A) → IfOk (IfSome P) (if_filled f m)
filled_ok P f h None = tt
filled_ok P f h (Some v) = go (f v) (h v)
  where
    go : (r : Result _ Refusal) → IfOk P r → IfOk (IfSome P) (and_then r (λ w. Ok (Some w)))
    go (Ok x) k = k
    go (Err e) k = tt

order_type_ok : (type : TypeCode) (price trigger : Option Price) → IfSome InPriceRange price → IfSome InPriceRange trigger → IfOk PricesInRange (order_type_of type price trigger)
order_type_ok LimitType (Some limit) trigger p t = p
order_type_ok LimitType None trigger p t = tt
order_type_ok MarketType price trigger p t = tt
order_type_ok StopType (Some limit) (Some trigger) p t = (p, t)
order_type_ok StopType (Some limit) None p t = tt
order_type_ok StopType None trigger p t = tt

pub allowed_from : (q d : ℕ) → 1 ≤ q → q ≤ 1000000 → disclosed_barred q d ≡ false → QuantityAllowed q d
allowed_from q d some few e = record { some = some; few = few; parts = λ h. grind (arith, nat_tests) }

-- the cells of an entry are within their ranges
pub record EntryInRanges (a : NewOrder) : Type 0 where
  pub price_in_range : PricesInRange a.order_type
  pub some : 1 ≤ a.quantity
  pub few : a.quantity ≤ 1000000

typed_ok : (f : EntryForm) → IfOk EntryInRanges (typed_entry f)
typed_ok f =
    any_then EntryInRanges (firm_in 1 (unwrap_or f.firm 0)) _ (λ firm.
    any_then EntryInRanges (identifier_in 2 (unwrap_or f.client 0)) _ (λ client.
    any_then EntryInRanges (side_in 3 (unwrap_or f.side 0)) _ (λ side.
    any_then EntryInRanges (in_range 4 (type_in_cell f.order_type)) _ (λ type.
    any_then EntryInRanges (validity_in 5 (unwrap_or f.validity 0)) _ (λ validity.
    ok_then (IfSome InPriceRange) EntryInRanges (if_filled (price_in 6) f.price) _ (filled_ok InPriceRange (price_in 6) (price_ok 6) f.price) (λ price p.
    ok_then (IfSome InPriceRange) EntryInRanges (if_filled (price_in 7) f.trigger) _ (filled_ok InPriceRange (price_in 7) (price_ok 7) f.trigger) (λ trigger t.
    ok_then (λ n. (1 ≤ n) × (n ≤ 1000000)) EntryInRanges (lots_in 1 8 (unwrap_or f.quantity 0)) _ (number_ok 1 1000000 8 (unwrap_or f.quantity 0)) (λ quantity q.
    any_then EntryInRanges (lots_in 0 9 (unwrap_or f.disclosed 0)) _ (λ disclosed.
    any_then EntryInRanges (lots_in 0 10 (unwrap_or f.minimum 0)) _ (λ minimum.
    any_then EntryInRanges (investor_in 11 (unwrap_or f.investor 0)) _ (λ investor.
    any_then EntryInRanges (tag_in 12 (unwrap_or f.tag 0)) _ (λ tag.
    ok_then PricesInRange EntryInRanges (order_type_of type price trigger) _ (order_type_ok type price trigger p t) (λ order_type k.
    record { price_in_range = k; some = q.0; few = q.1 })))))))))))))

allowed_ok : (a : NewOrder) → EntryInRanges a → IfOk ValidEntry (if_allowed a)
allowed_ok a r = cond_both (barred a) (Err _) (Ok a) (IfOk ValidEntry) (λ _. tt)
    (λ e. let b = or_parts (is_stop a.order_type && (is_immediate a.validity || ltb 0 a.minimum))
    ((is_immediate a.validity && ltb 0 a.disclosed) || (ltb a.quantity a.minimum || disclosed_barred a.quantity a.disclosed)) e in
    let c = or_parts (is_immediate a.validity && ltb 0 a.disclosed) (ltb a.quantity a.minimum || disclosed_barred a.quantity a.disclosed) b.1 in
    let d = or_parts (ltb a.quantity a.minimum) (disclosed_barred a.quantity a.disclosed) c.1 in
    record {
      allowed = allowed_from a.quantity a.disclosed r.some r.few d.1;
      price_in_range = r.price_in_range;
      stop = b.0;
      least = ltb-false a.quantity a.minimum d.0;
    })

pub entry_ok : (f : EntryForm) → IfOk ValidEntry (validate_entry f)
entry_ok f = go (wrong_blank f)
  where
    go : (m : Option ℕ) → IfOk ValidEntry (blanks_first m (and_then (typed_entry f) if_allowed))
    go None = ok_then EntryInRanges ValidEntry (typed_entry f) if_allowed (typed_ok f) allowed_ok
    go (Some cell) = tt

-- the cells of a change are within their ranges
pub record ChangeInRanges (c : Amendment) : Type 0 where
  pub price : IfSome InPriceRange c.price
  pub quantity : IfSome (λ n. (1 ≤ n) × (n ≤ 1000000)) c.quantity

abbrev RequestInRanges : AmendRequest → Type 0
RequestInRanges a = ChangeInRanges a.change

typed_change_ok : (f : ChangeForm) → IfOk RequestInRanges (typed_change f)
typed_change_ok f =
    any_then RequestInRanges (firm_in 1 (unwrap_or f.firm 0)) _ (λ firm.
    any_then RequestInRanges (identifier_in 2 (unwrap_or f.client 0)) _ (λ client.
    any_then RequestInRanges (identifier_in 3 (unwrap_or f.number 0)) _ (λ number.
    ok_then (IfSome InPriceRange) RequestInRanges (if_filled (price_in 4) f.price) _ (filled_ok InPriceRange (price_in 4) (price_ok 4) f.price) (λ price p.
    ok_then (IfSome (λ n. (1 ≤ n) × (n ≤ 1000000))) RequestInRanges (if_filled (lots_in 1 5) f.quantity) _
    (filled_ok (λ n. (1 ≤ n) × (n ≤ 1000000)) (lots_in 1 5) (number_ok 1 1000000 5) f.quantity) (λ quantity q.
    any_then RequestInRanges (if_filled (lots_in 0 6) f.disclosed) _ (λ disclosed.
    any_then RequestInRanges (if_filled (validity_in 7) f.validity) _ (λ validity.
    record { price = p; quantity = q })))))))

pub change_ok : (f : ChangeForm) → IfOk RequestInRanges (validate_change f)
change_ok f = go (wrong_change_blank f)
  where
    lasting : (a : AmendRequest) → RequestInRanges a → IfOk RequestInRanges (if_lasting a)
    lasting a r = cond_both (validity_barred a.change.validity) (Err _) (Ok a) (IfOk RequestInRanges) (λ _. tt) (λ _. r)

    go : (m : Option ℕ) → IfOk RequestInRanges (blanks_first m (and_then (typed_change f) if_lasting))
    go None = ok_then RequestInRanges RequestInRanges (typed_change f) if_lasting (typed_change_ok f) lasting
    go (Some cell) = tt
