-- Where no record of a queue has a client number, none claims it.
use Rattle.std.proofs.Common.{◌≡◌, ℕ, Bool, true, false, ◌&&◌, ◌||◌, List, [], ◌∷◌, Option, eqb, true≢false, sym, refl, ◌∙◌}
use Rattle.std.specs.List.{list_any}
use Rattle.orders.specs.declared.order.Order.{Order}
use Rattle.books.specs.Model.{Queues, has_client, holds_client, orders_in}
use Rattle.books.specs.declared.queue.Queue.{Queue}
use Rattle.venue.specs.Known.{is_other, claims, claimed_in}

-- a test that fails fails with one condition more, and so does a list of them
and_more : (a b c : Bool) → (a && b) ≡ false → (a && (b && c)) ≡ false
and_more false b c e = refl
and_more true false c e = refl
and_more true true c e = absurd (true≢false e)

or_fewer : (a b c d : Bool) → (a ≡ false → c ≡ false) → (b ≡ false → d ≡ false) → (a || b) ≡ false → (c || d) ≡ false
or_fewer true b c d f g e = absurd (true≢false e)
or_fewer false b c d f g e = rw (f refl) (g e)

none_holds : (firm client : ℕ) (except : Option ℕ) (os : List Order) →
    list_any (has_client (λ (o : Order). o.firm) (λ (o : Order). o.client) firm client) os ≡ false → list_any (claims firm client except) os ≡ false
none_holds firm client except [] e = refl
none_holds firm client except (o ∷ os) e =
    or_fewer _ _ _ _ (and_more (eqb o.firm firm) (eqb o.client client) (is_other except o.number)) (none_holds firm client except os) e

-- a queue of which the book answers that it cannot have the client number
pub not_held : (firm client : ℕ) (except : Option ℕ) (n : Queue) (q : Queues) (may : Bool) →
    (holds_client firm client n q ≡ true → may ≡ true) → may ≡ false → claimed_in firm client except n q ≡ false
not_held firm client except n q may h e = none_holds firm client except (orders_in n q) (so (holds_client firm client n q) h)
  where
    so : (held : Bool) → (held ≡ true → may ≡ true) → held ≡ false
    so true f = absurd (true≢false (sym (f refl) ∙ e))
    so false f = refl
