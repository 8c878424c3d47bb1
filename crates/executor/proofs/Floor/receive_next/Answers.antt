use Rattle.std.proofs.Common.{◌≡◌, ℕ, List, ◌++◌, ◌∷◌, [], Ok, vec_items, refl, sym, append-nil, rules}
use Rattle.distributor_channels.specs.declared.ReceivePoll.{ReceivePoll}
use Rattle.distributor_channels.specs.declared.ReceivePoll.TheVariants.{Element}
use Rattle.executor.specs.declared.Delivery.{Delivery}
use Rattle.executor.proofs.Booking.{drained, delivers}
use Rattle.executor.proofs.Floor.receive_next.Goals as goal

undelivered : (k : ℕ) (p : ReceivePoll ℕ) → ((x y : ℕ) → p ≡ Element x y → ⊥) → (book : List Delivery) → book ≡ book ++ delivers k (Ok p)
undelivered k (Element x y) ne book = absurd (ne x y refl)
undelivered k _ ne book = sym (append-nil book)

pub returns-in_ok-push-clause-law : goal.returns-in_ok-push-clause-law
returns-in_ok-push-clause-law c = λ _ n v notices sent s.
    let e : vec_items c.push.new.self ≡ vec_items c.args.self.now.book ++ record { room = c.args.room; id = c.in-Element.id } ∷ [] = search rules in
    drained s c.args.room c.waker-waker.result _ _ (Ok (Element c.in-Element.id c.in-Element.field-1))
    (rw c.in-Element.is at c.in_ok-polled.ensures.law) (rw c.in-Element.is at c.in_ok-polled.ensures.history) _ e

pub returns-in_default : goal.returns-in_default
returns-in_default c = record {
  law = λ _ n v notices sent s.
      drained s c.args.room c.waker-waker.result _ _ (Ok c.in_ok-polled.polled) c.in_ok-polled.ensures.law c.in_ok-polled.ensures.history _
      (undelivered c.args.room c.in_ok-polled.polled c.in_default.not-Element (vec_items c.args.self.now.book));
  places = refl;
}
