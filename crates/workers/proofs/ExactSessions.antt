-- What sessions reported, by the history that their seat knows in the end.
use Rattle.std.proofs.Common.{◌≡◌, ◌∷◌, ℕ, List, [], Option, Some, None, sym, subst}
use Rattle.image_layout.specs.Image.{ImageValue}
use Rattle.shelf_steps.specs.declared.views.KnownHistory.{KnownHistory}
use Rattle.session.specs.Learning.{IsPublishedIfHeld, Learns, PinIsPublished, SeatAnswersFromPublished}
use Rattle.session.specs.Exchanges.{seat_state}
use Rattle.session.specs.declared.session_server.Streams.{Streams}
use Rattle.shelves.proofs.GrowthLemmas.{learns_nothing}
use Rattle.session.proofs.LearnLemmas.{learning_tells, learns_on, learns_same}
use Rattle.workers.specs.Ends.{Session}
use Rattle.workers.specs.Sessions.{AreExact, AreServed, IsExact, IsServed, WorkerState, served_client_of}
use Rattle.workers.specs.Words.{SessionWords}
use Rattle.workers.specs.declared.served.SessionEnd.{SessionEnd}

module _ {C R W T S N : Type 0} (words : SessionWords C R W T S N) where
  -- what a seat knows only grows
  knows_more : (clients : List C) (sessions : List (Session R W S)) (a b : WorkerState S) → AreServed words clients sessions a b
      → Learns (words.seats.known a.seat) (words.seats.shown a.seat) (words.seats.known b.seat) (words.seats.shown b.seat)
  knows_more [] [] a b served =
      subst (λ (s : WorkerState S). Learns (words.seats.known a.seat) (words.seats.shown a.seat) (words.seats.known s.seat) (words.seats.shown s.seat))
      (sym served) (learns_same (words.seats.known a.seat) (words.seats.shown a.seat))
  knows_more (client ∷ clients) (session ∷ sessions) a b served =
      let m = served.0 in
      learns_on (words.seats.known a.seat) (words.seats.shown a.seat) (words.seats.known m.seat) (words.seats.shown m.seat)
      (words.seats.known b.seat) (words.seats.shown b.seat) served.1.learns (knows_more clients sessions m b served.2)
  knows_more clients sessions a b served = absurd served

  -- a session at a seat that held nothing, which tells what this history published
  exact_one : (history : KnownHistory) (client : C) (now : Option (Streams R W S)) (end : SessionEnd) (a m : WorkerState S)
      → (words.seats.shown a.seat).held ≡ None → IsServed words client (now, end) a m
      → SeatAnswersFromPublished history (words.seats.shown a.seat) (words.seats.shown m.seat)
      → IsExact words history (served_client_of client (now, end)) a m
  exact_one history client None end a m none served tells = served
  exact_one history client (Some now) end a m none served tells =
      let held = subst (λ (h : Option (ℕ × ImageValue)). IsPublishedIfHeld history h) (sym none) tt in (
        served,
        tells held words.form (words.seats.number a.seat) served.serves.exchanges
            (record { asked = a.asked; last = seat_state served.last m.asked; does = served.serves.does; released = served.released }),
      )

  -- each session reported what was published in the history that the seat knew then, so also what was published in that which it knows in the end
  pub exact : (clients : List C) (sessions : List (Session R W S)) (a b : WorkerState S) → (words.seats.shown a.seat).held ≡ None
      → AreServed words clients sessions a b → AreExact words clients sessions a b
  exact [] [] a b none served = served
  exact (client ∷ clients) (session ∷ sessions) a b none served =
      let m = served.0 in
      let at = served.1 in
      let rest = knows_more clients sessions m b served.2 in
      let known = words.seats.known in
      let learns = learns_on (known a.seat) (words.seats.shown a.seat) (known m.seat) (words.seats.shown m.seat)
      (known b.seat) (words.seats.shown m.seat) at.learns (learns_nothing PinIsPublished (known m.seat) (known b.seat) _ rest.grows) in
      let tells = learning_tells (known a.seat) (known b.seat) (words.seats.shown a.seat) (words.seats.shown m.seat) learns in (
        m,
        exact_one (known b.seat) client session.0 session.1 a m none at.served tells,
        exact clients sessions m b (at.idle none) served.2,
      )
  exact clients sessions a b none served = absurd served
