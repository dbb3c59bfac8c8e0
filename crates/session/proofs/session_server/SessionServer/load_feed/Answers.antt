use Rattle.std.proofs.Common.{◌≡◌, ◌⊎◌, ℕ, List, [], ◌∷◌, ◌∙◌, Ok, ap, refl, sym, subst, inl, inr}
use Rattle.shelves.specs.Seats.{SeatValue, ShowsJoin}
use Rattle.orders.specs.Ordering.{waited_value}
use Rattle.session_texts.specs.Replies.{line_of, loaded_data}
use Rattle.session.specs.Lines.{memory_line}
use Rattle.session.specs.SeatSteps.{joined}
use Rattle.session.specs.Exchanges.{IsLoaded, deed_of}
use Rattle.session.specs.Replies.{ReplyValue, plain}
use Rattle.session.proofs.session_server.SessionServer.load_feed.Goals as goal

-- the notice is of the version that is reported
version_met : (number : ℕ) (a b : SeatValue) (feed : List ℕ) (version noted : ℕ) (reply : ReplyValue) → noted ≡ version → ShowsJoin a noted b
    → (reply ≡ plain (line_of (loaded_data feed version))) ⊎ (reply ≡ plain memory_line)
    → IsLoaded number a feed (deed_of (joined version ∷ []) (waited_value feed (Ok version) ∷ []) reply) b
version_met number a b feed version noted reply same step fact = record {
  meets = inl (record { version = version; moves_are = refl; orders_are = refl; reply_is = fact });
  seat = (b, subst (λ (n : ℕ). ShowsJoin a n b) same step, refl);
}

pub returns-in-Ok-loaded_line-clause-met : goal.returns-in-Ok-loaded_line-clause-met
returns-in-Ok-loaded_line-clause-met g c =
    let same = sym (c.requires.notices c.in-Ok.notice) ∙ c.in-Ok.ensures.notice in
    let made = c.made.ensures ∙ ap plain c.in-Ok-loaded_line.ensures in
    (deed_of _ _ _, refl, c.in-Ok.ensures.asked, version_met _ _ _ _ c.in-Ok.version _ _ same c.take_notice.ensures.joined (inl made))

pub returns-in-Err-loaded_line-clause-met : goal.returns-in-Err-loaded_line-clause-met
returns-in-Err-loaded_line-clause-met g c =
    let same = sym (c.requires.notices c.in-Ok.notice) ∙ c.in-Ok.ensures.notice in
    (deed_of _ _ _, refl, c.in-Ok.ensures.asked, version_met _ _ _ _ c.in-Ok.version _ _ same c.take_notice.ensures.joined (inr c.refusal.ensures))

pub returns-in-Err-clause-met : goal.returns-in-Err-clause-met
returns-in-Err-clause-met g c = (
  deed_of [] _ _,
  refl,
  c.in-Err.ensures.asked,
  record {
    meets = inr (record { fault = c.in-Err.refused; moves_are = refl; orders_are = refl; reply_is = c.order_fault.ensures });
    seat = refl;
  },
)
