-- A server's whole run, as it was asked for.
use Rattle.std.specs.Prelude.{◌≡◌, ℕ, List, [], Bool, false, length}
use Rattle.atomic_table.specs.Seated.{TableId}
use Rattle.command_requests.specs.declared.ends.SessionCounts.{SessionCounts}
use Rattle.command_requests.specs.declared.requests.ServeRequest.{ServeRequest}
use Rattle.shelves.specs.ShelfLoads.{ShelfLoaderValue}
use Rattle.shelves.specs.ShelfSeats.{NoticeValue, SeatsHanded, ShelfSeatValue}
use Rattle.image_layout.specs.Image.{ImageValue}
use Rattle.session.specs.declared.reply_form.ReplyForm.{ReplyForm}
use Rattle.shelf_steps.specs.Handed.{handed}
use Rattle.shelf_steps.specs.declared.views.View.{View}
use Rattle.workers.specs.Headline.{IsServerRunAt, server_input_of}
use Rattle.client_queue.specs.Dealing.{SourceWords}
use Rattle.feed_loads.specs.Words.{LoadWords}
use Rattle.workers.specs.Words.{SessionWords}
use Rattle.workers.specs.declared.outcome.ServingOutcome.{ServingOutcome}
use Rattle.csa_program.specs.Acceptor.{AreAsMany}
use Rattle.csa_program.specs.Serving.{counts_of, form_with}

-- the loader's seat of new shelves that hold the image as version 1
abbrev pub first_loader : TableId → ImageValue → ShelfLoaderValue
first_loader table image = record {
  table = table;
  view =
      View.Loading (handed 16 image);
  current = 1;
  answers = [];
}

-- the form of the replies that are asked for
abbrev pub form_asked : ServeRequest → ReplyForm
form_asked request = form_with request.legs request.longest request.sets

-- `Is` holds of some run, whose sessions ended in these ways; `is_deaf` says whether its source of clients failed. They were as many as clients were wanted,
-- if any number was, unless that source failed
pub record IsRunTo {R W K D : Type 0} (Is : ServingOutcome R W K ShelfSeatValue ShelfLoaderValue NoticeValue D → Type 0) (IsWanted : ℕ → Type 0)
    (has_failed : K → Bool) (ends : SessionCounts) (is_deaf : Bool) : Type 0 where
  pub ran : ServingOutcome R W K ShelfSeatValue ShelfLoaderValue NoticeValue D
  pub is : Is ran
  pub many : (wanted : ℕ) → IsWanted wanted → AreAsMany wanted (length ran.served) (has_failed ran.clients)
  pub deaf : is_deaf ≡ has_failed ran.clients
  pub counted : ends ≡ counts_of ran.served

-- `keeps` says whether a source of clients keeps the rules that are asked for, and `has_failed` whether it failed; `are_feeds` whether these are the feeds
-- of a request, with the bytes of its zone's file
module _ {C R W K F D : Type 0} (words : ReplyForm → SessionWords C R W TableId ShelfSeatValue NoticeValue) (source : SourceWords K C)
    (loads : LoadWords F D TableId ShelfLoaderValue NoticeValue) (keeps : ServeRequest → K → Type 0) (has_failed : K → Bool)
    (are_feeds : ServeRequest → List ℕ → F → Type 0) where
  -- a whole run of a server over new shelves that hold the image as version 1, of the feeds, at the seats of the workers and with the form of replies that are
  -- asked for. Accepting hadn't failed before. As many clients came and were served as are asked for, unless it failed, and their sessions ended in these ways
  pub record IsHosted (request : ServeRequest) (image : ImageValue) (zone_bytes : List ℕ) (ends : SessionCounts) (is_deaf : Bool) : Type 0 where
    pub table : TableId
    pub seats : List ShelfSeatValue
    pub clients : K
    pub feeds : F
    pub ran : ServingOutcome R W K ShelfSeatValue ShelfLoaderValue NoticeValue D
    pub new : SeatsHanded table request.workers.number seats
    pub none_came : source.came clients ≡ []
    pub not_failed_at_first : has_failed clients ≡ false
    pub rules_at_first : keeps request clients
    pub asked : are_feeds request zone_bytes feeds
    pub run : IsServerRunAt (words (form_asked request)) source loads (server_input_of clients table seats (first_loader table image) feeds) ran
    pub many : AreAsMany request.sessions (length ran.served) is_deaf
    pub deaf : is_deaf ≡ has_failed ran.clients
    pub counted : ends ≡ counts_of ran.served
