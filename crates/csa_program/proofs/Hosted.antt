-- The run of a server, once it has ended.
use Rattle.std.proofs.Common.{◌≡◌, ℕ, List, [], Bool, false, length, subst, sym}
use Rattle.atomic_table.specs.Seated.{TableId}
use Rattle.command_requests.specs.declared.ends.SessionCounts.{SessionCounts}
use Rattle.command_requests.specs.declared.requests.ServeRequest.{ServeRequest}
use Rattle.csa_program.specs.Acceptor.{AreAsMany}
use Rattle.csa_program.specs.Hosting.{IsHosted, IsRunTo, first_loader, form_asked}
use Rattle.shelves.specs.ShelfLoads.{ShelfLoaderValue}
use Rattle.shelves.specs.ShelfSeats.{NoticeValue, SeatsHanded, ShelfSeatValue, shelf_seats}
use Rattle.image_layout.specs.Image.{ImageValue}
use Rattle.client_queue.specs.Dealing.{SourceWords}
use Rattle.lines.specs.Streams.{StreamWords}
use Rattle.feed_loads.specs.Words.{LoadWords}
use Rattle.session.specs.declared.reply_form.ReplyForm.{ReplyForm}
use Rattle.workers.specs.Headline.{IsServerRunAt, ServerInput, server_input_of}
use Rattle.workers.specs.Words.{ClientWords, SessionWords, sessions_of}
use Rattle.workers.specs.declared.outcome.ServingOutcome.{ServingOutcome}

-- a run whose replies have the form that is wanted
pub in_form : {C R W K F D : Type 0} (clients : ClientWords C R W) (reads : StreamWords R) (writes : StreamWords W)
    (source : SourceWords K C) (loads : LoadWords F D TableId ShelfLoaderValue NoticeValue) (form wanted : ReplyForm)
    (input : ServerInput K TableId ShelfSeatValue ShelfLoaderValue F) (ran : ServingOutcome R W K ShelfSeatValue ShelfLoaderValue NoticeValue D)
    → form ≡ wanted → IsServerRunAt (sessions_of form clients reads writes shelf_seats) source loads input ran
    → IsServerRunAt (sessions_of wanted clients reads writes shelf_seats) source loads input ran
in_form clients reads writes source loads form wanted input ran same run =
    subst (λ (f : ReplyForm). IsServerRunAt (sessions_of f clients reads writes shelf_seats) source loads input ran) same run

module _ {C R W K F D : Type 0} (words : ReplyForm → SessionWords C R W TableId ShelfSeatValue NoticeValue) (source : SourceWords K C)
    (loads : LoadWords F D TableId ShelfLoaderValue NoticeValue) (keeps : ServeRequest → K → Type 0) (has_failed : K → Bool)
    (are_feeds : ServeRequest → List ℕ → F → Type 0) (request : ServeRequest) (image : ImageValue) (zone_bytes : List ℕ) where
  -- the run of a server that began with these clients, shelves and feeds, and ended so
  pub hosted_run : (table : TableId) (seats : List ShelfSeatValue) (loader : ShelfLoaderValue) (clients : K) (feeds : F) (IsWanted : ℕ → Type 0)
      (ends : SessionCounts) (is_deaf : Bool)
      → loader ≡ first_loader table image → SeatsHanded table request.workers.number seats → source.came clients ≡ [] → has_failed clients ≡ false
      → keeps request clients
      → are_feeds request zone_bytes feeds → IsWanted request.sessions
      → IsRunTo {D = D} (IsServerRunAt (words (form_asked request)) source loads (server_input_of clients table seats loader feeds)) IsWanted has_failed
      ends is_deaf
      → IsHosted words source loads keeps has_failed are_feeds request image zone_bytes ends is_deaf
  hosted_run table seats loader clients feeds IsWanted ends is_deaf first new none whole kept asked wanted to = record {
    table = table;
    seats = seats;
    clients = clients;
    feeds = feeds;
    ran = to.ran;
    new = new;
    none_came = none;
    not_failed_at_first = whole;
    rules_at_first = kept;
    asked = asked;
    run = subst (λ (l : ShelfLoaderValue). IsServerRunAt (words (form_asked request)) source loads (server_input_of clients table seats l feeds) to.ran)
        first to.is;
    many = subst (λ (d : Bool). AreAsMany request.sessions (length to.ran.served) d) (sym to.deaf) (to.many request.sessions wanted);
    deaf = to.deaf;
    counted = to.counted;
  }
