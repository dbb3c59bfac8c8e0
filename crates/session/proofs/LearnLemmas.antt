-- What a seat comes to know, and what profiles are answered from.
use Rattle.std.proofs.Common.{◌≡◌, ℕ, List, [], ◌∷◌, ◌++◌, Option, Some, None, Result, Ok, Err, refl, sym, ap, ◌∙◌}
use Rattle.std.proofs.Common.{All, subst, append_assoc, append-nil, inl, inr}
use Rattle.std.proofs.lemmas.List.{append_cancel_left}
use Rattle.std.proofs.lemmas.List.Elements.{All-cons, All-head, All-nil, All-tail}
use Rattle.image_layout.specs.Image.{ImageValue}
use Rattle.shelf_steps.specs.declared.views.KnownHistory.{KnownHistory}
use Rattle.shelves.specs.declared.answers.SeatAnswer.{SeatAnswer}
use Rattle.shelves.specs.declared.faults.PinFault.{PinFault}
use Rattle.shelves.specs.SeatHistory.{Grows, HoldsAsKnown, IsPublished, LearnsBy}
use Rattle.shelves.specs.Seats.{SeatValue, ShowsPin, ShowsRelease, ShowsJoin}
use Rattle.shelves.specs.Words.{SeatWords}
use Rattle.shelves.proofs.GrowthLemmas.{grows_same, learns_both, learns_nothing, learns_one, published_stay}
use Rattle.session_texts.specs.Requests.{AskValue}
use Rattle.session.specs.declared.reply_form.ReplyForm.{ReplyForm}
use Rattle.session.specs.Lines.{LineMeaning}
use Rattle.session.specs.SeatSteps.{AnswerStep, Follows, SeatMove, answered, joined, answers_in}
use Rattle.session.specs.Sessions.{AreExchanges, LastRelease, moves_of}
use Rattle.session.specs.Exchanges.{Exchange, IsExchange, Meets, ProfileIsMet, SeatState, deed_of, seat_state}
use Rattle.session.specs.Learning.{ExchangeIsFromPublished, ExchangesAreFromPublished, FitsAndLearns, IsPublishedIfHeld, Learns, LearningTells}
use Rattle.session.specs.Learning.{PinIsPublished, ReplyIsFromPublished}
use Rattle.session.proofs.SeatLemmas.{answers_grow, is_pinned, pin_refused, release_refused, steps}
use Rattle.session.specs.Replies.{ReplyValue}
use Rattle.session.proofs.ExchangeLemmas.{moves_follow}

-- what was published stays so
published_later : (k later : KnownHistory) (answer : SeatAnswer) → Grows k later → PinIsPublished k answer → PinIsPublished later answer
published_later k later (SeatAnswer.Pinned version image) grows is = published_stay k later version image.value grows is
published_later k later answer grows is = tt

parts_of : {A : Type 0} (P : A → Type 0) (xs ys : List A) → All P (xs ++ ys) → All P xs × All P ys
parts_of P [] ys all = (All-nil P, all)
parts_of P (x ∷ xs) ys all =
    let rest = parts_of P xs ys (All-tail P x (xs ++ ys) all) in
    (All-cons P x xs (All-head P x (xs ++ ys) all) rest.0, rest.1)

pub learns_same : (k : KnownHistory) (a : SeatValue) → Learns k a k a
learns_same k a = learns_nothing PinIsPublished k k a.answers (grows_same k)

pub learns_on : (k : KnownHistory) (a : SeatValue) (l : KnownHistory) (m : SeatValue) (n : KnownHistory) (b : SeatValue) → Learns k a l m → Learns l m n b
    → Learns k a n b
learns_on k a l m n b p q = learns_both PinIsPublished published_later k l n a.answers m.answers b.answers p q

-- a seat at which nothing was done, and calls one behind the other
pub goes_on_same : {T S N : Type 0} (words : SeatWords T S N) (shelves : T) (s : S) → words.fits shelves s → FitsAndLearns words shelves s s
goes_on_same words shelves s fits = record { fits = fits; number = refl; learns = learns_same (words.known s) (words.shown s) }

pub goes_on : {T S N : Type 0} (words : SeatWords T S N) (shelves : T) (a m b : S) → FitsAndLearns words shelves a m → FitsAndLearns words shelves m b
    → FitsAndLearns words shelves a b
goes_on words shelves a m b p q =
    record {
      fits = q.fits;
      number = q.number ∙ p.number;
      learns = learns_on (words.known a) (words.shown a) (words.known m) (words.shown m) (words.known b) (words.shown b) p.learns q.learns;
    }

-- one answer
learns_answer : (k l : KnownHistory) (number : ℕ) (a b : SeatValue) (answer : SeatAnswer) → AnswerStep number a answer b → Grows k l
    → PinIsPublished l answer → Learns k a l b
learns_answer k l number a b answer step grows told =
    learns_one PinIsPublished k l a.answers b.answers answer grows (steps number a b answer step).answers told

pub learns_pinned : (k l : KnownHistory) (number : ℕ) (a b : SeatValue) → ShowsPin a (Ok tt) b → Grows k l → HoldsAsKnown l number b.held → Learns k a l b
learns_pinned k l number a b step grows known =
    let pinned = is_pinned l number number a b refl known step in
    let holds = subst (λ (h : Option (ℕ × ImageValue)). HoldsAsKnown l number h) pinned.held known in
    learns_answer k l number a b (SeatAnswer.Pinned pinned.version pinned.shown) pinned.step grows holds.published

pub learns_unpinned : (k l : KnownHistory) (a b : SeatValue) (fault : PinFault) → ShowsPin a (Err fault) b → Grows k l → Learns k a l b
learns_unpinned k l a b fault step grows =
    learns_one PinIsPublished k l a.answers b.answers (SeatAnswer.PinRefused fault) grows (pin_refused a b fault step).answers tt

pub learns_by_release : (k l : KnownHistory) (a b : SeatValue) (r : Result (Unit {0}) PinFault) → ShowsRelease a r b → Grows k l → Learns k a l b
learns_by_release k l a b (Ok u) step grows = learns_answer k l 0 a b SeatAnswer.Released step grows tt
learns_by_release k l a b (Err fault) step grows =
    learns_one PinIsPublished k l a.answers b.answers (SeatAnswer.ReleaseRefused fault) grows (release_refused a b fault step).answers tt

pub learns_by_notice : (k l : KnownHistory) (a b : SeatValue) (version : ℕ) → ShowsJoin a version b → l ≡ k → Learns k a l b
learns_by_notice k l a b version step same =
    subst (λ (answers : List SeatAnswer). LearnsBy PinIsPublished k a.answers l answers) (sym (ap (λ (s : SeatValue). s.answers) step))
    (learns_nothing PinIsPublished k l a.answers (subst (λ (x : KnownHistory). Grows k x) (sym same) (grows_same k)))

pub ruleset pins = (learns_pinned, learns_unpinned)

-- a pin and what gives it back
pub goes_once : {T S N : Type 0} (words : SeatWords T S N) (shelves : T) (a m b : S) (back : Result (Unit {0}) PinFault)
    → words.number m ≡ words.number a → Grows (words.known a) (words.known m) → HoldsAsKnown (words.known m) (words.number m) (words.shown m).held
    → ShowsPin (words.shown a) (Ok tt) (words.shown m) → words.fits shelves b → words.number b ≡ words.number m
    → Grows (words.known m) (words.known b) → ShowsRelease (words.shown m) back (words.shown b) → FitsAndLearns words shelves a b
goes_once words shelves a m b back number grows known pins fits number_then more releases = record {
  fits = fits;
  number = number_then ∙ number;
  learns = learns_on _ (words.shown a) (words.known m) (words.shown m) _ (words.shown b) (learns_pinned _ _ _ _ _ pins grows known)
      (learns_by_release _ _ _ _ back releases more);
}

-- what is held after these moves was published, if what was held before was
held_published : (number : ℕ) (k : KnownHistory) (a b : SeatValue) (moves : List SeatMove) → Follows number a moves b → IsPublishedIfHeld k a.held
    → All (PinIsPublished k) (answers_in moves) → IsPublishedIfHeld k b.held
held_published number k a b [] same held are = subst (λ (s : SeatValue). IsPublishedIfHeld k s.held) (sym same) held
held_published number k a b (answered answer ∷ moves) (m, step, rest) held are =
    held_published number k m b moves rest ((steps number a m answer step).held k held (All-head (PinIsPublished k) answer (answers_in moves) are))
    (All-tail (PinIsPublished k) answer (answers_in moves) are)
held_published number k a b (joined version ∷ moves) (m, step, rest) held are =
    held_published number k m b moves rest (subst (λ (s : SeatValue). IsPublishedIfHeld k s.held) (sym step) held) are

-- a profile is answered from what was published
profile_from : (k : KnownHistory) (form : ReplyForm) (held : Option (ℕ × ImageValue)) (ask : AskValue) (moves : List SeatMove) (reply : ReplyValue)
    → ProfileIsMet form held ask moves reply → IsPublishedIfHeld k held → All (PinIsPublished k) (answers_in moves) → ReplyIsFromPublished k form ask reply
profile_from k form (Some h) ask moves reply met held are = inl (h.0, h.1, held, met.1)
profile_from k form None ask moves reply (inl met) held are =
    let once = subst (λ (xs : List SeatMove). All (PinIsPublished k) (answers_in xs)) met.once.moves_are are in
    let told = All-head (PinIsPublished k) (SeatAnswer.Pinned met.version met.once.shown) (SeatAnswer.Released ∷ []) once in
    inl (met.version, met.image, subst (λ (i : ImageValue). IsPublished k met.version i) met.once.image_is told, met.replied)
profile_from k form None ask moves reply (inr refused) held are = inr (refused.fault, refused.reply_is)

exchange_from : (k : KnownHistory) (form : ReplyForm) (held : Option (ℕ × ImageValue)) (t : Exchange) → IsExchange form held t → IsPublishedIfHeld k held
    → All (PinIsPublished k) (answers_in t.moves) → ExchangeIsFromPublished k form t
exchange_from k form held t (inl memory) published are = inl (ap (λ (r : ReplyValue). r.text) memory.0)
exchange_from k form held t (inr (asked, is, inl memory)) published are = inl (ap (λ (r : ReplyValue). r.text) memory.0)
exchange_from k form held t (inr (asked, is, inr met)) published are = inr (
  asked,
  is,
  λ ask same.
      let profile_met = subst (λ (m : LineMeaning). Meets form held m (deed_of t.moves t.orders t.reply)) same met in
      profile_from k form held ask t.moves t.reply profile_met.1 published are,
)

answers_in-append : (xs ys : List SeatMove) → answers_in (xs ++ ys) ≡ answers_in xs ++ answers_in ys
answers_in-append [] ys = refl
answers_in-append (answered answer ∷ xs) ys = ap (λ (zs : List SeatAnswer). answer ∷ zs) (answers_in-append xs ys)
answers_in-append (joined version ∷ xs) ys = answers_in-append xs ys

exchanges_from : (k : KnownHistory) (form : ReplyForm) (number : ℕ) (a b : SeatState) (exchanges : List Exchange)
    → AreExchanges form number a exchanges b → IsPublishedIfHeld k a.seat.held → All (PinIsPublished k) (answers_in (moves_of exchanges))
    → ExchangesAreFromPublished k form exchanges
exchanges_from k form number a b [] same held are = tt
exchanges_from k form number a b (t ∷ exchanges) (m, exchange, rest) held are =
    let parts = parts_of (PinIsPublished k) (answers_in t.moves) (answers_in (moves_of exchanges))
    (subst (λ (xs : List SeatAnswer). All (PinIsPublished k) xs) (answers_in-append t.moves (moves_of exchanges)) are) in (
      exchange_from k form a.seat.held t exchange.is held parts.0,
      exchanges_from k form number m b exchanges rest (held_published number k a.seat m.seat t.moves exchange.seat held parts.0) parts.1,
    )

-- what was answered in the exchanges, and by the release behind them
released_too : (number : ℕ) (last b : SeatValue) → LastRelease number last b → (rest : List SeatAnswer) × (b.answers ≡ last.answers ++ rest)
released_too number last b (inl kept) = ([], ap (λ (s : SeatValue). s.answers) kept.1 ∙ sym (append-nil last.answers))
released_too number last b (inr gave) = (SeatAnswer.Released ∷ [], (steps number last b SeatAnswer.Released gave.1).answers)

-- what exchanges tell, by what the seat learned in them
pub learning_tells : LearningTells
learning_tells k l a b learns = λ held form number exchanges led.
    let moves = answers_in (moves_of exchanges) in
    let grown = answers_grow number a led.last.seat (moves_of exchanges) (moves_follow form number (seat_state a led.asked) led.last exchanges led.does) in
    let rest = released_too number led.last.seat b led.released in
    let all : b.answers ≡ a.answers ++ (moves ++ rest.0) =
    rest.1 ∙ ap (λ (xs : List SeatAnswer). xs ++ rest.0) grown ∙ append_assoc a.answers moves rest.0 in
    let same : learns.answers ≡ moves ++ rest.0 =
    append_cancel_left a.answers learns.answers (moves ++ rest.0) (sym learns.answers_are ∙ all) in
    let parts = parts_of (PinIsPublished l) moves rest.0 (subst (λ (xs : List SeatAnswer). All (PinIsPublished l) xs) same learns.published) in
    exchanges_from l form number (seat_state a led.asked) led.last exchanges led.does held parts.0
