-- What a seat knows only grows.
use Rattle.std.proofs.Common.{◌≡◌, List, [], ◌∷◌, ◌++◌, Some, sym, ap, ◌∙◌, subst, append_assoc, append-nil}
use Rattle.std.proofs.lemmas.List.Elements.{All-append, All-cons, All-nil}
use Rattle.version_core.specs.declared.event.Event.{Event}
use Rattle.version_core.specs.declared.event.Reply.{Reply}
use Rattle.shelf_steps.specs.declared.views.KnownHistory.{KnownHistory}
use Rattle.shelf_steps.specs.declared.views.View.{View}
use Rattle.shelf_steps.specs.EventHistory.{Happened}
use Rattle.shelf_steps.proofs.Courses.{image_later, prefix_same, prefix_trans}
use Rattle.shelves.specs.SeatHistory.{Grows, GrowthsJoin, LearnsBy, OneImageEach, PublishedStay}
use Rattle.shelf_steps.specs.Events.{known_of}

pub grows_same : (k : KnownHistory) → Grows k k
grows_same k = record { events = prefix_same k.events; replies = prefix_same k.replies; images = prefix_same k.images }

pub growths_join : GrowthsJoin
growths_join a b c p q = record {
  events = prefix_trans a.events b.events c.events p.events q.events;
  replies = prefix_trans a.replies b.replies c.replies p.replies q.replies;
  images = prefix_trans a.images b.images c.images p.images q.images;
}

pub happened_grows : (k k' : KnownHistory) (e : Event) (r : Reply) → Happened k e r k' → Grows k k'
happened_grows k k' e r h = record {
  events = (h.events.0 ++ e ∷ [], sym (h.events.1 ∙ append_assoc k.events h.events.0 (e ∷ [])));
  replies = (h.replies.0 ++ r ∷ [], sym (h.replies.1 ∙ append_assoc k.replies h.replies.0 (r ∷ [])));
  images = h.images;
}

pub same_grows : (u u' : View) → u' ≡ u → Grows (known_of u) (known_of u')
same_grows u u' same = subst (λ (x : View). Grows (known_of u) (known_of x)) (sym same) (grows_same (known_of u))

pub published_stay : PublishedStay
published_stay a b version image grows is = image_later a.images b.images version image grows.images is

pub one_image_each : OneImageEach
one_image_each a b version image other grows is then =
    let both : Some other ≡ Some image = sym then ∙ published_stay a b version image grows is in cc

module _ {A : Type 0} (tells : KnownHistory → A → Type 0) where
  -- nothing was answered
  pub learns_nothing : (k later : KnownHistory) (answers : List A) → Grows k later → LearnsBy tells k answers later answers
  learns_nothing k later answers grows = record { grows = grows; answers = []; answers_are = sym (append-nil answers); published = All-nil (tells later) }

  -- and one behind the other, where what an answer tells stays so
  pub learns_both : ((k later : KnownHistory) (answer : A) → Grows k later → tells k answer → tells later answer)
      → (k l n : KnownHistory) (before between after : List A) → LearnsBy tells k before l between → LearnsBy tells l between n after
      → LearnsBy tells k before n after
  learns_both stays k l n before between after p q = record {
    grows = growths_join k l n p.grows q.grows;
    answers = p.answers ++ q.answers;
    answers_are = q.answers_are ∙ ap (λ (xs : List A). xs ++ q.answers) p.answers_are ∙ append_assoc before p.answers q.answers;
    published = All-append (tells n) p.answers q.answers (λ i d below. stays l n _ q.grows (p.published i d below)) q.published;
  }

  -- one answer
  pub learns_one : (k l : KnownHistory) (before after : List A) (answer : A) → Grows k l → after ≡ before ++ answer ∷ [] → tells l answer
      → LearnsBy tells k before l after
  learns_one k l before after answer grows is told =
      record { grows = grows; answers = answer ∷ []; answers_are = is; published = All-cons (tells l) answer [] told (All-nil (tells l)) }
