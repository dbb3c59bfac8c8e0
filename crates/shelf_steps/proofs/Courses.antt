-- Courses with one more event.
use Rattle.reasoning.proofs.ListLemmas.{slice_get-append}
use Rattle.version_core.specs.Actors.{no_actor, actor, NoneOf}
use Rattle.image_layout.specs.Image.{ImageValue}
use Rattle.std.proofs.Common.{◌≡◌, ◌≢◌, ℕ, zero, suc, ◌+◌, ◌<◌, ◌≤◌, true, List, [], ◌∷◌, ◌++◌, length, Option, Some, None, slice_get, get_or, refl, ap}
use Rattle.std.proofs.Common.{sym, ◌∙◌, subst, arith, append_assoc}
use Rattle.std.proofs.lemmas.List.{append-nil}
use mathlib.Core.List.{IsPrefix}
use Rattle.version_core.specs.declared.event.Event.{Event}
use Rattle.version_core.specs.declared.event.Reply.{Reply}
use Rattle.version_core.specs.declared.state.Worker.{Worker}
use Rattle.version_core.specs.State.{State, start, newest}
use Rattle.version_core.specs.Steps.{Step}
use Rattle.version_core.specs.Invariants.{KeepsInvariants}
use Rattle.version_core.proofs.Runs.{reached_kept, list_grows_with_replies}
use Rattle.shelf_steps.specs.declared.edition.Edition.{Edition}
use Rattle.shelf_steps.specs.declared.views.KnownHistory.{KnownHistory}
use Rattle.shelf_steps.specs.declared.views.WorkerView.{WorkerView}
use Rattle.shelf_steps.specs.declared.views.LoaderView.{LoaderView}
use Rattle.version_core.specs.Shown.{WorkerShows}
use Rattle.shelf_steps.specs.EventHistory.{EventHistory, LeadsToItsState, extended, known_in_full, IsKnownBeginning, Happened, image_of, IsEdition}
use Rattle.shelf_steps.specs.EventHistory.{note_of, notes_in, join_of, joined_by, HasDoneNothing, IsOfSixteen, AreOfSixteen}
use Rattle.shelf_steps.specs.Seats.{HasEdition, WorkerFits, LoaderFits}

pub kept_of : (c : EventHistory) → LeadsToItsState c → KeepsInvariants c.state
kept_of c g = reached_kept c.state (c.events, record { replies = c.replies; run = g.run })

pub none_snoc : (a : Option ℕ) (es : List Event) (e : Event) → actor e ≢ a → NoneOf a es → NoneOf a (es ++ e ∷ [])
none_snoc a [] e n h = (n, tt)
none_snoc a (x ∷ xs) e n h = (h.0, none_snoc a xs e n h.1)

-- whose events are those of sixteen workers
pub sixteen_snoc : (es : List Event) (e : Event) → AreOfSixteen es → IsOfSixteen e → AreOfSixteen (es ++ e ∷ [])
sixteen_snoc [] e all one = (one, tt)
sixteen_snoc (x ∷ xs) e all one = (all.0, sixteen_snoc xs e all.1 one)

-- an event that is the loader's, nobody's, or one of the sixteen workers'
of_sixteen : (e : Event) → ((w : ℕ) → actor e ≡ Some w → w < 16) → IsOfSixteen e
of_sixteen (Event.Look u) small = small u refl
of_sixteen (Event.Take u) small = small u refl
of_sixteen (Event.Drop u) small = small u refl
of_sixteen (Event.Ask u) small = small u refl
of_sixteen (Event.Join u v) small = let less = small 16 refl in absurd (omega arith)
of_sixteen _ small = tt

pub workers_event : (e : Event) (w : ℕ) → actor e ≡ Some w → w < 16 → IsOfSixteen e
workers_event e w q small = of_sixteen e (λ u p. let same : u ≡ w = cc in omega arith)

pub loaders_event : (e : Event) → actor e ≡ None → IsOfSixteen e
loaders_event e q = of_sixteen e (λ u p. absurd (cc))

-- notices, after one event more
pub notes_snoc : (es : List Event) (e : Event) → notes_in (es ++ e ∷ []) ≡ notes_in es + note_of e
notes_snoc [] e = omega arith
notes_snoc (x ∷ xs) e = let r = notes_snoc xs e in omega arith

pub notes_same : (es : List Event) (e : Event) → note_of e ≡ 0 → notes_in (es ++ e ∷ []) ≡ notes_in es
notes_same es e none = let r = notes_snoc es e in omega arith

pub joined_snoc : (w : ℕ) (es : List Event) (e : Event) → joined_by w (es ++ e ∷ []) ≡ joined_by w es ++ join_of w e
joined_snoc w [] e = append-nil (join_of w e)
joined_snoc w (x ∷ xs) e =
    ap (λ (l : List ℕ). join_of w x ++ l) (joined_snoc w xs e) ∙ sym (append_assoc (join_of w x) (joined_by w xs) (join_of w e))

pub joined_same : (w : ℕ) (es : List Event) (e : Event) → join_of w e ≡ [] → joined_by w (es ++ e ∷ []) ≡ joined_by w es
joined_same w es e none = joined_snoc w es e ∙ (ap (λ (l : List ℕ). joined_by w es ++ l) none ∙ append-nil (joined_by w es))

-- an event that is somebody's is no notice's
pub no_note : (e : Event) → actor e ≢ no_actor → note_of e ≡ 0
no_note Event.Note other = absurd (other refl)
no_note _ other = refl

pub no_join : (u : ℕ) (e : Event) → actor e ≢ no_actor → join_of u e ≡ []
no_join u (Event.Join w v) other = absurd (other refl)
no_join u _ other = refl

pub nothing_snoc : (w : ℕ) (es : List Event) (e : Event) → actor e ≢ Some w → join_of w e ≡ [] → HasDoneNothing w es → HasDoneNothing w (es ++ e ∷ [])
nothing_snoc w es e n none h = (none_snoc (Some w) es e n h.0, joined_same w es e none ∙ h.1)

module _ {A : Type 0} where
  pub prefix_same : (xs : List A) → IsPrefix xs xs
  prefix_same xs = ([], append-nil xs)

  pub prefix_trans : (xs ys zs : List A) → IsPrefix xs ys → IsPrefix ys zs → IsPrefix xs zs
  prefix_trans xs ys zs p q = (p.0 ++ q.0, sym (append_assoc xs p.0 q.0) ∙ (ap (λ (l : List A). l ++ q.0) p.1 ∙ q.1))

  pub prefix_snoc : (xs ys : List A) (a : A) → IsPrefix xs ys → IsPrefix xs (ys ++ a ∷ [])
  prefix_snoc xs ys a p = prefix_trans xs ys (ys ++ a ∷ []) p (a ∷ [], refl)

module _ (c : EventHistory) (e : Event) (r : Reply) (t : State) (images : List ImageValue) where
  pub begins_longer : (k : KnownHistory) (a : Option ℕ) → actor e ≢ a → IsPrefix c.images images → IsKnownBeginning k a c
      → IsKnownBeginning k a (extended c e r t images)
  begins_longer k a other more b = record {
    events = (
      b.events.0 ++ e ∷ [],
      sym (append_assoc k.events b.events.0 (e ∷ []))
          ∙ ap (λ (l : List Event). l ++ e ∷ []) b.events.1,
      none_snoc a b.events.0 e other b.events.2,
    );
    replies = prefix_snoc k.replies c.replies r b.replies;
    images = prefix_trans k.images c.images images b.images more;
  }

  pub happened : (k : KnownHistory) → IsKnownBeginning k (actor e) c → LeadsToItsState (extended c e r t images) → IsPrefix c.images images
      → Happened k e r (known_in_full (extended c e r t images))
  happened k b g more = record {
    state = t;
    goes = g;
    events = (b.events.0, ap (λ (l : List Event). l ++ e ∷ []) (sym b.events.1), b.events.2);
    replies = (b.replies.0, ap (λ (l : List Reply). l ++ r ∷ []) (sym b.replies.1));
    images = prefix_trans k.images c.images images b.images more;
  }

  pub goes_on : LeadsToItsState c → Step c.state e r t → IsOfSixteen e → length images ≡ newest t
      → ((i edition : ℕ) → slice_get t.editions i ≡ Some edition → edition ≡ i) → LeadsToItsState (extended c e r t images)
  goes_on g stepped one many numbered = record {
    run = list_grows_with_replies start c.state t c.events (c.events ++ e ∷ []) e c.replies (c.replies ++ r ∷ []) r g.run refl refl stepped;
    workers = sixteen_snoc c.events e g.workers one;
    as_many = many;
    numbered = numbered;
  }

pub goes_same : (c : EventHistory) (e : Event) (r : Reply) (t : State) → LeadsToItsState c → Step c.state e r t → IsOfSixteen e
    → t.editions ≡ c.state.editions → LeadsToItsState (extended c e r t c.images)
goes_same c e r t g stepped one same =
    goes_on c e r t c.images g stepped one (g.as_many ∙ sym (ap (λ (l : List ℕ). length l) same))
    (λ i edition at. g.numbered i edition (ap (λ (l : List ℕ). slice_get l i) (sym same) ∙ at))

pub begins_all : (c : EventHistory) (a : Option ℕ) → IsKnownBeginning (known_in_full c) a c
begins_all c a = record { events = ([], append-nil c.events, tt); replies = prefix_same c.replies; images = prefix_same c.images }

pub image_later : (images more : List ImageValue) (v : ℕ) (x : ImageValue) → IsPrefix images more → image_of images v ≡ Some x → image_of more v ≡ Some x
image_later images more zero x p e = absurd (cc)
image_later images more (suc n) x p e = subst (λ (l : List ImageValue). slice_get l n ≡ Some x) p.1 (slice_get-append images p.0 n x e)

pub edition_later : (images more : List ImageValue) (v : ℕ) (edition : Option Edition) → IsPrefix images more
    → IsEdition images v edition → IsEdition more v edition
edition_later images more v edition p i = (i.0, i.1, i.2, image_later images more v _ p i.3)

has_later : (images more : List ImageValue) (w : Worker) (edition : Option Edition) → IsPrefix images more
    → HasEdition images w edition → HasEdition more w edition
has_later images more (Worker.Holding k v) edition p h = edition_later images more v edition p h
has_later images more _ edition p h = h

-- what another worker knows after a step that leaves it alone
pub other_fits : (c d : EventHistory) (u : WorkerView)
    → slice_get d.state.workers u.number ≡ slice_get c.state.workers u.number
    → get_or d.state.seen u.number 0 ≡ get_or c.state.seen u.number 0
    → c.state.current ≤ d.state.current → IsPrefix c.images d.images → IsKnownBeginning u.known (Some u.number) d
    → joined_by u.number d.events ≡ joined_by u.number c.events → WorkerFits c u → WorkerFits d u
other_fits c d u now seen up more known joined f = record {
  shows = record { now = now ∙ f.shows.now; seen = seen ∙ f.shows.seen };
  last = ((let q = f.last.0 in omega arith), f.last.1);
  passed = λ p. let q = f.passed p in omega arith;
  edition = has_later c.images d.images u.now u.edition more f.edition;
  known = known;
  joined = f.joined ∙ sym joined;
}

-- what a worker knows after a step of its own, which takes in no notice
pub worker_next : (c d : EventHistory) (e : Event) (v v' : WorkerView) → WorkerFits c v → d.events ≡ c.events ++ e ∷ [] → join_of v.number e ≡ []
    → v'.known ≡ known_in_full d → (v'.number ≡ v.number) × (v'.joined ≡ v.joined)
    → WorkerShows v'.number v'.now v'.seen d.state → (v'.last ≤ d.state.current) × (v'.last ≤ v'.seen)
    → (v'.passed ≡ true → v'.last < d.state.current) → HasEdition d.images v'.now v'.edition → WorkerFits d v'
worker_next c d e v v' f more none known kept shows last passed edition = record {
  shows = shows;
  last = last;
  passed = passed;
  edition = edition;
  known = subst (λ (x : KnownHistory). IsKnownBeginning x (Some v'.number) d) (sym known) (begins_all d (Some v'.number));
  joined = kept.1 ∙ (f.joined ∙ (sym (ap (λ (es : List Event). joined_by v.number es) more ∙ joined_same v.number c.events e none)
      ∙ ap (λ (n : ℕ). joined_by n d.events) (sym kept.0)));
}

-- what the loader knows after a step of its own, which gives no notice
pub loader_next : (c d : EventHistory) (e : Event) (l l' : LoaderView) → LoaderFits c l → d.events ≡ c.events ++ e ∷ [] → note_of e ≡ 0
    → l'.known ≡ known_in_full d → l'.notes ≡ l.notes → length d.images ≡ newest d.state
    → l'.current ≡ d.state.current → l'.current_shelf ≡ d.state.current_shelf → l'.shelves ≡ d.state.shelves → LoaderFits d l'
loader_next c d e l l' f more none known notes as_many current current_shelf shelves = record {
  shows = record {
    current = current;
    current_shelf = current_shelf;
    shelves = shelves;
    newest_is = ap (λ (x : KnownHistory). length x.images) known
        ∙ as_many;
  };
  images = ap (λ (x : KnownHistory). x.images) known;
  known = subst (λ (x : KnownHistory). IsKnownBeginning x None d) (sym known) (begins_all d None);
  notes = notes ∙ (f.notes ∙ sym (ap (λ (es : List Event). notes_in es) more ∙ notes_same c.events e none));
}

-- and after one that is another's, or that gives a notice
pub loader_apart : (c : EventHistory) (e : Event) (reply : Reply) (t : State) (l : LoaderView) (count : ℕ) → actor e ≢ None
    → t.current ≡ c.state.current → t.current_shelf ≡ c.state.current_shelf → t.shelves ≡ c.state.shelves → t.editions ≡ c.state.editions
    → count ≡ l.notes + note_of e → LoaderFits c l → LoaderFits (extended c e reply t c.images) (record l { notes = count })
loader_apart c e reply t l count others current current_shelf shelves editions counted f = record {
  shows = record {
    current = f.shows.current ∙ sym current;
    current_shelf = f.shows.current_shelf ∙ sym current_shelf;
    shelves = f.shows.shelves ∙ sym shelves;
    newest_is = f.shows.newest_is ∙ ap (λ (xs : List ℕ). length xs) (sym editions);
  };
  images = f.images;
  known = begins_longer c e reply t c.images l.known None others (prefix_same c.images) f.known;
  notes = let a = f.notes in let b = notes_snoc c.events e in omega arith;
}
