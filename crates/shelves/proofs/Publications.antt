-- What the loader knows of its publications and collections.
use Rattle.std.proofs.Common.{◌≡◌, ℕ, suc, ◌+◌, true, false, ◌∷◌, [], ◌++◌, List, length, ap, ◌∙◌, arith, inl, inr, slice_get}
use Rattle.std.proofs.lemmas.Option.{get_or_from_slice_get}
use Rattle.reasoning.proofs.ListLemmas.{slice_get-last}
use Rattle.image_layout.specs.Image.{ImageValue}
use Rattle.version_core.specs.declared.event.Reply.{Reply}
use Rattle.version_core.specs.declared.state.Shelf.{Shelf}
use Rattle.shelf_steps.specs.declared.views.KnownHistory.{KnownHistory}
use Rattle.shelf_steps.specs.declared.views.View.{View}
use Rattle.shelf_steps.specs.EventHistory.{image_of}
use Rattle.shelf_steps.specs.Events.{known_of}
use Rattle.shelf_steps.specs.Loading.{LoadsShelf, Loads}
use Rattle.shelf_steps.specs.Plays.{OfLoader, newest_of, gives_notice}
use Rattle.shelves.specs.declared.collected.Collected.{Collected}
use Rattle.shelves.specs.declared.faults.PublishFault.{PublishFault}
use Rattle.shelves.specs.SeatHistory.{Grows, IsPublished, EndsPublish, IsFullByTries, EndsRefused}
use Rattle.shelves.specs.ShelfLoads.{Rests, CollectsBySteps, MakesRoomBySteps, PublishesBySteps, RefusesBySteps}
use Rattle.shelves.proofs.GrowthLemmas.{growths_join, happened_grows}
use Rattle.shelves.proofs.Tries.{of_loaders, only_join, one_try, Tries, no_tries, tries_below, freed_is_free, tries_find}

loads_end : (shelf version : ℕ) (image : ImageValue) (u u' : View) → Loads shelf version image u u'
    → EndsPublish (known_of u) version (known_of u')
loads_end shelf version image u u' = of_loaders (λ a b. LoadsShelf a image version shelf b)
    (λ v v'. EndsPublish (known_of v) version (known_of v')) u u' (λ a b h. record {
      ready = h.gathered;
      opened = h.opened;
      current = h.published;
      edition = newest_of a;
      shelf = shelf;
      closed = h.former;
      since = happened_grows a.known h.gathered _ _ h.gather;
      only = one_try (λ k. Unit {0}) shelf a.known Reply.NotNow h.gathered tt h.gather;
      opening = h.opening;
      publish = h.publish;
      close = h.close;
      image = (image, h.images);
    })

-- the image that is put behind the others is that of the next version
pub loads_published : (current current_shelf : ℕ) (shelves : List Shelf) (image : ImageValue) (shelf version : ℕ) (u u' : View)
    → OfLoader u (λ l. Rests current current_shelf shelves l) → version ≡ current + 1 → Loads shelf version image u u'
    → IsPublished (known_of u') version image
loads_published current current_shelf shelves image shelf version u u' rest next loads = of_loaders (λ a b. LoadsShelf a image version shelf b)
    (λ v v'. OfLoader v (λ l. Rests current current_shelf shelves l) → IsPublished (known_of v') version image) u u' (λ a b h rest.
    let n1 = rest.newest in let n2 = rest.current_is in let counts : version ≡ suc (length a.known.images) = omega arith in
    ap (λ n. image_of b.known.images n) counts
    ∙ (ap (λ (l : List ImageValue). slice_get l (length a.known.images)) h.images ∙ slice_get-last a.known.images image)) loads rest

-- tries at any shelves
collects : (u u' : View) (found : Collected) → CollectsBySteps u found u' → Tries (λ k. Unit {0}) u u'
collects u u' found h = tries_below (λ k. Unit {0}) 8 u found.freed found.busy u' (λ k less was. tt) h.0

pub collects_grow : (u u' : View) (found : Collected) → CollectsBySteps u found u' → Grows (known_of u) (known_of u')
collects_grow u u' found h = (collects u u' found h).grows

makes_room : (u u' : View) → MakesRoomBySteps u u' → Tries (λ k. Unit {0}) u u'
makes_room u u' h = elim h [ inl x ↦ no_tries (λ k. Unit {0}) u u' x.1 | inr y ↦ collects u u' y.1.0 y.1.1 ]

-- room is made by tries, and then the image is loaded
pub publishes_end : (u room u' : View) (image : ImageValue) (version : ℕ) → MakesRoomBySteps u room → PublishesBySteps room image version u'
    → EndsPublish (known_of u) version (known_of u')
publishes_end u room u' image version made loads =
    let tried = makes_room u room made in let h = loads_end loads.0 version image room u' loads.2 in
    record {
      ready = h.ready;
      opened = h.opened;
      current = h.current;
      edition = h.edition;
      shelf = h.shelf;
      closed = h.closed;
      since = growths_join (known_of u) (known_of room) h.ready tried.grows h.since;
      only = only_join (λ k. Unit {0}) (known_of u) (known_of room) h.ready tried.only h.only;
      opening = h.opening;
      publish = h.publish;
      close = h.close;
      image = (h.image.0, h.image.1 ∙ ap (λ (l : List ImageValue). l ++ h.image.0 ∷ []) tried.images);
    }

pub ended_grows : (before after : KnownHistory) (version : ℕ) → EndsPublish before version after → Grows before after
ended_grows before after version h =
    growths_join before h.opened after
    (growths_join before h.ready h.opened h.since (happened_grows h.ready h.opened _ _ h.opening))
    (growths_join h.opened h.current after (happened_grows h.opened h.current _ _ h.publish) (happened_grows h.current after _ _ h.close))

-- a notice tells nothing of the past
pub noticed : (Q : KnownHistory → Type 0) (u : View) → Q (known_of u) → Q (known_of (gives_notice u))
noticed Q (View.Loading l) h = h
noticed Q _ h = h

-- what a publish that is refused did
pub record RefusedTells (u : View) (fault : PublishFault) (u' : View) : Type 0 where
  pub grows : Grows (known_of u) (known_of u')
  pub full : IsFullByTries (known_of u) fault (known_of u')
  pub refused : EndsRefused (known_of u) (known_of u')

pub refused_tells : (u u' : View) (fault : PublishFault) → RefusesBySteps u fault u' → RefusedTells u fault u'
refused_tells u u' PublishFault.VersionsSpent h =
    let none = no_tries (λ k. Unit {0}) u u' h.1 in record { grows = none.grows; full = tt; refused = (none.only, none.images) }
refused_tells u u' PublishFault.OutOfMemory h =
    let tried = makes_room u u' h.1 in record { grows = tried.grows; full = tt; refused = (tried.only, tried.images) }
refused_tells u u' (PublishFault.ShelvesFull counts) h =
    let found = h.2.0 in let tried = collects u u' found h.2.1 in record {
      grows = tried.grows;
      full = record {
        found = found;
        counts_are = h.2.2;
        tries = tries_find u u' found h.2.1.0;
        all = h.2.1.1;
        none_freed = λ k less is. h.3 (k, freed_is_free u found u' h.2.1.0 k less (get_or_from_slice_get found.freed k true false is));
      };
      refused = (tried.only, tried.images);
    }
