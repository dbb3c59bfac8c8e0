-- A load keeps the history.
use Rattle.std.proofs.Common.{◌≡◌, ◌≢◌, ℕ, zero, suc, ◌+◌, ◌<◌, ◌≤◌, List, [], ◌∷◌, ◌++◌, length, set, Option, Some}
use Rattle.std.proofs.Common.{slice_get, refl, ap, sym, ◌∙◌, subst, arith, inl, inr, length-append, length-set, append_assoc}
use Rattle.std.specs.Arc.{arc_value}
use Rattle.std.proofs.lemmas.Option.{slice_get_within}
use Rattle.reasoning.proofs.ListLemmas.{at_below}
use Rattle.image_layout.specs.Image.{ImageValue}
use Rattle.version_core.specs.declared.event.Event.{Event}
use Rattle.version_core.specs.declared.event.Reply.{Reply}
use Rattle.version_core.specs.declared.state.Shelf.{Shelf}
use Rattle.version_core.specs.declared.state.Worker.{Worker}
use Rattle.version_core.specs.State.{State, start, newest}
use Rattle.version_core.specs.Steps.{IsFree, OpenStep, PublishStep, CloseStep}
use Rattle.version_core.specs.Runs.{Run, IsRun}
use Rattle.version_core.specs.Invariants.{KeepsInvariants}
use Rattle.version_core.specs.Rest.{IsAtRest, LoadsRest, loaded}
use Rattle.version_core.specs.Laws.{RunsGrowByRuns}
use Rattle.version_core.proofs.Lists.{slice_get-set}
use Rattle.shelf_steps.specs.declared.edition.Edition.{Edition}
use Rattle.epochs.specs.History.{IsHistory, AreShelved, StandsOn, IsEdition, HeldHaveImages, image_of}
use Rattle.epochs.specs.Publishing.{PublishesNext}
use Rattle.shelf_steps.proofs.Loads.{got_snoc, image_of-append, image_last}

image_there : (images : List ImageValue) (v : ℕ) → 0 < v → v ≤ length images → (image : ImageValue) × (image_of images v ≡ Some image)
image_there images zero some small = absurd (omega arith)
image_there images (suc n) some small = at_below images n (omega arith)

pub held_have_images : (s : State) (events : List Event) (images : List ImageValue) → KeepsInvariants s → IsHistory s events images → HeldHaveImages s images
held_have_images s events images kept h w k v holds =
    let f = kept.workers.each w (Worker.Holding k v) holds in let known = kept.shelves.known k v f.1 in
    let many = h.as_many in let most = known.1 in
    image_there images v known.0 (omega arith)

edition_stays : (images more : List ImageValue) (v : ℕ) (edition : Option Edition) → IsEdition images v edition → IsEdition (images ++ more) v edition
edition_stays images more v edition h = (h.0, h.1, h.2, image_of-append images more v (arc_value h.0.image) h.3)

stands_still : (images more : List ImageValue) (shelf : Shelf) (edition : Option Edition)
    → StandsOn images shelf edition → StandsOn (images ++ more) shelf edition
stands_still images more Shelf.Free edition h = h
stands_still images more (Shelf.Open v) edition h = edition_stays images more v edition h
stands_still images more (Shelf.Closing v) edition h = edition_stays images more v edition h

numbered_still : (xs : List ℕ) (e i x : ℕ) → ((j edition : ℕ) → slice_get xs j ≡ Some edition → edition ≡ j)
    → e ≡ length xs → slice_get (xs ++ e ∷ []) i ≡ Some x → x ≡ i
numbered_still xs e i x before last is = elim (got_snoc xs e x i is) [ inl a ↦ before i x a | inr b ↦ sym b.1 ∙ (last ∙ sym b.0) ]

-- the shelves after a load
loaded_shelves : (s : State) (k e : ℕ) (editions : List (Option Edition)) (images : List ImageValue) (new : Edition)
    → KeepsInvariants s → IsFree s k → AreShelved s.shelves editions images → length images ≡ newest s → new.version ≡ newest s + 1
    → AreShelved (loaded s k e).shelves (set editions k (Some new)) (images ++ arc_value new.image ∷ [])
loaded_shelves s k e editions images new kept free h many version =
    let more = arc_value new.image ∷ [] in
    let n = newest s + 1 in
    let xs = set s.shelves k (Shelf.Open n) in
    let apart : k ≢ s.current_shelf = λ q. let two : Some (Shelf.Open s.current) ≡ Some Shelf.Free =
    sym kept.shelves.current_open
    ∙ (ap (λ i. slice_get s.shelves i) (sym q) ∙ free) in absurd (cc) in
    let small = slice_get_within s.shelves k _ free in let a_small = slice_get_within s.shelves s.current_shelf _ kept.shelves.current_open in
    let eight = kept.shelves.eight in let eight_too = h.eight in let as_long : length xs ≡ length s.shelves = length-set s.shelves k (Shelf.Open n) in
    record {
      eight = length-set editions k (Some new) ∙ h.eight;
      each = λ j shelf edition at_shelf at_edition.
          elim (slice_get-set editions k j (Some new) edition (omega arith) at_edition) [
            | inl b ↦ elim (slice_get-set xs s.current_shelf j (Shelf.Closing s.current) shelf (omega arith) at_shelf) [
              | inl a ↦ absurd (apart (sym b.0 ∙ a.0))
              | inr a ↦ elim (slice_get-set s.shelves k j (Shelf.Open n) shelf small a.1) [
                | inl d ↦ subst (λ (x : Shelf). StandsOn (images ++ more) x edition) (sym d.1)
                    (new, b.1, version, image_last images (arc_value new.image) n (omega (arith, many)))
                | inr d ↦ absurd (d.0 b.0)
              ]
            ]
            | inr b ↦ elim (slice_get-set xs s.current_shelf j (Shelf.Closing s.current) shelf (omega arith) at_shelf) [
              | inl a ↦ subst (λ (x : Shelf). StandsOn (images ++ more) x edition) (sym a.1)
                  (edition_stays images more s.current edition
                  (h.each j (Shelf.Open s.current) edition (ap (λ i. slice_get s.shelves i) a.0
                  ∙ kept.shelves.current_open) b.1))
              | inr a ↦ elim (slice_get-set s.shelves k j (Shelf.Open n) shelf small a.1) [
                | inl d ↦ absurd (b.0 d.0)
                | inr d ↦ stands_still images more shelf edition (h.each j shelf edition d.1 b.1)
              ]
            ]
          ];
    }

-- what a load asks of the laws
pub record LoadLaws : Type 0 where
  pub grow : RunsGrowByRuns
  pub loads : LoadsRest

-- the three steps of a load
pub record ThreeSteps (s t : State) (e v k : ℕ) (second third : Reply) : Type 0 where
  pub opened : State
  pub published : State
  pub first : OpenStep s e (Reply.Opened v k) opened
  pub then : PublishStep opened second published
  pub last : CloseStep published s.current_shelf third t

three_run : (s t : State) (e v k : ℕ) (second third : Reply) → ThreeSteps s t e v k second third
    → Run s (Event.Open e ∷ Event.Publish ∷ Event.Close s.current_shelf ∷ []) (Reply.Opened v k ∷ second ∷ third ∷ []) t
three_run s t e v k second third h = (h.opened, h.first, (h.published, h.then, (t, h.last, refl)))

three_more : {X : Type 0} (before one two three : List X) (a b d : X) → one ≡ before ++ a ∷ [] → two ≡ one ++ b ∷ []
    → three ≡ two ++ d ∷ [] → three ≡ before ++ a ∷ b ∷ d ∷ []
three_more before one two three a b d first second third =
    third ∙ (ap (λ l. l ++ d ∷ []) (second ∙ (ap (λ l. l ++ b ∷ []) first ∙ append_assoc before (a ∷ []) (b ∷ []))) ∙ append_assoc before (a ∷ b ∷ []) (d ∷ []))

-- what the calls of a load tell: its three steps, and what is added to events and images
pub record LoadFacts (s t : State) (e v k : ℕ) (second third : Reply) (before events : List Event)
    (images now : List ImageValue) (image : ImageValue) : Type 0 where
  pub steps : ThreeSteps s t e v k second third
  pub noted : events ≡ before ++ Event.Open e ∷ Event.Publish ∷ Event.Close s.current_shelf ∷ []
  pub added : now ≡ images ++ image ∷ []

pub load_facts : (s opened published t : State) (e v k shelf : ℕ) (first second third : Reply)
    (before one two events : List Event) (images now : List ImageValue) (shared image : ImageValue)
    → shelf ≡ s.current_shelf → first ≡ Reply.Opened v k → shared ≡ image
    → OpenStep s e first opened → PublishStep opened second published → CloseStep published shelf third t
    → one ≡ before ++ Event.Open e ∷ [] → two ≡ one ++ Event.Publish ∷ [] → events ≡ two ++ Event.Close shelf ∷ [] → now ≡ images ++ shared ∷ []
    → LoadFacts s t e v k second third before events images now image
load_facts s opened published t e v k shelf first second third before one two events images now shared image at reply
    same opens publishes closes a b d added = record {
      steps = record {
        opened = opened;
        published = published;
        first = subst (λ (r : Reply). OpenStep s e r opened) reply opens;
        then = publishes;
        last = subst (λ i. CloseStep published i third t) at closes;
      };
      noted = three_more before one two events _ _ _ a b d ∙ ap (λ i. before ++ Event.Open e ∷ Event.Publish ∷ Event.Close i ∷ []) at;
      added = added ∙ ap (λ x. images ++ x ∷ []) same;
    }

pub load_kept : (s t : State) (e v k : ℕ) (second third : Reply) (before events : List Event)
    (editions : List (Option Edition)) (images now : List ImageValue) (new : Edition) → LoadLaws → KeepsInvariants s
    → IsHistory s before images → AreShelved s.shelves editions images
    → LoadFacts s t e v k second third before events images now (arc_value new.image) → e ≡ s.current → new.version ≡ v
    → IsHistory t events now × AreShelved t.shelves (set editions k (Some new)) now
load_kept s t e v k second third before events editions images now new laws kept h shelved fact number version =
    let steps = fact.steps in let more = fact.noted in let added = fact.added in let run = three_run s t e v k second third steps in
    let rest = laws.loads s t e v k second third kept h.rest run in
    let last : e ≡ newest s = number ∙ sym h.rest.published in
    let is : t ≡ loaded s k e = rest.3 in
    let many : length (images ++ arc_value new.image ∷ []) ≡ newest (loaded s k e) = let m =
    h.as_many in
    omega (
      arith,
      length-append images
          (arc_value new.image ∷ []),
      length-append s.editions (e
          ∷ []),
    ) in
    let history : IsHistory (loaded s k e) events (images ++ arc_value new.image ∷ []) = record {
      run = subst (λ (x : State). IsRun start events x) is (laws.grow start s t before _ events (Reply.Opened v k ∷ second ∷ third ∷ []) h.run more run);
      rest = subst (λ (x : State). IsAtRest x) is rest.4;
      as_many = many;
      numbered = λ i x at. numbered_still s.editions e i x h.numbered last at;
    } in (
      subst (λ (l : List ImageValue). IsHistory t events l) (sym added)
          (subst (λ (x : State). IsHistory x events (images ++ arc_value new.image ∷ [])) (sym is) history),
      subst (λ (l : List ImageValue). AreShelved t.shelves (set editions k (Some new)) l) (sym added)
          (subst (λ (x : State). AreShelved x.shelves (set editions k (Some new)) (images ++ arc_value new.image ∷ []))
          (sym is) (loaded_shelves s k e editions images new kept steps.first.1 shelved h.as_many (version
          ∙ rest.0))),
    )

pub load_publishes : (s t : State) (e v k : ℕ) (second third : Reply) (before events : List Event)
    (images now : List ImageValue) (image : ImageValue) → LoadsRest → KeepsInvariants s → IsHistory s before images
    → LoadFacts s t e v k second third before events images now image → ((j : ℕ) → j < k → ¬ (IsFree s j)) → e ≡ s.current
    → PublishesNext (record { state = s; events = before; images = images }) image v (record { state = t; events = events; images = now })
load_publishes s t e v k second third before events images now image law kept h fact least number =
    let steps = fact.steps in let run = three_run s t e v k second third steps in
    let rest = law s t e v k second third kept h.rest run in
    let last : e ≡ newest s = number ∙ sym h.rest.published in
    record {
      shelf = k;
      free = steps.first.1;
      least = least;
      next = rest.0;
      run = subst (λ i. Run s (Event.Open i ∷ Event.Publish ∷ Event.Close s.current_shelf ∷ []) (Reply.Opened v k
          ∷ Reply.Published v ∷ Reply.Closing ∷ []) t) last
          (subst (λ (r : Reply). Run s (Event.Open e ∷ Event.Publish ∷ Event.Close s.current_shelf
          ∷ []) (Reply.Opened v k ∷ Reply.Published v ∷ r ∷ []) t) rest.2
          (subst (λ (r : Reply). Run s (Event.Open e ∷ Event.Publish ∷ Event.Close s.current_shelf ∷ []) (Reply.Opened v k ∷ r ∷ third ∷ []) t) rest.1 run));
      events = fact.noted ∙ ap (λ i. before ++ Event.Open i ∷ Event.Publish ∷ Event.Close s.current_shelf ∷ []) last;
      images = fact.added;
      current = ap (λ (x : State). x.current) rest.3 ∙ sym rest.0;
    }
