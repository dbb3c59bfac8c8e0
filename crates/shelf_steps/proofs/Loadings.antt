-- A load, and a try at a closing shelf, step after step.
use Rattle.reasoning.proofs.ListLemmas.{slice_get-set_same, slice_get-set_other}
use Rattle.image_layout.specs.Image.{ImageValue}
use Rattle.std.proofs.Common.{◌≡◌, ◌≢◌, ℕ, ◌+◌, ◌*◌, ◌<◌, ◌≤◌, ◌==◌, Bool, true, List, [], ◌∷◌, ◌++◌}
use Rattle.std.proofs.Common.{length, set, Option, Some, None, slice_get, refl, ap, sym, ◌∙◌, subst, arith}
use Rattle.std.proofs.lemmas.Option.{slice_get_within}
use Rattle.std.specs.Arc.{arc_value}
use Rattle.version_core.specs.State.{most_versions}
use Rattle.version_core.specs.declared.event.Event.{Event}
use Rattle.version_core.specs.declared.event.Reply.{Reply}
use Rattle.version_core.specs.declared.state.Shelf.{Shelf}
use Rattle.shelf_steps.specs.declared.edition.Edition.{Edition}
use Rattle.shelf_steps.specs.declared.views.KnownHistory.{KnownHistory}
use Rattle.shelf_steps.specs.declared.views.LoaderView.{LoaderView}
use Rattle.shelf_steps.specs.declared.views.View.{View}
use Rattle.shelf_steps.specs.EventHistory.{Happened}
use Rattle.shelf_steps.specs.Slots.{down_from}
use Rattle.shelf_steps.specs.Plays.{OfLoader, SeatAndSlots, newest_of, with_open, with_hand, IsFilledWith, IsBlock}
use Rattle.shelf_steps.specs.Plays.{AllHave, OpensOn, PublishesOn, ClosesOn, CollectsFound, CollectsOn, GathersOn}
use Rattle.shelf_steps.specs.Plays.{MayOpenOn, MayPublish, MayCloseShelf}
use Rattle.shelf_steps.specs.Loading.{MayLoad, Loads}

abbrev IsReady : ℕ → ℕ → ℕ → View → Type 0
IsReady shelf version former u = OfLoader u (λ l. MayLoad shelf version former l)

abbrev front_of : List (ℕ × Option Edition) → Option Edition
front_of [] = None
front_of (x ∷ xs) = x.1

-- the image of a block is one image
block_front : (f g : ℕ → Option Edition) (k : ℕ) → down_from f (16 * k) 16 [] ≡ down_from g (16 * k) 16 [] → f (16 * k + 15) ≡ g (16 * k + 15)
block_front f g k e = ap front_of e

one_image : (version version' : ℕ) (image image' : ImageValue) (x : Option Edition) → IsFilledWith version image x
    → IsFilledWith version' image' x → image' ≡ image
one_image version version' image image' x a b = let z : Some a.0 ≡ Some b.0 = sym a.1 ∙ b.1 in let same : a.0 ≡ b.0 =
    cc in sym b.3
    ∙ (ap (λ (e : Edition). arc_value e.image) (sym same) ∙ a.3)

module _ (shelf version former : ℕ) (l : LoaderView) (image : ImageValue) (f : ℕ
    → Option Edition) (may : MayLoad shelf version former l) (all : AllHave version image shelf f) (c : List (ℕ
    × Option Edition)) (m1 m2 : SeatAndSlots)
    (g : GathersOn shelf (View.Loading l, c) m1) (filled : m2 ≡ (m1.0, down_from f (16 * shelf) 16 [])) where
  second : m2 ≡ (View.Loading (with_hand l (Some shelf) g.0), down_from f (16 * shelf) 16 [])
  second = filled ∙ ap (λ (m : SeatAndSlots). (m.0, down_from f (16 * shelf) 16 [])) g.1

  same_newest : length g.0.images ≡ newest_of l
  same_newest = ap (λ (x : List ImageValue). length x) g.2.1

  may_open_now : version ≤ most_versions → MayOpenOn shelf version m2.0 m2.1
  may_open_now few = subst (λ (m : SeatAndSlots). MayOpenOn shelf version m.0 m.1) (sym second) (
    may.free,
    refl,
    may.current ∙ sym same_newest,
    may.next ∙ ap (λ n. n + 1) (sym same_newest),
    few,
    (image, f, refl, all),
  )

  opened_so : (m3 : SeatAndSlots) → OpensOn shelf m2 m3
      → (known : KnownHistory) × (m3 ≡ (View.Loading (with_open (with_hand l (Some shelf) g.0) shelf version known), []))
      × Happened g.0 (Event.Open (newest_of l)) (Reply.Opened version shelf) known
      × (known.images ≡ l.known.images ++ image ∷ [])
  opened_so m3 o =
      let h : OpensOn shelf (View.Loading (with_hand l (Some shelf) g.0), down_from f (16 * shelf) 16 []) m3 =
      subst (λ (m : SeatAndSlots). OpensOn shelf m m3) second o in
      let next : length g.0.images + 1 ≡ version = ap (λ n. n + 1) same_newest ∙ sym may.next in
      let is : f (16 * shelf + 15) ≡ h.1 (16 * shelf + 15) = block_front f h.1 shelf h.3 in
      let one : h.0 ≡ image = one_image version (length g.0.images + 1) image h.0 (h.1 (16 * shelf + 15))
      (subst (λ (x : Option Edition). IsFilledWith version image x) is
      (all (16 * shelf + 15) (omega arith) (omega arith))) (h.4 (16 * shelf + 15) (omega arith) (omega arith)) in (
        h.2,
        h.5 ∙ ap (λ n. (View.Loading (with_open (with_hand l (Some shelf) g.0) shelf n h.2), [])) next,
        subst (λ n. Happened g.0 (Event.Open (newest_of l)) (Reply.Opened n shelf) h.2) next
            (subst (λ n. Happened g.0 (Event.Open n) (Reply.Opened (length g.0.images + 1) shelf) h.2) same_newest h.6),
        h.7 ∙ (ap (λ (x : List ImageValue). x ++ h.0 ∷ []) g.2.1 ∙ ap (λ (x : ImageValue). l.known.images ++ x ∷ []) one),
      )

  older : l.current < version
  older = let a = may.current in let b = may.next in omega arith

  may_publish_now : (m3 : SeatAndSlots) → OpensOn shelf m2 m3 → MayPublish version shelf m3.0
  may_publish_now m3 o = subst (λ (m : SeatAndSlots). MayPublish version shelf m.0) (sym (opened_so m3 o).1)
      (slice_get-set_same l.shelves shelf (Shelf.Open version) (slice_get_within l.shelves shelf _ may.free), older)

  other_shelf : former ≢ shelf
  other_shelf e = let z : Some Shelf.Free ≡ Some (Shelf.Open l.current) = sym may.free ∙ (ap (λ n. slice_get l.shelves n) (sym e) ∙ may.former_open) in cc

  still_open : slice_get (set l.shelves shelf (Shelf.Open version)) former ≡ Some (Shelf.Open l.current)
  still_open = slice_get-set_other l.shelves shelf former (Shelf.Open version) other_shelf ∙ may.former_open

  module _ (m3 m4 : SeatAndSlots) (o : OpensOn shelf m2 m3) (p : PublishesOn version shelf m3 m4) where
    published_so : PublishesOn version shelf (View.Loading (with_open (with_hand l (Some shelf) g.0) shelf version (opened_so m3 o).0), []) m4
    published_so = subst (λ (m : SeatAndSlots). PublishesOn version shelf m m4) (opened_so m3 o).1 p

    may_close_now : MayCloseShelf former m4.0
    may_close_now = subst (λ (m : SeatAndSlots). MayCloseShelf former m.0) (sym published_so.1) (l.current, still_open, older)

    loaded_so : (m5 : SeatAndSlots) → ClosesOn former m4 m5 → Loads shelf version image (View.Loading l) m5.0 × (m5.1 ≡ [])
    loaded_so m5 k =
        let p' = published_so in
        let h = subst (λ (m : SeatAndSlots). ClosesOn former m m5) p'.1 k in
        let z : Some (Shelf.Open l.current) ≡ Some (Shelf.Open h.0) = sym still_open ∙ h.2 in let same : l.current ≡ h.0 = cc in
        subst (λ (m : SeatAndSlots). Loads shelf version image (View.Loading l) m.0 × (m.1 ≡ [])) (sym h.3) (
          record {
            former = former;
            former_is = may.former_is;
            gathered = g.0;
            opened = (opened_so m3 o).0;
            published = p'.0;
            gather = g.2.0;
            opening = (opened_so m3 o).2;
            publish = p'.2.0;
            close = h.4.0;
            images = h.4.1 ∙ (p'.2.1 ∙ (opened_so m3 o).3);
            current = (refl, refl);
            shelves = ap (λ n. set (set l.shelves shelf (Shelf.Open version)) former (Shelf.Closing n)) (sym same);
            handed = refl;
            notes = refl;
            hand = refl;
          },
          refl,
        )

-- after each step of a load the next one may be made, and the last has loaded the image
abbrev pub LoadsOn : ℕ → ℕ → ℕ → View → ImageValue → SeatAndSlots → Type 0
LoadsOn shelf version former u image m2 = (version ≤ most_versions → MayOpenOn shelf version m2.0 m2.1)
    × ((m3 : SeatAndSlots) → OpensOn shelf m2 m3 → MayPublish version shelf m3.0
    × ((m4 : SeatAndSlots) → PublishesOn version shelf m3 m4 → MayCloseShelf former m4.0
    × ((m5 : SeatAndSlots) → ClosesOn former m4 m5 → Loads shelf version image u m5.0 × (m5.1 ≡ []))))

pub loads_on : (shelf version former : ℕ) (u : View) (image : ImageValue) (f : ℕ → Option Edition) (c : List (ℕ × Option Edition))
    (m1 m2 : SeatAndSlots) → IsReady shelf version former u → AllHave version image shelf f → GathersOn shelf (u, c) m1
    → m2 ≡ (m1.0, down_from f (16 * shelf) 16 []) → LoadsOn shelf version former u image m2
loads_on shelf version former (View.Loading l) image f c m1 m2 may all g filled = (
  may_open_now shelf version former l image f may all c m1 m2 g filled,
  λ m3 o. (
    may_publish_now shelf version former l image f may all c m1 m2 g filled m3 o,
    λ m4 p. (
      may_close_now shelf version former l image f may all c m1 m2 g filled m3 m4 o p,
      loaded_so shelf version former l image f may all c m1 m2 g filled m3 m4 o p,
    ),
  ),
)
loads_on shelf version former _ image f c m1 m2 may all g filled = absurd may

-- a shelf that was found with no worker
pub freed_block : (shelf version n : ℕ) (u : View) (c : List (ℕ × Option Edition)) (m1 : SeatAndSlots)
    → CollectsOn shelf version n (u, c) m1 → (n == 512 + 65536 * version) ≡ true
    → (f : ℕ → Option Edition) × IsBlock f shelf m1.1
freed_block shelf version n (View.Loading l) c m1 h is =
    let k = subst (λ (b : Bool). CollectsFound l shelf n b m1) is h in (k.0, ap (λ (m : SeatAndSlots). m.1) k.2)
freed_block shelf version n _ c m1 h is = absurd h
