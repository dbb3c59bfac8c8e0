-- The versions of the views that are notices, after a step of a seat.
use Rattle.std.proofs.Common.{◌≡◌, ℕ, zero, suc, List, [], ◌∷◌, ◌++◌, set, remove, Some, slice_get, refl, ap, sym, ◌∙◌, subst, append_assoc}
use Rattle.std.proofs.lemmas.List.{append-nil}
use mathlib.Core.Option.{some, some-injective, some-ne-none}
use lib.ListN.{get_elem?}
use Rattle.shelf_steps.specs.declared.views.WorkerView.{WorkerView}
use Rattle.shelf_steps.specs.declared.views.LoaderView.{LoaderView}
use Rattle.shelf_steps.specs.declared.views.View.{View}
use Rattle.shelf_steps.specs.Rule.{notice_of, notices_of}

-- a seat that is no notice's, before and after
notices_same : (views : List View) (id : ℕ) (u u' : View) → get_elem? views id ≡ some u → notice_of u ≡ [] → notice_of u' ≡ []
    → notices_of (set views id u') ≡ notices_of views
notices_same [] id u u' at none none' = refl
notices_same (x ∷ xs) zero u u' at none none' = ap (λ (l : List ℕ). l ++ notices_of xs) (none' ∙ sym (ap notice_of (some-injective x u at) ∙ none))
notices_same (x ∷ xs) (suc i) u u' at none none' = ap (λ (l : List ℕ). notice_of x ++ l) (notices_same xs i u u' at none none')

pub notices_worker : (views : List View) (id : ℕ) (v v' : WorkerView) → get_elem? views id ≡ some (View.Working v)
    → notices_of (set views id (View.Working v')) ≡ notices_of views
notices_worker views id v v' at = notices_same views id (View.Working v) (View.Working v') at refl refl

pub notices_loader : (views : List View) (id : ℕ) (l l' : LoaderView) → get_elem? views id ≡ some (View.Loading l)
    → notices_of (set views id (View.Loading l')) ≡ notices_of views
notices_loader views id l l' at = notices_same views id (View.Loading l) (View.Loading l') at refl refl

-- one seat more
pub notices_more : (views : List View) (u : View) → notices_of (views ++ u ∷ []) ≡ notices_of views ++ notice_of u
notices_more [] u = append-nil (notice_of u)
notices_more (x ∷ xs) u = ap (λ (l : List ℕ). notice_of x ++ l) (notices_more xs u) ∙ sym (append_assoc (notice_of x) (notices_of xs) (notice_of u))

-- a notice has its place among those that are spelled, and is taken out there
abbrev NoticeAt : List View → ℕ → List View → Type 0
NoticeAt views n after = (index : ℕ) × (slice_get (notices_of views) index ≡ Some n) × (notices_of after ≡ remove (notices_of views) index)

behind : (x : View) (xs : List View) (n : ℕ) (after : List View) → NoticeAt xs n after → NoticeAt (x ∷ xs) n (x ∷ after)
behind (View.Noting m) xs n after r = (suc r.0, r.1, ap (λ (l : List ℕ). m ∷ l) r.2)
behind _ xs n after r = r

pub notices_less : (views : List View) (id n : ℕ) → get_elem? views id ≡ some (View.Noting n) → NoticeAt views n (set views id View.Spent)
notices_less [] id n at = absurd (some-ne-none (View.Noting n) (sym at))
notices_less (x ∷ xs) zero n at = subst (λ (y : View). NoticeAt (y ∷ xs) n (View.Spent ∷ xs)) (sym (some-injective x (View.Noting n) at)) (0, refl, refl)
notices_less (x ∷ xs) (suc i) n at = behind x xs n (set xs i View.Spent) (notices_less xs i n at)

pub notices_there : (views : List View) (id n : ℕ) → get_elem? views id ≡ some (View.Noting n) → (index : ℕ) × (slice_get (notices_of views) index ≡ Some n)
notices_there views id n at = let r = notices_less views id n at in (r.0, r.1)
