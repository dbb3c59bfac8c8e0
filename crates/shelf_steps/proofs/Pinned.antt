-- Tries, one after another.
use Rattle.std.proofs.Common.{◌≡◌, ℕ, ◌+◌, ◌*◌, ◌/◌, ◌%◌, ◌<◌, Bool, true, false, List, [], ◌∷◌, Option, Some, refl, ap, sym, ◌∙◌, subst, arith}
use Rattle.version_core.specs.declared.state.Worker.{Worker}
use Rattle.shelf_steps.specs.declared.edition.Edition.{Edition}
use Rattle.shelf_steps.specs.declared.views.WorkerView.{WorkerView}
use Rattle.shelf_steps.specs.declared.views.View.{View}
use Rattle.shelf_steps.specs.Plays.{OfWorker, SeatAndSlots, looked_at, is_open, come_late, Looks, TakesFound, Takes, Leaves, ShowsLooked, ShowsLate}
use Rattle.shelf_steps.specs.Pinning.{TryIsLate, TryHolds, Pins, Moves, IsIdleAs, IsHoldingAs}

pub looked_here : (u : View) (c : List (ℕ × Option Edition)) (n : ℕ) (m' : SeatAndSlots) → Looks (u, c) n m' → ShowsLooked (n % 8) m'.0
looked_here (View.Working v) c n m' h = subst (λ (x : SeatAndSlots). ShowsLooked (n % 8) x.0) (sym h.1) (n / 8, refl)
looked_here _ c n m' h = absurd h

took : (a : WorkerView) (c : List (ℕ × Option Edition)) (n word : ℕ) (m1 m2 : SeatAndSlots) (b : Bool)
    → (look : Looks (View.Working a, c) n m1) → Takes m1 word m2 → is_open word (n / 8) ≡ b
    → TakesFound (looked_at a n look.0, c) (n / 8, n % 8) word b m2
took a c n word m1 m2 b look take is =
    let t : TakesFound (looked_at a n look.0, c) (n / 8, n % 8) word (is_open word (n / 8)) m2 =
    subst (λ (m : SeatAndSlots). Takes m word m2) look.1 take in
    subst (λ x. TakesFound (looked_at a n look.0, c) (n / 8, n % 8) word x m2) is t

pub well_so : (u : View) (c : List (ℕ × Option Edition)) (number n word : ℕ) (m1 m2 : SeatAndSlots)
    → OfWorker u (λ a. (a.now ≡ Worker.Idle) × (a.number ≡ number)) → c ≡ []
    → Looks (u, c) n m1 → Takes m1 word m2 → is_open word (n / 8) ≡ true
    → (e : Edition) × (m2.1 ≡ (16 * (n % 8) + number, Some e) ∷ []) × (e.version ≡ n / 8) × TryHolds u (n / 8) (n % 8) e m2.0
    × OfWorker m2.0 (λ b. (b.now ≡ Worker.Holding (n % 8) (n / 8)) × (b.number ≡ number) × (b.edition ≡ Some e))
well_so (View.Working a) c number n word m1 m2 idle empty look take stands =
    let t = took a c n word m1 m2 true look take stands in
    let e = t.0 in let same : Some e ≡ Some t.4.0 = t.4.1 in let is : e ≡ t.4.0 = cc in (
      e,
      ap (λ (m : SeatAndSlots). m.1) t.2 ∙ (λ i. (16 * (n % 8) + idle.1 i, Some e) ∷ empty i),
      ap (λ (x : Edition). x.version) is ∙ t.4.2,
      subst (λ (m : SeatAndSlots). TryHolds (View.Working a) (n / 8) (n % 8) e m.0) (sym t.2)
          record {
            looked = look.0;
            look = record { from = look.3; above = look.4; happened = look.2 };
            take = t.3;
            number = refl;
            now = refl;
            seen = refl;
            joined = refl;
            edition = refl;
            its = t.4;
            shows = t.5;
          },
      subst (λ (m : SeatAndSlots). OfWorker m.0 (λ b. (b.now ≡ Worker.Holding (n % 8) (n / 8)) × (b.number ≡ number)
          × (b.edition ≡ Some e))) (sym t.2) (refl, idle.1, refl),
    )
well_so _ c number n word m1 m2 idle empty look take stands = absurd idle

pub late_here : (u : View) (c : List (ℕ × Option Edition)) (number n word : ℕ) (m1 m2 : SeatAndSlots)
    → OfWorker u (λ a. (a.now ≡ Worker.Idle) × (a.number ≡ number))
    → Looks (u, c) n m1 → Takes m1 word m2 → is_open word (n / 8) ≡ false → ShowsLate (n % 8) m2.0
late_here (View.Working a) c number n word m1 m2 idle look take shut =
    let t = took a c n word m1 m2 false look take shut in subst (λ (m : SeatAndSlots). ShowsLate (n % 8) m.0) (sym t.1) refl
late_here _ c number n word m1 m2 idle look take shut = absurd idle

pub late_so : (u : View) (c : List (ℕ × Option Edition)) (number n word : ℕ) (m1 m2 m3 : SeatAndSlots)
    → OfWorker u (λ a. (a.now ≡ Worker.Idle) × (a.number ≡ number)) → c ≡ []
    → Looks (u, c) n m1 → Takes m1 word m2 → is_open word (n / 8) ≡ false → Leaves m2 m3 → TryIsLate u (n / 8) m3.0 × IsIdleAs number m3
late_so (View.Working a) c number n word m1 m2 m3 idle empty look take shut leave =
    let t = took a c n word m1 m2 false look take shut in
    let k : Leaves (View.Working (come_late (looked_at a n look.0) (n % 8) t.0), c) m3 = subst (λ (m : SeatAndSlots). Leaves m m3) t.1 leave in
    subst (λ (m : SeatAndSlots). TryIsLate (View.Working a) (n / 8) m.0 × IsIdleAs number m) (sym k.1) (
      record {
        shelf = n % 8;
        looked = look.0;
        taken = t.0;
        look = record { from = look.3; above = look.4; happened = look.2 };
        take = t.2;
        drop = k.2;
        number = refl;
        now = refl;
        seen = refl;
        last = (refl, refl);
        joined = refl;
        shows = k.3;
      },
      ((refl, idle.1), empty),
    )
late_so _ c number n word m1 m2 m3 idle empty look take shut leave = absurd idle

-- a look after a late take finds a greater version
pub late_late : (u v w : View) (m n : ℕ) → TryIsLate u m v → TryIsLate v n w → m < n
late_late (View.Working x) (View.Working y) (View.Working z) m n a b = let q = a.last in let p = b.look.above q.1 in let e = q.0 in omega arith
late_late (View.Working x) (View.Working y) _ m n a b = absurd b
late_late (View.Working x) _ w m n a b = absurd a
late_late _ v w m n a b = absurd a

pub late_well : (u v w : View) (m n shelf : ℕ) (e : Edition) → TryIsLate u m v → TryHolds v n shelf e w → m < n
late_well (View.Working x) (View.Working y) (View.Working z) m n shelf e a b = let q = a.last in let p = b.look.above q.1 in let i = q.0 in omega arith
late_well (View.Working x) (View.Working y) _ m n shelf e a b = absurd b
late_well (View.Working x) _ w m n shelf e a b = absurd a
late_well _ v w m n shelf e a b = absurd a

-- what the last try gives
abbrev pub Held : ℕ → View → ℕ × Edition → SeatAndSlots → Type 0
Held number u h w = (h.0 < 8) × TryHolds u h.1.version h.0 h.1 w.0 × IsHoldingAs number h.0 h.1 w

abbrev pub Pinned : ℕ → View → ℕ × Edition → SeatAndSlots → Type 0
Pinned number u h w = (h.0 < 8) × Pins u h.1.version h.0 h.1 w.0 × IsHoldingAs number h.0 h.1 w

pub pinned_second : (number : ℕ) (u v : View) (i : ℕ) (h : ℕ × Edition) (w : SeatAndSlots) → TryIsLate u i v → Held number v h w → Pinned number u h w
pinned_second number u v i h w a t = (t.0, (i ∷ [], omega arith, v, (v, a, refl), t.1, (late_well u v w.0 i h.1.version h.0 h.1 a t.1, tt)), t.2)

pub pinned_third : (number : ℕ) (u v x : View) (i j : ℕ) (h : ℕ × Edition) (w : SeatAndSlots) → TryIsLate u i v → TryIsLate v j x → Held number x h w
    → Pinned number u h w
pinned_third number u v x i j h w a b t = (
  t.0,
  (
    i ∷ j ∷ [],
    omega arith,
    x,
    (v, a, (x, b, refl)),
    t.1,
    (late_late u v x i j a b, (late_well v x w.0 j h.1.version h.0 h.1 b t.1, tt)),
  ),
  t.2,
)

pub pinned_fourth : (number : ℕ) (u v x y : View) (i j k : ℕ) (h : ℕ × Edition) (w : SeatAndSlots) → TryIsLate u i v → TryIsLate v j x
    → TryIsLate x k y → Held number y h w → Pinned number u h w
pinned_fourth number u v x y i j k h w a b d t = (
  t.0,
  (
    i ∷ j ∷ k ∷ [],
    omega arith,
    y,
    (v, a, (x, b, (y, d, refl))),
    t.1,
    (late_late u v x i j a b, (late_late v x y j k b d, (late_well x y w.0 k h.1.version h.0 h.1 d t.1, tt))),
  ),
  t.2,
)

pub moved : (u v x y z : View) (i j k n : ℕ) → TryIsLate u i v → TryIsLate v j x → TryIsLate x k y → TryIsLate y n z → Moves u n z
moved u v x y z i j k n a b d e = (i, j, k, (v, a, (x, b, (y, d, (z, e, refl)))), late_late u v x i j a b, late_late v x y j k b d, late_late x y z k n d e)
