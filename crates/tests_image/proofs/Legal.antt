-- What the tests write can be written.
use Rattle.std.proofs.Common.{◌≡◌, ℕ, zero, suc, ◌<◌, [], ◌∷◌, sym, subst, arith, refl, add-one, lit<}
use Rattle.std.proofs.lemmas.Option.{same_Some}
use Rattle.timetable.specs.declared.network.Footpath.{Footpath}
use Rattle.timetable.specs.TimetableValue.{TimetableValue}
use Rattle.timetable.specs.Legal.{At, HasFootpath, AreInOrder, IsLegal}

abbrev pub one_stop : TimetableValue
one_stop = record { stops = 1; trips = 0; connections = []; footpaths = record { from = 0; to = 0; secs = 60 } ∷ [] }

-- what holds of one holds at each index of its list
the_only : {X : Type 0} (P : X → Type 0) (x : X) → P x → (i : ℕ) (e : X) → At (x ∷ []) i e → P e
the_only P x px zero e at = subst P (same_Some x e at) px
the_only P x px (suc i) e at = absurd cc

one_in_order : AreInOrder one_stop.footpaths
one_in_order i d e at_d at_e =
    let next : At one_stop.footpaths (suc i) e = subst (λ (k : ℕ). At one_stop.footpaths k e) (add-one i) at_e in
    absurd cc

loops : (s : ℕ) → s < 1 → (secs : ℕ) × HasFootpath one_stop.footpaths s s secs
loops zero lt = (60, (0, refl))
loops (suc s) lt = absurd (omega (arith, lt))

is_loop : (a b secs : ℕ) → HasFootpath one_stop.footpaths a b secs → a ≡ b
is_loop a b secs (i, at) = the_only (λ (f : Footpath). f.from ≡ f.to) _ refl i (record { from = a; to = b; secs = secs }) at

pub one_stop_is_legal : IsLegal one_stop
one_stop_is_legal = record {
  stops_in_range = λ i c at. absurd cc;
  trips_in_range = λ i c at. absurd cc;
  ends_in_range = the_only (λ (f : Footpath). (f.from < 1) × (f.to < 1)) _ (lit< tt, lit< tt);
  takes_time = λ i c at. absurd cc;
  departures_never_fall = λ i c d at_c at_d. absurd cc;
  unbroken = λ i j c d just. (let at = just.first in absurd cc);
  in_order = one_in_order;
  loops = loops;
  closed = λ a b c d1 d2 first second. (d2, subst (λ (x : ℕ). HasFootpath one_stop.footpaths x c d2) (sym (is_loop a b d1 first)) second, omega arith);
}
