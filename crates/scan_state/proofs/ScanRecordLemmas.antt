-- What records spell stays the same when more is written down.
use Rattle.std.proofs.Common.{◌≡◌, ℕ, zero, suc, ◌≤◌, List, [], ◌∷◌, ◌++◌, length, slice_get, Option, Some, None, refl, ◌∙◌, ap, arith}
use Rattle.std.proofs.lemmas.List.{length_push}
use Rattle.std.proofs.lemmas.Option.{slice_get_within}
use Rattle.reasoning.proofs.ListLemmas.{extends_none, extends_on, slice_get-middle}
use Rattle.timetable.specs.declared.network.Footpath.{Footpath}
use Rattle.timetable.specs.JourneyValue.{JourneyValue}
use Rattle.fronts.specs.declared.entry.Step.{Step}
use Rattle.fronts.specs.Front.{Extends}
use Rattle.fronts.proofs.Growth.{extends_long, same_at}
use Rattle.scan_state.specs.Continuations.{Onward, Aboard}
use Rattle.scan_state.specs.Matching.{Keeps, from_to}
use Rattle.scan_state.specs.Steps.{boarded}
use Rattle.scan_state.specs.ScanRecords.{changed_at, boarded_after, set_out_by}
use Rattle.scan_state.specs.ScanRecords.{ScanRecords, scan_records, Grows, exit_spells, boards_by}
use Rattle.scan_state.specs.ScanRecords.{step_spells, set_out_spells, label_spells, spelling_of, IsExit}
use Rattle.scan_state.specs.declared.scan_records.Exit.{Exit}
use Rattle.scan_state.specs.declared.scan_records.Exit.TheVariants.{Ends, Changes}
use Rattle.scan_state.specs.declared.scan_records.SetOut.{SetOut}

pub grows_none : (s : ScanRecords) → Grows s s
grows_none s = record { exits = extends_none s.exits; steps = extends_none s.steps; set_outs = extends_none s.set_outs }

pub grows_on : (a b c : ScanRecords) → Grows a b → Grows b c → Grows a c
grows_on a b c ab bc = record {
  exits = extends_on a.exits b.exits c.exits ab.exits bc.exits;
  steps = extends_on a.steps b.steps c.steps ab.steps bc.steps;
  set_outs = extends_on a.set_outs b.set_outs c.set_outs ab.set_outs bc.set_outs;
}

pub exits_grow : (old new : List Exit) (steps : List Step) (set_outs : List SetOut) → Extends old new
    → Grows (scan_records old steps set_outs) (scan_records new steps set_outs)
exits_grow old new steps set_outs ext = record { exits = ext; steps = extends_none steps; set_outs = extends_none set_outs }

pub steps_grow : (exits : List Exit) (old new : List Step) (set_outs : List SetOut) → Extends old new
    → Grows (scan_records exits old set_outs) (scan_records exits new set_outs)
steps_grow exits old new set_outs ext = record { exits = extends_none exits; steps = ext; set_outs = extends_none set_outs }

pub set_outs_grow : (exits : List Exit) (steps : List Step) (old new : List SetOut) → Extends old new
    → Grows (scan_records exits steps old) (scan_records exits steps new)
set_outs_grow exits steps old new ext = record { exits = extends_none exits; steps = extends_none steps; set_outs = ext }

pub stays : {X : Type 0} (old new : List X) → Extends old new → (k : ℕ) (x : X) → slice_get old k ≡ Some x → slice_get new k ≡ Some x
stays old new ext k x at = same_at old new ext k (slice_get_within old k x at) ∙ at

-- a function tells at least what another does
abbrev TellsMore : {X : Type 0} → (ℕ → Option X) → (ℕ → Option X) → Type 0
TellsMore {X} less more = (k : ℕ) (x : X) → less k ≡ Some x → more k ≡ Some x

changed_more : (last : ℕ) (o p : Option Onward) → ((y : Onward) → o ≡ Some y → p ≡ Some y) → (x : Aboard)
    → changed_at last o ≡ Some x → changed_at last p ≡ Some x
changed_more last None p more x e = absurd cc
changed_more last (Some y) p more x e = ap (changed_at last) (more y refl) ∙ e

boarded_more : (f : Footpath) (first : ℕ) (o p : Option Aboard) → ((y : Aboard) → o ≡ Some y → p ≡ Some y)
    → (x : Onward) → boarded_after f first o ≡ Some x → boarded_after f first p ≡ Some x
boarded_more f first None p more x e = absurd cc
boarded_more f first (Some y) p more x e = ap (boarded_after f first) (more y refl) ∙ e

boards_more : (first : ℕ) (o p : Option Aboard) (f : Option Footpath) → ((y : Aboard) → o ≡ Some y → p ≡ Some y)
    → (x : Onward) → boards_by first o f ≡ Some x → boards_by first p f ≡ Some x
boards_more first o p None more x e = absurd cc
boards_more first o p (Some f) more x e = boarded_more f first o p more x e

set_more : (s : SetOut) (o p : Option Aboard) → ((y : Aboard) → o ≡ Some y → p ≡ Some y) → (x : JourneyValue)
    → set_out_by s.start s.first o ≡ Some x → set_out_by s.start s.first p ≡ Some x
set_more s None p more x e = absurd cc
set_more s (Some y) p more x e = ap (set_out_by s.start s.first) (more y refl) ∙ e

exit_more : (less more : ℕ → Option Onward) → TellsMore less more → (e f : Option Exit)
    → ((z : Exit) → e ≡ Some z → f ≡ Some z) → (x : Aboard) → exit_spells less e ≡ Some x → exit_spells more f ≡ Some x
exit_more less more tells None f there x spelled_x = absurd cc
exit_more less more tells (Some (Ends last walk)) f there x spelled_x = ap (exit_spells more) (there (Ends last walk) refl) ∙ spelled_x
exit_more less more tells (Some (Changes last step)) f there x spelled_x =
    ap (exit_spells more) (there (Changes last step) refl)
    ∙ changed_more last (less step) (more step) (tells step) x spelled_x

pub step_more : (walks : List Footpath) (less more : ℕ → Option Aboard) → TellsMore less more → (s r : Option Step)
    → ((z : Step) → s ≡ Some z → r ≡ Some z) → (x : Onward) → step_spells walks less s ≡ Some x
    → step_spells walks more r ≡ Some x
step_more walks less more tells None r there x spelled_x = absurd cc
step_more walks less more tells (Some s) r there x spelled_x =
    ap (step_spells walks more) (there s refl)
    ∙ boards_more s.first (less s.label) (more s.label) (slice_get walks s.walk) (tells s.label) x spelled_x

set_out_more : (less more : ℕ → Option Aboard) → TellsMore less more → (s r : Option SetOut)
    → ((z : SetOut) → s ≡ Some z → r ≡ Some z) → (x : JourneyValue) → set_out_spells less s ≡ Some x
    → set_out_spells more r ≡ Some x
set_out_more less more tells None r there x spelled_x = absurd cc
set_out_more less more tells (Some s) r there x spelled_x =
    ap (set_out_spells more) (there s refl) ∙ set_more s (less s.label) (more s.label) (tells s.label) x spelled_x

-- of longer records, in more legs, a label spells the same
pub label_more : (walks : List Footpath) (a b : ScanRecords) → Grows a b → (n m : ℕ) → n ≤ m → TellsMore (label_spells walks a n) (label_spells walks b m)
unfolding label_spells
label_more walks a b grows zero m le label x e = absurd cc
label_more walks a b grows (suc n) zero le label x e = absurd (omega arith)
label_more walks a b grows (suc n) (suc m) le label x e =
    exit_more (λ tag. step_spells walks (label_spells walks a n) (slice_get a.steps tag))
    (λ tag. step_spells walks (label_spells walks b m) (slice_get b.steps tag))
    (λ tag y h. step_more walks (label_spells walks a n) (label_spells walks b m)
    (label_more walks a b grows n m (omega arith)) (slice_get a.steps tag) (slice_get b.steps tag)
    (stays a.steps b.steps grows.steps tag) y h)
    (slice_get a.exits label) (slice_get b.exits label) (stays a.exits b.exits grows.exits label) x e

-- so what was spelled stays so
pub grows_keeps : (walks : List Footpath) (a b : ScanRecords) → Grows a b → Keeps (spelling_of walks a) (spelling_of walks b)
grows_keeps walks a b grows =
    let more = label_more walks a b grows (length a.exits) (length b.exits) (extends_long a.exits b.exits grows.exits) in
    record {
      onward = λ tag x e. step_more walks (label_spells walks a (length a.exits)) (label_spells walks b (length b.exits))
          more (slice_get a.steps tag) (slice_get b.steps tag) (stays a.steps b.steps grows.steps tag) x e;
      aboard = more;
      journey = λ tag x e. set_out_more (label_spells walks a (length a.exits)) (label_spells walks b (length b.exits))
          more (slice_get a.set_outs tag) (slice_get b.set_outs tag) (stays a.set_outs b.set_outs grows.set_outs tag) x
          e;
    }

spells_next : (walks : List Footpath) (s : ScanRecords) (n label : ℕ) (exit : Exit) → slice_get s.exits label ≡ Some exit
    → label_spells walks s (suc n) label ≡ exit_spells
    (λ tag. step_spells walks (label_spells walks s n) (slice_get s.steps tag)) (Some exit)
unfolding label_spells
spells_next walks s n label exit at = ap (exit_spells (λ tag. step_spells walks (label_spells walks s n) (slice_get s.steps tag))) at

-- an exit that is written down next, by what was spelled before
pub exit_spelled : (walks : List Footpath) (before was now all : ScanRecords) (exit : Exit) → Grows before was → Grows was now
    → now.exits ≡ was.exits ++ exit ∷ [] → Grows now all
    → IsExit (from_to (spelling_of walks before) (spelling_of walks all)) exit (length was.exits)
exit_spelled walks before was now all (Ends last walk) ext_before ext pushed ext_all =
    let n = length was.exits in
    let long = ap length pushed ∙ length_push was.exits (Ends last walk) in
    let grows = extends_long now.exits all.exits ext_all.exits in
    let at = ap (λ (es : List Exit). slice_get es n) pushed ∙ slice_get-middle was.exits (Ends last walk) [] in
    label_more walks now all ext_all (suc n) (length all.exits) (omega arith) n _ (spells_next walks now n n (Ends last walk) at)
exit_spelled walks before was now all (Changes last step) ext_before ext pushed ext_all = λ x e.
    let n = length was.exits in
    let long = ap length pushed ∙ length_push was.exits (Changes last step) in
    let grows = extends_long now.exits all.exits ext_all.exits in
    let at = ap (λ (es : List Exit). slice_get es n) pushed ∙ slice_get-middle was.exits (Changes last step) [] in
    let on = grows_on before was now ext_before ext in
    let fewer = extends_long before.exits was.exits ext_before.exits in
    let here = step_more walks (label_spells walks before (length before.exits)) (label_spells walks now n)
    (label_more walks before now on (length before.exits) n fewer) (slice_get before.steps step)
    (slice_get now.steps step) (stays before.steps now.steps on.steps step) x e in
    label_more walks now all ext_all (suc n) (length all.exits) (omega arith) n _ (spells_next walks now n n (Changes last step) at ∙ ap (changed_at last) here)

-- a step that is written down, by what was spelled before
pub step_spelled : (walks : List Footpath) (before all : ScanRecords) (tag first label place : ℕ) (walk : Footpath)
    → Grows before all → slice_get all.steps tag ≡ Some (record { first = first; label = label; walk = place })
    → slice_get walks place ≡ Some walk
    → (x : Aboard) → (spelling_of walks before).aboard label ≡ Some x → (spelling_of walks all).onward tag ≡ Some
    (record { walk = walk ∷ []; rides = boarded first x })
step_spelled walks before all tag first label place walk ext at walk_at x e =
    let more = label_more walks before all ext (length before.exits) (length all.exits) (extends_long before.exits all.exits ext.exits) label x e in
    ap (step_spells walks (label_spells walks all (length all.exits))) at
    ∙ ap (boards_by first (label_spells walks all (length all.exits) label)) walk_at
    ∙ ap (boarded_after walk first) more

-- a way to set out that is written down, by what was spelled before
pub set_out_spelled : (walks : List Footpath) (before all : ScanRecords) (tag : ℕ) (s : SetOut) → Grows before all → slice_get all.set_outs tag ≡ Some s
    → (x : Aboard) → (spelling_of walks before).aboard s.label ≡ Some x → (spelling_of walks all).journey tag ≡ Some
    (record { start = s.start; rides = boarded s.first x })
set_out_spelled walks before all tag s ext at x e =
    let more = label_more walks before all ext (length before.exits) (length all.exits) (extends_long before.exits all.exits ext.exits) s.label x e in
    ap (set_out_spells (label_spells walks all (length all.exits))) at ∙ ap (set_out_by s.start s.first) more

-- the same, where it was written down last
pub set_out_next : (walks : List Footpath) (exits : List Exit) (steps : List Step) (old new : List SetOut)
    (before all : ScanRecords) (s : SetOut) → new ≡ old ++ s ∷ [] → Grows before (scan_records exits steps old)
    → Grows (scan_records exits steps new) all
    → (x : Aboard) → (spelling_of walks before).aboard s.label ≡ Some x
    → (spelling_of walks all).journey (length old) ≡ Some (record { start = s.start; rides = boarded s.first x })
set_out_next walks exits steps old new before all s pushed ext_before ext =
    let on = grows_on before (scan_records exits steps old) all ext_before
    (grows_on (scan_records exits steps old) (scan_records exits steps new) all (set_outs_grow exits steps old new (
      s ∷ [],
      pushed,
    )) ext) in
    set_out_spelled walks before all (length old) s on
    (stays new all.set_outs ext.set_outs (length old) s (ap (λ (ss : List SetOut). slice_get ss (length old)) pushed
    ∙ slice_get-middle old s []))

pub exit_next : (walks : List Footpath) (old new : List Exit) (steps : List Step) (set_outs : List SetOut)
    (before all : ScanRecords) (exit : Exit) → new ≡ old ++ exit ∷ [] → Grows before (scan_records old steps set_outs)
    → Grows (scan_records new steps set_outs) all
    → IsExit (from_to (spelling_of walks before) (spelling_of walks all)) exit (length old)
exit_next walks old new steps set_outs before all exit pushed ext_before ext =
    exit_spelled walks before (scan_records old steps set_outs) (scan_records new steps set_outs) all exit ext_before
    (exits_grow old new steps set_outs (exit ∷ [], pushed)) pushed ext
