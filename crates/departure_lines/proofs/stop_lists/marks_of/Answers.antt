use Rattle.std.proofs.Common.{◌≡◌, ℕ, List, Contains, map, length, subst, sym, ap}
use Rattle.std.specs.Str.Lines.{lines}
use Rattle.departure_lines.specs.Sought.{AreFoundBelow, AreMarkedBelow, AreSought, IsFirstMissing}
use Rattle.departure_lines.specs.Naming.{AreMarked, IsUnknownLine}
use Rattle.departure_lines.specs.declared.stop_lists.ListFault.{ListFault}
use Rattle.departure_lines.specs.declared.stop_lists.ListFault.TheVariants.{UnknownStop, OutOfMemory}
use Rattle.departure_lines.proofs.Sought.{all_marked, unknown_name}
use Rattle.departure_lines.proofs.stop_lists.marks_of.Goals as goal

pub returns-in-Some-clause-unknown : goal.returns-in-Some-clause-unknown
returns-in-Some-clause-unknown c number is =
    let names = c.args.image.now.names in
    let listed = map (λ name. name.now) c.in_ok-listed.listed.items in
    let found = c.mark_stops.new.found in
    let sought : AreSought listed c.in_ok-found.found =
    subst (λ items. AreSought (map (λ name. name.now) items) c.in_ok-found.found) c.deref.ensures.value c.in_ok-found.ensures in
    let looked : AreFoundBelow names listed (length names.stops) found =
    subst (λ (n : ℕ). AreFoundBelow names listed n found) (sym c.stops.ensures.kept.names.stop_names) (c.in_ok-marks.ensures.found listed sought) in
    let missing : IsFirstMissing found listed c.in-Some.number =
    subst (λ items. IsFirstMissing found (map (λ name. name.now) items) c.in-Some.number) c.deref-2.ensures.value c.in-Some.ensures.missing in
    subst (IsUnknownLine names (lines c.args.list.now)) (number_of is)
    (subst (λ (ls : List (List ℕ)). IsUnknownLine names ls c.in-Some.number) c.in_ok-listed.ensures
    (unknown_name names listed found c.in-Some.number looked missing))
  where
    unknown : ListFault → ℕ
    unknown (UnknownStop n) = n
    unknown OutOfMemory = 0

    number_of : {a b : ℕ} → UnknownStop a ≡ UnknownStop b → a ≡ b
    number_of e = ap unknown e

pub returns-clause-marks : goal.returns-clause-marks
returns-clause-marks c =
    let names = c.args.image.now.names in
    let listed = map (λ name. name.now) c.in_ok-listed.listed.items in
    let found = c.mark_stops.new.found in
    let marks = c.in_ok-marks.marks.items in
    let sought : AreSought listed c.in_ok-found.found =
    subst (λ items. AreSought (map (λ name. name.now) items) c.in_ok-found.found) c.deref.ensures.value c.in_ok-found.ensures in
    let stops = sym c.stops.ensures.kept.names.stop_names in
    let looked : AreFoundBelow names listed (length names.stops) found =
    subst (λ (n : ℕ). AreFoundBelow names listed n found) stops (c.in_ok-marks.ensures.found listed sought) in
    let marked : AreMarkedBelow names listed (length names.stops) marks =
    subst (λ (n : ℕ). AreMarkedBelow names listed n marks) stops (c.in_ok-marks.ensures.marks listed sought) in
    subst (λ (ls : List (List ℕ)). AreMarked names ls marks) c.in_ok-listed.ensures
    (all_marked names listed found marks looked marked
    (λ name h. c.in-None.ensures.all name (subst (λ items. Contains (map (λ n. n.now) items) name) (sym c.deref-2.ensures.value) h)))
