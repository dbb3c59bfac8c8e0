-- The files of the tables that are left are asked for one after another.
use Rattle.std.proofs.Common.{◌≡◌, ◌≤◌, ◌-◌, ◌∷◌, [], List, length, refl, inl, inr, arith, slice_index_or, slice_range, take_all}
use Rattle.gtfs_rows.specs.declared.fault.Table.{Table}
use Rattle.feed_files.specs.Files.{FileWords}
use Rattle.feed_messages.specs.Asking.{AreAskedFor, IsAskedFor}

module _ {D : Type 0} (words : FileWords D) where
  -- no further file needs to be asked for
  pub none_asked : (ts : List Table) (now : D) → AreAskedFor words ts now now
  none_asked [] now = refl
  none_asked (t ∷ ts) now = inl refl

  -- the file of the first table was asked for, and then those of others
  pub first_asked : (ts : List Table) (d : Table) (old middle new : D) → 1 ≤ length ts → IsAskedFor words (slice_index_or ts 0 d) old middle
      → AreAskedFor words (slice_range ts 1 (length ts)) middle new → AreAskedFor words ts old new
  first_asked [] d old middle new some asked more = absurd (omega arith)
  first_asked (t ∷ ts) d old middle new some asked more =
      let rest : slice_range (t ∷ ts) 1 (length (t ∷ ts)) ≡ ts = take_all (length (t ∷ ts) - 1) ts (omega arith) in
      inr (middle, asked, rw rest at more)
