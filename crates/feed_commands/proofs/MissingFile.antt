-- The fault that a file is missing, by its parts.
use Rattle.std.proofs.Common.{◌≡◌, ◌∙◌, ℕ, ap}
use Rattle.gtfs_rows.specs.declared.fault.FaultKind.{FaultKind}
use Rattle.gtfs_rows.specs.declared.fault.Table.{Table}
use Rattle.gtfs_rows.specs.declared.fault.TableFault.{TableFault}

made : Table → ℕ → FaultKind → TableFault
made file row kind = record { file = file; row = row; kind = kind }

pub fault_of_parts : (fault : TableFault) (file : Table) (row : ℕ) (kind : FaultKind) → fault.file ≡ file → fault.row ≡ row → fault.kind ≡ kind
    → fault ≡ record { file = file; row = row; kind = kind }
unfolding made
fault_of_parts fault file row kind f r k =
    ap (λ (x : Table). made x fault.row fault.kind) f ∙ ap (λ (x : ℕ). made file x fault.kind) r ∙ ap (λ (x : FaultKind). made file row x) k
