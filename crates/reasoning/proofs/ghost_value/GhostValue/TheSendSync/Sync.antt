-- A `GhostValue` owns nothing, so any thread may share it.
use denote.RattleType.{RattleType}
use denote.Param.Send.{IsSync, part_keyless}
use Rattle.reasoning.specs.contracts.ghost_value.GhostValue.{the_row}
use Rattle.reasoning.proofs.ghost_value.GhostValue.TheSendSync.Send.{send}

pub sync : (Y : RattleType) → IsSync (the_row Y)
sync Y = record { shared = λ d b o κ q. part_keyless (the_row Y) (send Y) q d b o }
