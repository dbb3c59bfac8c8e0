use Rattle.std.proofs.Common.{Some, length, refl, slice_get, sym, ap, ◌∙◌, arith}
use Rattle.std.proofs.lemmas.List.{length-map}
use Rattle.std.proofs.lemmas.Option.{slice_get_read}
use Rattle.scan_state.specs.FinalWalkEntries.{is_walk}
use Rattle.scan_state.specs.ScanState.{final_walk_in}
use Rattle.scan_state.proofs.FinalWalkLemmas.{not_noted}
use Rattle.scan_state.proofs.final_walk_table.FinalWalks.entry_of.Goals as goal

pub returns-then-not-index : goal.returns-then-not-index
returns-then-not-index c =
    let entries = c.args.self.now.entries.items in
    let ends = c.args.self.now.ends.items in
    let noted = c.args.self.now.noted in
    let within = c.requires in
    let long = ap length noted in
    let noted_long = length-map entries is_walk in
    let entries_long = length-map entries final_walk_in in
    let at =
    slice_get_read ends (length ends) c.args.stop c.index.result.now refl (omega (arith, within, long, noted_long, entries_long)) c.index.ensures in
    sym (not_noted entries c.args.stop (ap (λ bs. slice_get bs c.args.stop) (sym noted) ∙ at ∙ ap Some c.if-not-index.true))
