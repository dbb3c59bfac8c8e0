use Rattle.image_commands.proofs.upgrade.upgraded.Goals as goal

pub write-requires : goal.write-requires
write-requires c =
    let kept = c.in_ok-timetable.ensures.kept in
    record { legal = kept.legal; limits = kept.limits; stop_names = kept.names.stop_names; trip_names = kept.names.trip_names; bytes = kept.names.bytes }
